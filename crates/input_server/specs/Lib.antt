pub mod Views
pub mod Epochs
pub mod Renewing
pub mod Steps
