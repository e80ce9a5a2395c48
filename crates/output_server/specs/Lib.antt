pub mod Views
pub mod Hearing
pub mod Steps
pub mod Renewing
