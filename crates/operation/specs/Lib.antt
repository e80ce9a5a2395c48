pub mod Alone
pub mod Gathered
pub mod Says
pub mod States
