pub mod Records
pub mod Waiting
