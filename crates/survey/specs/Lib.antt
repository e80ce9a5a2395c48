pub mod Losses
pub mod Smallest
pub mod Words
pub mod PrimarySystemLemmas
