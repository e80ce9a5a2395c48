pub mod Words
pub mod Sentences
pub mod Ends
