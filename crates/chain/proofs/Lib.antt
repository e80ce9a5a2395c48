pub mod Lines
pub mod Links
pub mod Meanings
pub mod Fresh
