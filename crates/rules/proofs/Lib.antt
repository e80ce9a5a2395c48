pub mod Logging
pub mod Places
pub mod Reactions
pub mod Rising
pub mod Taken
