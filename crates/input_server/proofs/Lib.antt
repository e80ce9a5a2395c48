pub mod Waits
pub mod StepsTaken
