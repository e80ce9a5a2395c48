pub mod Checked
pub mod Numbers
