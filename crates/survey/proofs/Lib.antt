mod FindMap
mod Full
mod Passing
