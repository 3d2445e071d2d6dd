pub mod Causes
pub mod Counts
pub mod Frames
pub mod Steps
pub mod Making
pub mod TakingOff
pub mod Ending
pub mod Middle
