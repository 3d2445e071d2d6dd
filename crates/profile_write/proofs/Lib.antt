pub mod Amid
pub mod Left
pub mod Putting
