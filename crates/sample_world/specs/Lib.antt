pub mod Texts
pub mod Profiles
pub mod Files
pub mod Parts
pub mod Worlds
