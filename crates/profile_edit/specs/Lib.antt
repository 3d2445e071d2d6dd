pub mod Parts
pub mod Upgrades
pub mod Edits
