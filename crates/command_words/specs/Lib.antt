pub mod Words
pub mod Positionals
pub mod Options
pub mod Values
pub mod Settling
pub mod Form
pub mod Apps
pub mod Paths
