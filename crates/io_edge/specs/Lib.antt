pub mod Appends
pub mod Mem
pub mod Lines
pub mod Pulls
pub mod Reader
pub mod Gathered
