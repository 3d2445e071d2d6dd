pub mod Ascending
pub mod Steps
pub mod Counts
pub mod Found
