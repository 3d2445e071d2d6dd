pub mod Blocking
pub mod Told
pub mod Found
pub mod Ascending
