pub mod Rose
pub mod Causes
