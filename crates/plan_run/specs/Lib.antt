pub mod Errors
pub mod Quiet
pub mod Runs
pub mod Concerned
pub mod Laws
