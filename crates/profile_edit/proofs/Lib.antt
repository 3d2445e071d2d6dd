pub mod Values
pub mod Keyed
pub mod Applied
pub mod Fitting
pub mod Upgraded
