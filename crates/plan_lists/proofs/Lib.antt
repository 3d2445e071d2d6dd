pub mod Gathered
pub mod Searched
pub mod Lies
pub mod Leaving
pub mod Parting
pub mod Ordered
pub mod Added
