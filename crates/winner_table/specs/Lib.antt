pub mod Merged
pub mod Steps
pub mod Winners
pub mod Offers
pub mod Providers
pub mod Overrides
pub mod Folders
pub mod Rows
