pub mod Rows
pub mod Moves
pub mod Folders
pub mod Lists
pub mod Sound
pub mod Laws
