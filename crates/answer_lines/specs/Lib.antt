pub mod Lines
pub mod Refusals
pub mod Shown
pub mod Words
pub mod Lists
pub mod Told
