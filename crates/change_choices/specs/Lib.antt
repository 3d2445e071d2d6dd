pub mod Allowed
pub mod Words
pub mod Choice
