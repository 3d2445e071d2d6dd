pub mod Kept
pub mod Numbers
pub mod Numbered
pub mod Asided
