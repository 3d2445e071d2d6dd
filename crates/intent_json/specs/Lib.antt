pub mod Places
pub mod Held
pub mod Forms
pub mod Texts
pub mod Accepted
pub mod Reads
