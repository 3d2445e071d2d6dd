pub mod Places
pub mod Origins
pub mod Asides
pub mod Refusals
