pub mod Swept
pub mod Found
pub mod Adopted
pub mod Behind
