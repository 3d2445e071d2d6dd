pub mod Emptied
