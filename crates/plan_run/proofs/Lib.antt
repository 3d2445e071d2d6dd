pub mod Quieted
pub mod Swept
pub mod Idle
pub mod Plains
pub mod Ended
pub mod Running
pub mod Syncs
