pub mod Places
pub mod Entries
pub mod Rules
pub mod Sound
pub mod Tests
pub mod Rising
pub mod Idle
pub mod Lines
