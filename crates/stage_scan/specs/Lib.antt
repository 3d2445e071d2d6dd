pub mod Causes
pub mod Files
pub mod Walks
pub mod Placed
pub mod Stack
