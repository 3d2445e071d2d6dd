pub mod Search
pub mod Order
pub mod Off
pub mod Above
