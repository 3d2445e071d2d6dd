pub mod PlaceReads
pub mod Plain
pub mod Compact
pub mod Chains
pub mod Intents
pub mod Bare
pub mod Accepts
pub mod Lists
