pub mod Ends
pub mod Growing
pub mod Walking
pub mod Reaching
pub mod Pairing
pub mod Reporting
pub mod Wins
