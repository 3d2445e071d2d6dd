pub mod Nodes
pub mod Edges
pub mod Checks
pub mod Pairs
