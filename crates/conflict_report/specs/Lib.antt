pub mod Leading
pub mod Relations
pub mod Reports
pub mod Entries
pub mod Shares
