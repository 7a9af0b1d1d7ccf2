pub mod Filling
pub mod Reports
