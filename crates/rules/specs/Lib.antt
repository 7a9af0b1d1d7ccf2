pub mod Tests
pub mod Records
pub mod Places
pub mod Answers
pub mod Rules
pub mod Tables
pub mod Laws
