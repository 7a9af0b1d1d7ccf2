pub mod Sequences
pub mod Refusals
pub mod Fairness
pub mod Runs
pub mod OneRegister
pub mod Waiting
pub mod Witnesses
pub mod Situations
