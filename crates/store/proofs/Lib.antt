-- The proofs of the store. First what says nothing of code, then that nothing else meets a contract; each function's own proof stands in its folder.
pub mod Numbers
pub mod Lowest
pub mod Records
pub mod Judging
pub mod Entering
pub mod Calling
pub mod Filling
pub mod Running
pub mod Trying
pub mod Laws
pub mod Only
