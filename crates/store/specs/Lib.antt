-- What the store promises, in 01's order: schedules, opening and running, trials, standings; 01's numbers for its answers; what one
-- entry does to one record; and laws for the layers above.
pub mod Schedules
pub mod Runs
pub mod Trials
pub mod Standings
pub mod Answers
pub mod Entries
pub mod Laws
