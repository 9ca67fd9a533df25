pub mod Runs
pub mod Numbers
pub mod State
pub mod Start
pub mod Settle
pub mod Typed
pub mod Read
