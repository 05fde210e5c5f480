pub mod Records
pub mod Dirt
pub mod Calls
pub mod Tally
