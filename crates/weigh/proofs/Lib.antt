-- Laws that the proofs share.
pub mod Noting
pub mod Opening
pub mod Lines
pub mod Turns
pub mod Naming
pub mod Inserting
pub mod Gathering
pub mod Outcomes
pub mod Holding
pub mod Layering
pub mod Searching
pub mod Copying
pub mod Answering
pub mod Ending
pub mod Entries
-- reading
pub mod ReadWeights
pub mod ReadLines
pub mod Accepting
