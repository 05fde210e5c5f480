-- Laws that the proofs share, and that the crates above cite.
pub mod Positions
pub mod Compared
pub mod Skipped
pub mod Held
pub mod Depths
pub mod Spelled
pub mod Inserted
pub mod Gathered
