-- Laws that the proofs share.
pub mod Walking
pub mod Comparing
pub mod Reading
pub mod Counting
pub mod Making
pub mod Calling
