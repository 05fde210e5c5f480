-- Laws that the proofs share.
pub mod Counting
pub mod Filling
pub mod Looking
pub mod Reading
