-- The definitions of the crate, each file by itself, and in Theory what is proved of them.
pub mod Layout
pub mod Check
pub mod Claims
pub mod Former
pub mod Cases
-- what the code's contracts speak of
pub mod LineRead
pub mod PlaceRead
pub mod LinesRead
pub mod Room
pub mod Judged
pub mod Theory
