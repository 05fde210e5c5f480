-- The definitions of the crate, each file by itself, and in Theory what is proved of them.
pub mod Weigh
pub mod Outcome
pub mod Claims
pub mod Hand
pub mod Layout
pub mod Job
pub mod Text
pub mod Answered
pub mod Cases
-- what the code's contracts speak of
pub mod Slots
pub mod Opened
pub mod Layer
pub mod Gathered
pub mod Searched
pub mod Layered
pub mod Read
pub mod Copied
pub mod Answering
pub mod Theory
