-- The definitions of the crate, each file by itself, and in Theory what is proved of them.
pub mod Catalogue
pub mod Calls
pub mod Texts
pub mod Stored
pub mod Promises
pub mod Claims
pub mod Former
pub mod Cases
pub mod Theory
