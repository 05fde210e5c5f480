-- What is proved of the catalogue.
pub mod Kinds
pub mod Places
pub mod Kept
pub mod Held
pub mod Texts
pub mod Numbers
pub mod Stored
pub mod Lists
pub mod ByPlace
pub mod Rewritten
pub mod Played
pub mod Served
pub mod Steps
pub mod Written
pub mod Renamed
pub mod Shared
pub mod Former
