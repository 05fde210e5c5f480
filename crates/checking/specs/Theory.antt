-- What is proved of CHECK.
pub mod StepSplit
pub mod Read
pub mod Check
pub mod Lengths
pub mod Blocks
pub mod Entry
pub mod Former
