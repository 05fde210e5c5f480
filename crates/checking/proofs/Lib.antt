-- Laws that the proofs share.
pub mod Spelling
pub mod Placed
pub mod StepParts
pub mod LineStarts
pub mod StepLines
pub mod Lent
pub mod Results
pub mod Lettering
pub mod Walking
pub mod Placing
pub mod Following
pub mod Leading
pub mod Judging
pub mod Answering
