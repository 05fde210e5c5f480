-- Laws that the proofs share.
-- reading
pub mod Marking
pub mod Numbers
pub mod Lines
pub mod Reading
pub mod Refusing
pub mod Sides
pub mod RightLines
pub mod Layouts
pub mod Rights
pub mod Accepts
pub mod Jobs
pub mod Refused
-- writing
pub mod Overlay
pub mod Writing
pub mod Decimal
pub mod Items
pub mod WordTexts
pub mod Rendered
pub mod Applied
pub mod StepTexts
pub mod Framing
pub mod Joining
pub mod Measured
pub mod WordLines
pub mod Renaming
pub mod Entries
pub mod Outcomes
pub mod Answering
pub mod Starting
pub mod Blocks
pub mod Finding
pub mod Walks
-- what a program prints
pub mod Programs
