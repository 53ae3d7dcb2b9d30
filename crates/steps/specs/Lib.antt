-- What the steps of the edits answer and write.
pub mod Steps
pub mod Sides
