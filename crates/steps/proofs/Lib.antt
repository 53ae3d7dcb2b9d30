-- The common order of the edits, changes of totals and fields, and which messages are blank.
pub mod Common
pub mod Changes
pub mod AllZero
pub mod Sides
