-- Laws of a packet that is laid out, and what is promised of one that is built.
pub mod Laid
pub mod Summed
pub mod Steps
pub mod Answers
pub mod Promised
pub mod Only
pub mod Examples
