-- Laws of captures: reading, the head, laying out, the passes over a capture, and when one is judged.
pub mod Reading
pub mod Heads
pub mod Laid
pub mod Places
pub mod Passes
pub mod Answers
pub mod Exact
