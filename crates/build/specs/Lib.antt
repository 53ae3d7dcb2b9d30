-- A packet that is built: its bytes, and when it is refused.
pub mod Layout
pub mod Build
pub mod Places
pub mod Reads
