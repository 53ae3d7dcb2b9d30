-- What an edit keeps, the theorems on one edit and on any sequence of them, and examples.
pub mod Sides
pub mod Done
pub mod Steps
pub mod Changes
pub mod Prefix
pub mod Rfc
pub mod Single
pub mod Exchange
pub mod Exactly
pub mod Sequences
pub mod Unread
pub mod Edited
pub mod Lifetime
pub mod Examples
