-- Laws of fresh fields; the theorems of mending, what no sum sees, and examples.
pub mod Numbers
pub mod Fresh
pub mod Without
pub mod Mended
pub mod Mending
pub mod Unread
pub mod Unseen
pub mod Examples
pub mod Outcomes
