-- What the code answers and writes is what the edits are.
pub mod Made
pub mod Sides
pub mod Stretches
