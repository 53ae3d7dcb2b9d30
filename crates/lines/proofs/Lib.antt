-- Laws of the printed lines.
pub mod Texts
pub mod Runs
pub mod Outputs
