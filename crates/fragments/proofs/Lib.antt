-- Laws of fragments.
pub mod Headers
pub mod Packets
pub mod Moves
pub mod Tails
pub mod Gathering
pub mod Along
pub mod Messages
pub mod Filling
pub mod Sorting
pub mod Wholes
pub mod Reassembly
pub mod Exists
pub mod Examples
