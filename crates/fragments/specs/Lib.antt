-- The fragments of one packet: the verdict on them, what is kept of a list, and what theorems speak of.
pub mod Fragments
pub mod Props
pub mod Gathered
pub mod State
pub mod Wholes
