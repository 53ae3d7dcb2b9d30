-- Laws of the totals: what stands before a message, parts of a packet, and what writing bytes does.
pub mod Before
pub mod Around
pub mod Totals
pub mod Blocks
pub mod Lengths
