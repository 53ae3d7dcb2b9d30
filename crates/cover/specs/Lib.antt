-- The totals of what the two fields cover.
pub mod Sums
