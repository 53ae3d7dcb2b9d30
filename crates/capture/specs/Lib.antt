-- The hut's capture: what its records are, and the verdicts on them.
pub mod Records
pub mod Judged
