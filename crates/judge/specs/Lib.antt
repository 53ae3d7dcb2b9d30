-- The verdict on a packet: the rules paper's section "Verdict numbers", and what it means.
pub mod Judge
pub mod Cases
pub mod Rfc
pub mod Stripped
