-- Edits in place: the rules paper's section "Edits", and sequences of them.
pub mod Update
pub mod Edits
pub mod Prefix
pub mod Rfc
pub mod Runs
pub mod Fields
pub mod Cases
