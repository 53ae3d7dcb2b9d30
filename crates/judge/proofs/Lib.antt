-- Laws of the judge: each answer from its facts, the cases of each verdict, what keeps an answer, the RFCs' words, the tail.
pub mod Answers
pub mod Protocols
pub mod Exactly
pub mod Ones
pub mod Accepts
pub mod Kept
pub mod Covered
pub mod Leads
pub mod Rfc
pub mod Fields
pub mod Tail
pub mod Transparent
