-- Lemmas on bytes written in place.
pub mod Over
