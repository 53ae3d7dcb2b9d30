-- What the C surface answers.
pub mod Answers
