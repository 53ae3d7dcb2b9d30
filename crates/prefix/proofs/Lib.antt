-- What the code answers and writes is what the exchange is.
pub mod Numbers
pub mod Answers
