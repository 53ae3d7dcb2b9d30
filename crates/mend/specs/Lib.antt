-- Mending: the rules paper's section of that name.
pub mod Fresh
pub mod Mend
