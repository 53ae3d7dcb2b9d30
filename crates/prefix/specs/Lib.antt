-- Steps of the code of the prefix edit.
pub mod Rest
