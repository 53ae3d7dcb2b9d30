-- What the private functions of the edits answer, in terms of the edits.
pub mod Rest
