-- What the program that judges a capture prints: its lines, what decides them, and a whole run.
pub mod Text
pub mod Lines
pub mod Feed
pub mod Run
