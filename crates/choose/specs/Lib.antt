-- What the program's own types promise one another.
pub mod Line
