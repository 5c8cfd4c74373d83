pub mod Listed
pub mod Line
pub mod Puts
