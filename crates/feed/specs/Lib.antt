pub mod Feeding
pub mod Numbers
pub mod Step
pub mod Keeping
pub mod Parts
pub mod Rows
