pub mod Refusal
pub mod Given
pub mod Answered
pub mod Demand3
pub mod Chain
pub mod Difference
