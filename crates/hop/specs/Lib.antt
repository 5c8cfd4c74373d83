pub mod Sent
pub mod Planned
pub mod Built
