pub mod GivenLaws
pub mod PassLaws
pub mod ParentLaws
pub mod ReturnLaws
pub mod Demand3
pub mod Chain
pub mod DifferenceLaws
pub mod PreferenceLaws
