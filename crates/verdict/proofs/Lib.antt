pub mod HoldLaws
pub mod FiniteLaws
pub mod PassLaws
pub mod JudgeLaws
pub mod StartLaws
