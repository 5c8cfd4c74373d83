pub mod RunLaws
pub mod PackingLaws
pub mod BodyLaws
pub mod PlanLaws
pub mod BuildLaws
pub mod SendLaws
