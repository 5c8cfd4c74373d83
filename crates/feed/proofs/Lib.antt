pub mod StepLaws
pub mod FedLaws
pub mod MirrorLaws
pub mod Parts
pub mod Rows
