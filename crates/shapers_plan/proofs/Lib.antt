pub mod Ordering
pub mod Requesting
pub mod MaskLemmas
pub mod StageLemmas
pub mod PlanLemmas
mod RequestRows
mod MaskRows
mod StageRows
mod CollectingRows
mod GposRows
mod ChoiceRows
