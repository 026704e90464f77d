mod ConstantRows
pub mod KhmerAlone
pub mod KhmerByMovers
pub mod KhmerInPlace
pub mod KhmerMaskPlaces
pub mod KhmerMerged
pub mod KhmerMoverMasks
pub mod KhmerMoverMerges
pub mod KhmerMovers
mod KhmerMoversRows
pub mod KhmerPauseMovers
pub mod KhmerRing
mod KhmerRows
pub mod KhmerSerials
pub mod KhmerSteps
pub mod KhmerSyllable
mod KhmerWalked
mod PlanRows
mod RequestRows
