pub mod ArabicAlone
mod ClustersKept
mod Directed
mod FractionRows
mod Growing
mod HookResults
pub mod HebrewAlone
mod LengthBounds
mod LengthRows
mod LookupRows
pub mod OrderLaws
pub mod OrderMonotone
mod MaskRows
pub mod Pausing
pub mod Placing
mod PlannedRows
mod PositionClusters
mod PositionedRows
mod PreparedClusters
mod PreparedRows
mod PutBack
mod RefusalRows
mod StageClusters
pub mod Substituting
pub mod StageLengths
mod TextLengths
mod TurnedGraphemes
mod Untouched
