mod Bases
mod ConsonantWithSign
pub mod CycleMerges
pub mod CycleSteps
pub mod CycleWays
pub mod Cycles
mod FontCircles
pub mod FontPositions
mod InitialBaseRows
mod InitialClusterRows
mod InitialFontRows
mod InitialMaskRows
mod InitialOrderRows
mod InitialPauseRows
mod InitialPositionRows
pub mod InitialReads
mod InitialRows
pub mod InitialSerialsStay
mod InitialSyllable
mod InitialWords
pub mod InitialWrites
pub mod MaskViews
mod MaskWalks
mod MarksAttached
pub mod MovedLaws
mod MovedOrder
pub mod Moves
pub mod OneMoved
mod Prepared
mod PreparedMoves
pub mod OrderClusters
pub mod OrderListing
pub mod OrderShifted
mod OrderedBase
pub mod OrderedSyllable
pub mod PlaceSearch
mod PlainConsonant
mod Positions
pub mod StillOrder
pub mod TextClusters
pub mod SyllableInOrder
mod Walks
