pub mod FinalArranged
mod FinalBaseRows
mod FinalClusterRows
pub mod FinalClusters
pub mod FinalCuts
pub mod FinalFlagsOutside
pub mod FinalFlags
pub mod FinalKept
pub mod FinalLinks
mod FinalMatraRows
mod FinalNoMask
pub mod FinalWordStartCases
mod FinalWordStartRows
pub mod FinalWordStartViews
pub mod FinalWordStartWalk
pub mod FinalPlacing
pub mod FinalPlain
mod FinalPrefRows
pub mod FinalReads
mod FinalReorderingRows
mod FinalRephRows
pub mod FinalSerials
pub mod FinalSyllable
pub mod FinalText
pub mod FinalWords
pub mod LeftMatraFloods
pub mod LeftMatraListing
pub mod LeftMatrasAtOnce
pub mod LeftMatrasArranged
pub mod LeftMatrasListed
pub mod LeftMatraPlaces
pub mod LeftMatraSplit
pub mod LeftMatraSteps
pub mod LeftMatraWalks
