mod ConstantRows
pub mod MaskLemmas
mod NoMask
pub mod NothingRecorded
mod OneFront
mod RequestRows
mod SyllableRows
mod SyllableWalks
pub mod TornPairs
pub mod UniversalCuts
pub mod UniversalFlags
mod UniversalListing
mod UniversalRows
pub mod UniversalSerials
