mod DirectionRows
mod FirstCircleRows
pub mod GraphemeProofs
mod GraphemeRows
pub mod GraphemeSteps
pub mod JoinerFlagProofs
mod JoinerFlagRows
mod PartedRows
mod PropertyRows
pub mod PropertySteps
mod RotationRows
pub mod StoredKinds
pub mod TurningSteps
mod Untouched
pub mod VowelOpenings
pub mod VowelSteps
