-- What the laws of `Reorder` rest on: lemmas, and no definition that a contract cites.
pub mod Pieces
pub mod Reordered
pub mod StepsAtOnce
pub mod UniversalFronts
pub mod UniversalLists
pub mod UniversalPlaces
pub mod UniversalSteps
pub mod UniversalView
pub mod UniversalWalks
