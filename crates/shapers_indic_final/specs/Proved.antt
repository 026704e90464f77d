-- What the laws of `Reorder` rest on: lemmas, and no definition that a contract cites.
pub mod FinalHidden
pub mod FinalLaws
pub mod FinalLawsAt
pub mod FinalMoves
pub mod FinalPlaces
pub mod FinalSteps
pub mod FinalStill
pub mod FinalTargets
pub mod LeftMatraMoves
