-- What the laws of `Reorder` rest on: lemmas, and no definition that a contract cites.
pub mod Groups
pub mod InitialLaws
pub mod InitialSteps
pub mod InitialViews
pub mod OrderedPlaces
