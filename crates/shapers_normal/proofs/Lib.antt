pub mod Apart
pub mod CharacterProperties
pub mod Clusters
pub mod DecompositionLaws
mod DecompositionRows
pub mod Folds
pub mod Gaps
pub mod Joiners
pub mod Joining
pub mod Ordering
mod PropertyRows
mod RecompositionRows
mod RowContext
pub mod Runs
mod SortingRows
pub mod Beside
pub mod SortingHalves
pub mod RecompositionHalves
pub mod Halves
pub mod FirstKept
pub mod DecompositionClusters
pub mod Viewed
pub mod VariantHalves
mod HalvesRows
pub mod OldClusters
pub mod WholeTexts
pub mod Monotone
pub mod Pairs
pub mod StayingTexts
pub mod OneWay
mod NumberedWordRows
pub mod NumberedWords
