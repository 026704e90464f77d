pub mod AddsNone
pub mod FoundBorders
pub mod FoundIndic
pub mod FoundPauses
pub mod FoundSyllables
pub mod FoundUniversal
