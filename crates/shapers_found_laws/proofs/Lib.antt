pub mod OnceInRules
pub mod OpensInRules
pub mod ZippedGlyphs
pub mod KeptCategories
pub mod FoundOpenings
pub mod FoundPauses
pub mod AddedNone
pub mod FoundIndic
pub mod RephasAlone
pub mod UniversalSetUp
pub mod FoundUniversal
pub mod FoundBorders
mod FoundBorderRows
mod FoundPauseRows
mod FoundRows
mod FoundUniversalRows
