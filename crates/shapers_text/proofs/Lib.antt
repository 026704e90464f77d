pub mod HebrewLemmas
mod HebrewRows
mod SaraAmRows
pub mod ThaiClusters
pub mod ThaiFlags
pub mod ThaiFormLaws
mod ThaiFormRows
pub mod ThaiFormWalks
pub mod ThaiGuarded
pub mod ThaiInTwo
pub mod ThaiKept
pub mod ThaiOthers
pub mod ThaiRows
pub mod ThaiSaraAm
pub mod ThaiStretches
mod ThaiTypes
pub mod ThaiWholeMarks
