pub mod Borders
pub mod CarriedSyllables
pub mod CircleLaws
mod CircleRows
mod ConsonantRows
pub mod Found
pub mod HiddenCuts
mod LastBroken
pub mod MovedForward
mod OpenedCircles
pub mod LawsThen
pub mod LinkedSyllables
pub mod NonePass
pub mod PartAfter
pub mod PauseCuts
pub mod ReorderingCuts
pub mod ReorderingLaws
pub mod ReorderingLemmas
mod ReorderingRows
pub mod ReorderingWalk
pub mod Serials
pub mod SetupFlags
pub mod Skipping
pub mod SpanCuts
pub mod SyllabicLemmas
mod SyllabicRows
pub mod SyllableAlone
pub mod SyllableThen
pub mod SyllableWalks
pub mod Views
