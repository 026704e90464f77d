-- Lemmas of the calls on real cases.
pub mod BorderedWords
pub mod BrokenWords
pub mod EditedKhmer
pub mod EditedWord
pub mod EquivalentWords
pub mod Filled
pub mod IndicWords
pub mod KeptBySingles
pub mod KhmerStages
pub mod Letters
pub mod NormalWords
pub mod PreparedWords
pub mod ShapedWords
pub mod UniversalWords
pub mod Unplaced
mod StageRows
mod WordRows
