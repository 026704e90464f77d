pub mod AddedBits
mod CaretRows
pub mod Carets
mod EditRows
pub mod EditedNormal
pub mod EditedSyllables
pub mod EditedTexts
pub mod MasksAgain
pub mod ShapedCarets
pub mod Shared
pub mod SpanEdits
pub mod StopRooms
pub mod Stops
pub mod PiecesAlike
pub mod PipelineBreaks
mod PipelineBreakRows
mod LigatureBreakRows
