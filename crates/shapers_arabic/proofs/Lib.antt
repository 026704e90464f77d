pub mod BreakLists
mod BreakRows
pub mod BrokenGlyphs
pub mod Concatenation
mod ConstantRows
pub mod Edited
mod EditedRows
pub mod Edits
mod FirstPieceRows
pub mod FirstPieces
pub mod FlagLists
mod FlagRows
pub mod FlagWalk
pub mod FlaggedGlyphs
pub mod FlaggedPlaces
pub mod FreePlaces
pub mod FormedParts
pub mod JoinedFlags
pub mod JoinedGlyphs
pub mod JoiningLaws
pub mod JoiningLists
mod JoiningRows
pub mod JoiningTable
pub mod JoiningWalk
pub mod LostForms
pub mod MarkClasses
pub mod MarkLaws
pub mod MarkLists
pub mod MarkMoves
mod MarkRows
mod Neighbours
pub mod OwnForms
mod PlanRows
mod RequestRows
pub mod SelectedLists
pub mod Selectors
pub mod SoundOrder
pub mod SoundSteps
pub mod SoundWalk
pub mod Together
mod TogetherRows
