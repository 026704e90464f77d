pub mod ClearSteps
pub mod Guarded
pub mod Setup
pub mod CircledBorders
pub mod PauseBreaks
pub mod UniversalSetup
pub mod ScriptBreaks
pub mod UniversalSound
mod BreakRows
pub mod MergedHalves
pub mod MarkBreaks
pub mod MeetingPlaces
pub mod SaraAmHalves
pub mod TextBreaks
pub mod ThaiBreaks
pub mod ThaiSound
pub mod HangulBreaks
pub mod HangulSound
pub mod StretchCuts
pub mod StretchBreaks
mod UniversalSoundRows
mod MarkBreakRows
mod TextBreakRows
pub mod KeptFlags
pub mod Keepers
pub mod KeptFlagsInside
pub mod ApartPieces
pub mod KeptBorders
pub mod KeptTextBreaks
pub mod IndicSteps
pub mod IndicBreaks
mod IndicBreakRows
pub mod ChainBreaks
mod ChainBreakRows
pub mod KeptInside
pub mod TwoClusters
pub mod FinalBreaks
pub mod MaskReads
pub mod BetweenPauses
pub mod ErasedCircles
pub mod UniversalChain
pub mod SideBySide
pub mod ReorderedApart
pub mod IndicChain
mod IndicChainRows
pub mod Pieces
pub mod HookPieces
pub mod SyllabicPieces
pub mod PausePieces
pub mod ShaperBreaks
mod PieceRows
pub mod NeedlessForms
mod UniversalChainRows
