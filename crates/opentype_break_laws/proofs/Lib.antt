pub mod ByGlyph
pub mod LigatureFits
pub mod LigatureModel
pub mod LigatureSteps
pub mod LigatureViews
pub mod LigatureWalk
pub mod LigatureBorders
pub mod LigaturePieces
pub mod LigatureNumbers
pub mod SequenceViews
pub mod SequenceCuts
pub mod SequencePieces
pub mod ContextFits
pub mod ContextRules
pub mod ContextTurns
pub mod ContextSteps
pub mod ContextWalk
pub mod ContextParts
pub mod ContextPieces
pub mod FontPieces
pub mod ContextRuns
pub mod TwoSingles
pub mod NormalizedText
pub mod OneAsTwo
pub mod OneContext
pub mod PlacedPieces
pub mod SingleMoves
pub mod PairFinds
pub mod PairSteps
pub mod PairWalks
pub mod PairParts
pub mod PairPieces
pub mod FontPositions
pub mod PairTexts
pub mod MarkFinds
pub mod MarkPieces
pub mod MarkTexts
pub mod TextPositions
pub mod TwoAdjustments
pub mod TwoPairs
mod OneForOneRows
mod LigatureFontRows
mod SequenceRows
mod ContextRows
mod PositionRows
mod PairRows
mod MarkRows
mod UnflaggedRows
mod ContextTextRows
mod OneContextRows
mod NormalizedTextRows
