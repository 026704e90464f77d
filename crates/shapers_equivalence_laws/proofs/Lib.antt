pub mod Projections
pub mod Apart
pub mod Ordering
pub mod FirstRound
pub mod Insertion
pub mod SecondRound
pub mod ThirdRound
pub mod ShortRuns
pub mod Proved
pub mod ArabicOrder
pub mod HebrewOrder
pub mod StayingForms
pub mod UnicodePairs
pub mod HebrewForms
pub mod KhmerTexts
pub mod ShapersProved
pub mod Classless
pub mod PlainGlyphs
pub mod PlainRewriting
pub mod PlainHangul
pub mod PlainProved
pub mod UnturnedTexts
mod PlainRows
mod EquivalenceRows
