mod Again
mod AgainRows
mod Apart
mod Breaks
mod CheckedRows
mod Cuts
mod Edited
mod FoundRows
mod FoundSyllables
mod FlagLaws
pub mod HangulHalves
mod HangulItems
mod HangulLong
pub mod HangulMonotone
mod Headline
mod HookRows
mod IndicHalves
mod LengthRows
pub mod Lengths
mod LineAdvances
mod PauseLaws
mod PauseRows
mod PauseStays
mod RecordRows
mod StandingRows
pub mod StretchMonotone
mod Regrouped
mod Together
mod TogetherRows
mod TextCutRows
mod TextCuts
pub mod ThaiClusterHalves
pub mod ThaiHalves
pub mod ThaiMonotone
-- lemmas to cite, of the crates below, under their names
pub use Rattle.shapers_clusters.proofs as clusters
pub use Rattle.shapers_syllabic.proofs as syllabic
pub use Rattle.shapers_text.proofs as text
pub use Rattle.shapers_arabic.proofs as arabic
pub use Rattle.shapers_stretch.proofs as stretch
pub use Rattle.shapers_hangul.proofs as hangul
pub use Rattle.shapers_khmer.proofs as khmer
pub use Rattle.shapers_myanmar.proofs as myanmar
pub use Rattle.shapers_universal.proofs as universal
pub use Rattle.shapers_indic.proofs as indic
pub use Rattle.shapers_indic_initial.proofs as indic_initial
pub use Rattle.shapers_indic_final.proofs as indic_final
pub mod Monotone
