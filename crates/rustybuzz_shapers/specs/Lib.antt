pub mod Again
pub mod Apart
pub mod Breaks
pub mod Checked
pub mod Cuts
pub mod Edited
pub mod FoundSyllables
pub mod Headline
pub mod Hooks
pub mod Lengths
pub mod Pauses
pub mod Records
pub mod Standing
pub mod Regrouped
pub mod Monotone
pub mod Stretched
pub mod TextCuts
pub mod Together
-- the words of each crate below, under its name
pub use Rattle.shapers_buffer.specs as buffer
pub use Rattle.shapers_clusters.specs as clusters
pub use Rattle.shapers_base.specs as base
pub use Rattle.shapers_syllabic.specs as syllabic
pub use Rattle.shapers_text.specs as text
pub use Rattle.shapers_arabic.specs as arabic
pub use Rattle.shapers_stretch.specs as stretch
pub use Rattle.shapers_hangul.specs as hangul
pub use Rattle.shapers_khmer.specs as khmer
pub use Rattle.shapers_myanmar.specs as myanmar
pub use Rattle.shapers_universal.specs as universal
pub use Rattle.shapers_indic.specs as indic
pub use Rattle.shapers_indic_initial.specs as indic_initial
pub use Rattle.shapers_indic_final.specs as indic_final
-- what the public clauses cite of the crates below
pub use Rattle.shapers_arabic.specs.JoinedText
pub use Rattle.shapers_arabic.specs.Marks
pub use Rattle.shapers_arabic.specs.PlanData
pub use Rattle.shapers_buffer.specs.Buffer
pub use Rattle.shapers_buffer.specs.Clusters
pub use Rattle.shapers_base.specs.Font
pub use Rattle.shapers_buffer.specs.Glyph
pub use Rattle.shapers_buffer.specs.GlyphFlags
pub use Rattle.shapers_base.specs.Map
pub use Rattle.shapers_base.specs.Planner
pub use Rattle.shapers_buffer.specs.Refusals
pub use Rattle.shapers_syllabic.specs.Syllabic
pub use Rattle.shapers_buffer.specs.Syllables
pub use Rattle.shapers_buffer.specs.declared.buffer.category.hb_unicode_general_category_t
pub use Rattle.shapers_base.specs.declared.font.GlyphId
pub use Rattle.shapers_base.specs.declared.plan.joining.hb_arabic_joining_type_t
pub use Rattle.shapers_hangul.specs.Hangul
pub use Rattle.shapers_hangul.specs.HangulLaws
pub use Rattle.shapers_hangul.specs.Masks
pub use Rattle.shapers_text.specs.Hebrew
pub use Rattle.shapers_text.specs.Thai
pub use Rattle.shapers_text.specs.ThaiForms
pub use Rattle.shapers_text.specs.ThaiLaws
