-- How far the code has come in its walks over a Thai text: the forms from the start on, the
-- rewriting from the end back.
use Rattle.std.specs.Prelude.{ℕ, ◌+◌, ◌-◌, if◌then◌else◌, Bool, List, ◌∷◌, ◌++◌, length, slice_index_or, slice_set, Option, None, Some}
use Rattle.std.specs.List.{suffix_len}
use Rattle.shapers_buffer.specs.Glyphs.{Glyph, Glyphs}
use Rattle.shapers_buffer.specs.Glyph.{default_glyph, characters}
use Rattle.shapers_buffer.specs.Lists.{last_stretch, before_last_stretch}
use Rattle.shapers_text.specs.declared.ot_shaper_thai.forms.Mark.{Mark}
use Rattle.shapers_text.specs.declared.ot_shaper_thai.forms.Mark.TheVariants.{AV, BV, T, NotMark}
use Rattle.shapers_text.specs.declared.ot_shaper_thai.forms.Action.{Action}
use Rattle.shapers_text.specs.declared.ot_shaper_thai.forms.Base.{Base}
use Rattle.shapers_text.specs.declared.ot_shaper_thai.forms.Types.{Types}
use Rattle.shapers_buffer.specs.GlyphFlags.{unsafe_inside}
use Rattle.shapers_text.specs.declared.ot_shaper_thai.forms.Action.TheVariants.{NOP, SD, SL, SDL, RD}
use Rattle.shapers_text.specs.ThaiForms.{consonant_type, mark_type, is_thai_mark, action_of, shaped_by, with_character}
use Rattle.std.proofs.Common.{◌≡◌, ◌≤◌, take, drop}
use Rattle.shapers_text.specs.Thai.{is_above, glyph_rule, SaraAmRule, in_two, glyphs_in_two, sara_am_stretches}
use Rattle.shapers_buffer.specs.declared.buffer.level.BufferClusterLevel.{BufferClusterLevel}
use Rattle.shapers_buffer.specs.Clusters.{merge_all}

-- where an action acts: on the base or on the mark itself
abbrev pub target : Action → ℕ → ℕ → ℕ
target RD base mark = base
target SD base mark = mark
target SL base mark = mark
target SDL base mark = mark
target NOP base mark = mark

-- the glyphs with the glyph at this place shaped by an action
abbrev pub form_set : (ℕ → Bool) → ℕ → Action → Glyphs → Glyphs
form_set has place action gs =
    let g = slice_index_or gs place default_glyph in
    slice_set gs place (with_character g (shaped_by has g.glyph_id action))

-- what the mark at place i does to the glyphs
abbrev pub after_action : (ℕ → Bool) → Base → ℕ → Mark → Glyphs → Glyphs
after_action has base i mark gs =
    let action = action_of base.consonant mark base.above base.below in
    form_set has (target action base.place i) action gs

-- what the character u at place i does to the glyphs: another than a mark flags the marks before it
abbrev pub after_character : (ℕ → Bool) → Base → ℕ → ℕ → Glyphs → Glyphs
after_character has base i u gs =
    if is_thai_mark u then after_action has base i (mark_type u) gs
    else unsafe_inside base.place (i - 1) gs

-- the types of a character, as the table has them
abbrev pub types_of : ℕ → Types
types_of u = record { 0 = consonant_type u; 1 = mark_type u }

-- the base and the counts after one more character, at place i
abbrev pub counted_base : Mark → Base → ℕ → ℕ → Base
counted_base NotMark base i u =
    record { place = i; consonant = consonant_type u; above = 0; below = 0 }
counted_base AV base i u = record base { above = base.above + 1 }
counted_base T base i u = record base { above = base.above + 1 }
counted_base BV base i u = record base { below = base.below + 1 }

abbrev pub base_after : Base → ℕ → ℕ → Base
base_after base i u = counted_base (mark_type u) base i u

-- how many above-base marks stand right before place i, counted on glyphs
abbrev pub above_marks_before : Glyphs → ℕ → ℕ
above_marks_before gs i = suffix_len (is_above glyph_rule) (take i gs)

-- the glyphs with the stretches of the first len merged
abbrev pub merged_front : BufferClusterLevel → ℕ → Glyphs → Glyphs
merged_front level len gs = merge_all level (sara_am_stretches level (take len (characters gs))) gs

-- the first len glyphs with each SARA AM in two take just the room that there is
abbrev pub HasRoomForSaraAms : ℕ → Glyphs → Type 0
HasRoomForSaraAms len gs = (len ≤ length gs) × (length gs ≡ length (glyphs_in_two (take len gs)))

-- what the text so far becomes: with a NIKHAHIT pending, that stands before its last above-base
-- marks
abbrev pub text_with_pending : {X : Type 0} → SaraAmRule X → List X → X → List X
text_with_pending rule text nikhahit =
    in_two rule (before_last_stretch (is_above rule) text)
    ++ nikhahit ∷ last_stretch (is_above rule) text

-- what the text becomes on glyphs, with a NIKHAHIT pending or none
abbrev pub text_to_write : Glyphs → Option Glyph → Glyphs
text_to_write text None = in_two glyph_rule text
text_to_write text (Some nikhahit) = text_with_pending glyph_rule text nikhahit

-- The text before `end`, and a NIKHAHIT that may be pending, is still to be written: just so many
-- places are left, and reading is ahead.
pub record IsUnwritten (glyphs : Glyphs) (end : ℕ) (pending : Option
    Glyph) (place : ℕ) : Type 0 where
  pub room : length (text_to_write (take end glyphs) pending) ≡ place
  pub ahead : end ≤ place
  pub within : place ≤ length glyphs

-- what it becomes, and what stands behind it
abbrev pub rewritten_whole : Glyphs → ℕ → Option Glyph → ℕ →
    Glyphs
rewritten_whole glyphs end pending place =
    text_to_write (take end glyphs) pending ++ drop place glyphs

-- in the middle of writing the whole
pub record Written (whole glyphs : Glyphs) (end : ℕ) (pending : Option
    Glyph) (place : ℕ) : Type 0 where
  pub left : IsUnwritten glyphs end pending place
  pub joined : rewritten_whole glyphs end pending place ≡ whole
