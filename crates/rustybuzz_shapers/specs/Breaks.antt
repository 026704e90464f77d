-- Where a text whose letters join may be broken, over the words of the enum's own contracts: the
-- hook over the whole, and over its halves by themselves.
use Rattle.std.specs.Prelude.{ℕ, ◌≡◌, ◌<◌, ◌++◌, List, Option, Some, length, take}
use Rattle.shapers_buffer.specs.Buffer.{Buffer}
use Rattle.shapers_buffer.specs.Glyph.{order_view}
use Rattle.shapers_buffer.specs.declared.buffer.tag.Script.{Script}
use Rattle.shapers_base.specs.Font.{CharacterTables}
use Rattle.shapers_base.specs.declared.plan.arabic.arabic_shape_plan_t.{arabic_shape_plan_t}
use Rattle.shapers_base.specs.declared.plan.breaks.BreakFlags.{BreakFlags}
use Rattle.shapers_base.specs.declared.plan.breaks.BreakFlags.TheVariants.{AsCode, Sound}
use Rattle.shapers_base.specs.declared.plan.hb_ot_shape_plan_t.{hb_ot_shape_plan_t}
use Rattle.shapers_clusters.specs.Breaks.{IsClear}
use Rattle.shapers_arabic.specs.Breaks.{IsSpared, back_at, front_at}
use Rattle.shapers_arabic.specs.Fresh.{IsFresh, SelectorsAreTransparent}
use Rattle.shapers_arabic.specs.JoinedText.{text_of}
use Rattle.shapers_arabic.specs.PlanData.{breaks_of, masks_of}
use Rattle.shapers_universal.specs.PlanData.{arabic_of}
use Rattle.rustybuzz_shapers.specs.Hooks.{MasksSet}
use Rattle.rustybuzz_shapers.specs.declared.shaper.hb_ot_shaper_t.{hb_ot_shaper_t}
use Rattle.rustybuzz_shapers.specs.declared.shaper.hb_ot_shaper_t.TheVariants.{Arabic, Universal}

-- the whole buffer, all but clusters and glyph flags, is that of its halves, one after the other
abbrev pub AreHalves : Buffer → Buffer → Buffer → Type 0
AreHalves new one two =
    order_view new.glyphs ≡ order_view one.glyphs ++ order_view two.glyphs

-- the first n glyphs of the whole, all but clusters and glyph flags, are those of its first half
abbrev pub IsFirstHalf : ℕ → Buffer → Buffer → Type 0
IsFirstHalf n new one = order_view (take n new.glyphs) ≡ order_view one.glyphs

-- The halves at place n, each with its masks set by itself, are the whole if the place is clear:
-- with Sound always, else if what Sound adds doesn't reach over it; the first half keeps what it
-- has. In a fresh text whose selectors, if Mongolian, are transparent, it is clear: with Sound if
-- the halves are the whole, with AsCode if the first half keeps what it has.
pub record BreaksAsFlagged (breaks : BreakFlags) (masks : List ℕ) (script : Option Script)
    (tables : CharacterTables) (n : ℕ) (old new one two : Buffer) : Type 0 where
  pub clear : IsClear new.glyphs n →
      IsSpared breaks script (text_of tables.joining tables.general old) n → AreHalves new one two
  pub needless : breaks ≡ Sound → IsFresh masks old.glyphs →
      SelectorsAreTransparent script (text_of tables.joining tables.general old) →
      AreHalves new one two → IsClear new.glyphs n
  pub first : IsClear new.glyphs n → IsFirstHalf n new one
  pub first_needless : breaks ≡ AsCode → IsFresh masks old.glyphs →
      SelectorsAreTransparent script (text_of tables.joining tables.general old) →
      IsFirstHalf n new one → IsClear new.glyphs n

-- masks are set in the whole buffer, and in its halves at place n by themselves
pub record SetInHalves (shaper : hb_ot_shaper_t) (plan : hb_ot_shape_plan_t)
    (tables : CharacterTables) (n : ℕ) (old new one two : Buffer) : Type 0 where
  pub whole : MasksSet shaper plan tables old new
  pub first : MasksSet shaper plan tables (front_at n old) one
  pub second : MasksSet shaper plan tables (back_at n old) two
  pub inside : (0 < n) × (n < length old.glyphs)

-- so for Arabic, and for the universal shaper where its plan has one of Arabic
abbrev pub TextsBreakAsFlagged : Type 0
TextsBreakAsFlagged = (plan : hb_ot_shape_plan_t) (tables : CharacterTables) (n : ℕ)
    (old new one two : Buffer) →
    (SetInHalves Arabic plan tables n old new one two →
    BreaksAsFlagged (breaks_of plan.plan_data) (masks_of plan.plan_data) plan.script tables n
    old new one two)
    × ((joins : arabic_shape_plan_t) → arabic_of plan.plan_data ≡ Some joins →
    SetInHalves Universal plan tables n old new one two →
    BreaksAsFlagged joins.break_flags joins.mask_array plan.script tables n old new one two)
