-- Texts whose letters join, put together where no flag forbids it, over the words of the enum's own
-- contracts.
use Rattle.std.specs.Prelude.{ℕ, ◌≡◌, ◌<◌, true, length, is_some}
use Rattle.shapers_buffer.specs.Buffer.{Buffer, flags_concat, has_flag}
use Rattle.shapers_base.specs.Font.{CharacterTables}
use Rattle.shapers_base.specs.declared.plan.PlanData.{PlanData}
use Rattle.shapers_base.specs.declared.plan.hb_ot_shape_plan_t.{hb_ot_shape_plan_t}
use Rattle.shapers_clusters.specs.Borders.{IsBare}
use Rattle.shapers_clusters.specs.Breaks.{IsClear}
use Rattle.shapers_arabic.specs.Together.{HasOwnLetter, KeepsParts, together_at}
use Rattle.shapers_universal.specs.PlanData.{arabic_of}
use Rattle.rustybuzz_shapers.specs.Hooks.{MasksSet}
use Rattle.rustybuzz_shapers.specs.declared.shaper.hb_ot_shaper_t.{hb_ot_shaper_t}
use Rattle.rustybuzz_shapers.specs.declared.shaper.hb_ot_shaper_t.TheVariants.{Arabic, Universal}

-- letters join: for Arabic, and for the universal shaper where its plan has one of Arabic
abbrev pub LettersJoin : hb_ot_shaper_t → PlanData → Type 0
LettersJoin Arabic kept = Unit {0}
LettersJoin Universal kept = is_some (arabic_of kept) ≡ true
LettersJoin shaper kept = ⊥

-- masks are set in two buffers, of which the second wants flags of concatenation, and in the one up
-- to place n put together with the other from place m on; this has a letter, or none follows it
pub record SetTogether (shaper : hb_ot_shaper_t) (plan : hb_ot_shape_plan_t)
    (tables : CharacterTables) (n m : ℕ) (one two one_new two_new new : Buffer) : Type 0 where
  pub first : MasksSet shaper plan tables one one_new
  pub second : MasksSet shaper plan tables two two_new
  pub whole : MasksSet shaper plan tables (together_at n m one two) new
  pub wants : has_flag flags_concat two.flags ≡ true
  pub inside : ((0 < n) × (n < length one.glyphs)) × ((0 < m) × (m < length two.glyphs))
  pub letter : HasOwnLetter tables.joining tables.general m two

-- both parts keep what they had, if place n of the one text is clear and border m of the other bare
abbrev pub TextsConcatenate : Type 0
TextsConcatenate = (shaper : hb_ot_shaper_t) (plan : hb_ot_shape_plan_t)
    (tables : CharacterTables) (n m : ℕ) (one two one_new two_new new : Buffer) →
    LettersJoin shaper plan.plan_data →
    SetTogether shaper plan tables n m one two one_new two_new new →
    IsClear one_new.glyphs n → IsBare two_new.glyphs m →
    KeepsParts plan.script n m one_new.glyphs two_new.glyphs new.glyphs
