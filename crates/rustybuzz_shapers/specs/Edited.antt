-- Texts whose letters join, edited: any stretch of glyphs is replaced by any other, over the words
-- of the enum's own contracts.
use Rattle.std.specs.Prelude.{ℕ, ◌≤◌, length}
use Rattle.shapers_buffer.specs.Buffer.{Buffer}
use Rattle.shapers_buffer.specs.Glyphs.{Glyphs}
use Rattle.shapers_base.specs.Font.{CharacterTables}
use Rattle.shapers_base.specs.declared.plan.hb_ot_shape_plan_t.{hb_ot_shape_plan_t}
use Rattle.shapers_arabic.specs.Edited.{StayNear, edited}
use Rattle.rustybuzz_shapers.specs.Hooks.{MasksSet}
use Rattle.rustybuzz_shapers.specs.Together.{LettersJoin}
use Rattle.rustybuzz_shapers.specs.declared.shaper.hb_ot_shaper_t.{hb_ot_shaper_t}

-- masks are set in a buffer, and in the same with other glyphs in place of those from s to e
pub record SetEdited (shaper : hb_ot_shaper_t) (plan : hb_ot_shape_plan_t)
    (tables : CharacterTables) (s e : ℕ) (gs : Glyphs)
    (old new other : Buffer) : Type 0 where
  pub first : MasksSet shaper plan tables old new
  pub second : MasksSet shaper plan tables (edited s e gs old) other
  pub inside : (s ≤ e) × (e ≤ length old.glyphs)

-- edits stay near
abbrev pub TextsStayNear : Type 0
TextsStayNear = (shaper : hb_ot_shaper_t) (plan : hb_ot_shape_plan_t)
    (tables : CharacterTables) (s e : ℕ) (gs : Glyphs) (old new other : Buffer) →
    LettersJoin shaper plan.plan_data → SetEdited shaper plan tables s e gs old new other →
    StayNear plan.script tables.joining s e (length gs) old.glyphs new.glyphs other.glyphs
