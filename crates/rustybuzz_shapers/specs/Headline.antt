-- The headline in one place, over the words of the enum's own contracts: who holds a contract of a
-- call holds the premise.
use Rattle.std.specs.Prelude.{ℕ, ◌≡◌, ◌≤◌, ◌++◌, Option, Some, drop, length, map, reverse, take}
use Rattle.shapers_buffer.specs.Buffer.{Buffer}
use Rattle.shapers_buffer.specs.declared.buffer.tag.Script.{Script}
use Rattle.shapers_base.specs.declared.plan.arabic.arabic_shape_plan_t.{arabic_shape_plan_t}
use Rattle.shapers_base.specs.declared.plan.hb_ot_shape_plan_t.{hb_ot_shape_plan_t}
use Rattle.shapers_base.specs.Font.{CharacterTables}
use Rattle.shapers_arabic.specs.JoinedText.{AgreesWithTable, CutsAsHalves, HalvesAgree, Shows, context_types, forms_of, stored_types, text_of}
use Rattle.shapers_universal.specs.PlanData.{arabic_of}
use Rattle.rustybuzz_shapers.specs.Hooks.{MasksSet}
use Rattle.rustybuzz_shapers.specs.declared.shaper.hb_ot_shaper_t.TheVariants.{Arabic, Universal}

-- The action of each glyph is the one that the joining rule and the selector rule give it in its
-- text. Cut anywhere, the halves act as the whole, if their inner contexts show the neighbours.
-- Contexts copied from the text do, if in each one of at most five characters isn't transparent, or
-- the text ends there. Only Mongolian selectors that begin the second half may differ.
pub record ActsByRule (script : Option Script) (tables : CharacterTables)
    (old new : Buffer) : Type 0 where
  pub rule : map (λ g. g.auxiliary) new.glyphs
      ≡ forms_of script (text_of tables.joining tables.general old)
  pub halves : CutsAsHalves script tables.joining tables.general old new
  pub copied : (n : ℕ) → n ≤ length old.glyphs →
      AgreesWithTable tables.general old.glyphs →
      Shows (stored_types tables.joining (drop n old.glyphs)
      ++ context_types tables.joining tables.general old.after) →
      Shows (reverse (stored_types tables.joining (take n old.glyphs))
      ++ context_types tables.joining tables.general old.before) →
      HalvesAgree script tables.joining tables.general n old

-- so for Arabic, and for the universal shaper where its plan has one of Arabic, since letters join
abbrev pub ActionsByRule : Type 0
ActionsByRule = (plan : hb_ot_shape_plan_t) (tables : CharacterTables) (old new : Buffer) →
    (MasksSet Arabic plan tables old new → ActsByRule plan.script tables old new)
    × ((joins : arabic_shape_plan_t) → arabic_of plan.plan_data ≡ Some joins →
    MasksSet Universal plan tables old new → ActsByRule plan.script tables old new)
