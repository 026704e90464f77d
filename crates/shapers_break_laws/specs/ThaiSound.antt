-- Where a Thai or Lao text may be broken that was preprocessed with private use forms and the flags
-- that Sound adds.
use Rattle.std.specs.Prelude.{ℕ, ◌<◌, ◌≡◌, true, length}
use Rattle.shapers_base.specs.Font.{Font}
use Rattle.shapers_base.specs.declared.plan.breaks.BreakFlags.TheVariants.{Sound}
use Rattle.shapers_base.specs.declared.plan.hb_ot_shape_plan_t.{hb_ot_shape_plan_t}
use Rattle.shapers_buffer.specs.Buffer.{Buffer}
use Rattle.shapers_buffer.specs.Clusters.{merges}
use Rattle.shapers_buffer.specs.Glyph.{clusters}
use Rattle.shapers_clusters.specs.Breaks.{IsClear}
use Rattle.shapers_clusters.specs.Cuts.{IsMonotone}
use Rattle.shapers_text.specs.ThaiForms.{asks_for_forms}
use Rattle.rustybuzz_shapers.specs.Hooks.{Preprocessed}
use Rattle.rustybuzz_shapers.specs.declared.shaper.hb_ot_shaper_t.TheVariants.{Thai}
use Rattle.shapers_break_laws.specs.TextBreaks.{JoinsOrder, TextBroken}

-- With Sound, where clusters rise or fall, at the levels that merge, the text may be broken at each
-- clear place, whatever clusters its marks are in: Sound flags from each mark's base to behind the
-- mark, so no mark is directly behind a clear place.
abbrev pub ThaiSoundBreakLaw : Type 0
ThaiSoundBreakLaw = (plan : hb_ot_shape_plan_t) (font : Font) (old new : Buffer) →
    asks_for_forms plan ≡ true → plan.break_flags ≡ Sound →
    merges old.level ≡ true → IsMonotone (clusters old.glyphs) →
    Preprocessed Thai plan font old new →
    (p : ℕ) → 0 < p → p < length new.glyphs → IsClear new.glyphs p →
    TextBroken (Preprocessed Thai plan font) JoinsOrder old new p
