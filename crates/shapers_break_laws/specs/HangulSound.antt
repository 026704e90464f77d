-- Where a Hangul text may be broken that was preprocessed with all flags of `Sound`.
use Rattle.std.specs.Prelude.{ℕ, ◌<◌, ◌≡◌, true, length}
use Rattle.shapers_base.specs.Font.{Font}
use Rattle.shapers_base.specs.declared.plan.breaks.BreakFlags.TheVariants.{Sound}
use Rattle.shapers_base.specs.declared.plan.hb_ot_shape_plan_t.{hb_ot_shape_plan_t}
use Rattle.shapers_buffer.specs.Buffer.{Buffer}
use Rattle.shapers_buffer.specs.Clusters.{merges}
use Rattle.shapers_buffer.specs.Glyph.{clusters}
use Rattle.shapers_clusters.specs.Breaks.{IsClear}
use Rattle.shapers_clusters.specs.Cuts.{IsMonotone}
use Rattle.rustybuzz_shapers.specs.Hooks.{Preprocessed}
use Rattle.rustybuzz_shapers.specs.declared.shaper.hb_ot_shaper_t.TheVariants.{Hangul}
use Rattle.shapers_break_laws.specs.TextBreaks.{JoinsOrder, TextBroken}

-- At every clear place, where clusters rise or fall, at both levels that merge, whatever cluster a
-- tone is in: each item is flagged whole, its tone with it, so a clear place is between two items.
abbrev pub HangulSoundBreaksLaw : Type 0
HangulSoundBreaksLaw = (plan : hb_ot_shape_plan_t) (font : Font) (old new : Buffer) →
    plan.break_flags ≡ Sound → merges old.level ≡ true → IsMonotone (clusters old.glyphs) →
    Preprocessed Hangul plan font old new →
    (p : ℕ) → 0 < p → p < length new.glyphs → IsClear new.glyphs p →
    TextBroken (Preprocessed Hangul plan font) JoinsOrder old new p
