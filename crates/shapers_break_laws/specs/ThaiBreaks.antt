-- Where a Thai or Lao text may be broken that was preprocessed.
use Rattle.std.specs.Prelude.{ℕ, ◌-◌, ◌<◌, ◌≡◌, true, false, length, slice_index}
use Rattle.shapers_base.specs.Font.{Font}
use Rattle.shapers_base.specs.declared.plan.hb_ot_shape_plan_t.{hb_ot_shape_plan_t}
use Rattle.shapers_buffer.specs.Glyphs.{Glyphs}
use Rattle.shapers_buffer.specs.declared.buffer.level.BufferClusterLevel.{BufferClusterLevel}
use Rattle.shapers_buffer.specs.Buffer.{Buffer}
use Rattle.shapers_buffer.specs.Clusters.{merge_all, merges}
use Rattle.shapers_buffer.specs.Glyph.{characters, clusters}
use Rattle.shapers_clusters.specs.Cuts.{IsMonotone}
use Rattle.shapers_text.specs.Thai.{glyphs_in_two, sara_am_stretches}
use Rattle.shapers_text.specs.ThaiForms.{asks_for_forms, is_thai_mark}
use Rattle.rustybuzz_shapers.specs.Hooks.{Preprocessed}
use Rattle.rustybuzz_shapers.specs.declared.shaper.hb_ot_shaper_t.TheVariants.{Thai}
use Rattle.shapers_break_laws.specs.TextBreaks.{IsClusterBorder, JoinsGlyphs, JoinsOrder, TextBroken}

-- SARA AMs taken in two, without private use forms: where clusters rise or fall, at the levels that
-- merge, the text may be broken wherever two clusters meet, flagged or not.
abbrev pub SaraAmsBreakLaw : Type 0
SaraAmsBreakLaw = (plan : hb_ot_shape_plan_t) (font : Font) (old new : Buffer) →
    asks_for_forms plan ≡ false → merges old.level ≡ true → IsMonotone (clusters old.glyphs) →
    Preprocessed Thai plan font old new →
    (p : ℕ) → 0 < p → p < length new.glyphs → IsClusterBorder new.glyphs p →
    TextBroken (Preprocessed Thai plan font) JoinsGlyphs old new p

-- the text with its SARA AMs in two, before any form
abbrev pub sara_ams_taken : BufferClusterLevel → Glyphs → Glyphs
sara_ams_taken level gs =
    glyphs_in_two (merge_all level (sara_am_stretches level (characters gs)) gs)

-- each mark is in the cluster of the glyph before it
abbrev pub ThaiMarksJoin : Glyphs → Type 0
ThaiMarksJoin gs = (p : ℕ) → 0 < p → p < length gs →
    is_thai_mark (slice_index (characters gs) p) ≡ true →
    slice_index (clusters gs) (p - 1) ≡ slice_index (clusters gs) p

-- so with private use forms, where each mark is in the cluster of the glyph before it once the SARA
-- AMs are in two
abbrev pub ThaiFormsBreakLaw : Type 0
ThaiFormsBreakLaw = (plan : hb_ot_shape_plan_t) (font : Font) (old new : Buffer) →
    asks_for_forms plan ≡ true → merges old.level ≡ true → IsMonotone (clusters old.glyphs) →
    ThaiMarksJoin (sara_ams_taken old.level old.glyphs) →
    Preprocessed Thai plan font old new →
    (p : ℕ) → 0 < p → p < length new.glyphs → IsClusterBorder new.glyphs p →
    TextBroken (Preprocessed Thai plan font) JoinsOrder old new p
