-- Where a text may be broken whose marks were stretched.
use Rattle.std.specs.Prelude.{ℕ, ◌<◌, ◌≡◌, ◌++◌, length}
use Rattle.shapers_base.specs.Font.{Font}
use Rattle.shapers_base.specs.declared.plan.hb_ot_shape_plan_t.{hb_ot_shape_plan_t}
use Rattle.shapers_buffer.specs.Buffer.{Buffer}
use Rattle.shapers_buffer.specs.Glyph.{clusters}
use Rattle.shapers_clusters.specs.Breaks.{IsClear}
use Rattle.shapers_clusters.specs.Cuts.{IsMonotone}
use Rattle.rustybuzz_shapers.specs.Hooks.{Postprocessed}
use Rattle.rustybuzz_shapers.specs.declared.shaper.hb_ot_shaper_t.{hb_ot_shaper_t}
use Rattle.shapers_break_laws.specs.TextBreaks.{JoinsGlyphs, TextBroken}

-- the text is two texts, one after the other, and so are its positions
abbrev pub JoinsPositions : Buffer → Buffer → Buffer → Type 0
JoinsPositions one two new =
    JoinsGlyphs one two new × (new.positions ≡ one.positions ++ two.positions)

-- At every clear place, where clusters rise or fall, whatever the level: a word with its sequence
-- is flagged, and no break elsewhere changes it.
abbrev pub StretchBreaksLaw : Type 0
StretchBreaksLaw = (shaper : hb_ot_shaper_t) (plan : hb_ot_shape_plan_t) (font : Font)
    (old new : Buffer) →
    length old.positions ≡ length old.glyphs → IsMonotone (clusters old.glyphs) →
    Postprocessed shaper plan font old new →
    (p : ℕ) → 0 < p → p < length new.glyphs → IsClear new.glyphs p →
    TextBroken (Postprocessed shaper plan font) JoinsPositions old new p
