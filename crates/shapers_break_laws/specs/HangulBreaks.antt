-- Where a Hangul text may be broken that was preprocessed.
use Rattle.std.specs.Prelude.{ℕ, ◌-◌, ◌<◌, ◌≡◌, true, length, slice_index}
use Rattle.shapers_base.specs.Font.{Font}
use Rattle.shapers_base.specs.declared.plan.hb_ot_shape_plan_t.{hb_ot_shape_plan_t}
use Rattle.shapers_buffer.specs.Glyphs.{Glyphs}
use Rattle.shapers_buffer.specs.declared.buffer.level.BufferClusterLevel.TheVariants.{MonotoneGraphemes}
use Rattle.shapers_buffer.specs.Buffer.{Buffer}
use Rattle.shapers_buffer.specs.Glyph.{characters, clusters}
use Rattle.shapers_clusters.specs.Cuts.{IsMonotone}
use Rattle.shapers_hangul.specs.Hangul.{is_narrow, is_tone}
use Rattle.rustybuzz_shapers.specs.Hooks.{Preprocessed}
use Rattle.rustybuzz_shapers.specs.declared.shaper.hb_ot_shaper_t.TheVariants.{Hangul}
use Rattle.shapers_break_laws.specs.TextBreaks.{IsClusterBorder, JoinsOrder, TextBroken}

-- each tone that has advance 0 in the font is in the cluster of the glyph before it
abbrev pub NarrowTonesJoin : Font → Glyphs → Type 0
NarrowTonesJoin font gs = (p : ℕ) → 0 < p → p < length gs →
    is_tone (slice_index (characters gs) p) ≡ true →
    is_narrow font (slice_index (characters gs) p) ≡ true →
    slice_index (clusters gs) (p - 1) ≡ slice_index (clusters gs) p

-- So the text may be broken wherever two clusters meet, flagged or not, where clusters rise or fall
-- and are whole graphemes: then all that an item takes shares one.
abbrev pub HangulBreaksLaw : Type 0
HangulBreaksLaw = (plan : hb_ot_shape_plan_t) (font : Font) (old new : Buffer) →
    old.level ≡ MonotoneGraphemes → IsMonotone (clusters old.glyphs) →
    NarrowTonesJoin font old.glyphs → Preprocessed Hangul plan font old new →
    (p : ℕ) → 0 < p → p < length new.glyphs → IsClusterBorder new.glyphs p →
    TextBroken (Preprocessed Hangul plan font) JoinsOrder old new p
