-- Where a text may be broken whose marks were reordered: Arabic and Hebrew.
use Rattle.std.specs.Prelude.{ℕ, ◌-◌, ◌<◌, ◌≤◌, ◌≡◌, ◌⊎◌, min, true, ◌++◌, drop, length, take}
use Rattle.shapers_arabic.specs.Marks.{marks_merged, marks_reordered}
use Rattle.shapers_buffer.specs.Glyphs.{Glyphs}
use Rattle.shapers_buffer.specs.declared.buffer.level.BufferClusterLevel.{BufferClusterLevel}
use Rattle.shapers_buffer.specs.Buffer.{Buffer}
use Rattle.shapers_buffer.specs.Clusters.{merges}
use Rattle.shapers_buffer.specs.Glyph.{clusters}
use Rattle.shapers_clusters.specs.Breaks.{IsClear}
use Rattle.shapers_clusters.specs.Cuts.{IsMonotone}
use Rattle.shapers_clusters.specs.Steps.{after_step}
use Rattle.shapers_text.specs.Hebrew.{hebrew_mark_step}
use Rattle.rustybuzz_shapers.specs.Hooks.{MarksReordered}
use Rattle.rustybuzz_shapers.specs.declared.shaper.hb_ot_shaper_t.{hb_ot_shaper_t}
use Rattle.rustybuzz_shapers.specs.declared.shaper.hb_ot_shaper_t.TheVariants.{Arabic, Hebrew}

-- what a shaper makes of a text whose marks stand from start to end
abbrev pub marks_after : hb_ot_shaper_t → BufferClusterLevel → ℕ → ℕ → Glyphs →
    Glyphs
marks_after Arabic level start end gs = marks_reordered start end (marks_merged level start end gs)
marks_after Hebrew level start end gs = after_step level (hebrew_mark_step start end gs) gs
marks_after shaper level start end gs = gs

-- no place within the sequence of marks is clear: its marks share a cluster, or are flagged
abbrev pub NoneClearInside : ℕ → ℕ → Glyphs → Type 0
NoneClearInside start end gs = (p : ℕ) → start < p → p < end → IsClear gs p → ⊥

-- The text may be broken before place p: the sequence isn't cut there, and the text after is that
-- of its halves, one after the other, each with its part of the sequence, glyph for glyph.
pub record MarksBroken (shaper : hb_ot_shaper_t) (level : BufferClusterLevel) (start end : ℕ) (gs
    new : Glyphs) (p : ℕ) : Type 0 where
  pub outside : (p ≤ start) ⊎ (end ≤ p)
  pub halves : new
      ≡ marks_after shaper level (min start p) (min end p) (take p gs)
      ++ marks_after shaper level (start - p) (end - p) (drop p gs)

-- so at every clear place, where clusters rise or fall, at the levels that merge
abbrev pub MarksBreakLaw : Type 0
MarksBreakLaw = (shaper : hb_ot_shaper_t) (start end : ℕ) (old new : Buffer) →
    start ≤ end → end ≤ length old.glyphs → merges old.level ≡ true →
    IsMonotone (clusters old.glyphs) → NoneClearInside start end old.glyphs →
    MarksReordered shaper start end old new →
    (p : ℕ) → 0 < p → p < length old.glyphs → IsClear new.glyphs p →
    MarksBroken shaper old.level start end old.glyphs new.glyphs p
