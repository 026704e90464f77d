-- Clear places of a text that is reordered.
use Rattle.std.specs.Prelude.{ℕ, ◌<◌, ◌≡◌, true, List, length, map}
use Rattle.std.specs.List.{AllByRecursion}
use Rattle.shapers_buffer.specs.Glyphs.{Glyph, Glyphs}
use Rattle.shapers_buffer.specs.declared.buffer.level.BufferClusterLevel.{BufferClusterLevel}
use Rattle.shapers_buffer.specs.Clusters.{merges}
use Rattle.shapers_buffer.specs.Glyph.{clusters}
use Rattle.shapers_clusters.specs.Breaks.{IsClear}
use Rattle.shapers_clusters.specs.Cuts.{IsMonotone}
use Rattle.shapers_clusters.specs.Flags.{HidesFields}
use Rattle.shapers_clusters.specs.Steps.{MovesMerged, Permutes, Step, after_steps}

-- each clear place of the text after was clear in the text before
abbrev pub ClearWasClear : Glyphs → Glyphs → Type 0
ClearWasClear gs ms = (p : ℕ) → 0 < p → p < length ms → IsClear ms p → IsClear gs p

-- So of steps that move only inside what they merged first and take each place once, through any
-- view, where clusters rise or fall, at the levels that merge: merges join clusters and drop the
-- flags of what fell, but the greater cluster at a place that is still a cut keeps both.
abbrev pub ClearBeforeLaw : Type 0
ClearBeforeLaw = (view : Glyph → Glyph) → HidesFields view →
    (level : BufferClusterLevel) (steps : List Step) (gs ms : Glyphs) →
    merges level ≡ true → IsMonotone (clusters gs) →
    AllByRecursion (MovesMerged (length gs)) steps → AllByRecursion (Permutes (length gs)) steps →
    map view ms ≡ map view (after_steps level steps gs) →
    ClearWasClear gs ms
