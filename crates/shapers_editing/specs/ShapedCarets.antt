-- Where a caret may stand in a text that was shaped all the way.
use Rattle.std.specs.Prelude.{ℕ, ◌≡◌, ◌<◌, ◌⊎◌, true, List, []}
use Rattle.std.specs.List.{All, Contains}
use Rattle.shapers_buffer.specs.Glyphs.{Glyph, Glyphs}
use Rattle.shapers_buffer.specs.declared.buffer.glyph_props.GlyphProps.{GlyphProps}
use Rattle.shapers_buffer.specs.declared.buffer.level.Direction.{Direction}
use Rattle.shapers_buffer.specs.declared.buffer.level.Direction.TheVariants.{LeftToRight, RightToLeft}
use Rattle.shapers_buffer.specs.Buffer.{Buffer}
use Rattle.shapers_buffer.specs.Clusters.{merges}
use Rattle.shapers_buffer.specs.Glyph.{clusters}
use Rattle.shapers_clusters.specs.Cuts.{IsFalling, IsRising}
use Rattle.shapers_plan.specs.declared.ot_map.lookups.Stage.{Stage}
use Rattle.shapers_pipeline.specs.ClusterLaws.{AtPauses, LookupsKeep, PauseSorts}
use Rattle.shapers_pipeline.specs.Lookups.{text_noted}
use Rattle.shapers_pipeline.specs.Positioned.{Positioning, text_shaped}
use Rattle.shapers_pipeline.specs.Prepared.{Preparation, text_prepared}
use Rattle.shapers_pipeline.specs.ShapeLaws.{PositionsKeep}
use Rattle.shapers_pipeline.specs.Stages.{StagesRun, Substitution}
use Rattle.shapers_editing.specs.Carets.{IsCaretMap, caret_stops}

-- The stops of shaped glyphs, new, whichever way they go, are a caret map of the text up to its
-- end; and each is a border of the clusters that its characters, old, had in the order of the text.
pub record StopsAreBorders (end : ℕ) (old new : Glyphs) (direction : Direction)
    : Type 0 where
  pub map : IsCaretMap end (clusters new) (caret_stops direction new)
  pub borders : All (Contains (caret_stops LeftToRight old)) (caret_stops direction new)

-- each cluster is a stop
abbrev pub EachStops : Glyphs → Direction → Type 0
EachStops gs direction = All (Contains (caret_stops direction gs)) (clusters gs)

-- The clusters rise, or fall, and in the direction that goes with it each is a stop.
abbrev pub EachStopsOneWay : Glyphs → Type 0
EachStopsOneWay gs =
    (IsRising (clusters gs) × EachStops gs LeftToRight)
    ⊎ (IsFalling (clusters gs) × EachStops gs RightToLeft)

-- So of every text whose clusters rise, shaped all the way: from its characters, old, to the glyphs
-- behind the lookups, mid, and to those with positions. Where each pause keeps clusters rising or
-- falling, at the levels that merge, each cluster is a stop.
abbrev pub ShapedTextHasCarets : Type 0
ShapedTextHasCarets = (p : Preparation) (noted : Glyph → GlyphProps) (r : Substitution)
    (ss : List Stage) (q : Positioning) (wanted : Direction) (old mid : Buffer) (end : ℕ) →
    LookupsKeep r.substituted → PositionsKeep q → (text_prepared p old).positions ≡ [] →
    (run : StagesRun r ss (text_noted noted (text_prepared p old)) mid) →
    IsRising (clusters old.glyphs) → All (λ c. c < end) (clusters old.glyphs) →
    let new = text_shaped q wanted mid in
    ((direction : Direction) → StopsAreBorders end old.glyphs new.glyphs direction)
    × (merges old.level ≡ true →
    AtPauses (PauseSorts r.plan r.font) r ss (text_noted noted (text_prepared p old)) mid run →
    EachStopsOneWay new.glyphs)
