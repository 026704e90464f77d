-- What becomes of a text's clusters behind its lookups, and all the way.
use Rattle.std.specs.Prelude.{◌≡◌, List, [], length}
use Rattle.shapers_buffer.specs.Buffer.{Buffer}
use Rattle.shapers_buffer.specs.Glyphs.{Glyph}
use Rattle.shapers_buffer.specs.declared.buffer.glyph_props.GlyphProps.{GlyphProps}
use Rattle.shapers_buffer.specs.declared.buffer.level.Direction.{Direction}
use Rattle.shapers_plan.specs.declared.ot_map.lookups.Stage.{Stage}
use Rattle.shapers_plan.specs.declared.ot_map.lookups.StageLookup.{StageLookup}
use Rattle.shapers_pipeline.specs.ClusterLaws.{AtPauses, LookupsKeep, NoneMade, PauseSorts, StayMonotone}
use Rattle.shapers_pipeline.specs.Lookups.{PositionKeeps, text_noted}
use Rattle.shapers_pipeline.specs.Positioned.{Positioning, text_shaped}
use Rattle.shapers_pipeline.specs.Prepared.{Preparation, text_prepared}
use Rattle.shapers_pipeline.specs.Stages.{StagesRun, Substitution}

-- lookups of GPOS that keep what they promise, and attachments
pub record PositionsKeep (p : Positioning) : Type 0 where
  pub looking_up : (lookup : StageLookup) (b : Buffer) → length b.positions ≡ length b.glyphs →
      PositionKeeps b (p.positioned lookup b)
  pub finishing : (b : Buffer) → length b.positions ≡ length b.glyphs →
      PositionKeeps b (p.finished b)

-- What comes behind the lookups of GSUB makes no cluster, and keeps them rising or falling: where a
-- text is turned to its drawing order, those that rose fall.
abbrev pub FinishKeepsClusters : Type 0
FinishKeepsClusters = (p : Positioning) (direction : Direction) (b : Buffer) → PositionsKeep p →
    NoneMade b (text_shaped p direction b) × StayMonotone b (text_shaped p direction b)

-- So of a text all the way: from its characters, old, to the glyphs behind the lookups, mid, and to
-- those with positions.
abbrev pub ShapingKeepsClusters : Type 0
ShapingKeepsClusters = (p : Preparation) (noted : Glyph → GlyphProps) (r : Substitution)
    (ss : List Stage) (q : Positioning) (direction : Direction) (old mid : Buffer) →
    LookupsKeep r.substituted → PositionsKeep q → (text_prepared p old).positions ≡ [] →
    (run : StagesRun r ss (text_noted noted (text_prepared p old)) mid) →
    let new = text_shaped q direction mid in
    NoneMade old new
    × (AtPauses (PauseSorts r.plan r.font) r ss (text_noted noted (text_prepared p old)) mid run →
    StayMonotone old new)
