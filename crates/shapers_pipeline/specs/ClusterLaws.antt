-- What becomes of a text's clusters on the way from its characters to its glyphs.
use Rattle.std.specs.Prelude.{◌≡◌, ◌⊎◌, true, false, List, [], ◌∷◌, Option, None, Some}
use Rattle.shapers_base.specs.Font.{Font}
use Rattle.shapers_base.specs.declared.plan.hb_ot_shape_plan_t.{hb_ot_shape_plan_t}
use Rattle.shapers_base.specs.declared.plan.pause.Pause.{Pause}
use Rattle.shapers_buffer.specs.Buffer.{Buffer}
use Rattle.shapers_buffer.specs.Clusters.{merges}
use Rattle.shapers_buffer.specs.Glyph.{clusters}
use Rattle.shapers_buffer.specs.Glyphs.{Glyph}
use Rattle.shapers_buffer.specs.declared.buffer.glyph_props.GlyphProps.{GlyphProps}
use Rattle.shapers_clusters.specs.Cuts.{IsMonotone}
use Rattle.shapers_syllabic.specs.CircleLaws.{NoNewCluster}
use Rattle.rustybuzz_shapers.specs.Monotone.{AtMostOneRepha, reorders_indic}
use Rattle.rustybuzz_shapers.specs.Pauses.{pause_circles}
use Rattle.shapers_plan.specs.declared.ot_map.lookups.Stage.{Stage}
use Rattle.shapers_plan.specs.declared.ot_map.lookups.StageLookup.{StageLookup}
use Rattle.shapers_pipeline.specs.Lookups.{LookupKeeps, text_noted}
use Rattle.shapers_pipeline.specs.Prepared.{Preparation, text_prepared}
use Rattle.shapers_pipeline.specs.Stages.{StagesRun, Substitution, stage_looked_up}

-- Each cluster is one that the text had, at the level that it had.
pub record NoneMade (old new : Buffer) : Type 0 where
  pub level : new.level ≡ old.level
  pub old_clusters : NoNewCluster old.glyphs new.glyphs

-- At the levels that merge, clusters that rise along the text, or fall, still do.
abbrev pub StayMonotone : Buffer → Buffer → Type 0
StayMonotone old new =
    merges old.level ≡ true → IsMonotone (clusters old.glyphs) → IsMonotone (clusters new.glyphs)

-- so of every text before the lookups, whatever it is prepared by, and whatever they keep beside
-- its glyphs
abbrev pub PreparationKeepsClusters : Type 0
PreparationKeepsClusters = (p : Preparation) (noted : Glyph → GlyphProps) (b : Buffer) →
    NoneMade b (text_noted noted (text_prepared p b))
    × StayMonotone b (text_noted noted (text_prepared p b))

-- A pause that keeps clusters rising or falling in this text: it is no reordering of Indic, and
-- its circles come behind one repha at most; or it keeps them so this time.
abbrev pub PauseSorts : hb_ot_shape_plan_t → Font → Pause → Buffer → Buffer → Type 0
PauseSorts plan font pause old new =
    ((reorders_indic pause ≡ false) × AtMostOneRepha (pause_circles pause plan font old) old.glyphs)
    ⊎ StayMonotone old new

-- of the pause of a stage, if it has one, and of those of all stages, each from its text to the
-- next
abbrev pub IfPaused : (Pause → Buffer → Buffer → Type 0) → Option Pause → Buffer → Buffer → Type 0
IfPaused P None old new = Unit {0}
IfPaused P (Some pause) old new = P pause old new

abbrev pub AtPauses : (Pause → Buffer → Buffer → Type 0) → (r : Substitution) → (ss : List Stage) →
    (old new : Buffer) → StagesRun r ss old new → Type 0
AtPauses P r [] old new run = Unit {0}
AtPauses P r (s ∷ ss) old new run =
    IfPaused P s.pause (stage_looked_up r s old) run.0 × AtPauses P r ss run.0 new run.1.1

-- lookups that keep what they promise
abbrev pub LookupsKeep : (StageLookup → Buffer → Buffer) → Type 0
LookupsKeep substituted = (lookup : StageLookup) (b : Buffer) → b.positions ≡ [] →
    LookupKeeps b (substituted lookup b)

-- Stages make no cluster; and where each pause keeps clusters rising or falling, so do the stages.
abbrev pub StagesKeepClusters : Type 0
StagesKeepClusters = (r : Substitution) (ss : List Stage) (old new : Buffer) →
    LookupsKeep r.substituted → old.positions ≡ [] → (run : StagesRun r ss old new) →
    NoneMade old new
    × (AtPauses (PauseSorts r.plan r.font) r ss old new run → StayMonotone old new)
