-- The stages of a shaper of syllables, whose set-up finds these by its grammar.
use Rattle.std.specs.Prelude.{ℕ, ◌≡◌, Bool, true, false, List, ◌∷◌, Some}
use Rattle.std.specs.List.{AllZip, list_any}
use Rattle.std.specs.Option.{option_map_or}
use Rattle.shapers_base.specs.declared.plan.pause.Pause.{Pause}
use Rattle.shapers_base.specs.declared.plan.pause.Pause.TheVariants.{InitialReordering, ReorderKhmer, ReorderMyanmar, ReorderUse, FinalReordering}
use Rattle.shapers_buffer.specs.Buffer.{Buffer}
use Rattle.shapers_buffer.specs.Glyph.{clusters}
use Rattle.shapers_buffer.specs.declared.buffer.refusal.ShaperError.TheVariants.{UnknownSyllable}
use Rattle.shapers_clusters.specs.Cuts.{IsMonotone}
use Rattle.shapers_syllabic.specs.Circles.{circled}
use Rattle.rustybuzz_shapers.specs.Pauses.{pause_circles}
use Rattle.rustybuzz_shapers.specs.declared.shaper.checked.CallError.TheVariants as call
use Rattle.shapers_plan.specs.declared.ot_map.lookups.Stage.{Stage}
use Rattle.shapers_plan.specs.declared.ot_map.lookups.StageLookup.{StageLookup}
use Rattle.shapers_pipeline.specs.ClusterLaws.{AtPauses, PauseSorts}
use Rattle.shapers_pipeline.specs.Lookups.{LookupRefusals}
use Rattle.shapers_pipeline.specs.Stages.{StageRun, StagesRun, StagesStopped, Substitution, stage_looked_up}
use Rattle.shapers_found_laws.specs.FoundSyllables.{GainsNone}

-- lookups that leave each glyph in its place and its syllable, and make none one of a category
abbrev pub LookupsGainNone : ℕ → (StageLookup → Buffer → Buffer) → Type 0
LookupsGainNone k substituted = (lookup : StageLookup) (b : Buffer) →
    AllZip (GainsNone k) b.glyphs (substituted lookup b).glyphs

-- whether a pause reorders syllables, and whether a stage ends with one that does
abbrev pub reorders : Pause → Bool
reorders InitialReordering = true
reorders ReorderKhmer = true
reorders ReorderMyanmar = true
reorders ReorderUse = true
reorders FinalReordering = true
reorders _ = false

abbrev pub ends_reordering : Stage → Bool
ends_reordering s = option_map_or reorders s.pause false

-- A stage that ends with a set-up, one that ends with its reordering, and stages that reorder
-- nothing, with lookups that make no glyph a repha.
pub record AreStagesOf (setup pause : Pause) (k : ℕ) (r : Substitution) (first second : Stage)
    (behind : List Stage) : Type 0 where
  pub set_up : first.pause ≡ Some setup
  pub reordered : second.pause ≡ Some pause
  pub others : list_any ends_reordering behind ≡ false
  pub lookups : LookupsGainNone k r.substituted

-- Each pause of such stages keeps clusters rising or falling, at the levels that merge.
abbrev pub FoundPausesSort : Pause → Pause → ℕ → Type 0
FoundPausesSort setup pause k = (r : Substitution) (first second : Stage) (behind : List Stage)
    (old new : Buffer) → AreStagesOf setup pause k r first second behind →
    (run : StagesRun r (first ∷ (second ∷ behind)) old new) →
    AtPauses (PauseSorts r.plan r.font) r (first ∷ (second ∷ behind)) old new run

-- Nor do the circles that its reordering opens change that, directly behind the lookups of its
-- stage: so the text is in the order that the laws of breaks ask for.
abbrev pub FoundCirclesSort : Pause → Pause → ℕ → Type 0
FoundCirclesSort setup pause k = (r : Substitution) (first second : Stage) (behind : List Stage)
    (old mid : Buffer) → AreStagesOf setup pause k r first second behind →
    StageRun r first old mid →
    let between = stage_looked_up r second mid in
    IsMonotone (clusters between.glyphs) →
    IsMonotone (clusters (circled (pause_circles pause r.plan r.font between) between.glyphs))

-- No such stage finds a syllable of unknown kind.
abbrev pub FoundStagesKnow : Pause → Pause → ℕ → Type 0
FoundStagesKnow setup pause k = (r : Substitution)
    (refusals : StageLookup → Buffer → LookupRefusals) (first second : Stage)
    (behind : List Stage) (old left : Buffer) (place : ℕ) →
    AreStagesOf setup pause k r first second behind →
    StagesStopped r refusals (first ∷ (second ∷ behind)) old left
    (call.Refused (UnknownSyllable place)) → ⊥
