-- The stages of Indic, whose set-up finds syllables by its grammar; and stages of any shaper whose
-- pauses ask for no kinds of syllables.
use Rattle.std.specs.Prelude.{ℕ, ◌≡◌, Bool, true, false, List, ◌∷◌, Some}
use Rattle.std.specs.List.{list_any}
use Rattle.std.specs.Option.{option_map_or}
use Rattle.shapers_base.specs.declared.plan.pause.Pause.{Pause}
use Rattle.shapers_base.specs.declared.plan.pause.Pause.TheVariants.{InitialReordering, ReorderKhmer, ReorderMyanmar, SetupSyllablesIndic}
use Rattle.shapers_buffer.specs.Buffer.{Buffer}
use Rattle.shapers_buffer.specs.Glyph.{clusters}
use Rattle.shapers_buffer.specs.declared.buffer.refusal.ShaperError.TheVariants.{UnknownSyllable}
use Rattle.shapers_clusters.specs.Cuts.{IsMonotone}
use Rattle.shapers_syllabic.specs.Circles.{circled}
use Rattle.rustybuzz_shapers.specs.Monotone.{AtMostOneRepha}
use Rattle.rustybuzz_shapers.specs.Pauses.{pause_circles}
use Rattle.rustybuzz_shapers.specs.declared.shaper.checked.CallError.TheVariants as call
use Rattle.shapers_plan.specs.declared.ot_map.lookups.Stage.{Stage}
use Rattle.shapers_plan.specs.declared.ot_map.lookups.StageLookup.{StageLookup}
use Rattle.shapers_pipeline.specs.Lookups.{LookupRefusals, lookups_of_stage}
use Rattle.shapers_pipeline.specs.Stages.{StageRun, StagesStopped, Substitution, stage_looked_up}
use Rattle.shapers_found_laws.specs.AddsNone.{LookupsAddNone, is_in_category, is_unknown}

-- whether a pause refuses a text with a syllable of unknown kind, and whether a stage ends with one
-- that does
abbrev pub asks_kinds : Pause → Bool
asks_kinds InitialReordering = true
asks_kinds ReorderKhmer = true
asks_kinds ReorderMyanmar = true
asks_kinds _ = false

abbrev pub ends_asking : Stage → Bool
ends_asking s = option_map_or asks_kinds s.pause false

-- A stage that ends with the set-up of Indic; one that ends with its initial reordering, with
-- lookups that give no syllable a repha or another kind; and stages that ask for no kinds, as that
-- of the final reordering.
pub record AreIndicStages (r : Substitution) (first second : Stage) (behind : List Stage)
    : Type 0 where
  pub set_up : first.pause ≡ Some SetupSyllablesIndic
  pub reordered : second.pause ≡ Some InitialReordering
  pub others : list_any ends_asking behind ≡ false
  pub rephas : LookupsAddNone (is_in_category 14) r.substituted (lookups_of_stage second r.list)
  pub kinds : LookupsAddNone (is_unknown 5) r.substituted (lookups_of_stage second r.list)

-- No syllable opens with two rephas where the initial reordering opens circles behind these.
abbrev pub FoundIndicOpens : Type 0
FoundIndicOpens = (r : Substitution) (first second : Stage) (behind : List Stage)
    (old mid : Buffer) → AreIndicStages r first second behind → StageRun r first old mid →
    let between = stage_looked_up r second mid in
    AtMostOneRepha (pause_circles InitialReordering r.plan r.font between) between.glyphs

-- So these circles keep clusters rising or falling.
abbrev pub FoundIndicSorts : Type 0
FoundIndicSorts = (r : Substitution) (first second : Stage) (behind : List Stage)
    (old mid : Buffer) → AreIndicStages r first second behind → StageRun r first old mid →
    let between = stage_looked_up r second mid in
    let circles = pause_circles InitialReordering r.plan r.font between in
    IsMonotone (clusters between.glyphs) → IsMonotone (clusters (circled circles between.glyphs))

-- No such stage finds a syllable of unknown kind.
abbrev pub FoundIndicKnows : Type 0
FoundIndicKnows = (r : Substitution) (refusals : StageLookup → Buffer → LookupRefusals)
    (first second : Stage) (behind : List Stage) (old left : Buffer) (place : ℕ) →
    AreIndicStages r first second behind →
    StagesStopped r refusals (first ∷ (second ∷ behind)) old left
    (call.Refused (UnknownSyllable place)) → ⊥

-- Nor does any of stages that ask for no kinds, as those of the universal shaper, whatever their
-- lookups.
abbrev pub OthersKnow : Type 0
OthersKnow = (r : Substitution) (refusals : StageLookup → Buffer → LookupRefusals)
    (stages : List Stage) (old left : Buffer) (place : ℕ) →
    list_any ends_asking stages ≡ false →
    StagesStopped r refusals stages old left (call.Refused (UnknownSyllable place)) → ⊥
