-- The stages of the universal shaper, whose set-up finds syllables by its grammar, and of which one
-- makes a repha of what a lookup put in for rphf.
use Rattle.std.specs.Prelude.{ℕ, ◌≡◌, ◌≤◌, ◌==◌, ◌||◌, ◌⊎◌, Bool, false, List, [], ◌∷◌, Some, bit_and, count_by}
use Rattle.std.specs.List.{AllByRecursion, list_any}
use Rattle.shapers_base.specs.Masks.{has_bits}
use Rattle.shapers_base.specs.declared.plan.hb_ot_shape_plan_t.{hb_ot_shape_plan_t}
use Rattle.shapers_base.specs.declared.plan.pause.Pause.TheVariants.{ClearSubstitutionFlags, RecordPref, RecordRphf, ReorderUse, SetupSyllablesUse}
use Rattle.shapers_buffer.specs.Buffer.{Buffer}
use Rattle.shapers_buffer.specs.Glyphs.{Glyph, Glyphs}
use Rattle.shapers_universal.specs.PlanData.{rphf_of}
use Rattle.shapers_universal.specs.UniversalSyllables.{form_masks, mask_between}
use Rattle.rustybuzz_shapers.specs.Monotone.{AtMostOneRepha}
use Rattle.rustybuzz_shapers.specs.Pauses.{pause_circles}
use Rattle.shapers_plan.specs.declared.ot_map.lookups.Stage.{Stage}
use Rattle.shapers_pipeline.specs.ClusterLaws.{AtPauses, PauseSorts}
use Rattle.shapers_pipeline.specs.Lookups.{lookups_of_stage}
use Rattle.shapers_pipeline.specs.Stages.{StagesRun, Substitution, stage_looked_up}
use Rattle.shapers_found_laws.specs.AddsNone.{LookupsAddNone, is_in_category}
use Rattle.shapers_found_laws.specs.FoundPauses.{ends_reordering}

-- whether a glyph is a repha, of category R, or may be recorded as one: it has a bit of the mask
abbrev pub may_be_repha : ℕ → Glyph → Bool
may_be_repha mask g = (g.category == 18) || has_bits mask g

-- A syllable has no repha, or no other glyph that may be recorded as one.
abbrev pub RephaAlone : ℕ → Glyphs → Type 0
RephaAlone mask syllable =
    (count_by (is_in_category 18) syllable ≡ 0) ⊎ (count_by (may_be_repha mask) syllable ≤ 1)

-- The mask of rphf is its own: it has neither of the flags that a set-up gives, nor a bit of a
-- form's mask; and no glyph has a bit of it yet.
pub record RphfApart (plan : hb_ot_shape_plan_t) (gs : Glyphs) : Type 0 where
  pub unflagged : bit_and 3 (rphf_of plan.plan_data) ≡ 0
  pub formless : (before behind : Bool) →
      bit_and (mask_between (form_masks plan.ot_map) before behind) (rphf_of plan.plan_data) ≡ 0
  pub unset : list_any (has_bits (rphf_of plan.plan_data)) gs ≡ false

-- the stages, by what their pauses do, up to the reordering, and those behind it
pub record UniversalStages : Type 0 where
  pub set_up : Stage
  pub cleared : Stage
  pub recorded : Stage
  pub cleared_again : Stage
  pub pref : Stage
  pub reordered : Stage
  pub behind : List Stage

-- those before the reordering, and all
abbrev pub stages_before : UniversalStages → List Stage
stages_before s = s.set_up ∷ (s.cleared ∷ (s.recorded ∷ (s.cleared_again ∷ (s.pref ∷ []))))

abbrev pub stages_in : UniversalStages → List Stage
stages_in s = s.set_up ∷ (s.cleared ∷ (s.recorded ∷ (s.cleared_again ∷ (s.pref ∷ (s.reordered
    ∷ s.behind)))))

-- The pauses are those of the shaper's list. No lookup between the set-up and the reordering gives
-- a syllable another repha, and none up to the record of rphf another glyph that may become one.
pub record AreUniversalStages (r : Substitution) (s : UniversalStages) : Type 0 where
  pub set_up : s.set_up.pause ≡ Some SetupSyllablesUse
  pub cleared : s.cleared.pause ≡ Some ClearSubstitutionFlags
  pub recorded : s.recorded.pause ≡ Some RecordRphf
  pub cleared_again : s.cleared_again.pause ≡ Some ClearSubstitutionFlags
  pub pref : s.pref.pause ≡ Some RecordPref
  pub reordered : s.reordered.pause ≡ Some ReorderUse
  pub others : list_any ends_reordering s.behind ≡ false
  pub rephas : AllByRecursion
      (λ stage. LookupsAddNone (is_in_category 18) r.substituted (lookups_of_stage stage r.list))
      (s.cleared ∷ s.recorded ∷ s.cleared_again ∷ s.pref ∷ s.reordered ∷ [])
  pub masked : AllByRecursion
      (λ stage. LookupsAddNone (may_be_repha (rphf_of r.plan.plan_data)) r.substituted
      (lookups_of_stage stage r.list)) (s.cleared ∷ s.recorded ∷ [])

-- Then no syllable opens with two rephas where the reordering opens circles behind these.
abbrev pub FoundUniversalOpens : Type 0
FoundUniversalOpens = (r : Substitution) (s : UniversalStages) (old mid : Buffer) →
    AreUniversalStages r s → RphfApart r.plan (stage_looked_up r s.set_up old).glyphs →
    StagesRun r (stages_before s) old mid →
    let between = stage_looked_up r s.reordered mid in
    AtMostOneRepha (pause_circles ReorderUse r.plan r.font between) between.glyphs

-- So each pause keeps clusters rising or falling, at the levels that merge.
abbrev pub FoundUniversalSorts : Type 0
FoundUniversalSorts = (r : Substitution) (s : UniversalStages) (old new : Buffer) →
    AreUniversalStages r s → RphfApart r.plan (stage_looked_up r s.set_up old).glyphs →
    (run : StagesRun r (stages_in s) old new) →
    AtPauses (PauseSorts r.plan r.font) r (stages_in s) old new run
