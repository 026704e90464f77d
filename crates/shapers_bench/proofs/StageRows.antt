-- Rows for the stages of the words, written out from the shapers' lists.
use Rattle.std.proofs.Common.{◌≡◌, ℕ, [], ◌∷◌, map, refl}
use Rattle.std.specs.Prelude.{Some, codes}
use Rattle.shapers_base.specs.Map.{mask_of, stage_of}
use Rattle.shapers_base.specs.declared.plan.pause.Pause.TheVariants.{ClearSubstitutionFlags, FinalReordering, InitialReordering, RecordPref, RecordRphf, ReorderUse, SetupSyllablesIndic, SetupSyllablesUse, SyllabicClearVar}
use Rattle.shapers_plan.specs.declared.ot_map.lookups.Stage.{Stage}
use Rattle.shapers_found_laws.specs.FoundUniversal.{stages_in}
use Rattle.shapers_bench.specs.IndicWords.{reordered_initially, reordered_finally, set_up}
use Rattle.shapers_bench.specs.UniversalWords.{without_lookups, javanese_plan, rphf_map, universal_stages}

-- the lookups of a stage
ends : Stage → ℕ × ℕ
ends s = (s.start, s.end)

-- of Indic the pauses, and one lookup before the initial reordering
row_indic : map (λ (s : Stage). s.pause) (set_up ∷ reordered_initially ∷ reordered_finally ∷ [])
    ≡ Some SetupSyllablesIndic ∷ Some InitialReordering ∷ Some FinalReordering ∷ []
row_indic = refl

row_indic_lookups : map ends (set_up ∷ reordered_initially ∷ reordered_finally ∷ []) ≡ (0, 0) ∷ (0, 1) ∷ (1, 1) ∷ []
unfolding ends
row_indic_lookups = refl

-- of the universal shaper, with one lookup before the record of rphf
row_universal : map (λ (s : Stage). s.pause) (stages_in universal_stages)
    ≡ Some SetupSyllablesUse ∷ Some ClearSubstitutionFlags ∷ Some RecordRphf ∷ Some ClearSubstitutionFlags
    ∷ Some RecordPref ∷ Some ReorderUse ∷ Some SyllabicClearVar ∷ []
row_universal = refl

row_universal_lookups : map ends (stages_in universal_stages)
    ≡ (0, 0) ∷ (0, 0) ∷ (0, 1) ∷ (0, 0) ∷ (0, 0) ∷ (0, 0) ∷ (0, 0) ∷ []
unfolding ends
row_universal_lookups = refl

row_bare : without_lookups RecordPref ≡ record { start = 0; end = 0; pause = Some RecordPref }
row_bare = refl

-- the fifth bit is that of rphf, and no other feature has one
row_masks : map (λ tag. mask_of (record { 0 = tag }) rphf_map) (codes "rphf" ∷ codes "pref" ∷ codes "isol" ∷ []) ≡ 0x10 ∷ 0 ∷ 0 ∷ []
row_masks = refl

row_stage : stage_of (record { 0 = codes "rphf" }) rphf_map ≡ Some 2
row_stage = refl

row_script : javanese_plan.script ≡ Some (record { 0 = codes "Java" })
row_script = refl
