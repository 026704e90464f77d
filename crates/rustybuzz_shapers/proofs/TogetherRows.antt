-- For which shapers, with which plans, letters join.
use Rattle.std.proofs.Common.{arith}
use Rattle.std.proofs.Common.{None, Some, refl}
use Rattle.std.proofs.lemmas.Bool.{false≢true}
use Rattle.shapers_base.specs.declared.plan.PlanData.{PlanData}
use Rattle.shapers_base.specs.declared.plan.PlanData.TheVariants as data_of
use Rattle.shapers_base.specs.declared.plan.arabic.arabic_shape_plan_t.{arabic_shape_plan_t}
use Rattle.rustybuzz_shapers.specs.Together.{LettersJoin}
use Rattle.rustybuzz_shapers.specs.declared.shaper.hb_ot_shaper_t.TheVariants.{Arabic, Hangul, Hebrew, Indic, Khmer, Myanmar, MyanmarZawgyi, Thai, Universal}

row_arabic : (kept : PlanData) → LettersJoin Arabic kept
row_arabic kept = tt

row_universal : (joins : arabic_shape_plan_t)
    → LettersJoin Universal (data_of.Universal (record { rphf_mask = 0; arabic_plan = Some joins }))
row_universal joins = refl

row_without : LettersJoin Universal (data_of.Universal (record { rphf_mask = 0; arabic_plan = None })) → ⊥
row_without joins = false≢true joins

row_no_data : LettersJoin Universal data_of.None → ⊥
row_no_data joins = false≢true joins

row_others : (kept : PlanData) → (LettersJoin Hangul kept → ⊥) × (LettersJoin Hebrew kept → ⊥)
    × (LettersJoin Indic kept → ⊥) × (LettersJoin Khmer kept → ⊥) × (LettersJoin Myanmar kept → ⊥)
    × (LettersJoin MyanmarZawgyi kept → ⊥) × (LettersJoin Thai kept → ⊥)
row_others = search arith
