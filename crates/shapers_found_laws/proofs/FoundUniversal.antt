-- The stages of the universal shaper, whose set-up finds syllables by its grammar.
use Rattle.std.proofs.Common.{◌≡◌, ℕ, true, false, [], ◌∷◌, cond, refl, sym, subst, inl, Option, Some}
use Rattle.std.specs.Prelude.{map}
use Rattle.std.specs.List.{AllZip, flat_map}
use Rattle.std.proofs.lemmas.Bool.{false≢true}
use Rattle.shapers_base.specs.Font.{Font, dotted_circle}
use Rattle.shapers_base.specs.declared.plan.hb_ot_shape_plan_t.{hb_ot_shape_plan_t}
use Rattle.shapers_base.specs.declared.plan.pause.Pause.{Pause}
use Rattle.shapers_base.specs.declared.plan.pause.Pause.TheVariants.{ClearSubstitutionFlags, RecordPref, RecordRphf, ReorderUse, SetupSyllablesUse}
use Rattle.shapers_buffer.specs.Buffer.{Buffer}
use Rattle.shapers_buffer.specs.Glyphs.{Glyph, Glyphs}
use Rattle.shapers_buffer.specs.Properties.{is_substituted}
use Rattle.shapers_buffer.specs.Syllables.{syllables}
use Rattle.shapers_syllabic.specs.Syllabic.{unsubstituted}
use Rattle.shapers_syllabic.proofs.CircleLaws.{joined-syllables}
use Rattle.shapers_universal.specs.PlanData.{rphf_of}
use Rattle.shapers_universal.specs.UniversalSyllables.{first_recorded, in_category}
use Rattle.shapers_universal.specs.UniversalText.{universal_circles}
use Rattle.rustybuzz_shapers.specs.FoundSyllables.{PauseRun}
use Rattle.shapers_pipeline.specs.ClusterLaws.{IfPaused, PauseSorts}
use Rattle.shapers_pipeline.specs.Lookups.{lookups_of_stage}
use Rattle.shapers_pipeline.specs.Stages.{StagesRun, Substitution, stage_looked_up}
use Rattle.shapers_found_laws.specs.AddsNone.{is_in_category}
use Rattle.shapers_found_laws.specs.FoundPauses.{reorders}
use Rattle.shapers_found_laws.specs.FoundSyllables.{AtMostOneEach, GainsNone}
use Rattle.shapers_found_laws.specs.FoundUniversal.{AreUniversalStages, FoundUniversalOpens, FoundUniversalSorts, RphfApart, UniversalStages, stages_before}
use Rattle.shapers_found_laws.proofs.AddedNone.{looked-at-most}
use Rattle.shapers_found_laws.proofs.FoundPauses.{behind-sort, circles-behind, others-sort, paused-by, sorts-by}
use Rattle.shapers_found_laws.proofs.KeptCategories.{Gains, kept-at-most-one, opens-with-one}
use Rattle.shapers_found_laws.proofs.RephasAlone.{AllAlone, looked-alone, recorded-at-most-one}
use Rattle.shapers_found_laws.proofs.UniversalSetUp.{Near, near-all, set-up-alone}
use Rattle.shapers_found_laws.proofs.ZippedGlyphs.{each-zip, map-zip, same-zip}

-- ---- pauses

universal-set-up : (plan : hb_ot_shape_plan_t) (font : Font) (old mid : Buffer)
    → PauseRun SetupSyllablesUse plan font old mid → RphfApart plan old.glyphs
    → AllAlone (rphf_of plan.plan_data) (syllables mid.glyphs)
universal-set-up plan font old mid run apart =
    subst (λ (b : Buffer). AllAlone (rphf_of plan.plan_data) (syllables b.glyphs)) (sym run.paused)
    (set-up-alone plan old.glyphs run.spans run.found apart)

cleared-alone : (t : ℕ) (plan : hb_ot_shape_plan_t) (font : Font) (old mid : Buffer)
    → PauseRun ClearSubstitutionFlags plan font old mid → AllAlone t (syllables old.glyphs)
    → AllAlone t (syllables mid.glyphs)
cleared-alone t plan font old mid run alone =
    subst (λ (b : Buffer). AllAlone t (syllables b.glyphs)) (sym run.paused)
    (near-all t old.glyphs (map unsubstituted old.glyphs)
    (map-zip (Near t) unsubstituted (λ g. (refl, (refl, λ e. e))) old.glyphs) alone)

cleared-few : (plan : hb_ot_shape_plan_t) (font : Font) (old mid : Buffer)
    → PauseRun ClearSubstitutionFlags plan font old mid → AtMostOneEach 18 old.glyphs → AtMostOneEach 18 mid.glyphs
cleared-few plan font old mid run few =
    subst (λ (b : Buffer). AtMostOneEach 18 b.glyphs) (sym run.paused)
    (kept-at-most-one 18 old.glyphs (map unsubstituted old.glyphs)
    (map-zip (GainsNone 18) unsubstituted (λ g. record { byte = refl; gained = λ e. e }) old.glyphs) few)

recorded-few : (plan : hb_ot_shape_plan_t) (font : Font) (old mid : Buffer) → PauseRun RecordRphf plan font old mid
    → AllAlone (rphf_of plan.plan_data) (syllables old.glyphs) → AtMostOneEach 18 mid.glyphs
recorded-few plan font old mid run alone =
    subst (λ (b : Buffer). AtMostOneEach 18 b.glyphs) (sym run.paused)
    (recorded-at-most-one (rphf_of plan.plan_data) old.glyphs alone)

same-gains : (g : Glyph) → GainsNone 18 g g
same-gains g = record { byte = refl; gained = λ e. e }

-- a glyph before the base is no repha
first-gains : (gs : Glyphs) → Gains 18 gs (first_recorded 22 gs)
first-gains [] = tt
first-gains (g ∷ gs) =
    elim (is_substituted g.glyph_props) as (λ b. AllZip (GainsNone 18) (g ∷ gs)
    (cond b (in_category 22 g ∷ gs) (g ∷ first_recorded 22 gs))) [
      | true ↦ (record { byte = refl; gained = λ e. absurd (false≢true e) }, same-zip (GainsNone 18) same-gains gs)
      | false ↦ (same-gains g, first-gains gs)
    ]

pref-few : (plan : hb_ot_shape_plan_t) (font : Font) (old mid : Buffer) → PauseRun RecordPref plan font old mid
    → AtMostOneEach 18 old.glyphs → AtMostOneEach 18 mid.glyphs
pref-few plan font old mid run few =
    let made = flat_map (first_recorded 22) (syllables old.glyphs) in
    subst (λ (b : Buffer). AtMostOneEach 18 b.glyphs) (sym run.paused)
    (kept-at-most-one 18 old.glyphs made
    (subst (λ gs. Gains 18 gs made) (joined-syllables old.glyphs)
    (each-zip (GainsNone 18) (first_recorded 22) first-gains (syllables old.glyphs))) few)

-- ---- the stages before the reordering

abbrev Rephas : Buffer → Type 0
Rephas b = AtMostOneEach 18 b.glyphs

few-before : (r : Substitution) (s : UniversalStages) (old mid : Buffer) → AreUniversalStages r s
    → RphfApart r.plan (stage_looked_up r s.set_up old).glyphs → StagesRun r (stages_before s) old mid → Rephas mid
few-before r s old mid are apart (m1, (a, (m2, (b, (m3, (c, (m4, (d, (m5, (e, last)))))))))) =
    let t = rphf_of r.plan.plan_data in
    let f = r.substituted in
    let x0 = stage_looked_up r s.set_up old in
    let x1 = stage_looked_up r s.cleared m1 in
    let x2 = stage_looked_up r s.recorded m2 in
    let x3 = stage_looked_up r s.cleared_again m3 in
    let x4 = stage_looked_up r s.pref m4 in
    let one = universal-set-up r.plan r.font x0 m1
    (paused-by r.plan r.font s.set_up.pause SetupSyllablesUse x0 m1 are.set_up a) apart in
    let one_on = looked-alone t f (lookups_of_stage s.cleared r.list) are.rephas.0 are.masked.0 m1 one in
    let two = cleared-alone t r.plan r.font x1 m2
    (paused-by r.plan r.font s.cleared.pause ClearSubstitutionFlags x1 m2 are.cleared b) one_on in
    let two_on = looked-alone t f (lookups_of_stage s.recorded r.list) are.rephas.1.0 are.masked.1.0 m2 two in
    let three = recorded-few r.plan r.font x2 m3
    (paused-by r.plan r.font s.recorded.pause RecordRphf x2 m3 are.recorded c) two_on in
    let three_on = looked-at-most 1 (is_in_category 18) f (lookups_of_stage s.cleared_again r.list) are.rephas.1.1.0 m3 three in
    let four = cleared-few r.plan r.font x3 m4
    (paused-by r.plan r.font s.cleared_again.pause ClearSubstitutionFlags x3 m4 are.cleared_again d) three_on in
    let four_on = looked-at-most 1 (is_in_category 18) f (lookups_of_stage s.pref r.list) are.rephas.1.1.1.0 m4 four in
    let five = pref-few r.plan r.font x4 m5
    (paused-by r.plan r.font s.pref.pause RecordPref x4 m5 are.pref e) four_on in
    subst Rephas (sym last) five

pub universal-opens : FoundUniversalOpens
universal-opens r s old mid are apart run =
    let text = stage_looked_up r s.reordered mid in
    let k = universal_circles in
    circles-behind (r.font.nominal dotted_circle) k.broken_kind k.category k.repha k.position text
    (opens-with-one 18 text.glyphs
    (looked-at-most 1 (is_in_category 18) r.substituted (lookups_of_stage s.reordered r.list) are.rephas.1.1.1.1.0 mid
    (few-before r s old mid are apart run)))

-- ---- all of them

plain-sorts : (r : Substitution) (pause : Option Pause) (own : Pause) (old new : Buffer) → pause ≡ Some own
    → reorders own ≡ false → IfPaused (PauseSorts r.plan r.font) pause old new
plain-sorts r pause own old new is plain =
    sorts-by r.plan r.font pause own old new is (others-sort r.plan r.font own old new plain)

pub universal-sorts : FoundUniversalSorts
universal-sorts r s old new are apart (m1, (a, (m2, (b, (m3, (c, (m4, (d, (m5, (e, (m6, (f, run)))))))))))) =
    let text = stage_looked_up r s.reordered m5 in
    let before : StagesRun r (stages_before s) old m5 = (m1, (a, (m2, (b, (m3, (c, (m4, (d, (m5, (e, refl)))))))))) in
    let first = plain-sorts r s.set_up.pause SetupSyllablesUse (stage_looked_up r s.set_up old) m1 are.set_up refl in
    let second = plain-sorts r s.cleared.pause ClearSubstitutionFlags (stage_looked_up r s.cleared m1) m2 are.cleared
    refl in
    let third = plain-sorts r s.recorded.pause RecordRphf (stage_looked_up r s.recorded m2) m3 are.recorded refl in
    let fourth = plain-sorts r s.cleared_again.pause ClearSubstitutionFlags (stage_looked_up r s.cleared_again m3) m4
    are.cleared_again refl in
    let fifth = plain-sorts r s.pref.pause RecordPref (stage_looked_up r s.pref m4) m5 are.pref refl in
    let sixth = sorts-by r.plan r.font s.reordered.pause ReorderUse text m6 are.reordered
    (inl (refl, universal-opens r s old m5 are apart before)) in
    let rest = behind-sort r s.behind m6 new are.others run in
    (first, (second, (third, (fourth, (fifth, (sixth, rest))))))
