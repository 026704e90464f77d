-- Stages whose set-up finds syllables by a grammar.
use Rattle.std.proofs.Common.{◌≡◌, ◌∙◌, ℕ, ◌≤◌, Bool, true, false, List, [], ◌∷◌, refl, sym, ap, subst, inl, inr, length, lit≤, Option, None, Some}
use Rattle.std.specs.Prelude.{All, Err, IsOk, unwrap_or, ◌||◌, if◌then◌else◌, nat_lt, option_map}
use Rattle.std.specs.List.{AllByRecursion, list_any}
use Rattle.std.specs.Option.{option_map_or}
use Rattle.std.proofs.lemmas.Bool.{false≢true, or_parts}
use Rattle.std.proofs.lemmas.List.Elements.{recursion_from_All}
use Rattle.shapers_base.specs.Font.{Font, dotted_circle}
use Rattle.shapers_base.specs.declared.font.GlyphId.{GlyphId}
use Rattle.shapers_base.specs.declared.plan.hb_ot_shape_plan_t.{hb_ot_shape_plan_t}
use Rattle.shapers_base.specs.declared.plan.pause.Pause.{Pause}
use Rattle.shapers_base.specs.declared.plan.pause.Pause.TheVariants.{SetupSyllablesIndic, SetupSyllablesKhmer, SetupSyllablesMyanmar, SetupSyllablesUse, InitialReordering, ReorderKhmer, ReorderMyanmar, ReorderUse, FinalReordering, RecordStch, RecordRphf, RecordPref, SyllabicClearVar, ClearSubstitutionFlags, ArabicFallbackShape}
use Rattle.shapers_buffer.specs.Buffer.{Buffer}
use Rattle.shapers_buffer.specs.Glyph.{clusters, default_glyph}
use Rattle.shapers_buffer.specs.Glyphs.{Glyphs}
use Rattle.shapers_buffer.specs.Syllables.{kind_of, spans_cover, syllables, unknown_refusal}
use Rattle.shapers_buffer.specs.declared.buffer.refusal.ShaperError.TheVariants.{UnknownSyllable}
use Rattle.shapers_buffer.specs.declared.buffer.syllables.Span.{Span}
use Rattle.shapers_clusters.specs.Cuts.{IsMonotone}
use Rattle.shapers_khmer.specs.Khmer.{khmer_circles}
use Rattle.shapers_myanmar.specs.Myanmar.{myanmar_circles}
use Rattle.shapers_spans.specs.Khmer.{khmer_grammar}
use Rattle.shapers_syllabic.specs.Circles.{circled, circles_for, rephas_len, wants_circles}
use Rattle.shapers_syllabic.specs.declared.ot_shaper_syllabic.circles.DottedCircles.{DottedCircles}
use Rattle.shapers_syllabic.specs.Reordering.{script_circles}
use Rattle.shapers_syllabic.specs.Syllabic.{unsafe_spans}
use Rattle.rustybuzz_shapers.specs.FoundSyllables.{PauseRun, RefusesFound}
use Rattle.rustybuzz_shapers.specs.Monotone.{AtMostOneRepha, CirclesStayMonotone}
use Rattle.rustybuzz_shapers.specs.Pauses.{RefusesReordering}
use Rattle.rustybuzz_shapers.specs.declared.shaper.checked.CallError.TheVariants as call
use Rattle.shapers_plan.specs.declared.ot_map.lookups.Stage.{Stage}
use Rattle.shapers_plan.specs.declared.ot_map.lookups.StageLookup.{StageLookup}
use Rattle.shapers_pipeline.specs.ClusterLaws.{AtPauses, IfPaused, PauseSorts}
use Rattle.shapers_pipeline.specs.Lookups.{LookupRefusals, StoppedIn, looked_up, lookups_of_stage}
use Rattle.shapers_pipeline.specs.Stages.{PauseRunIf, PauseStoppedIf, StageStopped, StagesRun, StagesStopped, Substitution, stage_looked_up}
use Rattle.shapers_found_laws.specs.FoundPauses.{AreStagesOf, FoundCirclesSort, FoundPausesSort, FoundStagesKnow, LookupsGainNone, ends_reordering, reorders}
use Rattle.shapers_found_laws.specs.FoundSyllables.{AtMostOneEach, in_spans}
use Rattle.shapers_found_laws.proofs.FoundOpenings.{flags-gain, set-up-at-most-one}
use Rattle.shapers_found_laws.proofs.KeptCategories.{Gains, IsUnknown, kept-at-most-one, khmer-kinds, myanmar-kinds, none-at, none-unknown, opens-with-one}
use Rattle.shapers_found_laws.proofs.OnceInRules.{khmer-few}

-- ---- lookups

gained : (k : ℕ) (f : StageLookup → Buffer → Buffer) → LookupsGainNone k f → (list : List StageLookup) (b : Buffer)
    → AtMostOneEach k b.glyphs → AtMostOneEach k (looked_up f list b).glyphs
gained k f gains [] b few = few
gained k f gains (x ∷ xs) b few =
    gained k f gains xs (f x b) (kept-at-most-one k b.glyphs (f x b).glyphs (gains x b) few)

-- ---- circles

no-rephas : (ps : List Glyphs) → AllByRecursion (λ syllable. rephas_len None syllable ≤ 1) ps
no-rephas [] = tt
no-rephas (p ∷ ps) = (lit≤ tt, no-rephas ps)

one-repha : (circle : DottedCircles) (gs : Glyphs) → AllByRecursion (λ s. rephas_len circle.repha s ≤ 1) (syllables gs)
    → (wanted : Bool) → AtMostOneRepha (if wanted then Some circle else None) gs
one-repha circle gs few true = few
one-repha circle gs few false = tt

pub circles-behind : (glyph : Option GlyphId) (kind category : ℕ) (repha place : Option ℕ) (b : Buffer)
    → AllByRecursion (λ s. rephas_len repha s ≤ 1) (syllables b.glyphs)
    → AtMostOneRepha (circles_for glyph kind category repha place b) b.glyphs
circles-behind None kind category repha place b few = tt
circles-behind (Some glyph) kind category repha place b few = one-repha _ b.glyphs few (wants_circles b)

khmer-few-behind : (font : Font) (b : Buffer) → AtMostOneEach 14 b.glyphs
    → AtMostOneRepha (script_circles khmer_circles font b) b.glyphs
khmer-few-behind font b few =
    let k = khmer_circles in
    circles-behind (font.nominal dotted_circle) k.broken_kind k.category k.repha k.position b
    (opens-with-one 14 b.glyphs few)

myanmar-few-behind : (font : Font) (b : Buffer) → AtMostOneRepha (script_circles myanmar_circles font b) b.glyphs
myanmar-few-behind font b =
    let k = myanmar_circles in
    circles-behind (font.nominal dotted_circle) k.broken_kind k.category k.repha k.position b
    (no-rephas (syllables b.glyphs))

-- ---- pauses that reorder nothing

pub others-sort : (plan : hb_ot_shape_plan_t) (font : Font) (pause : Pause) (old new : Buffer) → reorders pause ≡ false
    → PauseSorts plan font pause old new
others-sort plan font SetupSyllablesIndic old new plain = inl (refl, tt)
others-sort plan font SetupSyllablesKhmer old new plain = inl (refl, tt)
others-sort plan font SetupSyllablesMyanmar old new plain = inl (refl, tt)
others-sort plan font SetupSyllablesUse old new plain = inl (refl, tt)
others-sort plan font InitialReordering old new plain = absurd (false≢true (sym plain))
others-sort plan font ReorderKhmer old new plain = absurd (false≢true (sym plain))
others-sort plan font ReorderMyanmar old new plain = absurd (false≢true (sym plain))
others-sort plan font ReorderUse old new plain = absurd (false≢true (sym plain))
others-sort plan font FinalReordering old new plain = absurd (false≢true (sym plain))
others-sort plan font RecordStch old new plain = inl (refl, tt)
others-sort plan font RecordRphf old new plain = inl (refl, tt)
others-sort plan font RecordPref old new plain = inl (refl, tt)
others-sort plan font SyllabicClearVar old new plain = inl (refl, tt)
others-sort plan font ClearSubstitutionFlags old new plain = inl (refl, tt)
others-sort plan font ArabicFallbackShape old new plain = inl (refl, tt)

if-sort : (plan : hb_ot_shape_plan_t) (font : Font) (pause : Option Pause) (old new : Buffer)
    → option_map_or reorders pause false ≡ false → IfPaused (PauseSorts plan font) pause old new
if-sort plan font None old new plain = tt
if-sort plan font (Some pause) old new plain = others-sort plan font pause old new plain

pub behind-sort : (r : Substitution) (ss : List Stage) (old new : Buffer) → list_any ends_reordering ss ≡ false
    → (run : StagesRun r ss old new) → AtPauses (PauseSorts r.plan r.font) r ss old new run
behind-sort r [] old new plain run = tt
behind-sort r (s ∷ ss) old new plain run =
    let p = or_parts (ends_reordering s) (list_any ends_reordering ss) plain in
    (if-sort r.plan r.font s.pause (stage_looked_up r s old) run.0 p.0, behind-sort r ss run.0 new p.1 run.1.1)

-- ---- the stages of a shaper

pub paused-by : (plan : hb_ot_shape_plan_t) (font : Font) (pause : Option Pause) (setup : Pause) (old new : Buffer)
    → pause ≡ Some setup → PauseRunIf pause plan font old new → PauseRun setup plan font old new
paused-by plan font pause setup old new is run = subst (λ p. PauseRunIf p plan font old new) is run

pub sorts-by : (plan : hb_ot_shape_plan_t) (font : Font) (pause : Option Pause) (own : Pause) (old new : Buffer)
    → pause ≡ Some own → PauseSorts plan font own old new → IfPaused (PauseSorts plan font) pause old new
sorts-by plan font pause own old new is sorts = subst (λ p. IfPaused (PauseSorts plan font) p old new) (sym is) sorts

khmer-set-up : (plan : hb_ot_shape_plan_t) (font : Font) (old mid : Buffer)
    → PauseRun SetupSyllablesKhmer plan font old mid → AtMostOneEach 14 mid.glyphs
khmer-set-up plan font old mid run =
    subst (λ (b : Buffer). AtMostOneEach 14 b.glyphs) (sym run.paused)
    (set-up-at-most-one khmer_grammar 14 khmer-few old.glyphs run.spans run.found)

pub khmer-pauses : FoundPausesSort SetupSyllablesKhmer ReorderKhmer 14
khmer-pauses r first second behind old new are run =
    let looked = stage_looked_up r first old in
    let mid = run.0 in
    let few = khmer-set-up r.plan r.font looked mid
    (paused-by r.plan r.font first.pause SetupSyllablesKhmer looked mid are.set_up run.1.0) in
    let text = stage_looked_up r second mid in
    let next = run.1.1 in (
      sorts-by r.plan r.font first.pause SetupSyllablesKhmer looked mid are.set_up
          (others-sort r.plan r.font SetupSyllablesKhmer looked mid refl),
      (
        sorts-by r.plan r.font second.pause ReorderKhmer text next.0 are.reordered
            (inl (
              refl,
              khmer-few-behind r.font text
                  (gained 14 r.substituted are.lookups (lookups_of_stage second r.list) mid few),
            )),
        behind-sort r behind next.0 new are.others next.1.1,
      ),
    )

pub myanmar-pauses : FoundPausesSort SetupSyllablesMyanmar ReorderMyanmar 14
myanmar-pauses r first second behind old new are run =
    let looked = stage_looked_up r first old in
    let mid = run.0 in
    let text = stage_looked_up r second mid in
    let next = run.1.1 in (
      sorts-by r.plan r.font first.pause SetupSyllablesMyanmar looked mid are.set_up
          (others-sort r.plan r.font SetupSyllablesMyanmar looked mid refl),
      (
        sorts-by r.plan r.font second.pause ReorderMyanmar text next.0 are.reordered
            (inl (refl, myanmar-few-behind r.font text)),
        behind-sort r behind next.0 new are.others next.1.1,
      ),
    )

-- ---- circles

pub circles-sort : CirclesStayMonotone → (glyph : Option GlyphId) (kind category : ℕ) (repha place : Option ℕ) (b : Buffer)
    → AllByRecursion (λ s. rephas_len repha s ≤ 1) (syllables b.glyphs) → IsMonotone (clusters b.glyphs)
    → IsMonotone (clusters (circled (circles_for glyph kind category repha place b) b.glyphs))
circles-sort law None kind category repha place b few sorted = sorted
circles-sort law (Some glyph) kind category repha place b few sorted = by (wants_circles b) sorted
  where
    circle : DottedCircles
    circle = record {
      broken_kind = kind;
      circle = record default_glyph
          { glyph_id = glyph.0; category = category; auxiliary = unwrap_or place 0 };
      repha = repha;
    }

    by : (wanted : Bool) → IsMonotone (clusters b.glyphs)
        → IsMonotone (clusters (circled (if wanted then Some circle else None) b.glyphs))
    by false sorted = sorted
    by true (inl up) = inl ((law circle b.glyphs few).0 up)
    by true (inr down) = inr ((law circle b.glyphs few).1 down)

pub khmer-circles-sort : CirclesStayMonotone → FoundCirclesSort SetupSyllablesKhmer ReorderKhmer 14
khmer-circles-sort law r first second behind old mid are run sorted =
    let looked = stage_looked_up r first old in
    let text = stage_looked_up r second mid in
    let few = khmer-set-up r.plan r.font looked mid
    (paused-by r.plan r.font first.pause SetupSyllablesKhmer looked mid are.set_up run) in
    let k = khmer_circles in
    circles-sort law (r.font.nominal dotted_circle) k.broken_kind k.category k.repha k.position text
    (opens-with-one 14 text.glyphs (gained 14 r.substituted are.lookups (lookups_of_stage second r.list) mid few)) sorted

pub myanmar-circles-sort : CirclesStayMonotone → FoundCirclesSort SetupSyllablesMyanmar ReorderMyanmar 14
myanmar-circles-sort law r first second behind old mid are run sorted =
    let text = stage_looked_up r second mid in
    let k = myanmar_circles in
    circles-sort law (r.font.nominal dotted_circle) k.broken_kind k.category k.repha k.position text
    (no-rephas (syllables text.glyphs)) sorted

-- ---- kinds of syllables, which no such lookup changes

abbrev pub AreKnown : ℕ → Glyphs → Type 0
AreKnown last gs = list_any (IsUnknown last) gs ≡ false

same-unknown : (k last : ℕ) (gs hs : Glyphs) → Gains k gs hs
    → list_any (IsUnknown last) hs ≡ list_any (IsUnknown last) gs
same-unknown k last [] [] all = refl
same-unknown k last [] (h ∷ hs) all = absurd all
same-unknown k last (g ∷ gs) [] all = absurd all
same-unknown k last (g ∷ gs) (h ∷ hs) all =
    ap (λ byte. nat_lt last (kind_of byte) || list_any (IsUnknown last) hs) all.0.byte
    ∙ ap (λ b. IsUnknown last g || b) (same-unknown k last gs hs all.1)

known-looked : (k last : ℕ) (f : StageLookup → Buffer → Buffer) → LookupsGainNone k f → (list : List StageLookup)
    (b : Buffer) → AreKnown last b.glyphs → AreKnown last (looked_up f list b).glyphs
known-looked k last f gains [] b known = known
known-looked k last f gains (x ∷ xs) b known =
    known-looked k last f gains xs (f x b) (same-unknown k last b.glyphs (f x b).glyphs (gains x b) ∙ known)

pub known-spans : (last : ℕ) (gs : Glyphs) (spans : List Span) → last ≤ 15 → spans_cover (length gs) spans ≡ true
    → All (λ (s : Span). s.kind ≤ last) spans → AreKnown last (unsafe_spans spans gs)
known-spans last gs spans low cover kinds =
    same-unknown 0 last (in_spans gs spans) (unsafe_spans spans gs) (flags-gain 0 (in_spans gs spans))
    ∙ none-unknown last gs spans low cover (recursion_from_All (λ (s : Span). s.kind ≤ last) spans kinds)

khmer-known : (plan : hb_ot_shape_plan_t) (font : Font) (old mid : Buffer)
    → PauseRun SetupSyllablesKhmer plan font old mid → AreKnown 2 mid.glyphs
khmer-known plan font old mid run =
    subst (λ (b : Buffer). AreKnown 2 b.glyphs) (sym run.paused)
    (known-spans 2 old.glyphs run.spans (lit≤ tt) run.found.cover (khmer-kinds old.glyphs run.spans run.found).0)

myanmar-known : (plan : hb_ot_shape_plan_t) (font : Font) (old mid : Buffer)
    → PauseRun SetupSyllablesMyanmar plan font old mid → AreKnown 3 mid.glyphs
myanmar-known plan font old mid run =
    subst (λ (b : Buffer). AreKnown 3 b.glyphs) (sym run.paused)
    (known-spans 3 old.glyphs run.spans (lit≤ tt) run.found.cover (myanmar-kinds old.glyphs run.spans run.found).0)

-- ---- refusals

lookups-know : (f : StageLookup → Buffer → Buffer) (refusals : StageLookup → Buffer → LookupRefusals)
    (list : List StageLookup) (old left : Buffer) (place : ℕ)
    → StoppedIn f refusals list old left (UnknownSyllable place) → ⊥
lookups-know f refusals [] old left place stopped = stopped
lookups-know f refusals (x ∷ xs) old left place (inl stopped) = stopped.0
lookups-know f refusals (x ∷ xs) old left place (inr later) = lookups-know f refusals xs (f x old) left place later

pub reordering-knows : (last : ℕ) (circles : Option DottedCircles) (b : Buffer) (place : ℕ) → AreKnown last b.glyphs
    → RefusesReordering {T = Bool} (unknown_refusal last b.glyphs) circles b (Err (UnknownSyllable place)) → ⊥
reordering-knows last circles b place known refused =
    let none : unknown_refusal last b.glyphs ≡ None =
    ap (option_map (λ p. UnknownSyllable p)) (none-at (IsUnknown last) b.glyphs known) in
    (subst (λ u. RefusesReordering {T = Bool} u circles b (Err (UnknownSyllable place))) none refused).0

pub never-so : (place : ℕ) → IsOk {T = Bool} (Err (UnknownSyllable place)) → ⊥
never-so place ok = false≢true ok

others-know : (font : Font) (pause : Pause) (b : Buffer) (place : ℕ) → reorders pause ≡ false
    → RefusesFound {T = Bool} pause font b (Err (UnknownSyllable place)) → ⊥
others-know font SetupSyllablesIndic b place plain refused = never-so place refused
others-know font SetupSyllablesKhmer b place plain refused = never-so place refused
others-know font SetupSyllablesMyanmar b place plain refused = never-so place refused
others-know font SetupSyllablesUse b place plain refused = never-so place refused
others-know font InitialReordering b place plain refused = false≢true (sym plain)
others-know font ReorderKhmer b place plain refused = false≢true (sym plain)
others-know font ReorderMyanmar b place plain refused = false≢true (sym plain)
others-know font ReorderUse b place plain refused = false≢true (sym plain)
others-know font FinalReordering b place plain refused = false≢true (sym plain)
others-know font RecordStch b place plain refused = never-so place refused
others-know font RecordRphf b place plain refused = never-so place refused
others-know font RecordPref b place plain refused = never-so place refused
others-know font SyllabicClearVar b place plain refused = never-so place refused
others-know font ClearSubstitutionFlags b place plain refused = never-so place refused
others-know font ArabicFallbackShape b place plain refused = never-so place refused

-- a pause that a stage has doesn't stop it so
abbrev pub PauseKnows : Option Pause → hb_ot_shape_plan_t → Font → Buffer → Type 0
PauseKnows pause plan font b = (place : ℕ) → PauseStoppedIf pause plan font b (call.Refused (UnknownSyllable place)) → ⊥

if-knows : (plan : hb_ot_shape_plan_t) (font : Font) (pause : Option Pause) (b : Buffer)
    → option_map_or reorders pause false ≡ false → PauseKnows pause plan font b
if-knows plan font None b plain = λ place stopped. stopped
if-knows plan font (Some pause) b plain = λ place stopped. others-know font pause b place plain stopped.1

pub knows-by : (plan : hb_ot_shape_plan_t) (font : Font) (pause : Option Pause) (own : Pause) (b : Buffer) → pause ≡ Some own
    → PauseKnows (Some own) plan font b → PauseKnows pause plan font b
knows-by plan font pause own b is knows = subst (λ p. PauseKnows p plan font b) (sym is) knows

pub stage-knows : (r : Substitution) (refusals : StageLookup → Buffer → LookupRefusals) (s : Stage) (old left : Buffer)
    (place : ℕ) → PauseKnows s.pause r.plan r.font (stage_looked_up r s old)
    → StageStopped r refusals s old left (call.Refused (UnknownSyllable place)) → ⊥
stage-knows r refusals s old left place knows (inl stopped) =
    lookups-know r.substituted refusals (lookups_of_stage s r.list) old left place stopped
stage-knows r refusals s old left place knows (inr stopped) = knows place stopped.0

behind-know : (r : Substitution) (refusals : StageLookup → Buffer → LookupRefusals) (ss : List Stage)
    (old left : Buffer) (place : ℕ) → list_any ends_reordering ss ≡ false
    → StagesStopped r refusals ss old left (call.Refused (UnknownSyllable place)) → ⊥
behind-know r refusals [] old left place plain stopped = stopped
behind-know r refusals (s ∷ ss) old left place plain (inl stopped) =
    let p = or_parts (ends_reordering s) (list_any ends_reordering ss) plain in
    stage-knows r refusals s old left place (if-knows r.plan r.font s.pause (stage_looked_up r s old) p.0) stopped
behind-know r refusals (s ∷ ss) old left place plain (inr later) =
    let p = or_parts (ends_reordering s) (list_any ends_reordering ss) plain in
    behind-know r refusals ss later.0 left place p.1 later.1.1

-- a set-up, the reordering of what it leaves, which knows its syllables, and stages that reorder nothing
from-set-up : (setup own : Pause) (k : ℕ) → reorders setup ≡ false → (r : Substitution)
    (refusals : StageLookup → Buffer → LookupRefusals) (first second : Stage) (behind : List Stage) (old left : Buffer)
    (place : ℕ) → AreStagesOf setup own k r first second behind
    → ((mid : Buffer) → PauseRun setup r.plan r.font (stage_looked_up r first old) mid
    → PauseKnows (Some own) r.plan r.font (stage_looked_up r second mid))
    → StagesStopped r refusals (first ∷ (second ∷ behind)) old left (call.Refused (UnknownSyllable place)) → ⊥
from-set-up setup own k plain r refusals first second behind old left place are knows (inl stopped) =
    let looked = stage_looked_up r first old in
    stage-knows r refusals first old left place
    (knows-by r.plan r.font first.pause setup looked are.set_up (λ place stopped. others-know r.font setup looked place plain stopped.1))
    stopped
from-set-up setup own k plain r refusals first second behind old left place are knows (inr (mid, (run, inl stopped))) =
    let setup_run = paused-by r.plan r.font first.pause setup (stage_looked_up r first old) mid are.set_up run in
    stage-knows r refusals second mid left place
    (knows-by r.plan r.font second.pause own (stage_looked_up r second mid) are.reordered (knows mid setup_run)) stopped
from-set-up setup own k plain r refusals first second behind old left place are knows (inr (mid, (run, inr later))) =
    behind-know r refusals behind later.0 left place are.others later.1.1

pub khmer-stages : FoundStagesKnow SetupSyllablesKhmer ReorderKhmer 14
khmer-stages r refusals first second behind old left place are stopped =
    from-set-up SetupSyllablesKhmer ReorderKhmer 14 refl r refusals first second behind old left place are
    (λ mid run place stopped. reordering-knows 2 _ (stage_looked_up r second mid) place
    (known-looked 14 2 r.substituted are.lookups (lookups_of_stage second r.list) mid
    (khmer-known r.plan r.font (stage_looked_up r first old) mid run)) stopped.1)
    stopped

pub myanmar-stages : FoundStagesKnow SetupSyllablesMyanmar ReorderMyanmar 14
myanmar-stages r refusals first second behind old left place are stopped =
    from-set-up SetupSyllablesMyanmar ReorderMyanmar 14 refl r refusals first second behind old left place are
    (λ mid run place stopped. reordering-knows 3 _ (stage_looked_up r second mid) place
    (known-looked 14 3 r.substituted are.lookups (lookups_of_stage second r.list) mid
    (myanmar-known r.plan r.font (stage_looked_up r first old) mid run)) stopped.1)
    stopped
