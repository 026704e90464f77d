-- How long stages make a text, and what comes behind them.
use Rattle.std.proofs.Common.{◌≡◌, ◌∙◌, ℕ, ◌+◌, ◌-◌, ◌*◌, ◌<◌, ◌≤◌, ◌≢◌, Bool, true, false, List, [], ◌∷◌, take, drop, get_or, inl, inr, length, map, refl, sym, ap, subst, arith}
use Rattle.std.specs.Prelude.{IfErr, IsOk, OnOk, Option, None, Some, Result, Ok, Err, option_map}
use Rattle.std.specs.Option.{option_map_or}
use Rattle.std.specs.Result.{IsErrAnd}
use Rattle.std.proofs.Math.Nat.{le-mul_of_pos_right, le_refl, le_trans, mul-le-mul_right}
use Rattle.std.proofs.lemmas.Bool.{false≢true}
use Rattle.std.proofs.lemmas.Result.{err_from_is_err_and}
use Rattle.std.proofs.lemmas.List.{length-map}
use Rattle.std.proofs.lemmas.List.Elements.{length_all_zip}
use Rattle.std.proofs.lemmas.List.Sorted.{length_permutation}
use Rattle.shapers_base.specs.Font.{Font}
use Rattle.shapers_base.specs.declared.plan.hb_ot_shape_plan_t.{hb_ot_shape_plan_t}
use Rattle.shapers_base.specs.declared.plan.pause.Pause.{Pause}
use Rattle.shapers_base.specs.declared.plan.pause.Pause.TheVariants.{SetupSyllablesIndic, SetupSyllablesKhmer, SetupSyllablesMyanmar, SetupSyllablesUse, InitialReordering, ReorderKhmer, ReorderMyanmar, ReorderUse, FinalReordering, RecordStch, RecordRphf, RecordPref, SyllabicClearVar, ClearSubstitutionFlags, ArabicFallbackShape}
use Rattle.shapers_buffer.specs.Buffer.{Buffer}
use Rattle.shapers_buffer.specs.Refusals.{RefusesLength}
use Rattle.shapers_buffer.specs.Syllables.{unknown_syllable}
use Rattle.shapers_buffer.specs.Glyphs.{Glyph, Glyphs}
use Rattle.shapers_buffer.specs.declared.buffer.refusal.ShaperError.{ShaperError}
use Rattle.shapers_buffer.specs.declared.buffer.refusal.ShaperError.TheVariants.{Memory, TooLong, UnknownSyllable, SpansDontCover, StretchOverflow}
use Rattle.shapers_buffer.specs.declared.buffer.syllables.Span.{Span}
use Rattle.shapers_clusters.specs.FlagLaw.{FlagsAdded, OnlyFlagsAdded}
use Rattle.rustybuzz_shapers.proofs.Lengths.{few_circles}
use Rattle.shapers_syllabic.specs.Circles.{circled}
use Rattle.shapers_syllabic.specs.declared.ot_shaper_syllabic.circles.DottedCircles.{DottedCircles}
use Rattle.shapers_syllabic.proofs.CircleLaws.{length-with_circles}
use Rattle.shapers_plan.specs.declared.ot_map.lookups.Stage.{Stage}
use Rattle.shapers_plan.specs.declared.ot_map.lookups.StageLookup.{StageLookup}
use Rattle.rustybuzz_shapers.specs.Lengths.{pause_growth}
use Rattle.rustybuzz_shapers.specs.Checked.{AsRefused}
use Rattle.rustybuzz_shapers.specs.FoundSyllables.{RefusesFound}
use Rattle.rustybuzz_shapers.specs.Pauses.{PauseKeeps, RefusesReordering, pause_circles}
use Rattle.rustybuzz_shapers.specs.declared.shaper.checked.CallError.{CallError}
use Rattle.rustybuzz_shapers.specs.declared.shaper.checked.CallError.TheVariants as call
use Rattle.rustybuzz_shapers.specs.declared.shaper.hb_ot_shaper_t.{hb_ot_shaper_t}
use Rattle.shapers_clusters.proofs.GroupWalk.{next_at}
use Rattle.shapers_pipeline.specs.ClusterLaws.{LookupsKeep}
use Rattle.shapers_pipeline.specs.Lengths.{FinishGrows, LookupsGrow, PreparationGrows, ShapingGrows, StagesGrow, looked_up_bound, prepared_bound, shaped_bound, stage_bound, stages_bound}
use Rattle.shapers_pipeline.specs.Lookups.{LookupRefusals, MayRefuse, StoppedIn, looked_up, lookups_of_stage, text_noted}
use Rattle.shapers_pipeline.specs.Prepared.{text_prepared}
use Rattle.shapers_pipeline.specs.Stages.{PauseRunIf, StageRun, StageStopped, StagesRun, StagesStopped, Substitution, stage_looked_up}
use Rattle.shapers_pipeline.proofs.Pausing.{pause_positions}

-- a stage that ends where it starts, or before, has no lookups
pub no_lookups : (s : Stage) (list : List StageLookup) → s.end ≤ s.start → lookups_of_stage s list ≡ []
no_lookups s list none =
    let few : s.end - s.start ≡ 0 = omega arith in
    ap (λ n. take n (drop s.start list)) few

-- no lookups change nothing
pub nothing_looked_up : (f : StageLookup → Buffer → Buffer) (list : List StageLookup) (b : Buffer)
    → length list ≡ 0 → looked_up f list b ≡ b
nothing_looked_up f [] b none = refl
nothing_looked_up f (x ∷ xs) b none = absurd (omega arith)

pub nothing_grown : (growth : StageLookup → ℕ) (list : List StageLookup) (n : ℕ) → length list ≡ 0
    → looked_up_bound growth list n ≡ n
nothing_grown growth [] n none = refl
nothing_grown growth (x ∷ xs) n none = absurd (omega arith)

-- ---- bounds

-- a bound of a longer text is no less
pub looked_up_more : (growth : StageLookup → ℕ) (list : List StageLookup) (n m : ℕ) → n ≤ m →
    looked_up_bound growth list n ≤ looked_up_bound growth list m
looked_up_more growth [] n m few = few
looked_up_more growth (x ∷ xs) n m few =
    looked_up_more growth xs (n * growth x) (m * growth x) (mul-le-mul_right (growth x) few)

pub stage_more : (growth : StageLookup → ℕ) (list : List StageLookup) (s : Stage) (n m : ℕ) → n ≤ m →
    stage_bound growth list n s ≤ stage_bound growth list m s
stage_more growth list s n m few =
    mul-le-mul_right (option_map_or pause_growth s.pause 1)
    (looked_up_more growth (lookups_of_stage s list) n m few)

pub stages_more : (growth : StageLookup → ℕ) (list : List StageLookup) (ss : List Stage) (n m : ℕ) → n ≤ m →
    stages_bound growth list ss n ≤ stages_bound growth list ss m
stages_more growth list [] n m few = few
stages_more growth list (s ∷ ss) n m few =
    stages_more growth list ss (stage_bound growth list n s) (stage_bound growth list m s)
    (stage_more growth list s n m few)

-- and none is less than the text, where each lookup makes it once as long at least
pub looked_up_least : (growth : StageLookup → ℕ) → ((lookup : StageLookup) → 0 < growth lookup) →
    (list : List StageLookup) (n : ℕ) → n ≤ looked_up_bound growth list n
looked_up_least growth some [] n = le_refl n
looked_up_least growth some (x ∷ xs) n =
    le_trans (le-mul_of_pos_right n (some x)) (looked_up_least growth some xs (n * growth x))

pub pause_some : (pause : Option Pause) → 0 < option_map_or pause_growth pause 1
pause_some None = omega arith
pause_some (Some SetupSyllablesIndic) = omega arith
pause_some (Some SetupSyllablesKhmer) = omega arith
pause_some (Some SetupSyllablesMyanmar) = omega arith
pause_some (Some SetupSyllablesUse) = omega arith
pause_some (Some InitialReordering) = omega arith
pause_some (Some ReorderKhmer) = omega arith
pause_some (Some ReorderMyanmar) = omega arith
pause_some (Some ReorderUse) = omega arith
pause_some (Some FinalReordering) = omega arith
pause_some (Some RecordStch) = omega arith
pause_some (Some RecordRphf) = omega arith
pause_some (Some RecordPref) = omega arith
pause_some (Some SyllabicClearVar) = omega arith
pause_some (Some ClearSubstitutionFlags) = omega arith
pause_some (Some ArabicFallbackShape) = omega arith

pub stage_least : (growth : StageLookup → ℕ) → ((lookup : StageLookup) → 0 < growth lookup) →
    (list : List StageLookup) (s : Stage) (n : ℕ) → n ≤ stage_bound growth list n s
stage_least growth some list s n =
    le_trans (looked_up_least growth some (lookups_of_stage s list) n)
    (le-mul_of_pos_right (looked_up_bound growth (lookups_of_stage s list) n) (pause_some s.pause))

pub stages_least : (growth : StageLookup → ℕ) → ((lookup : StageLookup) → 0 < growth lookup) →
    (list : List StageLookup) (ss : List Stage) (n : ℕ) → n ≤ stages_bound growth list ss n
stages_least growth some list [] n = le_refl n
stages_least growth some list (s ∷ ss) n =
    le_trans (stage_least growth some list s n) (stages_least growth some list ss (stage_bound growth list n s))

-- ---- lookups

looked_long : (f : StageLookup → Buffer → Buffer) (growth : StageLookup → ℕ) → LookupsKeep f → LookupsGrow growth f →
    (list : List StageLookup) (b : Buffer) → b.positions ≡ [] →
    ((looked_up f list b).positions ≡ [])
    × (length (looked_up f list b).glyphs ≤ looked_up_bound growth list (length b.glyphs))
looked_long f growth keeps grows [] b none = (none, le_refl (length b.glyphs))
looked_long f growth keeps grows (x ∷ xs) b none =
    let still : (f x b).positions ≡ [] = ap (λ c. c.positions) (keeps x b none).others ∙ none in
    let rest = looked_long f growth keeps grows xs (f x b) still in (
      rest.0,
      le_trans rest.1
          (looked_up_more growth xs (length (f x b).glyphs) (length b.glyphs * growth x) (grows x b none).few),
    )

-- the limit on its length stays, as far as the lookups went
looked_limit : (f : StageLookup → Buffer → Buffer) → LookupsKeep f → (list : List StageLookup) (b : Buffer) →
    b.positions ≡ [] → (looked_up f list b).max_len ≡ b.max_len
looked_limit f keeps [] b none = refl
looked_limit f keeps (x ∷ xs) b none =
    let kept = (keeps x b none).others in
    looked_limit f keeps xs (f x b) (ap (λ c. c.positions) kept ∙ none) ∙ ap (λ c. c.max_len) kept

stopped_limit : (f : StageLookup → Buffer → Buffer) (refusals : StageLookup → Buffer → LookupRefusals) → LookupsKeep f →
    (list : List StageLookup) (old new : Buffer) (e : ShaperError) → old.positions ≡ [] →
    StoppedIn f refusals list old new e → new.max_len ≡ old.max_len
stopped_limit f refusals keeps [] old new e none stopped = absurd stopped
stopped_limit f refusals keeps (x ∷ xs) old new e none stopped =
    let kept = (keeps x old none).others in elim stopped [
      | inl here ↦ ap (λ (c : Buffer). c.max_len) here.1
      | inr later ↦ stopped_limit f refusals keeps xs (f x old) new e (ap (λ c. c.positions) kept ∙ none) later
          ∙ ap (λ c. c.max_len) kept
    ]

pub all_limit : (f : StageLookup → Buffer → Buffer) (refusals : StageLookup → Buffer → LookupRefusals) → LookupsKeep f →
    (list : List StageLookup) (old new : Buffer) (r : Result (Unit {0}) ShaperError) → old.positions ≡ [] →
    OnOk r (new ≡ looked_up f list old) → IfErr r (λ e. StoppedIn f refusals list old new e) → new.max_len ≡ old.max_len
all_limit f refusals keeps list old new (Ok x) none done stopped =
    ap (λ (c : Buffer). c.max_len) done ∙ looked_limit f keeps list old none
all_limit f refusals keeps list old new (Err e) none done stopped =
    stopped_limit f refusals keeps list old new e none stopped

pub all_unplaced : (f : StageLookup → Buffer → Buffer) (growth : StageLookup → ℕ) → LookupsKeep f → LookupsGrow growth f →
    (list : List StageLookup) (old new : Buffer) (r : Result (Unit {0}) ShaperError) → old.positions ≡ [] →
    OnOk r (new ≡ looked_up f list old) → OnOk r (new.positions ≡ [])
all_unplaced f growth keeps grows list old new (Ok x) none done =
    ap (λ (c : Buffer). c.positions) done ∙ (looked_long f growth keeps grows list old none).0
all_unplaced f growth keeps grows list old new (Err e) none done = tt

pub all_long : (f : StageLookup → Buffer → Buffer) (growth : StageLookup → ℕ) → LookupsKeep f → LookupsGrow growth f →
    (list : List StageLookup) (old new : Buffer) (r : Result (Unit {0}) ShaperError) → old.positions ≡ [] →
    OnOk r (new ≡ looked_up f list old) → OnOk r (length new.glyphs ≤ looked_up_bound growth list (length old.glyphs))
all_long f growth keeps grows list old new (Ok x) none done =
    subst (λ (c : Buffer). length c.glyphs ≤ looked_up_bound growth list (length old.glyphs)) (sym done)
    (looked_long f growth keeps grows list old none).1
all_long f growth keeps grows list old new (Err e) none done = tt

-- ---- pauses

-- with its circles
circled_twice : (circles : Option DottedCircles) (gs ms : Glyphs) →
    length ms ≡ length (circled circles gs) → length ms ≤ length gs * 2
circled_twice None gs ms same = omega (arith, same)
circled_twice (Some rule) gs ms same = omega (arith, same, length-with_circles rule gs, few_circles (Some rule) gs)

-- with flags alone
flagged_once : (gs ms : Glyphs) → OnlyFlagsAdded gs ms → length ms ≤ length gs * 1
flagged_once gs ms added = omega (arith, length_all_zip FlagsAdded gs ms added)

pub pause_long : (pause : Pause) (plan : hb_ot_shape_plan_t) (font : Font) (spans : List Span) (old new : Buffer) →
    PauseKeeps pause plan font spans old new → length new.glyphs ≤ length old.glyphs * pause_growth pause
pause_long SetupSyllablesIndic plan font spans old new k = flagged_once old.glyphs new.glyphs k.2
pause_long SetupSyllablesKhmer plan font spans old new k = flagged_once old.glyphs new.glyphs k.2
pause_long SetupSyllablesMyanmar plan font spans old new k = flagged_once old.glyphs new.glyphs k.2
pause_long SetupSyllablesUse plan font spans old new k = flagged_once old.glyphs new.glyphs k.2
pause_long InitialReordering plan font spans old new k =
    circled_twice (pause_circles InitialReordering plan font old) old.glyphs new.glyphs k.0.text.glyphs.same_length
pause_long ReorderKhmer plan font spans old new k =
    circled_twice (pause_circles ReorderKhmer plan font old) old.glyphs new.glyphs k.0.text.glyphs.same_length
pause_long ReorderMyanmar plan font spans old new k =
    circled_twice (pause_circles ReorderMyanmar plan font old) old.glyphs new.glyphs k.0.text.glyphs.same_length
pause_long ReorderUse plan font spans old new k =
    circled_twice (pause_circles ReorderUse plan font old) old.glyphs new.glyphs k.0.text.glyphs.same_length
pause_long FinalReordering plan font spans old new k =
    let number = λ (g : Glyph). g.glyph_id in
    omega (
      arith,
      length_permutation (map number old.glyphs) (map number new.glyphs) k.0.numbers,
      length-map old.glyphs number,
      length-map new.glyphs number,
    )
pause_long RecordStch plan font spans old new k = flagged_once old.glyphs new.glyphs k
pause_long RecordRphf plan font spans old new k = flagged_once old.glyphs new.glyphs k
pause_long RecordPref plan font spans old new k = flagged_once old.glyphs new.glyphs k
pause_long SyllabicClearVar plan font spans old new k = flagged_once old.glyphs new.glyphs k
pause_long ClearSubstitutionFlags plan font spans old new k = flagged_once old.glyphs new.glyphs k
pause_long ArabicFallbackShape plan font spans old new k = flagged_once old.glyphs new.glyphs k

-- ---- room

-- what `?` hands on
pub passed_on : {T E : Type 0} (r : Result T E) (x y : E) → IsErrAnd r (λ z. z ≡ x) → r ≡ Err y → x ≡ y
passed_on r x y told e =
    let (z, is, own) = err_from_is_err_and r told in
    let one : z ≡ y = cc in
    sym own ∙ one

-- and what holds of it
pub told_error : {T E : Type 0} (r : Result T E) (x : E) (P : E → Type 0) → IsErrAnd r (λ z. z ≡ x) → P x → IfErr r P
told_error r x P told p =
    let (z, is, own) = err_from_is_err_and r told in
    subst (λ q. IfErr q P) (sym is) (subst P (sym own) p)

pub passed_error : (x : CallError) → x ≡ call.Refused TooLong →
    (let r : Result (Unit {0}) CallError = Err x in r ≡ Err (call.Refused TooLong))
passed_error x is = ap (λ (y : CallError). let r : Result (Unit {0}) CallError = Err y in r) is

-- what the lookups that are left make of a text, by the next one
pub looked_next : (f : StageLookup → Buffer → Buffer) (list : List StageLookup) (i : ℕ) (d : StageLookup)
    (old new : Buffer) → i < length list → new ≡ f (get_or list i d) old →
    looked_up f (drop (i + 1) list) new ≡ looked_up f (drop i list) old
looked_next f list i d old new within is =
    ap (looked_up f (drop (i + 1) list)) is ∙ sym (ap (λ xs. looked_up f xs old) (next_at list i d within))

-- or that a later one refuses
pub looked_stopped : (f : StageLookup → Buffer → Buffer) (refusals : StageLookup → Buffer → LookupRefusals)
    (list : List StageLookup) (i : ℕ) (d : StageLookup) (old mid new : Buffer) (e : ShaperError) →
    i < length list → mid ≡ f (get_or list i d) old →
    StoppedIn f refusals (drop (i + 1) list) mid new e → StoppedIn f refusals (drop i list) old new e
looked_stopped f refusals list i d old mid new e within is stopped =
    subst (λ xs. StoppedIn f refusals xs old new e) (sym (next_at list i d within))
    (inr (subst (λ b. StoppedIn f refusals (drop (i + 1) list) b new e) is stopped))

-- or the next one itself
pub looked_refused : (f : StageLookup → Buffer → Buffer) (refusals : StageLookup → Buffer → LookupRefusals)
    (list : List StageLookup) (i : ℕ) (d : StageLookup) (old new : Buffer) (e : ShaperError) →
    i < length list → MayRefuse (refusals (get_or list i d) old) e → new ≡ old →
    StoppedIn f refusals (drop i list) old new e
looked_refused f refusals list i d old new e within may same =
    subst (λ xs. StoppedIn f refusals xs old new e) (sym (next_at list i d within)) (inl (may, same))

-- and the stages that are left
pub run_next : (r : Substitution) (ss : List Stage) (i : ℕ) (d : Stage) (old mid new : Buffer) → i < length ss →
    StageRun r (get_or ss i d) old mid → StagesRun r (drop (i + 1) ss) mid new → StagesRun r (drop i ss) old new
run_next r ss i d old mid new within one rest =
    subst (λ xs. StagesRun r xs old new) (sym (next_at ss i d within)) (mid, (one, rest))

pub stopped_next : (r : Substitution) (refusals : StageLookup → Buffer → LookupRefusals) (ss : List Stage) (i : ℕ)
    (d : Stage) (old mid new : Buffer) (e : CallError) → i < length ss → StageRun r (get_or ss i d) old mid →
    StagesStopped r refusals (drop (i + 1) ss) mid new e → StagesStopped r refusals (drop i ss) old new e
stopped_next r refusals ss i d old mid new e within one rest =
    subst (λ xs. StagesStopped r refusals xs old new e) (sym (next_at ss i d within)) (inr (mid, (one, rest)))

pub stopped_here : (r : Substitution) (refusals : StageLookup → Buffer → LookupRefusals) (ss : List Stage) (i : ℕ)
    (d : Stage) (old new : Buffer) (e : CallError) → i < length ss → StageStopped r refusals (get_or ss i d) old new e →
    StagesStopped r refusals (drop i ss) old new e
stopped_here r refusals ss i d old new e within stopped =
    subst (λ xs. StagesStopped r refusals xs old new e) (sym (next_at ss i d within)) (inl stopped)

-- where the lookups that are left fit, the next one does
pub lookup_fits : (growth : StageLookup → ℕ) → ((lookup : StageLookup) → 0 < growth lookup) →
    (list : List StageLookup) (i n limit : ℕ) (d : StageLookup) → i < length list →
    looked_up_bound growth (drop i list) n ≤ limit → n * growth (get_or list i d) ≤ limit
lookup_fits growth some list i n limit d within fits =
    let x = get_or list i d in
    le_trans (looked_up_least growth some (drop (i + 1) list) (n * growth x))
    (subst (λ xs. looked_up_bound growth xs n ≤ limit) (next_at list i d within) fits)

-- and the rest do behind it
pub lookup_step : (f : StageLookup → Buffer → Buffer) (growth : StageLookup → ℕ) → LookupsKeep f →
    LookupsGrow growth f → (list : List StageLookup) (i total : ℕ) (d : StageLookup) (old new : Buffer) →
    i < length list → old.positions ≡ [] →
    new ≡ f (get_or list i d) old → looked_up_bound growth (drop i list) (length old.glyphs) ≤ total →
    (new.max_len ≡ old.max_len) × (looked_up_bound growth (drop (i + 1) list) (length new.glyphs) ≤ total)
lookup_step f growth keeps grows list i total d old new within none is fits =
    let x = get_or list i d in
    let rest = drop (i + 1) list in
    let few : length new.glyphs ≤ length old.glyphs * growth x =
    subst (λ b. length b.glyphs ≤ length old.glyphs * growth x) (sym is) (grows x old none).few in (
      ap (λ b. b.max_len) is ∙ ap (λ b. b.max_len) (keeps x old none).others,
      le_trans (looked_up_more growth rest (length new.glyphs) (length old.glyphs * growth x) few)
          (subst (λ xs. looked_up_bound growth xs (length old.glyphs) ≤ total) (next_at list i d within) fits),
    )

-- so of stages
pub stage_fits : (growth : StageLookup → ℕ) → ((lookup : StageLookup) → 0 < growth lookup) →
    (list : List StageLookup) (ss : List Stage) (i n limit : ℕ) (d : Stage) → i < length ss →
    stages_bound growth list (drop i ss) n ≤ limit → stage_bound growth list n (get_or ss i d) ≤ limit
stage_fits growth some list ss i n limit d within fits =
    let s = get_or ss i d in
    le_trans (stages_least growth some list (drop (i + 1) ss) (stage_bound growth list n s))
    (subst (λ xs. stages_bound growth list xs n ≤ limit) (next_at ss i d within) fits)

pub stage_step : (growth : StageLookup → ℕ) (list : List StageLookup) (ss : List Stage) (i n m total : ℕ) (d : Stage) →
    i < length ss → m ≤ stage_bound growth list n (get_or ss i d) → stages_bound growth list (drop i ss) n ≤ total →
    stages_bound growth list (drop (i + 1) ss) m ≤ total
stage_step growth list ss i n m total d within few fits =
    let s = get_or ss i d in
    le_trans (stages_more growth list (drop (i + 1) ss) m (stage_bound growth list n s) few)
    (subst (λ xs. stages_bound growth list xs n ≤ total) (next_at ss i d within) fits)

pub room_for_stages : (growth : StageLookup → ℕ) (shaper : Option hb_ot_shaper_t) (list lists : List StageLookup)
    (ss ts : List Stage) (n m limit own : ℕ) → lists ≡ list → ts ≡ ss → m ≤ prepared_bound shaper n → own ≡ limit →
    shaped_bound shaper growth list ss n ≤ limit → stages_bound growth lists ts m ≤ own
room_for_stages growth shaper list lists ss ts n m limit own a b few same fits =
    let whole : stages_bound growth list ss m ≤ own =
    omega (arith, same, le_trans (stages_more growth list ss m (prepared_bound shaper n) few) fits) in
    subst (λ xs. stages_bound growth xs ts m ≤ own) (sym a)
    (subst (λ ys. stages_bound growth list ys m ≤ own) (sym b) whole)

circles_fit : (circles : Option DottedCircles) (gs : Glyphs) → length (circled circles gs) ≤ length gs * 2
circles_fit None gs = omega arith
circles_fit (Some rule) gs = omega (arith, few_circles (Some rule) gs, length-with_circles rule gs)

enough : (limit wanted : ℕ) (e : ShaperError) → wanted ≤ limit → RefusesLength {T = Bool} limit wanted (Err e) →
    e ≢ TooLong
enough limit wanted Memory fits k = λ is. absurd cc
enough limit wanted TooLong fits k = absurd (omega (arith, fits, k))
enough limit wanted (UnknownSyllable place) fits k = absurd k
enough limit wanted SpansDontCover fits k = absurd k
enough limit wanted StretchOverflow fits k = absurd k

reordering : (found : Option ℕ) (circles : Option DottedCircles) (old : Buffer) (e : ShaperError) →
    length old.glyphs * 2 ≤ old.max_len →
    RefusesReordering {T = Bool} (option_map (λ place. UnknownSyllable place) found) circles old (Err e) → e ≢ TooLong
reordering None circles old e room k =
    enough old.max_len (length (circled circles old.glyphs)) e (omega (arith, circles_fit circles old.glyphs, room)) k.0
reordering (Some place) circles old e room k = λ is. absurd cc

never : (e : ShaperError) → IsOk {T = Bool} (Err e) → e ≢ TooLong
never e k = absurd (false≢true k)

refused : (pause : Pause) (font : Font) (old : Buffer) (e : ShaperError) →
    length old.glyphs * pause_growth pause ≤ old.max_len → RefusesFound {T = Bool} pause font old (Err e) →
    e ≢ TooLong
refused SetupSyllablesIndic font old e room k = never e k
refused SetupSyllablesKhmer font old e room k = never e k
refused SetupSyllablesMyanmar font old e room k = never e k
refused SetupSyllablesUse font old e room k = never e k
refused InitialReordering font old e room k = reordering (unknown_syllable 5 old.glyphs) _ old e room k
refused ReorderKhmer font old e room k = reordering (unknown_syllable 2 old.glyphs) _ old e room k
refused ReorderMyanmar font old e room k = reordering (unknown_syllable 3 old.glyphs) _ old e room k
refused ReorderUse font old e room k = reordering None _ old e room k
refused FinalReordering font old e room k = never e k
refused RecordStch font old e room k = never e k
refused RecordRphf font old e room k = never e k
refused RecordPref font old e room k = never e k
refused SyllabicClearVar font old e room k = never e k
refused ClearSubstitutionFlags font old e room k = never e k
refused ArabicFallbackShape font old e room k = never e k

same_refusal : (e f : ShaperError) → call.Refused e ≡ call.Refused f → e ≡ f
same_refusal e f is = cc

pub pause_room : (pause : Pause) (font : Font) (old : Buffer) (x : CallError) →
    length old.glyphs * pause_growth pause ≤ old.max_len →
    AsRefused {T = Bool} (RefusesFound pause font old) (Err x) → x ≢ call.Refused TooLong
pause_room pause font old (call.Condition c) room k = λ is. absurd cc
pause_room pause font old (call.Refused e) room k =
    λ is. refused pause font old e room k (same_refusal e TooLong is)

-- ---- stages

paused_long : (pause : Option Pause) (plan : hb_ot_shape_plan_t) (font : Font) (old new : Buffer) →
    PauseRunIf pause plan font old new → old.positions ≡ [] → (new.positions ≡ [])
    × (length new.glyphs ≤ length old.glyphs * option_map_or pause_growth pause 1)
paused_long None plan font old new run none =
    (ap (λ b. b.positions) run ∙ none, omega (arith, ap (λ b. length b.glyphs) run))
paused_long (Some pause) plan font old new run none = (
  pause_positions pause plan font run.spans old new run.paused ∙ none,
  pause_long pause plan font run.spans old new run.kept,
)

stage_long : (r : Substitution) (growth : StageLookup → ℕ) (s : Stage) (old new : Buffer) →
    LookupsKeep r.substituted → LookupsGrow growth r.substituted → old.positions ≡ [] → StageRun r s old new →
    (new.positions ≡ []) × (length new.glyphs ≤ stage_bound growth r.list (length old.glyphs) s)
stage_long r growth s old new keeps grows none run =
    let mid = stage_looked_up r s old in
    let first = looked_long r.substituted growth keeps grows (lookups_of_stage s r.list) old none in
    let second = paused_long s.pause r.plan r.font mid new run first.0 in
    (second.0, le_trans second.1 (mul-le-mul_right (option_map_or pause_growth s.pause 1) first.1))

pub stages_grow : StagesGrow
stages_grow r growth [] old new keeps grows none run = omega (arith, ap (λ b. length b.glyphs) run)
stages_grow r growth (s ∷ ss) old new keeps grows none run =
    let mid = run.0 in
    let one = stage_long r growth s old mid keeps grows none run.1.0 in
    le_trans (stages_grow r growth ss mid new keeps grows one.0 run.1.1)
    (stages_more growth r.list ss (length mid.glyphs) (stage_bound growth r.list (length old.glyphs) s) one.1)

-- ---- all the way

pub shaping_grows : PreparationGrows → StagesGrow → FinishGrows → ShapingGrows
shaping_grows preparation stages finish p noted r growth ss q direction old mid keeps grows positions none run =
    let text = text_noted noted (text_prepared p old) in
    let last = finish q direction mid positions in
    omega (
      arith,
      last.0,
      last.1,
      le_trans (stages r growth ss text mid keeps grows none run)
          (stages_more growth r.list ss (length text.glyphs) (prepared_bound p.shaper (length old.glyphs))
          (preparation p noted old)),
    )
