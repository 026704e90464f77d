-- Syllables that are found, written and set up are those of a set-up by spans.
use Rattle.std.proofs.Common.{◌≡◌, ◌∙◌, ℕ, suc, ◌<◌, ◌≤◌, ◌==◌, ◌||◌, Bool, true, false, List, [], ◌∷◌, length, length-take-le, map, take, drop, refl, sym, ap, subst, arith}
use Rattle.std.specs.Prelude.{All}
use Rattle.std.specs.List.{list_any}
use Rattle.std.proofs.Math.Bool.{or-false, or_comm, or_self}
use Rattle.std.proofs.lemmas.Bool.{false≢true}
use Rattle.std.proofs.lemmas.Bool.Decides.{nat_tests}
use Rattle.std.proofs.lemmas.List.{length-drop}
use Rattle.std.proofs.lemmas.List.Elements.{All-head, All-tail}
use Rattle.std.proofs.lemmas.List.Folds.{list_any-append}
use Rattle.shapers_buffer.specs.Buffer.{Buffer}
use Rattle.shapers_buffer.specs.Glyph.{clusters}
use Rattle.shapers_buffer.specs.Glyphs.{Glyph, Glyphs}
use Rattle.shapers_buffer.specs.Syllables.{in_syllable, kind_of, span_byte, span_bytes, spans_cover, with_bytes}
use Rattle.shapers_buffer.specs.declared.buffer.syllables.Span.{Span}
use Rattle.shapers_buffer.proofs.SyllableLemmas.{with_bytes-replicate}
use Rattle.shapers_base.specs.Font.{Font}
use Rattle.shapers_base.specs.declared.plan.hb_ot_shape_plan_t.{hb_ot_shape_plan_t}
use Rattle.shapers_base.specs.declared.plan.pause.Pause.{Pause}
use Rattle.shapers_base.specs.declared.plan.pause.Pause.TheVariants.{SetupSyllablesIndic, SetupSyllablesKhmer, SetupSyllablesMyanmar, SetupSyllablesUse}
use Rattle.shapers_clusters.specs.FlagLaw.{OnlyFlagsAdded}
use Rattle.shapers_clusters.proofs.FlagLaw.{all_added_on}
use Rattle.shapers_spans.specs.Cuts.{AreSpansOf}
use Rattle.shapers_spans.specs.Grammar.{Grammar}
use Rattle.shapers_syllabic.specs.Borders.{SetupCutsAtSpans, spans_setup}
use Rattle.shapers_syllabic.specs.Syllabic.{setup_by_bytes}
use Rattle.shapers_syllabic.specs.declared.ot_shaper_syllabic.kinds.indic_syllable.TheConstants as indic_syllable
use Rattle.shapers_syllabic.specs.declared.ot_shaper_syllabic.kinds.khmer_syllable.TheConstants as khmer_syllable
use Rattle.shapers_syllabic.specs.declared.ot_shaper_syllabic.kinds.myanmar_syllable.TheConstants as myanmar_syllable
use Rattle.shapers_syllabic.specs.declared.ot_shaper_syllabic.kinds.use_syllable.TheConstants as use_syllable
use Rattle.shapers_syllabic.proofs.PauseCuts.{clusters-setup}
use Rattle.shapers_syllabic.proofs.SyllabicLemmas.{covers_first}
use Rattle.shapers_syllabic.proofs.SetupFlags.{same_added, setup_added}
use Rattle.shapers_syllabic.proofs.SpanCuts.{spans_cut}
use Rattle.shapers_universal.specs.PlanData.{arabic_of}
use Rattle.shapers_universal.specs.UniversalCuts.{UniversalSetupCutsAtSpans}
use Rattle.shapers_universal.specs.UniversalSyllables.{with_forms_flagged, with_syllable_masks}
use Rattle.shapers_universal.proofs.TornPairs.{map-forms_flagged}
use Rattle.shapers_universal.proofs.UniversalCuts.{clusters-masks, universal_setup_cuts}
use Rattle.rustybuzz_shapers.specs.FoundSyllables.{FoundSpans, PauseRun, SpansWritten, setup_written, sets_up}
use Rattle.rustybuzz_shapers.specs.Pauses.{PauseKeeps, Paused}

-- ---- a syllable of some kind, among bytes and among the spans that they are of

kind_kept : (i : ℕ) (s : Span) → s.kind ≤ 15 → kind_of (span_byte i s) ≡ s.kind
kind_kept i s fits = omega (arith, fits)

-- glyphs of one byte
one_kind : (kind byte : ℕ) (gs : Glyphs) → 0 < length gs →
    list_any (λ g. kind_of g.syllable == kind) (map (in_syllable byte) gs) ≡ (kind_of byte == kind)
one_kind kind byte [] some = absurd (omega (arith, some))
one_kind kind byte (g ∷ []) some = or-false (kind_of byte == kind)
one_kind kind byte (g ∷ (h ∷ gs)) some =
    ap (λ b. (kind_of byte == kind) || b) (one_kind kind byte (h ∷ gs) (omega arith)) ∙ or_self (kind_of byte == kind)

some_left : (g : Glyph) (gs : Glyphs) → spans_cover (length (g ∷ gs)) [] ≡ true → ⊥
some_left g gs covers = grind (arith, nat_tests)

kinds_written : (kind i : ℕ) (spans : List Span) (gs : Glyphs) → spans_cover (length gs) spans ≡ true →
    All (λ (s : Span). s.kind ≤ 15) spans →
    list_any (λ g. kind_of g.syllable == kind) (with_bytes gs (span_bytes i spans))
    ≡ list_any (λ (s : Span). s.kind == kind) spans
kinds_written kind i [] [] covers kinds = refl
kinds_written kind i [] (g ∷ gs) covers kinds = absurd (some_left g gs covers)
kinds_written kind i (s ∷ ss) gs covers kinds =
    let byte = span_byte i s in
    let p : Glyph → Bool = λ g. kind_of g.syllable == kind in
    let rest = with_bytes (drop s.len gs) (span_bytes (suc i) ss) in
    let small : Span → Type 0 = λ t. t.kind ≤ 15 in
    let first = covers_first (length gs) s ss covers in
    let taken : 0 < length (take s.len gs) = omega (arith, length-take-le s.len gs first.within, first.some) in
    let left : spans_cover (length (drop s.len gs)) ss ≡ true =
    ap (λ n. spans_cover n ss) (length-drop s.len gs) ∙ first.rest in
    ap (list_any p) (with_bytes-replicate s.len byte gs (span_bytes (suc i) ss) first.within)
    ∙ list_any-append p (map (in_syllable byte) (take s.len gs)) rest
    ∙ ap (λ b. b || list_any p rest) (one_kind kind byte (take s.len gs) taken
    ∙ ap (λ k. k == kind) (kind_kept i s (All-head small s ss kinds)))
    ∙ ap (λ b. (s.kind == kind) || b)
    (kinds_written kind (suc i) ss (drop s.len gs) left (All-tail small s ss kinds))

-- ---- the set-up by bytes is that by spans

written_is_setup : (g : Grammar) (spans : List Span) (kind : ℕ) (old : Buffer) → AreSpansOf g old.glyphs spans →
    setup_by_bytes kind (record old { glyphs = with_bytes old.glyphs (span_bytes 0 spans) })
    ≡ spans_setup spans kind old
written_is_setup g spans kind old are =
    let mid : Buffer = spans_setup spans kind old in
    ap (λ (b : Bool). (let c : Buffer = record mid { broken = b } in c))
    (ap (λ b. old.broken || b) (kinds_written kind 0 spans old.glyphs are.cover are.kinds)
    ∙ or_comm old.broken (list_any (λ (s : Span). s.kind == kind) spans))

-- so of each pause that sets up syllables
pub written_is_paused : (pause : Pause) (plan : hb_ot_shape_plan_t) (font : Font) (spans : List Span) (old : Buffer) →
    sets_up pause ≡ true → FoundSpans pause old.glyphs spans →
    Paused pause plan font spans old
    (setup_written pause plan (record old { glyphs = with_bytes old.glyphs (span_bytes 0 spans) }))
written_is_paused SetupSyllablesIndic plan font spans old sets found =
    written_is_setup _ spans indic_syllable.BROKEN_CLUSTER old found
written_is_paused SetupSyllablesKhmer plan font spans old sets found =
    written_is_setup _ spans khmer_syllable.BROKEN_CLUSTER old found
written_is_paused SetupSyllablesMyanmar plan font spans old sets found =
    written_is_setup _ spans myanmar_syllable.BROKEN_CLUSTER old found
written_is_paused SetupSyllablesUse plan font spans old sets found =
    let kept = plan.plan_data in
    ap (λ (b : Buffer). with_forms_flagged plan.break_flags kept plan.ot_map
    (record b { glyphs = with_syllable_masks kept plan.ot_map b.glyphs }))
    (written_is_setup _ spans use_syllable.BROKEN_CLUSTER old found)
written_is_paused _ plan font spans old sets found = absurd (false≢true sets)

-- ---- what it keeps

found_kinds : (pause : Pause) (gs : Glyphs) (spans : List Span) → sets_up pause ≡ true → FoundSpans pause gs spans →
    All (λ (s : Span). s.kind ≤ 15) spans
found_kinds SetupSyllablesIndic gs spans sets found = found.kinds
found_kinds SetupSyllablesKhmer gs spans sets found = found.kinds
found_kinds SetupSyllablesMyanmar gs spans sets found = found.kinds
found_kinds SetupSyllablesUse gs spans sets found = found.kinds
found_kinds _ gs spans sets found = absurd (false≢true sets)

abbrev PauseKept : List Span → ℕ → Buffer → Buffer → Type 0
PauseKept spans kind old new =
    SetupCutsAtSpans spans kind old new × (clusters new.glyphs ≡ clusters old.glyphs)
    × OnlyFlagsAdded old.glyphs new.glyphs

spans_kept : (spans : List Span) (kind : ℕ) (old new : Buffer) → All (λ (s : Span). s.kind ≤ 15) spans →
    new ≡ spans_setup spans kind old →
    PauseKept spans kind old new
spans_kept spans kind old new kinds is = subst (PauseKept spans kind old) (sym is) (
  spans_cut spans kind old kinds,
  clusters-setup spans kind old,
  setup_added spans kind old (spans_setup spans kind old) refl,
)

pub setup_kept : (pause : Pause) (plan : hb_ot_shape_plan_t) (font : Font) (spans : List Span) (old new : Buffer) →
    sets_up pause ≡ true → All (λ (s : Span). s.kind ≤ 15) spans → Paused pause plan font spans old new →
    OnlyFlagsAdded old.glyphs new.glyphs → PauseKeeps pause plan font spans old new
setup_kept SetupSyllablesIndic plan font spans old new sets kinds paused added =
    spans_kept spans indic_syllable.BROKEN_CLUSTER old new kinds paused
setup_kept SetupSyllablesKhmer plan font spans old new sets kinds paused added =
    spans_kept spans khmer_syllable.BROKEN_CLUSTER old new kinds paused
setup_kept SetupSyllablesMyanmar plan font spans old new sets kinds paused added =
    spans_kept spans myanmar_syllable.BROKEN_CLUSTER old new kinds paused
setup_kept SetupSyllablesUse plan font spans old new sets kinds paused added =
    let kept = plan.plan_data in
    let m = plan.ot_map in
    let setup = spans_setup spans use_syllable.BROKEN_CLUSTER old in
    let masked = with_syllable_masks kept m setup.glyphs in (
      subst (UniversalSetupCutsAtSpans plan.break_flags kept m spans old) (sym paused)
          (universal_setup_cuts plan.break_flags kept m spans old kinds),
      ap (λ (b : Buffer). clusters b.glyphs) paused
          ∙ map-forms_flagged (λ g. g.cluster) (λ g. refl) (arabic_of kept) plan.break_flags m masked
          ∙ clusters-masks kept m setup.glyphs ∙ clusters-setup spans use_syllable.BROKEN_CLUSTER old,
      added,
    )
setup_kept _ plan font spans old new sets kinds paused added = absurd (false≢true sets)

-- ---- glyphs that get their bytes

bytes_added : (gs : Glyphs) (bytes : List ℕ) → OnlyFlagsAdded gs (with_bytes gs bytes)
bytes_added [] bytes = tt
bytes_added (g ∷ gs) [] = same_added (g ∷ gs)
bytes_added (g ∷ gs) (byte ∷ bytes) = search (arith, bytes_added gs bytes)

pub no_bytes : (old : Buffer) → (let new : Buffer = record old { glyphs = with_bytes old.glyphs [] } in new) ≡ old
no_bytes old = ap (λ (gs : Glyphs). (let b : Buffer = record old { glyphs = gs } in b)) (same old.glyphs)
  where
    same : (gs : Glyphs) → with_bytes gs [] ≡ gs
    same [] = refl
    same (g ∷ gs) = refl

-- ---- the call

-- spans that are written and set up
pub found_run : (pause : Pause) (plan : hb_ot_shape_plan_t) (old mid new : Buffer) → SpansWritten pause old mid →
    new ≡ setup_written pause plan mid → OnlyFlagsAdded mid.glyphs new.glyphs → sets_up pause ≡ true →
    (font : Font) → PauseRun pause plan font old new
found_run pause plan old mid new written is added sets font =
    let spans = written.spans in
    let bytes = with_bytes old.glyphs (span_bytes 0 spans) in
    let paused : Paused pause plan font spans old new =
    subst (Paused pause plan font spans old) (sym (is ∙ ap (setup_written pause plan) written.bytes))
    (written_is_paused pause plan font spans old sets written.found) in
    record {
      spans = spans;
      found = written.found;
      paused = paused;
      kept = setup_kept pause plan font spans old new sets (found_kinds pause old.glyphs spans sets written.found) paused
          (all_added_on old.glyphs bytes new.glyphs (bytes_added old.glyphs (span_bytes 0 spans))
          (subst (λ (b : Buffer). OnlyFlagsAdded b.glyphs new.glyphs) written.bytes added));
    }

-- where the pause sets up none, nothing is written and nothing set up
pub none_setup : (pause : Pause) (plan : hb_ot_shape_plan_t) (old mid new : Buffer) → SpansWritten pause old mid →
    new ≡ setup_written pause plan mid → sets_up pause ≡ false → new ≡ old
none_setup pause plan old mid new written is none =
    is ∙ stays pause none mid ∙ written.bytes
    ∙ ap (λ (ss : List Span). (let b : Buffer = record old { glyphs = with_bytes old.glyphs (span_bytes 0 ss) } in b))
    (no_spans pause old.glyphs written.spans none written.found)
    ∙ no_bytes old
  where
    stays : (pause : Pause) → sets_up pause ≡ false → (b : Buffer) → setup_written pause plan b ≡ b
    stays SetupSyllablesIndic none b = absurd (false≢true (sym none))
    stays SetupSyllablesKhmer none b = absurd (false≢true (sym none))
    stays SetupSyllablesMyanmar none b = absurd (false≢true (sym none))
    stays SetupSyllablesUse none b = absurd (false≢true (sym none))
    stays _ none b = refl

    no_spans : (pause : Pause) (gs : Glyphs) (spans : List Span) → sets_up pause ≡ false →
        FoundSpans pause gs spans → spans ≡ []
    no_spans SetupSyllablesIndic gs spans none found = absurd (false≢true (sym none))
    no_spans SetupSyllablesKhmer gs spans none found = absurd (false≢true (sym none))
    no_spans SetupSyllablesMyanmar gs spans none found = absurd (false≢true (sym none))
    no_spans SetupSyllablesUse gs spans none found = absurd (false≢true (sym none))
    no_spans _ gs spans none found = found

-- ---- the pauses that set up none

pub none_found : (pause : Pause) (gs : Glyphs) → sets_up pause ≡ false → FoundSpans pause gs []
none_found SetupSyllablesIndic gs none = absurd (false≢true (sym none))
none_found SetupSyllablesKhmer gs none = absurd (false≢true (sym none))
none_found SetupSyllablesMyanmar gs none = absurd (false≢true (sym none))
none_found SetupSyllablesUse gs none = absurd (false≢true (sym none))
none_found _ gs none = refl

-- a pause that sets up no syllables writes none
pub nothing_written : (pause : Pause) (b : Buffer) → (pause ≡ SetupSyllablesIndic → ⊥) →
    (pause ≡ SetupSyllablesKhmer → ⊥) → (pause ≡ SetupSyllablesMyanmar → ⊥) → (pause ≡ SetupSyllablesUse → ⊥) →
    SpansWritten pause b b
nothing_written pause b indic khmer myanmar universal = record {
  spans = [];
  found = none_found pause b.glyphs (others pause indic khmer myanmar universal);
  bytes = sym (no_bytes b);
}
  where
    others : (pause : Pause) → (pause ≡ SetupSyllablesIndic → ⊥) → (pause ≡ SetupSyllablesKhmer → ⊥) →
        (pause ≡ SetupSyllablesMyanmar → ⊥) → (pause ≡ SetupSyllablesUse → ⊥) → sets_up pause ≡ false
    others SetupSyllablesIndic indic khmer myanmar universal = absurd (indic refl)
    others SetupSyllablesKhmer indic khmer myanmar universal = absurd (khmer refl)
    others SetupSyllablesMyanmar indic khmer myanmar universal = absurd (myanmar refl)
    others SetupSyllablesUse indic khmer myanmar universal = absurd (universal refl)
    others _ indic khmer myanmar universal = refl
