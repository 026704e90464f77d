-- What spans set up is whole between their borders.
use Rattle.std.proofs.Common.{ℕ, zero, suc, if◌then◌else◌, ◌-◌, ◌<◌, ◌≤◌, ◌≡◌, ◌==◌, nat_lt, Bool, true, false, List, [], ◌∷◌, ◌++◌, length, map, take, drop, refl, sym, ap, ◌∙◌, subst, arith, inl, inr, ◌⊎◌, length-append, length-drop}
use Rattle.std.specs.List.{All, AllByRecursion, AllZip, flat_map, list_all, sum_by}
use Rattle.std.proofs.lemmas.Bool.{and_from, and_parts, eq-eqb, eqb-true}
use Rattle.std.proofs.lemmas.Bool.Decides.{nat_tests}
use Rattle.std.proofs.lemmas.List.{length-map, length-take-le, take-append-drop}
use Rattle.std.proofs.lemmas.List.Elements.{All-map, All-tail, All-weaker}
use Rattle.std.proofs.lemmas.List.Folds.{list_all-append}
use Rattle.std.proofs.lemmas.List.Sums.{sum_by-append, sum_by-cons}
use Rattle.shapers_buffer.specs.Glyphs.{Glyph, Glyphs}
use Rattle.shapers_buffer.specs.declared.buffer.syllables.Span.{Span}
use Rattle.shapers_buffer.specs.Clusters.{least}
use Rattle.shapers_buffer.specs.Glyph.{clusters}
use Rattle.shapers_buffer.specs.GlyphFlags.{flagged, with_bits, with_bits_off}
use Rattle.shapers_buffer.specs.Syllables.{in_syllable, span_byte, span_bytes, spans_cover, syllables, with_bytes}
use Rattle.shapers_syllabic.specs.Borders.{spans_setup}
use Rattle.shapers_syllabic.specs.Syllabic.{unsafe_spans}
use Rattle.shapers_syllabic.proofs.Borders.{OfByte, syllables-mapped}
use Rattle.shapers_syllabic.proofs.CircleLaws.{joined-syllables}
use Rattle.shapers_syllabic.proofs.SpanCuts.{spans_cut}
use Rattle.shapers_syllabic.proofs.SyllabicLemmas.{covers_first, cut_next}
use Rattle.shapers_clusters.proofs.ClearPlaces.{length-same}
use Rattle.shapers_syllabic.proofs.PauseCuts.{clusters-setup}
use Rattle.shapers_break_laws.specs.Setup.{FlaggedAt, SetupBreaksLaw, SpanBorder}
use Rattle.shapers_break_laws.proofs.Guarded.{IsWhole, PieceBorder, border_or_flagged, clear_not_flagged, flagged_whole}

-- pieces as long as spans
abbrev pub AsLong : Glyphs → Span → Type 0
AsLong piece span = length piece ≡ span.len

abbrev pub AllAsLong : List Glyphs → List Span → Type 0
AllAsLong pieces spans = AllZip AsLong pieces spans

none_left : (g : Glyph) (gs : Glyphs) → spans_cover (length (g ∷ gs)) [] ≡ true → ⊥
none_left g gs covers = grind (arith, nat_tests)

-- the syllables that spans cut
cut_as_long : (i : ℕ) (spans : List Span) (gs : Glyphs) → All (λ span. span.kind ≤ 15) spans → spans_cover
    (length gs) spans ≡ true → AllAsLong (syllables (with_bytes gs (span_bytes i spans))) spans
cut_as_long i [] [] kinds covers = tt
cut_as_long i [] (g ∷ gs) kinds covers = absurd (none_left g gs covers)
cut_as_long i (s ∷ ss) gs kinds covers =
    let kind : Span → Type 0 = λ s. s.kind ≤ 15 in
    let first = covers_first (length gs) s ss covers in
    let byte = span_byte i s in
    let left : spans_cover (length (drop s.len gs)) ss ≡ true = ap (λ k. spans_cover k ss) (length-drop s.len gs)
    ∙ first.rest in
    subst (λ pieces. AllAsLong pieces (s ∷ ss)) (sym (cut_next i s ss gs kinds covers)) (
      length-map (take s.len gs) (in_syllable byte) ∙ length-take-le s.len gs first.within,
      cut_as_long (suc i) ss
          (drop s.len gs) (All-tail kind s ss kinds) left,
    )

-- flags keep bytes
off_byte : (m : ℕ) (g : Glyph) → (with_bits_off 3 m g).syllable ≡ g.syllable
off_byte m g = elim (g.cluster == m) as (λ b. (if b then g else with_bits 3 g).syllable
    ≡ g.syllable) [ true ↦ refl | false ↦ refl ]

length-flagged : (gs : Glyphs) → length (flagged 3 gs) ≡ length gs
length-flagged gs = length-map gs (with_bits_off 3 (least (clusters gs)))

flagged_byte : (byte : ℕ) (gs : Glyphs) → OfByte byte gs → OfByte byte (flagged 3 gs)
flagged_byte byte gs u =
    let P : Glyph → Type 0 = λ g. g.syllable ≡ byte in
    let off = with_bits_off 3 (least (clusters gs)) in
    let some = u.some in
    record {
      some = omega (arith, length-flagged gs);
      all = All-map P off gs (All-weaker P (λ g. P (off g)) (λ g e. off_byte (least (clusters gs)) g ∙ e) gs u.all);
    }

mapped_as_long : (f : Glyphs → Glyphs) → ((gs : Glyphs) → length (f gs) ≡ length gs) → (pieces : List Glyphs)
    (spans : List Span) → AllAsLong pieces spans → AllAsLong (map f pieces) spans
mapped_as_long f same [] [] h = tt
mapped_as_long f same [] (s ∷ ss) h = absurd h
mapped_as_long f same (p ∷ ps) [] h = absurd h
mapped_as_long f same (p ∷ ps) (s ∷ ss) h = (same p ∙ h.0, mapped_as_long f same ps ss h.1)

mapped_whole : (f : Glyphs → Glyphs) → ((gs : Glyphs) → IsWhole (f gs)) → (pieces : List Glyphs)
    → AllByRecursion IsWhole (map f pieces)
mapped_whole f whole [] = tt
mapped_whole f whole (p ∷ ps) = (whole p, mapped_whole f whole ps)

-- a text cut by spans, without a break inside them
pub record IsGuarded (spans : List Span) (gs : Glyphs) : Type 0 where
  pub as_long : AllAsLong (syllables gs) spans
  pub whole : AllByRecursion IsWhole (syllables gs)

pub setup_guarded : (spans : List Span) (gs : Glyphs) → All (λ span. span.kind ≤ 15) spans → spans_cover
    (length gs) spans ≡ true → IsGuarded spans (unsafe_spans spans gs)
setup_guarded spans gs kinds covers =
    let cut = with_bytes gs (span_bytes 0 spans) in
    let is : syllables (unsafe_spans spans gs) ≡ map (flagged 3) (syllables cut) = syllables-mapped
    (flagged 3) flagged_byte cut in
    record {
      as_long = subst (λ pieces. AllAsLong pieces spans) (sym is)
          (mapped_as_long (flagged 3) length-flagged (syllables cut) spans (cut_as_long 0 spans gs kinds covers));
      whole = subst (AllByRecursion IsWhole) (sym is) (mapped_whole (flagged 3) flagged_whole (syllables cut));
    }

-- pieces as long as spans, cut between two of them
pub record CoverCut (spans : List Span) (n p : ℕ) (front back : List Span) : Type 0 where
  pub first : spans_cover p front ≡ true
  pub second : spans_cover (n - p) back ≡ true

pub sum-as_long : (pieces : List Glyphs) (spans : List Span) → AllAsLong pieces spans → sum_by
    (λ (s : Span). s.len) spans ≡ length (flat_map (λ piece. piece) pieces)
sum-as_long [] [] h = refl
sum-as_long [] (s ∷ ss) h = absurd h
sum-as_long (p ∷ ps) [] h = absurd h
sum-as_long (p ∷ ps) (s ∷ ss) h =
    sum_by-cons (λ (s : Span). s.len) s ss ∙ omega
    (arith, h.0, sum-as_long ps ss h.1, length-append p (flat_map (λ piece. piece) ps))

pub taken_as_long : (k : ℕ) (pieces : List Glyphs) (spans : List Span) → AllAsLong pieces spans → AllAsLong
    (take k pieces) (take k spans)
taken_as_long zero pieces spans h = tt
taken_as_long (suc k) [] [] h = tt
taken_as_long (suc k) [] (s ∷ ss) h = absurd h
taken_as_long (suc k) (p ∷ ps) [] h = absurd h
taken_as_long (suc k) (p ∷ ps) (s ∷ ss) h = (h.0, taken_as_long k ps ss h.1)

-- spans that cover n places, cut where the first of them cover p
pub cover_cut : (spans front back : List Span) (n p : ℕ) → spans ≡ front ++ back → spans_cover n spans ≡ true → sum_by
    (λ s. s.len) front ≡ p → CoverCut spans n p front back
cover_cut spans front back n p split covers place =
    let some : Span → Bool = λ s. nat_lt 0 s.len in
    let size : Span → ℕ = λ s. s.len in
    let whole : spans_cover n (front ++ back) ≡ true = ap (spans_cover n) (sym split) ∙ covers in
    let (each, sum) = and_parts (list_all some (front ++ back)) (sum_by size (front ++ back) == n) whole in
    let (a, b) = and_parts (list_all some front) (list_all some back) (sym (list_all-append some front back) ∙ each) in
    let total = eqb-true (sum_by size (front ++ back)) n sum in
    let parts = sum_by-append size front back in
    record {
      first = and_from _ _ a (eq-eqb (sum_by size front) p place);
      second = and_from _ _ b (eq-eqb (sum_by size back) (n - p) (omega arith));
    }

-- a border of pieces is one of spans
pub span_border : (pieces : List Glyphs) (spans : List Span) (p : ℕ) → AllAsLong pieces spans → PieceBorder pieces p
    → SpanBorder spans p
span_border pieces spans p h border =
    let k = border.count in
    record {
      front = take k spans;
      back = drop k spans;
      split = sym (take-append-drop k spans);
      place = sum-as_long (take k pieces) (take k spans) (taken_as_long k pieces spans h) ∙ border.place;
    }

pub guarded_border : (spans : List Span) (gs : Glyphs) → IsGuarded spans gs → (p : ℕ) → 0 < p → p < length gs
    → SpanBorder spans p ⊎ FlaggedAt gs p
guarded_border spans gs h p z l =
    let whole = joined-syllables gs in
    let pieces = syllables gs in
    let long : p < length (flat_map (λ piece. piece) pieces) = omega (arith, ap length whole) in
    elim (border_or_flagged pieces h.whole p z long) [
      | inl border ↦ inl (span_border pieces spans p h.as_long border)
      | inr flagged ↦ inr (subst (λ xs. FlaggedAt xs p) whole flagged)
    ]

pub setup_breaks : SetupBreaksLaw
setup_breaks spans broken_kind old kinds covers =
    let new = spans_setup spans broken_kind old in
    let n = length old.glyphs in
    let same : length new.glyphs ≡ n = length-same old.glyphs new.glyphs (clusters-setup spans broken_kind old) in
    let guarded = setup_guarded spans old.glyphs kinds covers in (
      λ p z l inside. elim (guarded_border spans new.glyphs guarded p z l) [
        | inl border ↦ absurd (inside border)
        | inr flagged ↦ flagged
      ],
      λ p z l clear. elim (guarded_border spans new.glyphs guarded p z l) [
        | inl border ↦
            let cut = cover_cut spans border.front border.back n p border.split covers border.place in
            let first : spans_cover (length (take p old.glyphs)) border.front ≡ true = ap
            (λ k. spans_cover k border.front) (length-take-le p old.glyphs (omega arith)) ∙ cut.first in
            let second : spans_cover (length (drop p old.glyphs)) border.back ≡ true = ap
            (λ k. spans_cover k border.back) (length-drop p old.glyphs) ∙ cut.second in
            record {
              border = border;
              halves = spans_cut spans broken_kind old kinds border.front border.back
                  (take p old.glyphs) (drop p old.glyphs) border.split
                  (sym (take-append-drop p old.glyphs)) first second;
            }
        | inr flagged ↦ absurd (clear_not_flagged new.glyphs p z l clear flagged)
      ],
    )
