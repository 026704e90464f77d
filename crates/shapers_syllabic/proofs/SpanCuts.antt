-- Spans cut between two of them: what they set up of the halves.
use Rattle.std.proofs.Common.{ℕ, suc, ◌+◌, ◌≤◌, ◌≡◌, nat_lt, ◌||◌, Bool, true, false, List, [], ◌∷◌, ◌++◌, map, length, drop, refl, ◌∙◌, ap, subst, arith, length-append, length-drop}
use Rattle.std.specs.Prelude.{All}
use Rattle.std.specs.List.{flat_map, list_all}
use Rattle.std.proofs.lemmas.List.{drop-append-le, drop_at, length-map, map-append, take-append-le, take_at}
use Rattle.std.proofs.lemmas.List.Concat.{flat_map-append}
use Rattle.std.proofs.lemmas.List.Elements.{All-drop, All-head, All-take, All-map, All-tail, All-weaker}
use Rattle.std.proofs.lemmas.List.Folds.{flat_map-map, list_all-append, list_any-append}
use Rattle.std.proofs.lemmas.List.Sums.{sum_by-append}
use Rattle.shapers_buffer.specs.Glyphs.{Glyph, Glyphs}
use Rattle.shapers_buffer.specs.declared.buffer.syllables.Span.{Span}
use Rattle.shapers_buffer.specs.GlyphFlags.{flagged, with_bits_off}
use Rattle.shapers_buffer.specs.Syllables.{in_syllable, span_byte, span_bytes, spans_cover, syllables, with_bytes}
use Rattle.shapers_syllabic.specs.Borders.{SpansCutLaw, unnumbered}
use Rattle.shapers_syllabic.proofs.Borders.{Cut, OfByte, cut-mapped, cut_border, syllables-mapped, syllables_cut}
use Rattle.shapers_syllabic.proofs.Serials.{flagged_keeps, pieces_same}
use Rattle.shapers_syllabic.proofs.SyllabicLemmas.{covers_first, cut_next}

-- what holds of all of two lists
all_front : {X : Type 0} (P : X → Type 0) (xs ys : List X) → All P (xs ++ ys) → All P xs
all_front P xs ys all = subst (All P) (take_at xs ys (length xs) refl) (All-take P (length xs) (xs ++ ys) all)

all_back : {X : Type 0} (P : X → Type 0) (xs ys : List X) → All P (xs ++ ys) → All P ys
all_back P xs ys all = subst (All P) (drop_at xs ys (length xs) refl) (All-drop P (length xs) (xs ++ ys) all)

-- the syllables that spans cut are those of the halves, the second with later serials
abbrev cut_into : ℕ → List Span → Glyphs → List Glyphs
cut_into i spans gs = syllables (with_bytes gs (span_bytes i spans))

cut_halves : (i : ℕ) (ss ts : List Span) (gs hs : Glyphs) → All (λ s. s.kind ≤ 15) (ss ++ ts)
    → spans_cover (length gs) ss ≡ true → spans_cover (length hs) ts ≡ true → cut_into i (ss ++ ts) (gs ++ hs)
    ≡ cut_into i ss gs ++ cut_into (i + length ss) ts hs
cut_halves i [] ts [] hs kinds first second = search arith
cut_halves i [] ts (g ∷ gs) hs kinds first second = absurd (grind arith)
cut_halves i (s ∷ ss) ts gs hs kinds first second =
    let kind : Span → Type 0 = λ s. s.kind ≤ 15 in
    let n = s.len in
    let covers = covers_first (length gs) s ss first in
    let within = covers.within in
    let whole : spans_cover (length (gs ++ hs)) (s ∷ (ss ++ ts)) ≡ true =
    ap (λ k. spans_cover k (s ∷ (ss ++ ts))) (length-append gs hs)
    ∙ (let some : Span → Bool = λ s. nat_lt 0 s.len in let size : Span → ℕ = λ s. s.len in let each : list_all some
    ((s ∷ ss) ++ ts) ≡ true = search (arith, list_all-append) in let sum = sum_by-append size (s ∷ ss) ts in search
    arith) in
    search (
      arith,
      cut_next i s (ss ++ ts) (gs ++ hs) kinds whole,
      take-append-le n gs hs within,
      drop-append-le n gs hs within,
      cut_halves (suc i) ss ts (drop n gs) hs (All-tail kind s (ss ++ ts) kinds)
          (ap (λ k. spans_cover k ss) (length-drop n gs) ∙ covers.rest) second,
      cut_next i s ss gs (all_front kind (s ∷ ss) ts kinds) first,
    )

-- serials show in nothing else
unnumbered-in : (i j : ℕ) (span : Span) → span.kind ≤ 15 → (gs : Glyphs)
    → map unnumbered (map (in_syllable (span_byte i span)) gs)
    ≡ map unnumbered (map (in_syllable (span_byte j span)) gs)
unnumbered-in i j span low [] = refl
unnumbered-in i j span low (g ∷ gs) = search (arith, unnumbered-in i j span low gs)

cut_renumbered : (i j : ℕ) (spans : List Span) (gs : Glyphs) → All (λ s. s.kind ≤ 15) spans
    → spans_cover (length gs) spans ≡ true → map (map unnumbered) (cut_into i spans gs)
    ≡ map (map unnumbered) (cut_into j spans gs)
cut_renumbered i j [] gs kinds covers = refl
cut_renumbered i j (s ∷ ss) gs kinds covers =
    let n = s.len in
    let left = ap (λ k. spans_cover k ss) (length-drop n gs) ∙ (covers_first (length gs) s ss covers).rest
    in
    search (cut_next, unnumbered-in, All-head, cut_renumbered (suc i) (suc j) ss (drop n gs) (All-tail (λ s. s.kind ≤ 15) s ss kinds) left)

-- flags inside a syllable keep its byte
off_byte : (m : ℕ) (g : Glyph) → (with_bits_off 3 m g).syllable ≡ g.syllable
off_byte = search arith

length-flagged : (gs : Glyphs) → length (flagged 3 gs) ≡ length gs
length-flagged = search length-map

flagged_byte : (byte : ℕ) (gs : Glyphs) → OfByte byte gs → OfByte byte (flagged 3 gs)
flagged_byte byte gs u = search (length-flagged, All-map, All-weaker, off_byte)

either_mark : (a b c : Bool) → ((a || b) || c) ≡ ((a || c) || (b || c))
either_mark true b c = refl
either_mark false true true = refl
either_mark false true false = refl
either_mark false false true = refl
either_mark false false false = refl

pub spans_cut : SpansCutLaw
spans_cut spans broken_kind old kinds ss ts gs hs split text first second =
    let kind : Span → Type 0 = λ s. s.kind ≤ 15 in
    let all = subst (All kind) split kinds in
    let k = 0 + length ss in
    let front = cut_into 0 ss gs in
    let bs = cut_into k ts hs in
    let f = flagged 3 in
    let whole = cut_halves 0 ss ts gs hs all first second in
    let cut : Cut (map f front ++ map f bs) =
    subst Cut (map-append f front bs) (cut-mapped f flagged_byte (front ++ bs)
    (subst Cut whole (syllables_cut (with_bytes (gs ++ hs) (span_bytes 0 (ss ++ ts)))))) in
    record {
      behind = flat_map f bs;
      parts = cc (flat_map-append f front bs);
      renumbered =
          cc (
            syllables-mapped f flagged_byte (with_bytes hs (span_bytes k ts)),
            pieces_same f flagged_keeps bs (cut_into 0 ts hs)
                (cut_renumbered k 0 ts hs (all_back kind ss ts all) second),
            syllables-mapped f flagged_byte (with_bytes hs (span_bytes 0 ts)),
          );
      border = search (arith, flat_map-map, cut_border);
      broken = search (arith, list_any-append);
    }
