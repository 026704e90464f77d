-- Spans cut a text into its syllables: steps of the walk that sets them up.
use Rattle.std.proofs.Common.{◌≡◌, ◌==◌, ℕ, zero, suc, ◌+◌, ◌-◌, ◌<◌, ◌≤◌, Bool, true, not, List, [], ◌∷◌, ◌++◌, map, length, take, drop, replicate, refl, ap, ◌∙◌, arith, length-append, length-take-le, length-drop, append_assoc}
use Rattle.std.specs.Prelude.{All}
use Rattle.std.proofs.lemmas.Bool.{not-true}
use Rattle.std.proofs.lemmas.List.{length-map, take_at, drop_at, drop-drop}
use Rattle.std.proofs.lemmas.List.Elements.{All-head, All-tail}
use Rattle.std.proofs.lemmas.List.Sums.{sum_by-cons}
use Rattle.shapers_buffer.specs.Glyphs.{Glyph, Glyphs}
use Rattle.shapers_buffer.specs.declared.buffer.syllables.Span.{Span}
use Rattle.shapers_buffer.specs.Clusters.{with_stretch}
use Rattle.shapers_syllabic.specs.Syllabic.{unsafe_syllables, in_unsafe_syllable}
use Rattle.shapers_buffer.specs.Syllables.{syllables, with_in_front, in_syllable, span_byte, span_bytes, spans_cover, with_bytes}
use Rattle.shapers_buffer.proofs.SyllableLemmas.{with_bytes-replicate}

-- whether a text opens with another byte, or is empty
abbrev opens_other : ℕ → Glyphs → Bool
opens_other byte [] = true
opens_other byte (g ∷ gs) = not (g.syllable == byte)

alone : (g : Glyph) (ys : Glyphs) → opens_other g.syllable ys ≡ true
    → with_in_front g (syllables ys) ≡ (g ∷ []) ∷ syllables ys
alone g [] other = refl
alone g (y ∷ ys) other = search (arith, not-true)

-- glyphs of one byte before a text that opens with another are a syllable
one_syllable : (byte : ℕ) (z : Glyph) (zs ys : Glyphs) → opens_other byte ys ≡ true
    → syllables (map (in_syllable byte) (z ∷ zs) ++ ys) ≡ map (in_syllable byte) (z ∷ zs) ∷ syllables ys
one_syllable byte z [] ys other = search arith
one_syllable byte z (w ∷ zs) ys other = search (arith, one_syllable byte w zs ys other)

first_syllable : (byte : ℕ) (zs ys : Glyphs) → 0 < length zs → opens_other byte ys ≡ true
    → syllables (map (in_syllable byte) zs ++ ys) ≡ map (in_syllable byte) zs ∷ syllables ys
first_syllable byte [] ys some other = absurd (omega arith)
first_syllable byte (z ∷ zs) ys some other = one_syllable byte z zs ys other

-- the first of some spans that cover n places, and the others
pub record CoversFirst (n : ℕ) (span : Span) (spans : List Span) : Type 0 where
  pub some : 0 < span.len
  pub within : span.len ≤ n
  pub rest : spans_cover (n - span.len) spans ≡ true

pub covers_first : (n : ℕ) (span : Span) (spans : List Span) → spans_cover n (span ∷ spans) ≡ true
    → CoversFirst n span spans
covers_first n span spans = let total = sum_by-cons (λ (s : Span). s.len) span spans in search arith

next_byte : (i : ℕ) (span s : Span) (n : ℕ) (bytes : List ℕ) (r : Glyph) (rs : Glyphs) → 0 < n
    → span.kind ≤ 15 → s.kind ≤ 15
    → opens_other (span_byte i span) (with_bytes (r ∷ rs) (replicate n (span_byte (suc i) s) ++ bytes)) ≡ true
next_byte i span s zero bytes r rs some low high = absurd (omega arith)
next_byte i span s (suc n) bytes r rs some low high = search arith

-- what follows a span opens with another byte
next_opens : (i : ℕ) (span : Span) (spans : List Span) (rest : Glyphs) → span.kind ≤ 15
    → All (λ s. s.kind ≤ 15) spans → spans_cover (length rest) spans ≡ true
    → opens_other (span_byte i span) (with_bytes rest (span_bytes (suc i) spans)) ≡ true
next_opens i span spans [] low kinds covers = refl
next_opens i span [] (r ∷ rs) low kinds covers = search arith
next_opens i span (s ∷ spans) (r ∷ rs) low kinds covers = search (arith, next_byte, All-head)

-- the first span of a text is its first syllable
pub cut_next : (i : ℕ) (span : Span) (spans : List Span) (gs : Glyphs)
    → All (λ s. s.kind ≤ 15) (span ∷ spans) → spans_cover (length gs) (span ∷ spans) ≡ true
    → syllables (with_bytes gs (span_bytes i (span ∷ spans))) ≡ map (in_syllable (span_byte i span)) (take span.len gs)
    ∷ syllables (with_bytes (drop span.len gs) (span_bytes (suc i) spans))
cut_next i span spans gs kinds covers =
    let kind : Span → Type 0 = λ s. s.kind ≤ 15 in
    let first = covers_first (length gs) span spans covers in
    let byte = span_byte i span in
    let bytes = span_bytes (suc i) spans in
    let n = span.len in
    let rest = drop n gs in
    let other = next_opens i span spans rest (All-head kind span spans kinds) (All-tail kind span spans kinds) (ap
    (λ k. spans_cover k spans) (length-drop n gs) ∙ first.rest) in
    cc (
      with_bytes-replicate n byte gs bytes first.within,
      first_syllable byte (take n gs) (with_bytes rest bytes) (omega (arith, length-take-le n gs first.within)) other,
    )

-- after a span was set up
pub record SetupNext (i : ℕ) (span : Span) (spans : List Span) (gs hs : Glyphs) (start end : ℕ) : Type
    0 where
  pub done : take end hs ++ unsafe_syllables (with_bytes (drop end hs) (span_bytes (suc i) spans)) ≡ take start gs
      ++ unsafe_syllables (with_bytes (drop start gs) (span_bytes i (span ∷ spans)))
  pub covered : spans_cover (length (drop end hs)) spans ≡ true
  pub inside : end ≤ length hs

pub setup_next : (i : ℕ) (span : Span) (spans : List Span) (gs : Glyphs) (start end : ℕ)
    → end ≡ start + span.len → start ≤ length gs → All (λ s. s.kind ≤ 15) (span ∷ spans)
    → spans_cover (length (drop start gs)) (span ∷ spans) ≡ true
    → SetupNext i span spans gs (with_stretch start end (in_unsafe_syllable (span_byte i span)) gs) start end
setup_next i span spans gs start end end_is inside kinds covers =
    let rest = drop start gs in
    let n = span.len in
    let first = covers_first (length rest) span spans covers in
    let piece = in_unsafe_syllable (span_byte i span) (take n rest) in
    let front = take start gs ++ piece in
    let long : length front ≡ end =
    search (
      arith,
      length-append (take start gs) piece,
      length-map,
      length-take-le n rest first.within,
      length-take-le start gs inside,
    ) in
    search (arith, drop-drop n start gs, append_assoc, take_at front (drop n rest) end long, drop_at front (drop n rest) end long, cut_next, length-drop n rest, length-append front (drop n rest))
