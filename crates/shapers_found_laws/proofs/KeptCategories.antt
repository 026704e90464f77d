-- Changes that keep glyphs in their syllables and give none of them a category.
use Rattle.std.proofs.Common.{◌≡◌, ℕ, zero, suc, ◌+◌, ◌≤◌, Bool, true, false, ◌==◌, List, [], ◌∷◌, cond, get_or, length, refl, sym, ap, subst, arith, lit≤, Option, None, Some}
use Rattle.std.specs.Prelude.{◌||◌, nat_lt, All, position, replicate, sum_by}
use Rattle.std.specs.List.{AllByRecursion, AllZip, list_any, position_or_len, prefix_len}
use Rattle.std.proofs.lemmas.Bool.{cond-false}
use Rattle.std.proofs.lemmas.List.{length-append}
use Rattle.std.proofs.lemmas.List.Elements.{All-from_recursion}
use Rattle.std.proofs.lemmas.List.Sums.{sum_by-cons}
use Rattle.shapers_buffer.proofs.MappedLists.{all-append}
use Rattle.shapers_buffer.specs.Glyphs.{Glyph, Glyphs}
use Rattle.shapers_buffer.specs.declared.buffer.syllables.Span.{Span}
use Rattle.shapers_buffer.specs.Syllables.{kind_of, span_byte, span_bytes, spans_cover, syllables, with_bytes}
use Rattle.shapers_spans.proofs.Cutting.{covered}
use Rattle.shapers_spans.specs.Grammar.{Grammar}
use Rattle.shapers_spans.specs.Khmer.{khmer_grammar}
use Rattle.shapers_spans.specs.Myanmar.{myanmar_grammar}
use Rattle.shapers_spans.specs.Indic.{indic_grammar}
use Rattle.shapers_spans.specs.Universal.{universal_grammar}
use Rattle.shapers_found_laws.specs.FoundSyllables.{FoundKindsKnown, GainsNone, KeptAtMostOne, OpensAsItHas, in_spans}
use Rattle.shapers_found_laws.proofs.ZippedGlyphs.{KeepsByte, count-zip, each-kept, syllables-zip}
use Rattle.shapers_found_laws.proofs.OnceInRules.{Few, KindsUpTo, count_in, spans-known}

-- ---- syllables glyph by glyph

abbrev pub Gains : ℕ → Glyphs → Glyphs → Type 0
Gains k gs hs = AllZip (GainsNone k) gs hs

gains-byte : (k : ℕ) → KeepsByte (GainsNone k)
gains-byte k g h gains = gains.byte

few-kept : (k : ℕ) (p q : Glyphs) → Gains k p q → Few k p → Few k q
few-kept k p q all few =
    let a = count-zip (λ g. g.category == k) (GainsNone k) (λ g h gains. gains.gained) p q all in
    omega (arith, a, few)

pub kept-at-most-one : KeptAtMostOne
kept-at-most-one k gs hs all few =
    each-kept (GainsNone k) (Few k) (few-kept k) (syllables gs) (syllables hs)
    (syllables-zip (GainsNone k) (gains-byte k) gs hs all) few

-- ---- how a syllable opens

opens-count : (k : ℕ) (gs : Glyphs) → prefix_len (λ (g : Glyph). g.category == k) gs ≤ count_in k gs
opens-count k [] = omega arith
opens-count k (g ∷ gs) =
    let a = sum_by-cons (λ (x : Glyph). cond (x.category == k) 1 0) g gs in
    let b = opens-count k gs in
    subst (λ n. cond (g.category == k) (1 + prefix_len (λ (x : Glyph). x.category == k) gs) 0 ≤ n) (sym a)
    (by (g.category == k) b)
  where
    by : (v : Bool) → prefix_len (λ (x : Glyph). x.category == k) gs ≤ count_in k gs
        → cond v (1 + prefix_len (λ (x : Glyph). x.category == k) gs) 0 ≤ cond v 1 0 + count_in k gs
    by true b = omega (arith, b)
    by false b = omega arith

opening-few : (k : ℕ) (ps : List Glyphs) → AllByRecursion (Few k) ps
    → AllByRecursion (λ p. prefix_len (λ (g : Glyph). g.category == k) p ≤ 1) ps
opening-few k [] few = tt
opening-few k (p ∷ ps) few =
    let a = opens-count k p in
    let b = few.0 in
    (omega (arith, a, b), opening-few k ps few.1)

pub opens-with-one : OpensAsItHas
opens-with-one k gs few = opening-few k (syllables gs) few

-- ---- kinds

abbrev Known : ℕ → ℕ → Type 0
Known last byte = kind_of byte ≤ last

same-known : (last n byte : ℕ) → Known last byte → AllByRecursion (Known last) (replicate n byte)
same-known last zero byte known = tt
same-known last (suc n) byte known = (known, same-known last n byte known)

bytes-known : (last i : ℕ) (spans : List Span) → last ≤ 15 → AllByRecursion (λ (s : Span). s.kind ≤ last) spans
    → AllByRecursion (Known last) (span_bytes i spans)
bytes-known last i [] low known = tt
bytes-known last i (s ∷ ss) low known =
    let a = known.0 in
    all-append (Known last) (replicate s.len (span_byte i s)) (span_bytes (suc i) ss)
    (same-known last s.len (span_byte i s) (omega (arith, low, a))) (bytes-known last (suc i) ss low known.1)

length-same : (n byte : ℕ) → length (replicate n byte) ≡ n
length-same zero byte = refl
length-same (suc n) byte = ap (λ m. suc m) (length-same n byte)

length-bytes : (i : ℕ) (spans : List Span) → length (span_bytes i spans) ≡ sum_by (λ (s : Span). s.len) spans
length-bytes i [] = refl
length-bytes i (s ∷ ss) =
    let a = length-append (replicate s.len (span_byte i s)) (span_bytes (suc i) ss) in
    let b = length-same s.len (span_byte i s) in
    let c = length-bytes (suc i) ss in
    let d = sum_by-cons (λ (t : Span). t.len) s ss in
    omega (arith, a, b, c, d)

abbrev pub IsUnknown : ℕ → Glyph → Bool
IsUnknown last g = nat_lt last (kind_of g.syllable)

pub not-above : (last n : ℕ) → n ≤ last → nat_lt last n ≡ false
not-above last n h = search (arith, h)

written-known : (last : ℕ) (gs : Glyphs) (bytes : List ℕ) → length gs ≤ length bytes
    → AllByRecursion (Known last) bytes → list_any (IsUnknown last) (with_bytes gs bytes) ≡ false
written-known last [] bytes long known = refl
written-known last (g ∷ gs) [] long known = absurd (omega (arith, long))
written-known last (g ∷ gs) (byte ∷ bytes) long known =
    rw (not-above last (kind_of byte) known.0, written-known last gs bytes (omega (arith, long)) known.1) refl

neither : (a b : Bool) → (a || b) ≡ false → (a ≡ false) × (b ≡ false)
neither true b h = cc
neither false b h = (refl, h)

none-first : (test : Glyph → Bool) (gs : Glyphs) → list_any test gs ≡ false → position_or_len test gs ≡ length gs
none-first test [] none = refl
none-first test (g ∷ gs) none =
    let p = neither (test g) (list_any test gs) none in
    rw (p.0, none-first test gs p.1) (search arith)

pub none-at : (test : Glyph → Bool) (gs : Glyphs) → list_any test gs ≡ false → position test gs ≡ None
none-at test gs none =
    let e = none-first test gs none in
    rw e (cond-false {A = Option ℕ} (nat_lt (length gs) (length gs)) (Some (length gs)) None (not-above (length gs) (length gs) (omega arith)))

from-recursion : (last : ℕ) (spans : List Span) → AllByRecursion (λ (s : Span). s.kind ≤ last) spans
    → All (λ (s : Span). s.kind ≤ last) spans
from-recursion last spans all = All-from_recursion (λ (s : Span). s.kind ≤ last) spans all

pub none-unknown : (last : ℕ) (gs : Glyphs) (spans : List Span) → last ≤ 15 → spans_cover (length gs) spans ≡ true
    → AllByRecursion (λ (s : Span). s.kind ≤ last) spans → list_any (IsUnknown last) (in_spans gs spans) ≡ false
none-unknown last gs spans low cover all =
    let a = length-bytes 0 spans in
    let b = covered (length gs) spans cover in
    written-known last gs (span_bytes 0 spans) (omega (arith, a, b)) (bytes-known last 0 spans low all)

kinds-known : (g : Grammar) (last : ℕ) → last ≤ 15 → KindsUpTo g last → FoundKindsKnown g last
kinds-known g last low upto gs spans are =
    let all = spans-known g last upto gs spans are in (
      from-recursion last spans all,
      none-at (IsUnknown last) (in_spans gs spans) (none-unknown last gs spans low are.cover all),
    )

within : (last : ℕ) (kinds : List ℕ) → AllByRecursion (λ k. k ≤ last) kinds → (j : ℕ) → get_or kinds j 0 ≤ last
within last [] all j = omega arith
within last (k ∷ ks) all zero = all.0
within last (k ∷ ks) all (suc j) = within last ks all.1 j

pub khmer-kinds : FoundKindsKnown khmer_grammar 2
unfolding khmer_grammar
khmer-kinds = kinds-known khmer_grammar 2 (lit≤ tt) (within 2 (0 ∷ 1 ∷ []) (lit≤ tt, (lit≤ tt, tt)), lit≤ tt)

pub myanmar-kinds : FoundKindsKnown myanmar_grammar 3
unfolding myanmar_grammar
myanmar-kinds = kinds-known myanmar_grammar 3 (lit≤ tt)
    (within 3 (0 ∷ 3 ∷ 2 ∷ []) (lit≤ tt, (lit≤ tt, (lit≤ tt, tt))), lit≤ tt)

pub indic-kinds : FoundKindsKnown indic_grammar 5
unfolding indic_grammar
indic-kinds = kinds-known indic_grammar 5 (lit≤ tt) (
  within 5 (0 ∷ 1 ∷ 2 ∷ 3 ∷ 5 ∷ 4 ∷ [])
      (lit≤ tt, (lit≤ tt, (lit≤ tt, (lit≤ tt, (lit≤ tt, (lit≤ tt, tt)))))),
  lit≤ tt,
)

pub universal-kinds : FoundKindsKnown universal_grammar 8
unfolding universal_grammar
universal-kinds = kinds-known universal_grammar 8 (lit≤ tt) (
  within 8 (0 ∷ 1 ∷ 2 ∷ 3 ∷ 4 ∷ 5 ∷ 6 ∷ 8 ∷ 7 ∷ [])
      (lit≤ tt, (lit≤ tt, (lit≤ tt, (lit≤ tt, (lit≤ tt, (lit≤ tt, (lit≤ tt, (lit≤ tt, (lit≤ tt, tt))))))))),
  lit≤ tt,
)
