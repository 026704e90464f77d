-- Rules whose words have a category in front alone, and texts that are cut by them.
use Rattle.std.proofs.Common.{◌≡◌, ℕ, zero, suc, ◌+◌, ◌≤◌, Bool, true, false, ◌==◌, List, [], ◌∷◌, ◌++◌, cond, get_or, take, drop, refl, sym, ap, ◌∙◌, arith, inl, inr}
use Rattle.std.specs.Prelude.{map}
use Rattle.std.specs.List.{AllByRecursion}
use Rattle.std.proofs.lemmas.List.Sums.{sum_by-cons}
use Rattle.shapers_buffer.specs.Glyphs.{Glyph, Glyphs}
use Rattle.shapers_buffer.specs.Syllables.{in_syllable, syllables}
use Rattle.shapers_buffer.specs.declared.buffer.syllables.Span.{Span}
use Rattle.shapers_spans.specs.Cuts.{AreSpansOf}
use Rattle.shapers_spans.specs.Grammar.{BeginsWith, Grammar, IsSyllable, reach_of, read_of}
use Rattle.shapers_spans.specs.Re.{Re, none, empty, one, seq, alt, star, IsIn}
use Rattle.shapers_spans.specs.Universal.{universal_grammar, universal_rules}
use Rattle.shapers_spans.proofs.Reached.{keep_reach, keep_read}
use Rattle.shapers_found_laws.specs.FoundSyllables.{in_spans}
use Rattle.shapers_found_laws.proofs.OnceInRules.{PassesOthers, both, count, count-append, count-in-syllable, count_in, front-none, many-none, never, never-none, reach-count, spans-each, universal_passes}

-- ---- rules

-- each word of the rule has the category in front alone, if at all
unfoldable pub heads : ℕ → Re → Bool
heads k none = true
heads k empty = true
heads k (one c) = true
heads k (seq a b) = cond (heads k a) (never k b) false
heads k (alt a b) = cond (heads k a) (heads k b) false
heads k (star a) = never k a

count-tail : (k : ℕ) (w : List ℕ) → count k (drop 1 w) ≤ count k w
count-tail k [] = omega arith
count-tail k (c ∷ w) =
    let a = sum_by-cons (λ d. cond (d == k) 1 0) c w in
    omega (arith, a)

tail-append : (k : ℕ) (u v : List ℕ) → count k (drop 1 u) ≡ 0 → count k v ≡ 0 → count k (drop 1 (u ++ v)) ≡ 0
tail-append k [] v a b = let t = count-tail k v in omega (arith, t, b)
tail-append k (c ∷ u) v a b = let e = count-append k u v in omega (arith, e, a, b)

heads-tail : (k : ℕ) (r : Re) → heads k r ≡ true → (w : List ℕ) → IsIn r w → count k (drop 1 w) ≡ 0
unfolding heads
heads-tail k none h w i = absurd i
heads-tail k empty h w i = ap (λ u. count k (drop 1 u)) i
heads-tail k (one c) h w i = ap (λ u. count k (drop 1 u)) i
heads-tail k (seq a b) h w i =
    let p = both (heads k a) (never k b) h in
    ap (λ u. count k (drop 1 u)) i.2
    ∙ tail-append k i.0 i.1 (heads-tail k a p.0 i.0 i.3) (never-none k b p.1 i.1 i.4)
heads-tail k (alt a b) h w (inl i) = heads-tail k a (both (heads k a) (heads k b) h).0 w i
heads-tail k (alt a b) h w (inr i) = heads-tail k b (both (heads k a) (heads k b) h).1 w i
heads-tail k (star a) h w i =
    let e = many-none k (IsIn a) (never-none k a h) w i in
    let t = count-tail k w in
    omega (arith, e, t)

unfoldable pub all_head : ℕ → List Re → Bool
all_head k [] = true
all_head k (r ∷ rs) = let rest = all_head k rs in cond (heads k r) rest false

rule-heads : (k : ℕ) (rules : List Re) → all_head k rules ≡ true → (j : ℕ) → heads k (get_or rules j none) ≡ true
unfolding all_head heads
rule-heads k [] h j = refl
rule-heads k (r ∷ rs) h zero = (both (heads k r) (all_head k rs) h).0
rule-heads k (r ∷ rs) h (suc j) = rule-heads k rs (both (heads k r) (all_head k rs) h).1 j

-- ---- syllables

one-tail : (k : ℕ) (w : List ℕ) → count k (drop 1 (take 1 w)) ≡ 0
one-tail k [] = refl
one-tail k (c ∷ w) = refl

syllable-tail : (k : ℕ) (g : Grammar) → all_head k g.rules ≡ true → (w : List ℕ) (span : Span)
    → IsSyllable g w span → count k (drop 1 (take span.len w)) ≡ 0
syllable-tail k g h w span (inl l) =
    heads-tail k (get_or g.rules l.rule none) (rule-heads k g.rules h l.rule) (take span.len w) l.first.takes
syllable-tail k g h w span (inr o) = ap (λ n. count k (drop 1 (take n w))) o.one ∙ one-tail k w

some-long : (g : Grammar) (w : List ℕ) (span : Span) → IsSyllable g w span → 1 ≤ span.len
some-long g w span (inl l) = let s = l.some in omega (arith, s)
some-long g w span (inr o) = let s = o.one in omega (arith, s)

-- what stands behind the first glyph of a span, which is read
read-tail : (k : ℕ) (p : Glyphs → Bool) → PassesOthers k p → (g : Glyph) (gs : Glyphs) → p (g ∷ gs) ≡ false
    → (m : ℕ) → 1 ≤ m → count_in k (drop 1 (take (reach_of p (g ∷ gs) m) (g ∷ gs)))
    ≡ count k (drop 1 (take m (read_of p (g ∷ gs))))
read-tail k p others g gs read zero some = absurd (omega (arith, some))
read-tail k p others g gs read (suc m) some =
    ap (λ n. count_in k (drop 1 (take n (g ∷ gs)))) (keep_reach p g gs m read)
    ∙ (reach-count k p others gs m ∙ ap (λ (w : List ℕ). count k (drop 1 (take (suc m) w))) (sym (keep_read p g gs read)))

abbrev pub HeadAlone : ℕ → Glyphs → Type 0
HeadAlone k gs = count_in k (drop 1 gs) ≡ 0

begins-head : (k : ℕ) (g : Grammar) → all_head k g.rules ≡ true → PassesOthers k g.passes → (gs : Glyphs) (span : Span)
    → g.passes gs ≡ false → BeginsWith g gs span → HeadAlone k (take span.len gs)
begins-head k g h others [] span read b = none-taken span.len
  where
    none-taken : (n : ℕ) → count_in k (drop 1 (take n [])) ≡ 0
    none-taken zero = refl
    none-taken (suc n) = refl
begins-head k g h others (x ∷ xs) span read b =
    ap (λ n. count_in k (drop 1 (take n (x ∷ xs)))) b.len
    ∙ (read-tail k g.passes others x xs read b.read.len (some-long g (read_of g.passes (x ∷ xs)) b.read b.syllable)
    ∙ syllable-tail k g h (read_of g.passes (x ∷ xs)) b.read b.syllable)

tail-in-syllable : (k byte : ℕ) (gs : Glyphs) → HeadAlone k gs → HeadAlone k (map (in_syllable byte) gs)
tail-in-syllable k byte [] head = refl
tail-in-syllable k byte (g ∷ gs) head = count-in-syllable k byte gs ∙ head

count-in-tail : (k : ℕ) (gs : Glyphs) → count_in k (drop 1 gs) ≤ count_in k gs
count-in-tail k [] = omega arith
count-in-tail k (g ∷ gs) =
    let a = sum_by-cons (λ (x : Glyph). cond (x.category == k) 1 0) g gs in
    omega (arith, a)

-- so each syllable that a grammar of such rules finds
spans-head : (k : ℕ) (g : Grammar) → all_head k g.rules ≡ true → g.passes [] ≡ false → PassesOthers k g.passes
    → (gs : Glyphs) (spans : List Span) → AreSpansOf g gs spans
    → AllByRecursion (HeadAlone k) (syllables (in_spans gs spans))
spans-head k g h start others gs spans are =
    let front = front-none k g.passes others gs in
    let less = count-in-tail k (take (reach_of g.passes gs 0) gs) in
    spans-each (HeadAlone k) (tail-in-syllable k) g start (λ xs span read b. begins-head k g h others xs span read b) gs
    (omega (arith, front, less)) spans are

-- R stands in front of a syllable of the universal shaper
pub universal-head : (gs : Glyphs) (spans : List Span) → AreSpansOf universal_grammar gs spans
    → AllByRecursion (HeadAlone 18) (syllables (in_spans gs spans))
unfolding universal_grammar universal_rules all_head heads never
universal-head = spans-head 18 universal_grammar refl refl universal_passes
