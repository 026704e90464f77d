-- Rules whose words have a category at most once, and texts that are cut by them.
use Rattle.std.proofs.Common.{◌≡◌, ℕ, zero, suc, ◌+◌, ◌≤◌, Bool, true, false, ◌==◌, List, [], ◌∷◌, ◌++◌, cond, get_or, take, drop, length, refl, sym, ap, subst, ◌∙◌, arith, inl, inr, ⊎_elim}
use Rattle.std.specs.Prelude.{not, count_by, map, All, ◌-◌}
use Rattle.std.specs.List.{AllByRecursion}
use Rattle.std.proofs.Math.Seq.{take-nil}
use Rattle.std.proofs.lemmas.Bool.{cond_both, cond-false, eqb-true, false≢true, ne_eqb}
use Rattle.std.proofs.lemmas.List.Sums.{sum_by-append, sum_by-cons, count_by-le-length}
use Rattle.std.proofs.lemmas.List.{length-drop, length-take-le}
use Rattle.std.proofs.lemmas.List.Elements.{All-tail}
use Rattle.shapers_buffer.proofs.MappedLists.{all-append}
use Rattle.shapers_buffer.specs.Glyphs.{Glyph, Glyphs}
use Rattle.shapers_buffer.specs.declared.buffer.syllables.Span.{Span}
use Rattle.shapers_spans.specs.Cuts.{AreSpansOf}
use Rattle.shapers_spans.specs.Indic.{indic_grammar, indic_rules}
use Rattle.shapers_spans.specs.Khmer.{khmer_grammar, khmer_rules}
use Rattle.shapers_spans.specs.Universal.{universal_grammar, universal_rules}
use Rattle.shapers_spans.specs.Passing.{begins_passed, none_passed}
use Rattle.shapers_spans.proofs.Cutting.{behind-reach}
use Rattle.shapers_spans.proofs.Reached.{behind-is-read}
use Rattle.shapers_syllabic.proofs.SyllabicLemmas.{covers_first, cut_next}
use Rattle.shapers_found_laws.specs.FoundSyllables.{FoundAtMostOne, in_spans}
use Rattle.shapers_buffer.specs.Syllables.{in_syllable, span_byte, span_bytes, spans_cover, syllables, with_bytes}
use Rattle.shapers_spans.specs.Grammar.{Grammar, BeginsWith, IsCutFrom, lead_spans, IsSyllable, reach_of, read_of}
use Rattle.shapers_spans.specs.Re.{Re, none, empty, one, seq, alt, star, IsIn, Many, done, more}

-- how often a list of categories has this one
abbrev pub count : ℕ → List ℕ → ℕ
count k w = count_by (λ c. c == k) w

pub count-append : (k : ℕ) (u v : List ℕ) → count k (u ++ v) ≡ count k u + count k v
count-append k u v = sum_by-append (λ c. cond (c == k) 1 0) u v

-- no word of the rule has the category
unfoldable pub never : ℕ → Re → Bool
never k none = true
never k empty = true
never k (one c) = not (c == k)
never k (seq a b) = cond (never k a) (never k b) false
never k (alt a b) = cond (never k a) (never k b) false
never k (star a) = never k a

-- each has it at most once
unfoldable pub once : ℕ → Re → Bool
once k none = true
once k empty = true
once k (one c) = true
once k (seq a b) = cond (never k a) (once k b) (cond (once k a) (never k b) false)
once k (alt a b) = cond (once k a) (once k b) false
once k (star a) = never k a

pub both : (x y : Bool) → cond x y false ≡ true → (x ≡ true) × (y ≡ true)
both true y h = (refl, h)
both false y h = cc

not-count : (k c : ℕ) → not (c == k) ≡ true → count k (c ∷ []) ≡ 0
not-count k c h = by (c == k) refl h
  where
    by : (b : Bool) → (c == k) ≡ b → not b ≡ true → count k (c ∷ []) ≡ 0
    by true e h = cc
    by false e h = rw e refl

pub many-none : (k : ℕ) (L : List ℕ → Type 0) → ((w : List ℕ) → L w → count k w ≡ 0) → (w : List ℕ) → Many L w
    → count k w ≡ 0
many-none k L each w (done x e) = ap (count k) e
many-none k L each w (more x u v e a b) =
    let i = ap (count k) e in
    let y = count-append k u v in
    let z = each u a in
    let t = many-none k L each v b in
    omega (arith, i, y, z, t)

pub never-none : (k : ℕ) (r : Re) → never k r ≡ true → (w : List ℕ) → IsIn r w → count k w ≡ 0
unfolding never
never-none k none h w i = absurd i
never-none k empty h w i = ap (count k) i
never-none k (one c) h w i = ap (count k) i ∙ not-count k c h
never-none k (seq a b) h w i =
    let p = both (never k a) (never k b) h in
    let x = ap (count k) i.2 in
    let y = count-append k i.0 i.1 in
    let z = never-none k a p.0 i.0 i.3 in
    let t = never-none k b p.1 i.1 i.4 in
    omega (arith, x, y, z, t)
never-none k (alt a b) h w (inl i) = never-none k a (both (never k a) (never k b) h).0 w i
never-none k (alt a b) h w (inr i) = never-none k b (both (never k a) (never k b) h).1 w i
never-none k (star a) h w i = many-none k (IsIn a) (never-none k a h) w i

-- one list behind another, of which either has none
joined-once : (k : ℕ) (a b : Re) (w u v : List ℕ) → w ≡ u ++ v
    → cond (never k a) (once k b) (cond (once k a) (never k b) false) ≡ true → IsIn a u → IsIn b v
    → (once k a ≡ true → count k u ≤ 1) → (once k b ≡ true → count k v ≤ 1) → count k w ≤ 1
joined-once k a b w u v e h i j first second = by (never k a) refl h
  where
    size : count k w ≡ count k u + count k v
    size = ap (count k) e ∙ count-append k u v

    by : (n : Bool) → never k a ≡ n → cond n (once k b) (cond (once k a) (never k b) false) ≡ true → count k w ≤ 1
    by true n h = let z = never-none k a n u i in let t = second h in omega (arith, size, z, t)
    by false n h =
        let p = both (once k a) (never k b) h in
        let z = first p.0 in
        let t = never-none k b p.1 v j in
        omega (arith, size, z, t)

pub once-one : (k : ℕ) (r : Re) → once k r ≡ true → (w : List ℕ) → IsIn r w → count k w ≤ 1
unfolding once
once-one k none h w i = absurd i
once-one k empty h w i = let e = ap (count k) i in omega (arith, e)
once-one k (one c) h w i =
    let e = ap length i in
    let l = count_by-le-length (λ d. d == k) w in
    omega (arith, e, l)
once-one k (seq a b) h w i =
    joined-once k a b w i.0 i.1 i.2 h i.3 i.4 (λ p. once-one k a p i.0 i.3) (λ p. once-one k b p i.1 i.4)
once-one k (alt a b) h w (inl i) = once-one k a (both (once k a) (once k b) h).0 w i
once-one k (alt a b) h w (inr i) = once-one k b (both (once k a) (once k b) h).1 w i
once-one k (star a) h w i =
    let e = many-none k (IsIn a) (never-none k a h) w i in
    omega (arith, e)

-- each of these rules
unfoldable pub all_once : ℕ → List Re → Bool
all_once k [] = true
all_once k (r ∷ rs) = let rest = all_once k rs in cond (once k r) rest false

pub rule-once : (k : ℕ) (rules : List Re) → all_once k rules ≡ true → (j : ℕ) → once k (get_or rules j none) ≡ true
unfolding all_once once
rule-once k [] h j = refl
rule-once k (r ∷ rs) h zero = (both (once k r) (all_once k rs) h).0
rule-once k (r ∷ rs) h (suc j) = rule-once k rs (both (once k r) (all_once k rs) h).1 j

-- the syllable that a grammar finds in front
syllable-once : (k : ℕ) (g : Grammar) → all_once k g.rules ≡ true → (w : List ℕ) (span : Span)
    → IsSyllable g w span → count k (take span.len w) ≤ 1
syllable-once k g h w span (inl l) =
    once-one k (get_or g.rules l.rule none) (rule-once k g.rules h l.rule) (take span.len w) l.first.takes
syllable-once k g h w span (inr o) =
    let l = count_by-le-length (λ c. c == k) (take span.len w) in
    let e = length-take-le span.len w in
    let one = o.one in
    let within = o.within in
    let f : span.len ≤ length w = omega (arith, one, within) in
    let m = e f in
    omega (arith, l, m, one)

-- how often glyphs have the category
abbrev pub count_in : ℕ → Glyphs → ℕ
count_in k gs = count_by (λ (g : Glyph). g.category == k) gs

-- glyphs that are passed over don't have it
abbrev pub PassesOthers : ℕ → (Glyphs → Bool) → Type 0
PassesOthers k passes = (g : Glyph) (gs : Glyphs) → passes (g ∷ gs) ≡ true → (g.category == k) ≡ false

count-other : (k : ℕ) (g : Glyph) (gs : Glyphs) → (g.category == k) ≡ false → count_in k (g ∷ gs) ≡ count_in k gs
count-other k g gs e =
    let a = sum_by-cons (λ (h : Glyph). cond (h.category == k) 1 0) g gs in
    let b = cond-false {A = ℕ} (g.category == k) 1 0 e in
    omega (arith, a, b)

pub reach-count : (k : ℕ) (p : Glyphs → Bool) → PassesOthers k p → (gs : Glyphs) (m : ℕ)
    → count_in k (take (reach_of p gs m) gs) ≡ count k (take m (read_of p gs))
reach-count k p others [] m = ap (count k) (sym (take-nil m))
reach-count k p others (g ∷ gs) zero = by (p (g ∷ gs)) refl (reach-count k p others gs 0)
  where
    by : (v : Bool) → p (g ∷ gs) ≡ v → count_in k (take (reach_of p gs 0) gs) ≡ 0
        → count_in k (take (cond v (suc (reach_of p gs 0)) 0) (g ∷ gs)) ≡ 0
    by true e ih = count-other k g (take (reach_of p gs 0) gs) (others g gs e) ∙ ih
    by false e ih = refl
reach-count k p others (g ∷ gs) (suc m) =
    by (p (g ∷ gs)) refl (reach-count k p others gs (suc m)) (reach-count k p others gs m)
  where
    by : (v : Bool) → p (g ∷ gs) ≡ v
        → count_in k (take (reach_of p gs (suc m)) gs) ≡ count k (take (suc m) (read_of p gs))
        → count_in k (take (reach_of p gs m) gs) ≡ count k (take m (read_of p gs))
        → count_in k (take (suc (cond v (reach_of p gs (suc m)) (reach_of p gs m))) (g ∷ gs))
        ≡ count k (take (suc m) (cond v (read_of p gs) (g.category ∷ read_of p gs)))
    by true e passed read = count-other k g (take (reach_of p gs (suc m)) gs) (others g gs e) ∙ passed
    by false e passed read =
        sum_by-cons (λ (h : Glyph). cond (h.category == k) 1 0) g (take (reach_of p gs m) gs)
        ∙ ap (λ n. cond (g.category == k) 1 0 + n) read
        ∙ sym (sum_by-cons (λ c. cond (c == k) 1 0) g.category (take m (read_of p gs)))

-- so of each span
begins-once : (k : ℕ) (g : Grammar) → all_once k g.rules ≡ true → PassesOthers k g.passes → (gs : Glyphs) (span : Span)
    → BeginsWith g gs span → count_in k (take span.len gs) ≤ 1
begins-once k g h others gs span b =
    let e = ap (λ n. count_in k (take n gs)) b.len ∙ reach-count k g.passes others gs b.read.len in
    let l = syllable-once k g h (read_of g.passes gs) b.read b.syllable in
    omega (arith, e, l)

-- ---- the syllables of a cut

-- the byte of a syllable is no category
pub count-in-syllable : (k byte : ℕ) (gs : Glyphs) → count_in k (map (in_syllable byte) gs) ≡ count_in k gs
count-in-syllable k byte [] = refl
count-in-syllable k byte (g ∷ gs) =
    sum_by-cons (λ (h : Glyph). cond (h.category == k) 1 0) (in_syllable byte g) (map (in_syllable byte) gs)
    ∙ ap (λ n. cond (g.category == k) 1 0 + n) (count-in-syllable k byte gs)
    ∙ sym (sum_by-cons (λ (h : Glyph). cond (h.category == k) 1 0) g gs)

abbrev pub Few : ℕ → Glyphs → Type 0
Few k gs = count_in k gs ≤ 1

-- a property that the bytes of syllables don't touch, and that holds of what each syllable of a
-- grammar covers, from a glyph on that is read
abbrev pub ReadsNoByte : (Glyphs → Type 0) → Type 0
ReadsNoByte P = (byte : ℕ) (gs : Glyphs) → P gs → P (map (in_syllable byte) gs)

abbrev pub HoldsOfSpans : Grammar → (Glyphs → Type 0) → Type 0
HoldsOfSpans g P = (gs : Glyphs) (span : Span) → g.passes gs ≡ false → BeginsWith g gs span → P (take span.len gs)

-- a span in front of which it holds, and what is cut behind it
first-each : (P : Glyphs → Type 0) → ReadsNoByte P → (i : ℕ) (span : Span) (spans : List Span) (gs : Glyphs)
    → All (λ s. s.kind ≤ 15) (span ∷ spans) → spans_cover (length gs) (span ∷ spans) ≡ true → P (take span.len gs)
    → AllByRecursion P (syllables (with_bytes (drop span.len gs) (span_bytes (suc i) spans)))
    → AllByRecursion P (syllables (with_bytes gs (span_bytes i (span ∷ spans))))
first-each P byteless i span spans gs kinds covers held rest =
    subst (AllByRecursion P) (sym (cut_next i span spans gs kinds covers))
    (byteless (span_byte i span) (take span.len gs) held, rest)

cut-each : (P : Glyphs → Type 0) → ReadsNoByte P → (i : ℕ) (g : Grammar) → g.passes [] ≡ false → HoldsOfSpans g P
    → (gs : Glyphs) (spans : List Span) → g.passes gs ≡ false → IsCutFrom g gs spans → All (λ s. s.kind ≤ 15) spans
    → spans_cover (length gs) spans ≡ true → AllByRecursion P (syllables (with_bytes gs (span_bytes i spans)))
cut-each P byteless i g start holds gs [] read cut kinds covers =
    subst (λ (hs : Glyphs). AllByRecursion P (syllables (with_bytes hs []))) (sym cut) tt
cut-each P byteless i g start holds gs (span ∷ spans) read cut kinds covers =
    let first = covers_first (length gs) span spans covers in
    let left = ap (λ n. spans_cover n spans) (length-drop span.len gs) ∙ first.rest in
    let next : g.passes (drop span.len gs) ≡ false = subst (λ n. g.passes (drop n gs) ≡ false) (sym cut.0.len)
    (behind-reach g.passes start gs cut.0.read.len) in
    first-each P byteless i span spans gs kinds covers (holds gs span read cut.0)
    (cut-each P byteless (suc i) g start holds (drop span.len gs) spans next cut.1
    (All-tail (λ (s : Span). s.kind ≤ 15) span spans kinds) left)

-- the span of what is passed over in front
pub lead-some : (n kind : ℕ) → (let lead : Span = record { len = suc n; kind = kind } in lead_spans (suc n) kind
    ≡ lead ∷ [])
lead-some n kind =
    let lead : Span = record { len = suc n; kind = kind } in
    let none : List Span = [] in
    cond-false (suc n == 0) none (lead ∷ []) (ne_eqb (suc n) 0 (λ e. absurd (omega (arith, e))))

-- So it holds of each syllable of spans that are found, if also of what is passed over in front.
pub spans-each : (P : Glyphs → Type 0) → ReadsNoByte P → (g : Grammar) → g.passes [] ≡ false → HoldsOfSpans g P
    → (gs : Glyphs) → P (take (reach_of g.passes gs 0) gs) → (spans : List Span) → AreSpansOf g gs spans
    → AllByRecursion P (syllables (in_spans gs spans))
spans-each P byteless g start holds gs front spans are =
    led (reach_of g.passes gs 0) refl (behind-is-read g.passes start gs) are.cut.rest are.cut.cut
    (subst (All (λ (s : Span). s.kind ≤ 15)) are.cut.whole are.kinds)
    (subst (λ ss. spans_cover (length gs) ss ≡ true) are.cut.whole are.cover) are.cut.whole
  where
    led : (n : ℕ) → reach_of g.passes gs 0 ≡ n → g.passes (drop n gs) ≡ false → (rest : List Span)
        → IsCutFrom g (drop n gs) rest → All (λ (s : Span). s.kind ≤ 15) (lead_spans n g.other ++ rest)
        → spans_cover (length gs) (lead_spans n g.other ++ rest) ≡ true
        → spans ≡ lead_spans n g.other ++ rest → AllByRecursion P (syllables (in_spans gs spans))
    led zero z read rest cut kinds covers e =
        subst (λ ss. AllByRecursion P (syllables (in_spans gs ss))) (sym e)
        (cut-each P byteless 0 g start holds gs rest read cut kinds covers)
    led (suc n) z read rest cut kinds covers e =
        let lead : Span = record { len = suc n; kind = g.other } in
        let one = ap (λ (ss : List Span). ss ++ rest) (lead-some n g.other) in
        let all = subst (All (λ (s : Span). s.kind ≤ 15)) one kinds in
        let covered = subst (λ ss. spans_cover (length gs) ss ≡ true) one covers in
        let first = covers_first (length gs) lead rest covered in
        let left = ap (λ m. spans_cover m rest) (length-drop (suc n) gs) ∙ first.rest in
        subst (λ ss. AllByRecursion P (syllables (in_spans gs ss))) (sym (e ∙ one))
        (first-each P byteless 0 lead rest gs all covered (subst (λ m. P (take m gs)) z front)
        (cut-each P byteless 1 g start holds (drop (suc n) gs) rest read cut
        (All-tail (λ (s : Span). s.kind ≤ 15) lead rest all) left))

-- what is passed over in front has the category nowhere
pub front-none : (k : ℕ) (p : Glyphs → Bool) → PassesOthers k p → (gs : Glyphs)
    → count_in k (take (reach_of p gs 0) gs) ≡ 0
front-none k p others gs = reach-count k p others gs 0

pub spans-few : (k : ℕ) (g : Grammar) → all_once k g.rules ≡ true → g.passes [] ≡ false → PassesOthers k g.passes
    → FoundAtMostOne g k
spans-few k g h start others gs spans are =
    let front = front-none k g.passes others gs in
    spans-each (Few k) (λ byte xs few. let e = count-in-syllable k byte xs in omega (arith, e, few)) g start
    (λ xs span read b. begins-once k g h others xs span b) gs (omega (arith, front)) spans are

-- ---- the grammars

none_pass : (k : ℕ) → PassesOthers k none_passed
none_pass k g gs e = absurd (false≢true e)

-- CGJ and ZWNJ are no R
pub universal_passes : PassesOthers 18 begins_passed
universal_passes g gs e = by (g.category == 18) refl
  where
    by : (b : Bool) → (g.category == 18) ≡ b → (g.category == 18) ≡ false
    by false is = is
    by true is =
        let c = eqb-true g.category 18 is in
        let no : begins_passed (g ∷ gs) ≡ false = rw c refl in
        absurd (false≢true (sym no ∙ e))

pub universal-few : FoundAtMostOne universal_grammar 18
unfolding universal_grammar universal_rules all_once once never
universal-few = spans-few 18 universal_grammar refl refl universal_passes

pub indic-few : FoundAtMostOne indic_grammar 14
unfolding indic_grammar indic_rules all_once once never
indic-few = spans-few 14 indic_grammar refl refl (none_pass 14)

pub khmer-few : FoundAtMostOne khmer_grammar 14
unfolding khmer_grammar khmer_rules all_once once never
khmer-few = spans-few 14 khmer_grammar refl refl (none_pass 14)

-- ---- kinds

-- the grammar gives kinds up to this one
abbrev pub KindsUpTo : Grammar → ℕ → Type 0
KindsUpTo g last = ((j : ℕ) → get_or g.kinds j 0 ≤ last) × (g.other ≤ last)

begins-known : (g : Grammar) (last : ℕ) → KindsUpTo g last → (gs : Glyphs) (span : Span) → BeginsWith g gs span
    → span.kind ≤ last
begins-known g last upto gs span b =
    ⊎_elim (λ l. let e = l.kind in let m = upto.0 l.rule in let s = b.kind in omega (arith, e, m, s))
    (λ o. let e = o.kind in let m = upto.1 in let s = b.kind in omega (arith, e, m, s)) b.syllable

cut-known : (g : Grammar) (last : ℕ) → KindsUpTo g last → (gs : Glyphs) (spans : List Span) → IsCutFrom g gs spans
    → AllByRecursion (λ span. span.kind ≤ last) spans
cut-known g last upto gs [] cut = tt
cut-known g last upto gs (span ∷ spans) cut =
    (begins-known g last upto gs span cut.0, cut-known g last upto (drop span.len gs) spans cut.1)

lead-known : (g : Grammar) (last n : ℕ) → g.other ≤ last
    → AllByRecursion (λ (span : Span). span.kind ≤ last) (lead_spans n g.other)
lead-known g last n within =
    let lead : Span = record { len = n; kind = g.other } in
    cond_both (n == 0) [] (lead ∷ []) (λ (ss : List Span). AllByRecursion (λ s. s.kind ≤ last) ss)
    (λ _. tt) (λ _. (within, tt))

pub spans-known : (g : Grammar) (last : ℕ) → KindsUpTo g last → (gs : Glyphs) (spans : List Span)
    → AreSpansOf g gs spans → AllByRecursion (λ span. span.kind ≤ last) spans
spans-known g last upto gs spans are =
    subst (AllByRecursion (λ (s : Span). s.kind ≤ last)) (sym are.cut.whole)
    (all-append (λ (s : Span). s.kind ≤ last) (lead_spans (reach_of g.passes gs 0) g.other) are.cut.rest
    (lead-known g last (reach_of g.passes gs 0) upto.1)
    (cut-known g last upto (drop (reach_of g.passes gs 0) gs) are.cut.rest are.cut.cut))
