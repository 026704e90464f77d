-- With what found syllables open, and where their borders are those of clusters.
use Rattle.std.proofs.Common.{◌≡◌, ◌∙◌, ℕ, zero, suc, ◌+◌, ◌-◌, ◌<◌, ◌≤◌, Bool, true, false, ◌==◌, List, [], ◌∷◌, ◌++◌, cond, get_or, take, drop, length, sum_by, refl, sym, ap, subst, arith, inl, inr, lit≤}
use Rattle.std.specs.Prelude.{nat_lt}
use Rattle.std.specs.List.{AllByRecursion, list_any}
use Rattle.std.proofs.lemmas.Bool.{false≢true, ltb-false, ltb-true}
use Rattle.std.proofs.lemmas.List.{drop-drop, get_or-drop}
use Rattle.std.proofs.lemmas.List.Sums.{sum_by-append, sum_by-cons}
use Rattle.shapers_buffer.specs.Glyph.{default_glyph}
use Rattle.shapers_buffer.specs.Glyphs.{Glyph, Glyphs}
use Rattle.shapers_buffer.specs.Properties.{is_continuation}
use Rattle.shapers_buffer.specs.declared.buffer.syllables.Span.{Span}
use Rattle.shapers_spans.specs.Cuts.{AreSpansOf}
use Rattle.shapers_spans.specs.Grammar.{BeginsWith, Grammar, IsCutFrom, IsSyllable, lead_spans, reach_of, read_of}
use Rattle.shapers_spans.specs.Indic.{indic_grammar, indic_rules}
use Rattle.shapers_spans.specs.Khmer.{khmer_grammar, khmer_rules}
use Rattle.shapers_spans.specs.Myanmar.{myanmar_grammar, myanmar_rules}
use Rattle.shapers_spans.specs.Re.{Re, none, empty, one, seq, alt, star, IsIn, Many, done, more}
use Rattle.shapers_spans.specs.Universal.{universal_grammar, universal_rules}
use Rattle.shapers_spans.proofs.Cutting.{behind-reach, covered}
use Rattle.shapers_spans.proofs.Reached.{behind-is-read, keep_read}
use Rattle.shapers_spans.proofs.StepLemmas.{takes-nullable}
use Rattle.shapers_spans.proofs.Steps.{nullable}
use Rattle.shapers_break_laws.specs.IndicBreaks.{SpansSeparateClusters}
use Rattle.shapers_found_laws.specs.FoundBorders.{BeginsGrapheme, BordersPart, EachOpens, FoundOpensWith, IsOneOf, SharesInGraphemes}
use Rattle.shapers_found_laws.proofs.KeptCategories.{not-above}
use Rattle.shapers_found_laws.proofs.OnceInRules.{both, lead-some}

-- ---- rules

-- each word of the rule opens with a category that passes the test, if it isn't empty
unfoldable pub words_open : (ℕ → Bool) → Re → Bool
words_open t none = true
words_open t empty = true
words_open t (one c) = t c
words_open t (seq a b) = let rest = words_open t b in cond (words_open t a) (cond (nullable a) rest true) false
words_open t (alt a b) = let rest = words_open t b in cond (words_open t a) rest false
words_open t (star a) = words_open t a

-- the words of L so
abbrev Opens : (ℕ → Bool) → (List ℕ → Type 0) → Type 0
Opens t L = (c : ℕ) (u w : List ℕ) → L w → w ≡ c ∷ u → t c ≡ true

no-cons : {X : Type 0} (c : ℕ) (u w : List ℕ) → w ≡ [] → w ≡ c ∷ u → X
no-cons c u w i e = absurd (let l = ap length (sym i ∙ e) in omega (arith, l))

head-same : (c d : ℕ) (u v : List ℕ) → c ∷ u ≡ d ∷ v → c ≡ d
head-same c d u v e = ap (λ w. get_or w 0 c) e

many-open : (t : ℕ → Bool) (L : List ℕ → Type 0) → Opens t L → (c : ℕ) (u w : List ℕ) → Many L w → w ≡ c ∷ u
    → t c ≡ true
many-open t L each c u w (done x i) e = no-cons c u w i e
many-open t L each c u w (more x [] y i a b) e = many-open t L each c u y b (sym i ∙ e)
many-open t L each c u w (more x (d ∷ v) y i a b) e =
    let same = head-same d c (v ++ y) u (sym i ∙ e) in
    ap t (sym same) ∙ each d v (d ∷ v) a refl

seq-open : (t : ℕ → Bool) (a b : Re) → Opens t (IsIn a) → (nullable a ≡ true → Opens t (IsIn b))
    → (c : ℕ) (u w x y : List ℕ) → w ≡ x ++ y → IsIn a x → IsIn b y → w ≡ c ∷ u → t c ≡ true
seq-open t a b first second c u w [] y i j k e = second (takes-nullable a j) c u y k (sym i ∙ e)
seq-open t a b first second c u w (d ∷ v) y i j k e =
    let same = head-same d c (v ++ y) u (sym i ∙ e) in
    ap t (sym same) ∙ first d v (d ∷ v) j refl

second-opens : (n rest : Bool) → cond n rest true ≡ true → n ≡ true → rest ≡ true
second-opens true rest h is = h
second-opens false rest h is = absurd (false≢true is)

opens-by : (t : ℕ → Bool) (r : Re) → words_open t r ≡ true → Opens t (IsIn r)
unfolding words_open
opens-by t none h c u w i e = absurd i
opens-by t empty h c u w i e = no-cons c u w i e
opens-by t (one d) h c u w i e = ap t (sym (head-same d c [] u (sym i ∙ e))) ∙ h
opens-by t (seq a b) h c u w i e =
    let p = both (words_open t a) (cond (nullable a) (words_open t b) true) h in
    seq-open t a b (opens-by t a p.0)
    (λ n. opens-by t b (second-opens (nullable a) (words_open t b) p.1 n)) c u w i.0 i.1 i.2 i.3 i.4 e
opens-by t (alt a b) h c u w (inl i) e = opens-by t a (both (words_open t a) (words_open t b) h).0 c u w i e
opens-by t (alt a b) h c u w (inr i) e = opens-by t b (both (words_open t a) (words_open t b) h).1 c u w i e
opens-by t (star a) h c u w i e = many-open t (IsIn a) (opens-by t a h) c u w i e

-- each rule that gives a kind up to the last
unfoldable pub all_words_open : (ℕ → Bool) → ℕ → List Re → List ℕ → Bool
all_words_open t last [] kinds = true
all_words_open t last (r ∷ rs) kinds =
    let rest = all_words_open t last rs (drop 1 kinds) in
    cond (nat_lt last (get_or kinds 0 0)) rest (cond (words_open t r) rest false)

rest-holds : (b o rest : Bool) → cond b rest (cond o rest false) ≡ true → rest ≡ true
rest-holds true o rest h = h
rest-holds false true rest h = h
rest-holds false false rest h = absurd (false≢true h)

first-holds : (b o rest : Bool) → b ≡ false → cond b rest (cond o rest false) ≡ true → o ≡ true
first-holds true o rest low h = absurd (false≢true (sym low))
first-holds false true rest low h = refl
first-holds false false rest low h = h

kind-later : (kinds : List ℕ) (j : ℕ) → get_or (drop 1 kinds) j 0 ≡ get_or kinds (suc j) 0
kind-later [] j = refl
kind-later (k ∷ kinds) j = refl

rule-open : (t : ℕ → Bool) (last : ℕ) (rules : List Re) (kinds : List ℕ) → all_words_open t last rules kinds ≡ true
    → (j : ℕ) → get_or kinds j 0 ≤ last → words_open t (get_or rules j none) ≡ true
unfolding all_words_open words_open
rule-open t last [] kinds h j low = refl
rule-open t last (r ∷ rs) kinds h zero low =
    first-holds (nat_lt last (get_or kinds 0 0)) (words_open t r) (all_words_open t last rs (drop 1 kinds))
    (not-above last (get_or kinds 0 0) low) h
rule-open t last (r ∷ rs) kinds h (suc j) low =
    rule-open t last rs (drop 1 kinds)
    (rest-holds (nat_lt last (get_or kinds 0 0)) (words_open t r) (all_words_open t last rs (drop 1 kinds)) h) j
    (subst (λ n. n ≤ last) (sym (kind-later kinds j)) low)

-- ---- spans

-- what a syllable of such a kind opens with
syllable-opens : (t : ℕ → Bool) (last : ℕ) (g : Grammar) → all_words_open t last g.rules g.kinds ≡ true → suc last ≤ g.other
    → (c : ℕ) (u : List ℕ) (span : Span) → IsSyllable g (c ∷ u) span → span.kind ≤ last → t c ≡ true
syllable-opens t last g h high c u span (inl l) low = by span.len refl
  where
    rule : Re
    rule = get_or g.rules l.rule none

    by : (n : ℕ) → span.len ≡ n → t c ≡ true
    by zero is = let some = l.some in absurd (omega (arith, some, is))
    by (suc n) is =
        let kind = l.kind in
        opens-by t rule (rule-open t last g.rules g.kinds h l.rule (omega (arith, kind, low))) c (take n u)
        (take span.len (c ∷ u)) l.first.takes (ap (λ k. take k (c ∷ u)) is)
syllable-opens t last g h high c u span (inr o) low = let kind = o.kind in absurd (omega (arith, kind, high, low))

none-read : (g : Grammar) (span : Span) → IsSyllable g [] span → ⊥
none-read g span (inl l) = let a = l.some in let b = l.within in absurd (omega (arith, a, b))
none-read g span (inr o) = let a = o.within in absurd (omega (arith, a))

abbrev Whole : (ℕ → Bool) → ℕ → Span → Glyph → Type 0
Whole t last span glyph = span.kind ≤ last → t glyph.category ≡ true

begins-opens : (t : ℕ → Bool) (last : ℕ) (g : Grammar) → all_words_open t last g.rules g.kinds ≡ true → suc last ≤ g.other
    → (gs : Glyphs) (span : Span) → g.passes gs ≡ false → BeginsWith g gs span
    → Whole t last span (get_or gs 0 default_glyph)
begins-opens t last g h high [] span read b = λ low. absurd (none-read g b.read b.syllable)
begins-opens t last g h high (x ∷ xs) span read b =
    λ low. let kind = b.kind in
    syllable-opens t last g h high x.category (read_of g.passes xs) b.read
    (subst (λ w. IsSyllable g w b.read) (keep_read g.passes x xs read) b.syllable) (omega (arith, kind, low))

cut-opens : (t : ℕ → Bool) (last : ℕ) (g : Grammar) → all_words_open t last g.rules g.kinds ≡ true → suc last ≤ g.other
    → g.passes [] ≡ false → (gs : Glyphs) (spans : List Span) → g.passes gs ≡ false → IsCutFrom g gs spans
    → EachOpens (Whole t last) spans gs
cut-opens t last g h high start gs [] read cut = tt
cut-opens t last g h high start gs (span ∷ spans) read cut = (
  begins-opens t last g h high gs span read cut.0,
  cut-opens t last g h high start (drop span.len gs) spans
      (subst (λ n. g.passes (drop n gs) ≡ false) (sym cut.0.len) (behind-reach g.passes start gs cut.0.read.len)) cut.1,
)

spans-open : (t : ℕ → Bool) (last : ℕ) (g : Grammar) → all_words_open t last g.rules g.kinds ≡ true → suc last ≤ g.other
    → g.passes [] ≡ false → (gs : Glyphs) (spans : List Span) → AreSpansOf g gs spans
    → EachOpens (Whole t last) spans gs
spans-open t last g h high start gs spans are =
    subst (λ ss. EachOpens (Whole t last) ss gs) (sym are.cut.whole)
    (led (reach_of g.passes gs 0) (behind-is-read g.passes start gs) are.cut.cut)
  where
    led : (n : ℕ) → g.passes (drop n gs) ≡ false → IsCutFrom g (drop n gs) are.cut.rest
        → EachOpens (Whole t last) (lead_spans n g.other ++ are.cut.rest) gs
    led zero read cut = cut-opens t last g h high start gs are.cut.rest read cut
    led (suc n) read cut =
        subst (λ ss. EachOpens (Whole t last) (ss ++ are.cut.rest) gs) (sym (lead-some n g.other))
        ((λ low. absurd (omega (arith, low, high))), cut-opens t last g h high start (drop (suc n) gs) are.cut.rest read cut)

pub indic-opens-with : FoundOpensWith indic_grammar 3 (1 ∷ 2 ∷ 10 ∷ 11 ∷ 14 ∷ 15 ∷ 17 ∷ 18 ∷ [])
unfolding indic_grammar indic_rules all_words_open words_open nullable
indic-opens-with =
    spans-open (λ k. list_any (λ c. c == k) (1 ∷ 2 ∷ 10 ∷ 11 ∷ 14 ∷ 15 ∷ 17 ∷ 18 ∷ [])) 3 indic_grammar refl
    (lit≤ tt) refl

pub khmer-opens-with : FoundOpensWith khmer_grammar 0 (1 ∷ 2 ∷ 10 ∷ 11 ∷ 15 ∷ [])
unfolding khmer_grammar khmer_rules all_words_open words_open nullable
khmer-opens-with =
    spans-open (λ k. list_any (λ c. c == k) (1 ∷ 2 ∷ 10 ∷ 11 ∷ 15 ∷ [])) 0 khmer_grammar refl (lit≤ tt) refl

pub myanmar-opens-with : FoundOpensWith myanmar_grammar 0 (1 ∷ 2 ∷ 10 ∷ 11 ∷ 15 ∷ 18 ∷ [])
unfolding myanmar_grammar myanmar_rules all_words_open words_open nullable
myanmar-opens-with =
    spans-open (λ k. list_any (λ c. c == k) (1 ∷ 2 ∷ 10 ∷ 11 ∷ 15 ∷ 18 ∷ [])) 0 myanmar_grammar refl
    (lit≤ tt) refl

pub universal-opens-with : FoundOpensWith universal_grammar 6 (0 ∷ 1 ∷ 4 ∷ 5 ∷ 18 ∷ 43 ∷ 49 ∷ 51 ∷ [])
unfolding universal_grammar universal_rules all_words_open words_open nullable
universal-opens-with =
    spans-open (λ k. list_any (λ c. c == k) (0 ∷ 1 ∷ 4 ∷ 5 ∷ 18 ∷ 43 ∷ 49 ∷ 51 ∷ [])) 6 universal_grammar refl
    (lit≤ tt) refl

-- ---- borders

opens-behind : (P : Span → Glyph → Type 0) (front : List Span) (span : Span) (back : List Span) (gs : Glyphs)
    → EachOpens P (front ++ span ∷ back) gs
    → P span (get_or (drop (sum_by (λ (s : Span). s.len) front) gs) 0 default_glyph)
opens-behind P [] span back gs all = all.0
opens-behind P (s ∷ front) span back gs all =
    let n = sum_by (λ (x : Span). x.len) front in
    let e = drop-drop n s.len gs ∙ ap (λ k. drop k gs) (sym (sum_by-cons (λ (x : Span). x.len) s front)) in
    subst (λ hs. P span (get_or hs 0 default_glyph)) e (opens-behind P front span back (drop s.len gs) all.1)

-- where no span opens with a glyph that carries on a grapheme
borders-part : (gs : Glyphs) (spans : List Span) → sum_by (λ (s : Span). s.len) spans ≡ length gs → SharesInGraphemes gs
    → EachOpens (λ span glyph. BeginsGrapheme glyph) spans gs → SpansSeparateClusters spans gs
borders-part gs spans total shares begins p some within border = λ same. by border.back border.split (shares p some within same)
  where
    n : ℕ
    n = sum_by (λ (s : Span). s.len) border.front

    by : (back : List Span) → spans ≡ border.front ++ back
        → is_continuation (get_or gs p default_glyph).unicode_props ≡ true → ⊥
    by [] split is =
        let a = ap (sum_by (λ (s : Span). s.len)) split in
        let b = sum_by-append (λ (s : Span). s.len) border.front [] in
        let c = border.place in
        absurd (omega (arith, a, b, c, total, within))
    by (span ∷ back) split is =
        let first = opens-behind (λ s glyph. BeginsGrapheme glyph) border.front span back gs
        (subst (λ ss. EachOpens (λ s glyph. BeginsGrapheme glyph) ss gs) split begins) in
        let place = border.place in
        let whole : n + 0 ≡ p = omega (arith, place) in
        let at : get_or (drop n gs) 0 default_glyph ≡ get_or gs p default_glyph =
        get_or-drop n gs 0 default_glyph ∙ ap (λ k. get_or gs k default_glyph) whole in
        false≢true (sym (subst BeginsGrapheme at first) ∙ is)

-- openers of whole syllables and of others
all-dropped : (Q : Glyph → Type 0) (n : ℕ) (gs : Glyphs) → AllByRecursion Q gs → AllByRecursion Q (drop n gs)
all-dropped Q zero gs all = all
all-dropped Q (suc n) [] all = tt
all-dropped Q (suc n) (g ∷ gs) all = all-dropped Q n gs all.1

first-of-all : (Q : Glyph → Type 0) → Q default_glyph → (gs : Glyphs) → AllByRecursion Q gs → Q (get_or gs 0 default_glyph)
first-of-all Q other [] all = other
first-of-all Q other (g ∷ gs) all = all.0

each-begins : (last : ℕ) (categories : List ℕ) (spans : List Span) (gs : Glyphs)
    → EachOpens (λ span glyph. span.kind ≤ last → IsOneOf categories glyph) spans gs
    → AllByRecursion (λ glyph. IsOneOf categories glyph → BeginsGrapheme glyph) gs
    → EachOpens (λ span glyph. last < span.kind → BeginsGrapheme glyph) spans gs
    → EachOpens (λ span glyph. BeginsGrapheme glyph) spans gs
each-begins last categories [] gs opens begin others = tt
each-begins last categories (span ∷ spans) gs opens begin others = (
  by (nat_lt last span.kind) refl,
  each-begins last categories spans (drop span.len gs) opens.1
      (all-dropped (λ glyph. IsOneOf categories glyph → BeginsGrapheme glyph) span.len gs begin) others.1,
)
  where
    by : (b : Bool) → nat_lt last span.kind ≡ b → BeginsGrapheme (get_or gs 0 default_glyph)
    by true high = others.0 (ltb-true last span.kind high)
    by false low =
        first-of-all (λ glyph. IsOneOf categories glyph → BeginsGrapheme glyph) (λ one. refl) gs begin
        (opens.0 (ltb-false last span.kind low))

pub found-borders : BordersPart
found-borders g last categories found gs spans are shares begin others =
    borders-part gs spans (covered (length gs) spans are.cover) shares
    (each-begins last categories spans gs (found gs spans are) begin others)
