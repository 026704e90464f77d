-- A text cut between two spans has the spans of the whole on either side.
use Rattle.std.proofs.Common.{◌≡◌, ℕ, zero, suc, ◌+◌, ◌≤◌, Bool, true, false, ◌==◌, List, [], ◌∷◌, ◌++◌, drop, length, sum_by, refl, sym, ap, subst, ◌∙◌, arith, inl, inr, ⊎_elim}
use Rattle.std.specs.Prelude.{nat_lt}
use Rattle.std.specs.Cmp.{second_so}
use Rattle.std.specs.List.{list_all}
use Rattle.std.proofs.lemmas.Bool.{cases_Bool, cond_both, cond-true, cond-false, eqb-true}
use Rattle.std.proofs.lemmas.List.{length-append, take-append-le, drop-append-le, nil_from_length, length-drop}
use Rattle.std.proofs.lemmas.List.Sums.{sum_by-cons}
use Rattle.shapers_buffer.specs.Glyphs.{Glyph, Glyphs}
use Rattle.shapers_buffer.specs.declared.buffer.syllables.Span.{Span}
use Rattle.shapers_buffer.specs.Syllables.{spans_cover}
use Rattle.shapers_spans.specs.Cuts.{ReadsAlike, GrammarCutsBetweenSpans}
use Rattle.shapers_spans.specs.Grammar.{Grammar, IsSyllable, BeginsWith, IsCutFrom, IsSyllableCut, NoneTakes, IsFirst, read_of, reach_of, lead_spans}
use Rattle.shapers_spans.proofs.Reading.{syllable_within}
use Rattle.shapers_spans.proofs.Reached.{reach-zero}

-- what is read of a text is what is read of its halves

pub alike_tail : (g : Grammar) (x : Glyph) (gs hs : Glyphs) → ReadsAlike g (x ∷ gs) hs
    → ReadsAlike g gs hs
alike_tail g x gs hs a fs ks e l = a (x ∷ fs) ks (ap (λ (xs : Glyphs). x ∷ xs) e) l

pub alike_head : (g : Grammar) (x : Glyph) (gs hs : Glyphs) → ReadsAlike g (x ∷ gs) hs
    → g.passes (x ∷ (gs ++ hs)) ≡ g.passes (x ∷ gs)
alike_head g x gs hs a = a [] (x ∷ gs) refl (omega arith)

pub alike_drop : (g : Grammar) (gs hs : Glyphs) (n : ℕ) → ReadsAlike g gs hs → ReadsAlike g (drop n gs) hs
alike_drop g gs hs zero a = a
alike_drop g [] hs (suc n) a = a
alike_drop g (x ∷ gs) hs (suc n) a = alike_drop g gs hs n (alike_tail g x gs hs a)

pub read-append : (g : Grammar) (gs hs : Glyphs) → ReadsAlike g gs hs → read_of g.passes (gs ++ hs)
    ≡ read_of g.passes gs ++ read_of g.passes hs
read-append g [] hs a = refl
read-append g (x ∷ gs) hs a =
    let i = read-append g gs hs (alike_tail g x gs hs a) in
    let h = alike_head g x gs hs a in
    cond_both (g.passes (x ∷ gs)) (read_of g.passes gs) (x.category ∷ read_of g.passes gs)
    (λ (w : List ℕ). read_of g.passes (x ∷ (gs ++ hs)) ≡ w ++ read_of g.passes hs)
    (λ e. cond-true (g.passes (x ∷ (gs ++ hs))) (read_of g.passes (gs ++ hs)) (x.category ∷ read_of g.passes (gs ++ hs))
    (h ∙ e) ∙ i)
    (λ e. cond-false (g.passes (x ∷ (gs ++ hs))) (read_of g.passes (gs ++ hs))
    (x.category ∷ read_of g.passes (gs ++ hs)) (h ∙ e) ∙ ap (λ (w : List ℕ). x.category ∷ w) i)

-- a reach within the left half is that of the left half: where what is read ends in it, and the
-- right half opens with a glyph that is read

reach-append : (g : Grammar) (gs hs : Glyphs) (n : ℕ) → ReadsAlike g gs hs
    → n ≤ length (read_of g.passes gs) → reach_of g.passes (gs ++ hs) n ≤ length gs → reach_of g.passes (gs ++ hs) n
    ≡ reach_of g.passes gs n
reach-append g [] hs n a l b = omega (arith, b)
reach-append g (x ∷ gs) hs zero a l b =
    let i = alike_tail g x gs hs a in
    let h = alike_head g x gs hs a in
    ⊎_elim
    (λ e. let s : reach_of g.passes (x ∷ (gs ++ hs)) 0
    ≡ suc (reach_of g.passes (gs ++ hs) 0) =
    cond-true (g.passes (x ∷ (gs ++ hs))) (suc (reach_of g.passes (gs ++ hs) 0)) 0 (h ∙ e) in
    let r = reach-append g gs hs 0 i (omega arith) (omega (arith, s, b)) in
    s ∙ ap (λ k. suc k) r ∙ sym (cond-true (g.passes (x ∷ gs)) (suc (reach_of g.passes gs 0)) 0 e))
    (λ e. cond-false (g.passes (x ∷ (gs ++ hs))) (suc (reach_of g.passes (gs ++ hs) 0)) 0 (h ∙ e)
    ∙ sym (cond-false (g.passes (x ∷ gs)) (suc (reach_of g.passes gs 0)) 0 e))
    (cases_Bool (g.passes (x ∷ gs)))
reach-append g (x ∷ gs) hs (suc n) a l b =
    let i = alike_tail g x gs hs a in
    let h = alike_head g x gs hs a in
    ⊎_elim
    (λ e. let s : reach_of g.passes (x ∷ (gs ++ hs)) (suc n)
    ≡ suc (reach_of g.passes (gs ++ hs) (suc n)) =
    ap (λ k. suc k) (cond-true (g.passes (x ∷ (gs ++ hs))) (reach_of g.passes (gs ++ hs) (suc n))
    (reach_of g.passes (gs ++ hs) n) (h ∙ e)) in
    let w : read_of g.passes (x ∷ gs) ≡ read_of g.passes gs =
    cond-true (g.passes (x ∷ gs)) (read_of g.passes gs) (x.category ∷ read_of g.passes gs) e in
    let r = reach-append g gs hs (suc n) i (omega (arith, l, ap length w)) (omega (arith, s, b)) in
    s ∙ ap (λ k. suc k) r
    ∙ sym (ap (λ k. suc k) (cond-true (g.passes (x ∷ gs)) (reach_of g.passes gs (suc n)) (reach_of g.passes gs n)
    e)))
    (λ e. let s : reach_of g.passes (x ∷ (gs ++ hs)) (suc n)
    ≡ suc (reach_of g.passes (gs ++ hs) n) =
    ap (λ k. suc k) (cond-false (g.passes (x ∷ (gs ++ hs))) (reach_of g.passes (gs ++ hs) (suc n))
    (reach_of g.passes (gs ++ hs) n) (h ∙ e)) in
    let w : read_of g.passes (x ∷ gs) ≡ x.category ∷ read_of g.passes gs =
    cond-false (g.passes (x ∷ gs)) (read_of g.passes gs) (x.category ∷ read_of g.passes gs) e in
    let r = reach-append g gs hs n i (omega (arith, l, ap length w)) (omega (arith, s, b)) in
    s ∙ ap (λ k. suc k) r
    ∙ sym (ap (λ k. suc k) (cond-false (g.passes (x ∷ gs)) (reach_of g.passes gs (suc n)) (reach_of g.passes gs n)
    e)))
    (cases_Bool (g.passes (x ∷ gs)))

-- what stands behind a reach is read
pub behind-reach : (p : Glyphs → Bool) → p [] ≡ false → (gs : Glyphs) (n : ℕ)
    → p (drop (reach_of p gs n) gs) ≡ false
behind-reach p z [] n = z
behind-reach p z (x ∷ gs) zero =
    cond_both (p (x ∷ gs)) (suc (reach_of p gs 0)) 0 (λ k. p (drop k (x ∷ gs)) ≡ false) (λ _. behind-reach p z gs 0)
    (λ h. h)
behind-reach p z (x ∷ gs) (suc n) =
    cond_both (p (x ∷ gs)) (reach_of p gs (suc n)) (reach_of p gs n) (λ k. p (drop k gs) ≡ false)
    (λ _. behind-reach p z gs (suc n)) (λ _. behind-reach p z gs n)

-- as many as reach no further than the left half are read in it
read-within : (g : Grammar) (gs hs : Glyphs) (n : ℕ) → ReadsAlike g gs hs
    → n ≤ length (read_of g.passes (gs ++ hs)) → reach_of g.passes (gs ++ hs) n ≤ length gs
    → n ≤ length (read_of g.passes gs)
read-within g [] [] n a l b = l
read-within g [] (h ∷ hs) zero a l b = omega arith
read-within g [] (h ∷ hs) (suc n) a l b = absurd (omega (arith, b))
read-within g (x ∷ gs) hs zero a l b = omega arith
read-within g (x ∷ gs) hs (suc n) a l b =
    let i = alike_tail g x gs hs a in
    let h = alike_head g x gs hs a in
    ⊎_elim
    (λ e. let s : reach_of g.passes (x ∷ (gs ++ hs)) (suc n)
    ≡ suc (reach_of g.passes (gs ++ hs) (suc n)) =
    ap (λ k. suc k) (cond-true (g.passes (x ∷ (gs ++ hs))) (reach_of g.passes (gs ++ hs) (suc n))
    (reach_of g.passes (gs ++ hs) n) (h ∙ e)) in
    let v : read_of g.passes (x ∷ (gs ++ hs)) ≡ read_of g.passes (gs ++ hs) =
    cond-true (g.passes (x ∷ (gs ++ hs))) (read_of g.passes (gs ++ hs))
    (x.category ∷ read_of g.passes (gs ++ hs)) (h ∙ e) in
    let w : read_of g.passes (x ∷ gs) ≡ read_of g.passes gs =
    cond-true (g.passes (x ∷ gs)) (read_of g.passes gs) (x.category ∷ read_of g.passes gs) e in
    let r = read-within g gs hs (suc n) i (omega (arith, l, ap length v)) (omega (arith, s, b)) in
    omega (arith, r, ap length w))
    (λ e. let s : reach_of g.passes (x ∷ (gs ++ hs)) (suc n)
    ≡ suc (reach_of g.passes (gs ++ hs) n) =
    ap (λ k. suc k) (cond-false (g.passes (x ∷ (gs ++ hs))) (reach_of g.passes (gs ++ hs) (suc n))
    (reach_of g.passes (gs ++ hs) n) (h ∙ e)) in
    let v : read_of g.passes (x ∷ (gs ++ hs)) ≡ x.category ∷ read_of g.passes (gs ++ hs) =
    cond-false (g.passes (x ∷ (gs ++ hs))) (read_of g.passes (gs ++ hs))
    (x.category ∷ read_of g.passes (gs ++ hs)) (h ∙ e) in
    let w : read_of g.passes (x ∷ gs) ≡ x.category ∷ read_of g.passes gs =
    cond-false (g.passes (x ∷ gs)) (read_of g.passes gs) (x.category ∷ read_of g.passes gs) e in
    let r = read-within g gs hs n i (omega (arith, l, ap length v)) (omega (arith, s, b)) in
    omega (arith, r, ap length w))
    (cases_Bool (g.passes (x ∷ gs)))

-- a syllable within the left half is its own

le_append : (m : ℕ) (u v : List ℕ) → m ≤ length u → m ≤ length (u ++ v)
le_append m u v l = omega (arith, length-append u v)

shorter : (g : Grammar) (u v : List ℕ) (s : Span) → s.len ≤ length u → IsSyllable g (u ++ v) s → IsSyllable g u s
shorter g u v s l y =
    ⊎_elim
    (λ y. inl (record {
      some = y.some;
      within = l;
      rule = y.rule;
      first = subst (λ w. IsFirst g.rules w y.rule) (take-append-le s.len u v l) y.first;
      kind = y.kind;
      longest = (λ m a b. subst (λ w. NoneTakes g.rules w) (take-append-le m u v b)
          (y.longest m a (le_append m u v b)));
    }))
    (λ y. inr (record {
      one = y.one;
      within = omega (arith, y.one, l);
      kind = y.kind;
      none = (λ m a b. subst (λ w. NoneTakes g.rules w) (take-append-le m u v b) (y.none m a (le_append m u v b)));
    }))
    y

opens-shorter : (g : Grammar) (gs hs : Glyphs) (s : Span) → ReadsAlike g gs hs → s.len ≤ length gs
    → BeginsWith g (gs ++ hs) s → BeginsWith g gs s
opens-shorter g gs hs s a l o =
    let bound : reach_of g.passes (gs ++ hs) o.read.len ≤ length gs = (let e = o.len in omega (arith, e, l)) in
    let inside = read-within g gs hs o.read.len a (syllable_within g (read_of g.passes (gs ++ hs)) o.read o.syllable).1
    bound in
    record {
      read = o.read;
      syllable = shorter g (read_of g.passes gs) (read_of g.passes hs) o.read inside
          (subst (λ w. IsSyllable g w o.read) (read-append g gs hs a) o.syllable);
      kind = o.kind;
      len = o.len ∙ reach-append g gs hs o.read.len a inside bound;
    }

record Halves (g : Grammar) (gs hs : Glyphs) (ss ts : List Span) : Type 0 where
  left : IsCutFrom g gs ss
  right : IsCutFrom g hs ts
  read : g.passes hs ≡ false

halves-from : (g : Grammar) → g.passes [] ≡ false → (gs hs : Glyphs) (ss ts : List Span)
    → IsCutFrom g (gs ++ hs) (ss ++ ts) → sum_by (λ (s : Span). s.len) ss ≡ length gs → ReadsAlike g gs hs
    → g.passes (gs ++ hs) ≡ false → Halves g gs hs ss ts
halves-from g z gs hs [] ts c l a r =
    let e : gs ≡ [] = nil_from_length gs (sym l) in
    record {
      left = e;
      right = subst (λ (xs : Glyphs). IsCutFrom g (xs ++ hs) ts) e c;
      read = subst (λ (xs : Glyphs). g.passes (xs ++ hs) ≡ false) e r;
    }
halves-from g z gs hs (s ∷ ss) ts c l a r =
    let p : s.len + sum_by (λ (t : Span). t.len) ss ≡ length gs = sym (sum_by-cons (λ (t : Span). t.len) s ss) ∙ l in
    let le : s.len ≤ length gs = omega (arith, p) in
    let on : drop s.len (gs ++ hs) ≡ drop s.len gs ++ hs = drop-append-le s.len gs hs le in
    let q : sum_by (λ (t : Span). t.len) ss ≡ length (drop s.len gs) = omega (arith, p, length-drop s.len gs) in
    let stop : g.passes (drop s.len (gs ++ hs)) ≡ false = ap (λ n. g.passes (drop n (gs ++ hs))) c.0.len
    ∙ behind-reach g.passes z (gs ++ hs) c.0.read.len in
    let h = halves-from g z (drop s.len gs) hs ss ts (subst (λ xs. IsCutFrom g xs (ss ++ ts)) on c.1) q
    (alike_drop g gs hs s.len a) (subst (λ xs. g.passes xs ≡ false) on stop) in
    record {
      left = (opens-shorter g gs hs s a le c.0, h.left);
      right = h.right;
      read = h.read;
    }

-- with what is passed over in front

without_lead : (g : Grammar) (gs : Glyphs) (ss : List Span) → reach_of g.passes gs 0 ≡ 0
    → IsCutFrom g gs ss → IsSyllableCut g gs ss
without_lead g gs ss e c = record {
  rest = ss;
  whole = ap (λ n. lead_spans n g.other ++ ss) (sym e);
  cut = subst (λ n. IsCutFrom g (drop n gs) ss) (sym e) c;
}

with_lead : (g : Grammar) (gs : Glyphs) (n : ℕ) (ss : List Span) → reach_of g.passes gs 0 ≡ n
    → (n == 0) ≡ false → IsCutFrom g (drop n gs) ss
    → IsSyllableCut g gs ((let s : Span = record { len = n; kind = g.other } in s) ∷ ss)
with_lead g gs n ss e h c =
    let lead : Span = record { len = n; kind = g.other } in
    record {
      rest = ss;
      whole = ap (λ (xs : List Span). xs ++ ss) (sym (cond-false (n == 0) [] (lead ∷ []) h))
          ∙ ap (λ k. lead_spans k g.other ++ ss) (sym e);
      cut = subst (λ k. IsCutFrom g (drop k gs) ss) (sym e) c;
    }

pub covered : (n : ℕ) (spans : List Span) → spans_cover n spans ≡ true → sum_by (λ (s : Span). s.len) spans ≡ n
covered n spans h =
    eqb-true (sum_by (λ (s : Span). s.len) spans) n
    (second_so (list_all (λ (s : Span). nat_lt 0 s.len) spans) (sum_by (λ (s : Span). s.len) spans == n) h)

halves-led : (g : Grammar) → g.passes [] ≡ false → (gs hs : Glyphs) (s : Span) (ss ts : List Span)
    → IsSyllableCut g (gs ++ hs) (s ∷ ss ++ ts) → s.len + sum_by (λ (t : Span). t.len) ss ≡ length gs
    → ReadsAlike g gs hs → IsSyllableCut g gs (s ∷ ss) × IsSyllableCut g hs ts
halves-led g z gs hs s ss ts c l a =
    let n = reach_of g.passes (gs ++ hs) 0 in
    let lead : Span = record { len = n; kind = g.other } in
    let stop : g.passes (drop n (gs ++ hs)) ≡ false = behind-reach g.passes z (gs ++ hs) 0 in
    let total : sum_by (λ (t : Span). t.len) (s ∷ ss) ≡ length gs = sum_by-cons (λ (t : Span). t.len) s ss ∙ l in
    ⊎_elim
    (λ e. let e0 : n ≡ 0 = eqb-true n 0 e in
    let w : s ∷ (ss ++ ts) ≡ c.rest =
    c.whole ∙ ap (λ (xs : List Span). xs ++ c.rest) (cond-true (n == 0) [] (lead ∷ []) e) in
    let from : IsCutFrom g (gs ++ hs) (s ∷ (ss ++ ts)) =
    subst (λ xs. IsCutFrom g (gs ++ hs) xs) (sym w)
    (subst (λ k. IsCutFrom g (drop k (gs ++ hs)) c.rest) e0 c.cut) in
    let h = halves-from g z gs hs (s ∷ ss) ts from total a
    (subst (λ k. g.passes (drop k (gs ++ hs)) ≡ false) e0 stop) in
    let r : reach_of g.passes gs 0 ≡ 0 = sym (reach-append g gs hs 0 a (omega arith) (omega (arith, e0))) ∙ e0 in
    (without_lead g gs (s ∷ ss) r h.left, without_lead g hs ts (reach-zero g.passes hs h.read) h.right))
    (λ e. let w : s ∷ (ss ++ ts) ≡ lead ∷ c.rest = c.whole
    ∙ ap (λ (xs : List Span). xs ++ c.rest) (cond-false (n == 0) [] (lead ∷ []) e) in
    let first : s ≡ lead = cons-head s lead (ss ++ ts) c.rest w in
    let tail : ss ++ ts ≡ c.rest = cons-tail s lead (ss ++ ts) c.rest w in
    let le : n ≤ length gs = (let f = ap (λ (t : Span). t.len) first in omega (arith, f, l)) in
    let on : drop n (gs ++ hs) ≡ drop n gs ++ hs = drop-append-le n gs hs le in
    let from : IsCutFrom g (drop n gs ++ hs) (ss ++ ts) =
    subst (λ xs. IsCutFrom g (drop n gs ++ hs) xs) (sym tail) (subst (λ xs. IsCutFrom g xs c.rest) on c.cut) in
    let len : sum_by (λ (t : Span). t.len) ss ≡ length (drop n gs) =
    (let f = ap (λ (t : Span). t.len) first in omega (arith, f, l, length-drop n gs)) in
    let h = halves-from g z (drop n gs) hs ss ts from len (alike_drop g gs hs n a)
    (subst (λ xs. g.passes xs ≡ false) on stop) in
    let r : reach_of g.passes gs 0 ≡ n = sym (reach-append g gs hs 0 a (omega arith) le) in (
      subst (λ (t : Span). IsSyllableCut g gs (t ∷ ss)) (sym first) (with_lead g gs n ss r e h.left),
      without_lead g hs
          ts (reach-zero g.passes hs h.read) h.right,
    ))
    (cases_Bool (n == 0))
  where
    cons-head : (x y : Span) (xs ys : List Span) → x ∷ xs ≡ y ∷ ys → x ≡ y
    cons-head x y xs ys e = cc

    cons-tail : (x y : Span) (xs ys : List Span) → x ∷ xs ≡ y ∷ ys → xs ≡ ys
    cons-tail x y xs ys e = cc

pub cuts-between-spans : (g : Grammar) → GrammarCutsBetweenSpans g
cuts-between-spans g z gs hs [] ts c v a =
    let e : gs ≡ [] = nil_from_length gs (sym (covered (length gs) [] v)) in (
      subst (λ xs. IsSyllableCut g xs []) (sym e) (without_lead g [] [] refl refl),
      subst (λ (xs : Glyphs). IsSyllableCut g (xs ++ hs) ts) e c,
    )
cuts-between-spans g z gs hs (s ∷ ss) ts c v a =
    halves-led g z gs hs s ss ts c (sym (sum_by-cons (λ (t : Span). t.len) s ss) ∙ covered (length gs) (s ∷ ss) v) a
