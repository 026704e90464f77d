-- Spans in front of an edit and behind it.
use Rattle.std.proofs.Common.{◌≡◌, ℕ, zero, suc, ◌+◌, ◌-◌, ◌<◌, ◌≤◌, true, false, ◌==◌, List, [], ◌∷◌, ◌++◌, drop, take, length, get_or, sum_by, refl, sym, ap, subst, ◌∙◌, arith, inl, inr, ⊎_elim}
use Rattle.std.proofs.lemmas.Bool.{cases_Bool, cases_lt, cond-true, cond-false, eqb-true}
use Rattle.std.proofs.lemmas.List.{length-append, take-append-le, drop-append-le, nil_from_length, length-drop}
use Rattle.std.proofs.lemmas.List.Sums.{sum_by-cons}
use Rattle.shapers_buffer.specs.Glyphs.{Glyphs}
use Rattle.shapers_buffer.specs.declared.buffer.syllables.Span.{Span}
use Rattle.shapers_spans.specs.Cuts.{ReadsAlike}
use Rattle.shapers_spans.specs.Grammar.{Grammar, IsCutFrom, IsFirst, IsSyllable, IsSyllableCut, NoneTakes, BeginsWith, lead_spans, reach_of, read_of}
use Rattle.shapers_spans.specs.Re.{Re}
use Rattle.shapers_spans.proofs.Cutting.{alike_drop, alike_head, alike_tail, behind-reach, covered, read-append}
use Rattle.shapers_spans.proofs.Reached.{behind-is-read, keep_reach, keep_read, reach-le, reach-zero, skip_reach, skip_read}
use Rattle.shapers_spans.proofs.Reading.{syllable_within}
use Rattle.shapers_editing.specs.SpanEdits.{AreDone, IsDone, OneCut, SpansBehindStay, SpansInFrontStay}

reach-in : (g : Grammar) (gs hs : Glyphs) (n : ℕ) → ReadsAlike g gs hs → n < length (read_of g.passes gs)
    → reach_of g.passes (gs ++ hs) n ≡ reach_of g.passes gs n
reach-in g [] hs n a l = absurd (omega arith)
reach-in g (x ∷ gs) hs zero a l =
    let h = alike_head g x gs hs a in
    ⊎_elim
    (λ e. skip_reach g.passes x (gs ++ hs) 0 (h ∙ e) ∙ ap suc
    (reach-in g gs hs 0 (alike_tail g x gs hs a) (omega (arith, ap length (skip_read g.passes x gs e)))) ∙ sym
    (skip_reach g.passes x gs 0 e))
    (λ e. reach-zero g.passes (x ∷ (gs ++ hs)) (h ∙ e) ∙ sym (reach-zero g.passes (x ∷ gs) e))
    (cases_Bool (g.passes (x ∷ gs)))
reach-in g (x ∷ gs) hs (suc n) a l =
    let h = alike_head g x gs hs a in
    let b = alike_tail g x gs hs a in
    ⊎_elim
    (λ e. skip_reach g.passes x (gs ++ hs) (suc n) (h ∙ e) ∙ ap suc
    (reach-in g gs hs (suc n) b (omega (arith, ap length (skip_read g.passes x gs e)))) ∙ sym
    (skip_reach g.passes x gs (suc n) e))
    (λ e. keep_reach g.passes x (gs ++ hs) n (h ∙ e) ∙ ap suc
    (reach-in g gs hs n b (omega (arith, ap length (keep_read g.passes x gs e)))) ∙ sym (keep_reach g.passes x gs n e))
    (cases_Bool (g.passes (x ∷ gs)))

-- a syllable with which the grammar is done
take-past : (w v : List ℕ) (m : ℕ) → length w ≤ m → take m (w ++ v) ≡ w ++ take (m - length w) v
take-past [] v m l = ap (λ k. take k v) (omega arith)
take-past (x ∷ w) v zero l = absurd (omega arith)
take-past (x ∷ w) v (suc m) l = ap (λ zs. x ∷ zs)
    (take-past w v m (omega arith) ∙ ap (λ k. w ++ take k v) (omega arith))

none-past : (g : Grammar) (w v : List ℕ) (m : ℕ) → IsDone g w → length w ≤ m → NoneTakes g.rules (take m (w ++ v))
none-past g w v m d l = subst (λ u. NoneTakes g.rules u) (sym (take-past w v m l)) (d.none (take (m - length w) v))

same-front : (w v u : List ℕ) (m : ℕ) → m ≤ length w → take m (w ++ v) ≡ take m (w ++ u)
same-front w v u m l = take-append-le m w v l ∙ sym (take-append-le m w u l)

none-moved : (g : Grammar) (w v u : List ℕ) (m : ℕ) → IsDone g w →
    (m ≤ length (w ++ v) → NoneTakes g.rules (take m (w ++ v))) → NoneTakes g.rules (take m (w ++ u))
none-moved g w v u m d f =
    ⊎_elim
    (λ l. subst (λ z. NoneTakes g.rules z) (same-front w v u m (omega arith)) (f (omega (arith, length-append w v))))
    (λ l. none-past g w u m d l)
    (cases_lt m (length w))

syllable-moved : (g : Grammar) (w v u : List ℕ) (s : Span) → IsDone g w → IsSyllable g (w ++ v) s → (s.len < length w)
    × IsSyllable g (w ++ u) s
syllable-moved g w v u s d (inl y) =
    let short : s.len < length w = ⊎_elim (λ l. l) (λ l. absurd (none-past g w v s.len d l y.rule y.first.takes))
    (cases_lt s.len (length w)) in (
      short,
      inl (record {
        some = y.some;
        within = omega (arith, length-append w u);
        rule = y.rule;
        first = subst (λ z. IsFirst g.rules z y.rule) (same-front w v u s.len (omega arith)) y.first;
        kind = y.kind;
        longest = (λ m a b. none-moved g w v u m d (λ l. y.longest m a l));
      }),
    )
syllable-moved g w v u s d (inr y) =
    let e = y.one in
    let t = d.two in (
      omega (arith, e, t),
      inr (record {
        one = y.one;
        within = omega (arith, length-append w u, t);
        kind = y.kind;
        none = (λ m a b. none-moved g w v u m d (λ l. y.none m a l));
      }),
    )

-- it begins a text whatever stands behind
opens-moved : (g : Grammar) (gs hs ks : Glyphs) (s : Span) → ReadsAlike g gs hs → ReadsAlike g gs ks
    → IsDone g (read_of g.passes gs) → BeginsWith g (gs ++ hs) s → (s.len ≤ length gs) × BeginsWith g (gs ++ ks) s
opens-moved g gs hs ks s a b d o =
    let p = g.passes in
    let m = syllable-moved g (read_of p gs) (read_of p hs) (read_of p ks) o.read d
    (subst (λ w. IsSyllable g w o.read) (read-append g gs hs a) o.syllable) in
    let near : s.len ≡ reach_of p gs o.read.len = o.len ∙ reach-in g gs hs o.read.len a m.0 in (
      omega (arith, near, reach-le p gs o.read.len),
      record {
        read = o.read;
        syllable = subst (λ w. IsSyllable g w o.read) (sym (read-append g gs ks b)) m.1;
        kind = o.kind;
        len = near ∙ sym (reach-in g gs ks o.read.len b m.0);
      },
    )

-- one syllable, and one cut
same-span : (s t : Span) → s.len ≡ t.len → s.kind ≡ t.kind → s ≡ t
same-span s t e f =
    ap (λ (n : ℕ). let u : Span = record { len = n; kind = s.kind } in u) e
    ∙ ap (λ (k : ℕ). let u : Span = record { len = t.len; kind = k } in u) f

one-rule : (rules : List Re) (w : List ℕ) (i j : ℕ) → IsFirst rules w i → IsFirst rules w j → i ≡ j
one-rule rules w i j a b =
    ⊎_elim
    (λ l. absurd (b.first i l a.takes))
    (λ l. ⊎_elim (λ m. absurd (a.first j m b.takes)) (λ m. omega arith) (cases_lt j i))
    (cases_lt i j)

one-syllable : (g : Grammar) (w : List ℕ) (s t : Span) → IsSyllable g w s → IsSyllable g w t → s ≡ t
one-syllable g w s t (inl y) (inl z) =
    let same : s.len ≡ t.len = ⊎_elim
    (λ l. absurd (y.longest t.len l z.within z.rule z.first.takes))
    (λ l. ⊎_elim (λ m. absurd (z.longest s.len m y.within y.rule y.first.takes)) (λ m. omega arith)
    (cases_lt t.len s.len))
    (cases_lt s.len t.len) in
    let rule = one-rule g.rules (take t.len w) y.rule z.rule
    (subst (λ n. IsFirst g.rules (take n w) y.rule) same y.first) z.first in
    same-span s t same (y.kind ∙ ap (λ r. get_or g.kinds r 0) rule ∙ sym z.kind)
one-syllable g w s t (inl y) (inr z) = absurd (z.none s.len y.some y.within y.rule y.first.takes)
one-syllable g w s t (inr y) (inl z) = absurd (y.none t.len z.some z.within z.rule z.first.takes)
one-syllable g w s t (inr y) (inr z) = same-span s t (y.one ∙ sym z.one) (y.kind ∙ sym z.kind)

opens-one : (g : Grammar) (gs : Glyphs) (s t : Span) → BeginsWith g gs s → BeginsWith g gs t → s ≡ t
opens-one g gs s t o q =
    let e = one-syllable g (read_of g.passes gs) o.read q.read o.syllable q.syllable in
    same-span s t
    (o.len ∙ ap (λ (u : Span). reach_of g.passes gs u.len) e ∙ sym q.len)
    (o.kind ∙ ap (λ (u : Span). u.kind) e ∙ sym q.kind)

opens-none : (g : Grammar) (s : Span) → BeginsWith g [] s → ⊥
opens-none g s o = let (a, b) = syllable_within g [] o.read o.syllable in omega arith

one-cut-from : (g : Grammar) (gs : Glyphs) (ss ts : List Span) → IsCutFrom g gs ss → IsCutFrom g gs ts
    → ss ≡ ts
one-cut-from g gs [] [] c d = refl
one-cut-from g gs [] (t ∷ ts) c d = absurd (opens-none g t (subst (λ xs. BeginsWith g xs t) c d.0))
one-cut-from g gs (s ∷ ss) [] c d = absurd (opens-none g s (subst (λ xs. BeginsWith g xs s) d c.0))
one-cut-from g gs (s ∷ ss) (t ∷ ts) c d =
    let e = opens-one g gs s t c.0 d.0 in
    let later = one-cut-from g (drop t.len gs) ss ts (subst (λ (u : Span). IsCutFrom g (drop u.len gs) ss) e c.1) d.1 in
    ap (λ (u : Span). u ∷ ss) e ∙ ap (λ (us : List Span). t ∷ us) later

pub one-cut : OneCut
one-cut g gs ss ts c d =
    let lead = lead_spans (reach_of g.passes gs 0) g.other in
    c.whole ∙ ap (λ (us : List Span). lead ++ us)
    (one-cut-from g (drop (reach_of g.passes gs 0) gs) c.rest d.rest c.cut d.cut) ∙ sym d.whole

-- IN FRONT OF AN EDIT
front-from : (g : Grammar) (gs hs ks : Glyphs) (ps ss ts : List Span) → ReadsAlike g gs hs
    → ReadsAlike g gs ks → IsCutFrom g (gs ++ hs) (ps ++ ss) → IsCutFrom g (gs ++ ks) ts → AreDone g gs ps →
    (us : List Span) × (ts ≡ ps ++ us)
front-from g gs hs ks [] ss ts a b c d done = (ts, refl)
front-from g gs hs ks (p ∷ ps) ss [] a b c d done =
    let o = opens-moved g gs hs ks p a b done.0 c.0 in
    absurd (opens-none g p (subst (λ xs. BeginsWith g xs p) d o.1))
front-from g gs hs ks (p ∷ ps) ss (t ∷ ts) a b c d done =
    let o = opens-moved g gs hs ks p a b done.0 c.0 in
    let e = opens-one g (gs ++ ks) p t o.1 d.0 in
    let one : IsCutFrom g (drop p.len gs ++ hs) (ps ++ ss) = subst (λ xs. IsCutFrom g xs (ps ++ ss))
    (drop-append-le p.len gs hs o.0) c.1 in
    let two : IsCutFrom g (drop p.len gs ++ ks) ts = subst (λ xs. IsCutFrom g xs ts)
    (ap (λ (u : Span). drop u.len (gs ++ ks)) (sym e) ∙ drop-append-le p.len gs ks o.0) d.1 in
    let (us, f) = front-from g (drop p.len gs) hs ks ps ss ts (alike_drop g gs hs p.len a)
    (alike_drop g gs ks p.len b) one two done.1 in
    (us, ap (λ (u : Span). u ∷ ts) (sym e) ∙ ap (λ (vs : List Span). p ∷ vs) f)

cons-head : (x y : Span) (xs ys : List Span) → x ∷ xs ≡ y ∷ ys → x ≡ y
cons-head x y xs ys e = cc

cons-tail : (x y : Span) (xs ys : List Span) → x ∷ xs ≡ y ∷ ys → xs ≡ ys
cons-tail x y xs ys e = cc

-- what is passed over in front, by whether there is any
led : (n k : ℕ) (rest : List Span) → (n == 0) ≡ false → lead_spans n k ++ rest ≡
    (let s : Span = record { len = n; kind = k } in s) ∷ rest
led n k rest e = ap (λ (us : List Span). us ++ rest)
    (cond-false (n == 0) [] ((let s : Span = record { len = n; kind = k } in s) ∷ []) e)

unled : (n k : ℕ) (rest : List Span) → (n == 0) ≡ true → lead_spans n k ++ rest ≡ rest
unled n k rest e = ap (λ (us : List Span). us ++ rest)
    (cond-true (n == 0) [] ((let s : Span = record { len = n; kind = k } in s) ∷ []) e)

pub in-front : SpansInFrontStay
in-front g gs hs ks [] ss ts a b c d done = (ts, refl)
in-front g gs hs ks (p ∷ ps) ss ts a b c d done =
    let n = reach_of g.passes gs 0 in
    let two = done.0.two in
    let some : 0 < length (read_of g.passes gs) = omega (arith, two) in
    let one : reach_of g.passes (gs ++ hs) 0 ≡ n = reach-in g gs hs 0 a some in
    let other : reach_of g.passes (gs ++ ks) 0 ≡ n = reach-in g gs ks 0 b some in
    let cw : p ∷ (ps ++ ss) ≡ lead_spans n g.other ++ c.rest = c.whole ∙ ap (λ k. lead_spans k g.other ++ c.rest) one in
    let dw : ts ≡ lead_spans n g.other ++ d.rest = d.whole ∙ ap (λ k. lead_spans k g.other ++ d.rest) other in
    let within : n ≤ length gs = reach-le g.passes gs 0 in
    let cc1 : IsCutFrom g (drop n gs ++ hs) c.rest = subst (λ xs. IsCutFrom g xs c.rest)
    (ap (λ k. drop k (gs ++ hs)) one ∙ drop-append-le n gs hs within) c.cut in
    let dc1 : IsCutFrom g (drop n gs ++ ks) d.rest = subst (λ xs. IsCutFrom g xs d.rest)
    (ap (λ k. drop k (gs ++ ks)) other ∙ drop-append-le n gs ks within) d.cut in
    ⊎_elim
    (λ e. let zero_is : n ≡ 0 = eqb-true n 0 e in
    let cr : c.rest ≡ p ∷ (ps ++ ss) = sym (cw ∙ unled n g.other c.rest e) in
    let front = front-from g gs hs ks (p ∷ ps) ss d.rest a b
    (subst (λ us. IsCutFrom g (gs ++ hs) us) cr (subst (λ k. IsCutFrom g (drop k gs ++ hs) c.rest) zero_is cc1))
    (subst (λ k. IsCutFrom g (drop k gs ++ ks) d.rest) zero_is dc1) done in
    (front.0, dw ∙ unled n g.other d.rest e ∙ front.1))
    (λ e. let lead : Span = record { len = n; kind = g.other } in
    let both : p ∷ (ps ++ ss) ≡ lead ∷ c.rest = cw ∙ led n g.other c.rest e in
    let head : p ≡ lead = cons-head p lead (ps ++ ss) c.rest both in
    let tail : ps ++ ss ≡ c.rest = cons-tail p lead (ps ++ ss) c.rest both in
    let front = front-from g (drop n gs) hs ks ps ss d.rest (alike_drop g gs hs n a) (alike_drop g gs ks n b)
    (subst (λ us. IsCutFrom g (drop n gs ++ hs) us) (sym tail) cc1) dc1
    (subst (λ (u : Span). AreDone g (drop u.len gs) ps) head done.1) in (
      front.0,
      dw ∙ led n g.other d.rest e ∙ ap (λ (u : Span). u ∷ d.rest) (sym head) ∙ ap
          (λ (us : List Span). p ∷ us) front.1,
    ))
    (cases_Bool (n == 0))

-- BEHIND AN EDIT
record Behind (g : Grammar) (hs : Glyphs) (ts : List Span) : Type 0 where
  cut : IsCutFrom g hs ts
  read : g.passes hs ≡ false

behind-from : (g : Grammar) → g.passes [] ≡ false → (gs hs : Glyphs) (ss ts : List Span) → IsCutFrom g
    (gs ++ hs) (ss ++ ts) → sum_by (λ (s : Span). s.len) ss ≡ length gs → g.passes (gs ++ hs) ≡ false → Behind g hs ts
behind-from g z gs hs [] ts c l r =
    let e : gs ≡ [] = nil_from_length gs (sym l) in
    record {
      cut = subst (λ (xs : Glyphs). IsCutFrom g (xs ++ hs) ts) e c;
      read = subst (λ (xs : Glyphs). g.passes (xs ++ hs) ≡ false) e r;
    }
behind-from g z gs hs (s ∷ ss) ts c l r =
    let p : s.len + sum_by (λ (t : Span). t.len) ss ≡ length gs = sym (sum_by-cons (λ (t : Span). t.len) s ss) ∙ l in
    let on : drop s.len (gs ++ hs) ≡ drop s.len gs ++ hs = drop-append-le s.len gs hs (omega (arith, p)) in
    let stop : g.passes (drop s.len (gs ++ hs)) ≡ false = ap (λ n. g.passes (drop n (gs ++ hs))) c.0.len
    ∙ behind-reach g.passes z (gs ++ hs) c.0.read.len in
    behind-from g z (drop s.len gs) hs ss ts (subst (λ xs. IsCutFrom g xs (ss ++ ts)) on c.1)
    (omega (arith, p, length-drop s.len gs)) (subst (λ xs. g.passes xs ≡ false) on stop)

unopened : (g : Grammar) (hs : Glyphs) (ts : List Span) → Behind g hs ts → IsSyllableCut g hs ts
unopened g hs ts b =
    let none : reach_of g.passes hs 0 ≡ 0 = reach-zero g.passes hs b.read in
    record {
      rest = ts;
      whole = ap (λ n. lead_spans n g.other ++ ts) (sym none);
      cut = subst (λ n. IsCutFrom g (drop n hs) ts) (sym none) b.cut;
    }

behind-cut : (g : Grammar) → g.passes [] ≡ false → (gs hs : Glyphs) (ss ts : List Span) → IsSyllableCut g
    (gs ++ hs) (ss ++ ts) → sum_by (λ (s : Span). s.len) ss ≡ length gs → IsSyllableCut g hs ts
behind-cut g z gs hs [] ts c l = subst (λ (xs : Glyphs). IsSyllableCut g (xs ++ hs) ts)
    (nil_from_length gs (sym l)) c
behind-cut g z gs hs (s ∷ ss) ts c l =
    let n = reach_of g.passes (gs ++ hs) 0 in
    let p : s.len + sum_by (λ (t : Span). t.len) ss ≡ length gs = sym (sum_by-cons (λ (t : Span). t.len) s ss) ∙ l in
    let stop : g.passes (drop n (gs ++ hs)) ≡ false = behind-is-read g.passes z (gs ++ hs) in
    ⊎_elim
    (λ e. let zero_is : n ≡ 0 = eqb-true n 0 e in
    let cr : c.rest ≡ s ∷ (ss ++ ts) = sym (c.whole ∙ unled n g.other c.rest e) in
    unopened g hs ts (behind-from g z gs hs (s ∷ ss) ts
    (subst (λ us. IsCutFrom g (gs ++ hs) us) cr (subst (λ k. IsCutFrom g (drop k (gs ++ hs)) c.rest) zero_is c.cut)) l
    (subst (λ k. g.passes (drop k (gs ++ hs)) ≡ false) zero_is stop)))
    (λ e. let lead : Span = record { len = n; kind = g.other } in
    let both : s ∷ (ss ++ ts) ≡ lead ∷ c.rest = c.whole ∙ led n g.other c.rest e in
    let head : n ≡ s.len = ap (λ (u : Span). u.len) (sym (cons-head s lead (ss ++ ts) c.rest both)) in
    let tail : ss ++ ts ≡ c.rest = cons-tail s lead (ss ++ ts) c.rest both in
    let on : drop n (gs ++ hs) ≡ drop n gs ++ hs = drop-append-le n gs hs (omega (arith, p, head)) in
    unopened g hs ts (behind-from g z (drop n gs) hs ss ts
    (subst (λ us. IsCutFrom g (drop n gs ++ hs) us) (sym tail) (subst (λ xs. IsCutFrom g xs c.rest) on c.cut))
    (omega (arith, p, head, length-drop n gs)) (subst (λ xs. g.passes xs ≡ false) on stop)))
    (cases_Bool (n == 0))

pub behind-edit : SpansBehindStay
behind-edit g gs hs ks ps qs ss ts z c v d u =
    one-cut g ks ss ts (behind-cut g z gs ks ps ss c (covered (length gs) ps v))
    (behind-cut g z hs ks qs ts d (covered (length hs) qs u))
