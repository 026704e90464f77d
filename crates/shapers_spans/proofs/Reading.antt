-- The loop that looks for the longest front.
use Rattle.std.proofs.Common.{◌≡◌, ℕ, ◌+◌, ◌-◌, ◌<◌, ◌≤◌, List, [], ◌∷◌, ◌++◌, ◌⊎◌, Option, Some, None, get_or, take, drop, length, refl, sym, ap, subst, ◌∙◌, inl, inr, ⊎_elim, arith, append_assoc}
use Rattle.std.proofs.lemmas.List.{append-nil, take_more, take-take, take-append-drop}
use Rattle.std.proofs.lemmas.Bool.{cases_lt}
use Rattle.std.proofs.Math.Seq.{take-add}
use Rattle.shapers_buffer.specs.declared.buffer.syllables.Span.{Span}
use Rattle.shapers_spans.specs.Grammar.{Grammar, IsKind, IsSyllable}

-- the longest of the first n fronts of which f gives a kind
pub record Found (f : List ℕ → Option ℕ) (w : List ℕ) (n : ℕ) (span : Span) : Type 0 where
  pub some : 0 < span.len
  pub within : span.len ≤ n
  pub known : f (take span.len w) ≡ Some span.kind
  pub longest : (m : ℕ) → span.len < m → m ≤ n → f (take m w) ≡ None

-- none of them, and one glyph
pub record Missing (f : List ℕ → Option ℕ) (other : ℕ) (w : List ℕ) (n : ℕ) (span : Span) : Type 0 where
  pub single : span.len ≡ 1
  pub known : span.kind ≡ other
  pub none : (m : ℕ) → 0 < m → m ≤ n → f (take m w) ≡ None

abbrev pub IsBest : (List ℕ → Option ℕ) → ℕ → List ℕ → ℕ → Span → Type 0
IsBest f other w n span = Found f w n span ⊎ Missing f other w n span

-- the machine has read n categories of w and is in this state
pub record Reading (ends : ℕ → List ℕ → Option ℕ) (start other : ℕ) (w : List ℕ) (n q : ℕ) (span : Span) : Type 0 where
  pub reads : (v : List ℕ) → ends start (take n w ++ v) ≡ ends q v
  pub best : IsBest (ends start) other w n span

pub reading_start : (ends : ℕ → List ℕ → Option ℕ) (start other : ℕ) (w : List ℕ) (span : Span) → span.len ≡ 1
    → span.kind ≡ other → Reading ends start other w 0 start span
reading_start ends start other w span one kind =
    record {
      reads = (λ v. refl);
      best = inr
          (record { single = one; known = kind; none = (λ m a b. absurd (omega arith)) });
    }

-- one more category

pub reads_next : (ends : ℕ → List ℕ → Option ℕ) (start : ℕ) (w : List ℕ) (n q p k : ℕ)
    → ((v : List ℕ) → ends start (take n w ++ v) ≡ ends q v) → n < length w → get_or w n 0 ≡ k
    → ((v : List ℕ) → ends q (k ∷ v) ≡ ends p v) → (v : List ℕ) → ends start (take (n + 1) w ++ v) ≡ ends p v
reads_next ends start w n q p k h l e s v =
    ap (λ u. ends start (u ++ v)) (take_more w n 0 l)
    ∙ ap (λ u. ends start u) (append_assoc (take n w) (get_or w n 0 ∷ []) v)
    ∙ h (get_or w n 0 ∷ v)
    ∙ ap (λ x. ends q (x ∷ v)) e
    ∙ s v

front_next : (ends : ℕ → List ℕ → Option ℕ) (start : ℕ) (w : List ℕ) (n p : ℕ)
    → ((v : List ℕ) → ends start (take (n + 1) w ++ v) ≡ ends p v) → ends start (take (n + 1) w) ≡ ends p []
front_next ends start w n p h = ap (λ u. ends start u) (sym (append-nil (take (n + 1) w))) ∙ h []

one_more : (f : List ℕ → Option ℕ) (w : List ℕ) (from n : ℕ) → ((m : ℕ) → from < m → m ≤ n → f (take m w) ≡ None)
    → f (take (n + 1) w) ≡ None → (m : ℕ) → from < m → m ≤ n + 1 → f (take m w) ≡ None
one_more f w from n h e m a b =
    ⊎_elim (λ l. let le : m ≤ n = omega arith in h m a le)
    (λ l. let same : n + 1 ≡ m = omega arith in subst (λ i. f (take i w) ≡ None) same e) (cases_lt m (n + 1))

pub reading_none : (ends : ℕ → List ℕ → Option ℕ) (start other : ℕ) (w : List ℕ) (n q p k : ℕ) (span : Span)
    → Reading ends start other w n q span → n < length w → get_or w n 0 ≡ k → ((v : List ℕ) → ends q (k ∷ v) ≡ ends p v)
    → ends p [] ≡ None → Reading ends start other w (n + 1) p span
reading_none ends start other w n q p k span r l e s none =
    let reads = reads_next ends start w n q p k r.reads l e s in
    let here = front_next ends start w n p reads ∙ none in
    record {
      reads = reads;
      best = ⊎_elim
          (λ f. inl (record {
            some = f.some;
            within = omega (arith, f.within);
            known = f.known;
            longest = one_more (ends start) w span.len n f.longest here;
          }))
          (λ f. inr (record { single = f.single; known = f.known; none = one_more (ends start) w 0 n f.none here }))
          r.best;
    }

pub reading_some : (ends : ℕ → List ℕ → Option ℕ) (start other : ℕ) (w : List ℕ) (n q p k : ℕ) (span new : Span)
    → Reading ends start other w n q span → n < length w → get_or w n 0 ≡ k → ((v : List ℕ) → ends q (k ∷ v) ≡ ends p v)
    → ends p [] ≡ Some new.kind → new.len ≡ n + 1 → Reading ends start other w (n + 1) p new
reading_some ends start other w n q p k span new r l e s some len =
    let reads = reads_next ends start w n q p k r.reads l e s in
    record {
      reads = reads;
      best = inl (record {
        some = omega arith;
        within = omega arith;
        known = subst (λ i. ends start (take i w) ≡ Some new.kind) (sym len) (front_next ends start w n p reads ∙ some);
        longest = (λ m a b. absurd (omega arith));
      });
    }

-- the end

beyond : (ends : ℕ → List ℕ → Option ℕ) (start : ℕ) (w : List ℕ) (n p : ℕ)
    → ((v : List ℕ) → ends start (take (n + 1) w ++ v) ≡ ends p v) → ((v : List ℕ) → ends p v ≡ None) → (m : ℕ) → n < m
    → ends start (take m w) ≡ None
beyond ends start w n p h dead m l =
    let le : n + 1 ≤ m = omega arith in
    ap (λ u. ends start u) (sym (take-append-drop (n + 1) (take m w)))
    ∙ ap (λ u. ends start (u ++ drop (n + 1) (take m w))) (take-take (n + 1) m w le)
    ∙ h (drop (n + 1) (take m w))
    ∙ dead (drop (n + 1) (take m w))

pub reading_dead : (ends : ℕ → List ℕ → Option ℕ) (start other : ℕ) (w : List ℕ) (n q p k : ℕ) (span : Span)
    → Reading ends start other w n q span → n < length w → get_or w n 0 ≡ k → ((v : List ℕ) → ends q (k ∷ v) ≡ ends p v)
    → ((v : List ℕ) → ends p v ≡ None) → IsBest (ends start) other w (length w) span
reading_dead ends start other w n q p k span r l e s dead =
    let out = beyond ends start w n p (reads_next ends start w n q p k r.reads l e s) dead in
    ⊎_elim
    (λ f. inl (record {
      some = f.some;
      within = omega (arith, f.within);
      known = f.known;
      longest = (λ m a b. ⊎_elim (λ c. out m c) (λ c. f.longest m a c) (cases_lt n m));
    }))
    (λ f. inr (record {
      single = f.single;
      known = f.known;
      none = (λ m a b. ⊎_elim (λ c. out m c) (λ c. f.none m a c) (cases_lt n m));
    }))
    r.best

-- nothing ends from the state, whatever front of what is left is read
pub reading_stuck : (ends : ℕ → List ℕ → Option ℕ) (start other : ℕ) (w : List ℕ) (n q : ℕ) (span : Span)
    → Reading ends start other w n q span → n ≤ length w → ((m : ℕ) → ends q (take m (drop n w)) ≡ None)
    → IsBest (ends start) other w (length w) span
reading_stuck ends start other w n q span r within none =
    ⊎_elim
    (λ f. inl (record {
      some = f.some;
      within = omega (arith, f.within, within);
      known = f.known;
      longest = (λ m a b. ⊎_elim (λ c. out m c) (λ c. let le : m ≤ n = omega (arith, c) in f.longest m a le)
          (cases_lt n m));
    }))
    (λ f. inr (record {
      single = f.single;
      known = f.known;
      none = (λ m a b. ⊎_elim (λ c. out m c) (λ c. let le : m ≤ n = omega (arith, c) in f.none m a le) (cases_lt n m));
    }))
    r.best
  where
    out : (m : ℕ) → n < m → ends start (take m w) ≡ None
    out m l =
        let e : n + (m - n) ≡ m = omega (arith, l) in
        ap (λ i. ends start (take i w)) (sym e) ∙ ap (λ u. ends start u) (take-add n (m - n) w)
        ∙ r.reads (take (m - n) (drop n w)) ∙ none (m - n)

pub best_is_syllable : (g : Grammar) (f : List ℕ → Option ℕ) (w : List ℕ) (span : Span)
    → ((u : List ℕ) → IsKind g u (f u)) → 0 < length w → IsBest f g.other w (length w) span → IsSyllable g w span
best_is_syllable g f w span kinds some best =
    ⊎_elim
    (λ b. let p = subst (λ o. IsKind g (take span.len w) o) b.known (kinds (take span.len w)) in
    inl (record {
      some = b.some;
      within = b.within;
      rule = p.0;
      first = p.1;
      kind = p.2;
      longest = (λ m a c. subst (λ o. IsKind g (take m w) o) (b.longest m a c) (kinds (take m w)));
    }))
    (λ b. inr (record {
      one = b.single;
      within = omega arith;
      kind = b.known;
      none = (λ m a c. subst (λ o. IsKind g (take m w) o) (b.none m a c) (kinds (take m w)));
    }))
    best

pub syllable_within : (g : Grammar) (w : List ℕ) (span : Span) → IsSyllable g w span → (0 < span.len)
    × (span.len ≤ length w)
syllable_within g w span s =
    ⊎_elim (λ l. (l.some, l.within)) (λ o. (omega (arith, o.one), omega (arith, o.one, o.within))) s
