-- The loop that looks for the longest front: what is read, and what that comes to.
use Rattle.std.proofs.Common.{◌≡◌, ℕ, suc, ◌+◌, ◌<◌, ◌≤◌, Bool, true, false, List, [], ◌∷◌, ◌++◌, Option, Some, None, get_or, drop, take, length, refl, sym, ap, subst, ◌∙◌, arith, zero-add, add-zero}
use Rattle.std.proofs.lemmas.List.{drop_more, drop_all, length-drop, drop-drop, get_or-drop, length-append}
use Rattle.shapers_buffer.specs.Glyphs.{Glyph, Glyphs}
use Rattle.shapers_buffer.specs.declared.buffer.syllables.Span.{Span}
use Rattle.shapers_spans.specs.Grammar.{Grammar, IsKind, read_of, reach_of, BeginsWith}
use Rattle.shapers_spans.specs.Joined.{Joined, EndsNothing}
use Rattle.shapers_spans.proofs.Reading.{Reading, IsBest, reading_start, reading_none, reading_some, reading_dead, reading_stuck, best_is_syllable}
use Rattle.shapers_spans.proofs.Reached.{keep_read, keep_reach, reach-zero, read-behind, reach-behind, behind-is-read, first-read}
use Rattle.shapers_spans.proofs.Joining.{AllJoin, joined-end, run-read}

-- n glyphs are behind, `count` of them read; `best` is the span among what is read
pub record Scanning (ends : ℕ → List ℕ → Option ℕ) (start other : ℕ) (p : Glyphs
    → Bool) (gs : Glyphs) (n q : ℕ) (span : Span) : Type 0 where
  pub count : ℕ
  pub best : Span
  pub reading : Reading ends start other (read_of p gs) count q best
  pub left : drop count (read_of p gs) ≡ read_of p (drop n gs)
  pub some_read : count ≤ length (read_of p gs)
  pub reaches : (m : ℕ) → reach_of p gs (count + m) ≡ n + reach_of p (drop n gs) m
  pub here : p (drop n gs) ≡ false
  pub same_kind : span.kind ≡ best.kind
  pub ends_at : span.len ≡ reach_of p gs best.len

reach-one : (p : Glyphs → Bool) (gs : Glyphs) → 0 < length gs → p gs ≡ false
    → reach_of p gs 1 ≡ 1 + reach_of p (drop 1 gs) 0
reach-one p [] l h = absurd (omega arith)
reach-one p (g ∷ gs) l h =
    let e : suc (reach_of p gs 0) ≡ 1 + reach_of p gs 0 = omega arith in
    keep_reach p g gs 0 h ∙ e

pub scanning_start : (ends : ℕ → List ℕ → Option ℕ) (start other : ℕ) (p : Glyphs
    → Bool) (gs : Glyphs) (span : Span) → 0 < length gs → p gs ≡ false
    → span.len ≡ 1 + reach_of p (drop 1 gs) 0 → span.kind ≡ other → Scanning ends start other p gs 0 start span
scanning_start ends start other p gs span l h len kind =
    let best : Span = record { len = 1; kind = span.kind } in
    record {
      count = 0;
      best = best;
      reading = reading_start ends start other (read_of p gs) best refl kind;
      left = refl;
      some_read = omega arith;
      reaches = (λ m. ap (reach_of p gs) (zero-add m) ∙ sym (zero-add (reach_of p gs m)));
      here = h;
      same_kind = refl;
      ends_at = len ∙ sym (reach-one p gs l h);
    }

-- what reading the glyph at n comes to
record Next (p : Glyphs → Bool) (gs : Glyphs) (n r k next : ℕ) : Type 0 where
  in_range : r < length (read_of p gs)
  value : get_or (read_of p gs) r 0 ≡ k
  left : drop (r + 1) (read_of p gs) ≡ read_of p (drop next gs)
  reaches : (m : ℕ) → reach_of p gs (r + 1 + m) ≡ next + reach_of p (drop next gs) m
  here : p (drop next gs) ≡ false

next_is : (p : Glyphs → Bool) → p [] ≡ false
    → (gs : Glyphs) (n r next : ℕ) (d : Glyph) → n < length gs → p (drop n gs) ≡ false
    → r ≤ length (read_of p gs) → drop r (read_of p gs) ≡ read_of p (drop n gs)
    → ((m : ℕ) → reach_of p gs (r + m) ≡ n + reach_of p (drop n gs) m) → next ≡ n + 1 + reach_of p (drop (n + 1) gs) 0
    → Next p gs n r (get_or gs n d).category next
next_is p z gs n r next d l some within left reaches is =
    let g = get_or gs n d in
    let rest = drop (n + 1) gs in
    let e : drop n gs ≡ g ∷ rest = drop_more gs n d l in
    let h : p (g ∷ rest) ≡ false = subst (λ xs. p xs ≡ false) e some in
    let f : drop r (read_of p gs) ≡ g.category ∷ read_of p rest = left ∙ ap (read_of p) e ∙ keep_read p g rest h in
    let on : drop (reach_of p rest 0) rest ≡ drop next gs = drop-drop (reach_of p rest 0) (n + 1) gs
    ∙ ap (λ i. drop i gs) (sym is) in
    record {
      in_range = omega (arith, length-drop r (read_of p gs), ap length f, within);
      value = sym (ap (λ i. get_or (read_of p gs) i 0) (add-zero r)) ∙ sym (get_or-drop r (read_of p gs) 0 0)
          ∙ ap (λ (xs : List ℕ). get_or xs 0 0) f;
      left = sym (drop-drop 1 r (read_of p gs)) ∙ ap (λ (xs : List ℕ). drop 1 xs) f ∙ read-behind p rest
          ∙ ap (read_of p) on;
      reaches = (λ m.
          let a : r + suc m ≡ r + 1 + m = omega arith in
          let b : reach_of p (drop n gs) (suc m) ≡ suc (reach_of p rest m) = ap (λ xs. reach_of p xs (suc m)) e
          ∙ keep_reach p g rest m h in
          let c : reach_of p rest m ≡ reach_of p rest 0 + reach_of p (drop next gs) m = reach-behind p rest m
          ∙ ap (λ xs. reach_of p rest 0 + reach_of p xs m) on in
          let s : reach_of p gs (r + 1 + m) ≡ n + reach_of p (drop n gs) (suc m) = ap (reach_of p gs) (sym a)
          ∙ reaches (suc m) in
          omega (arith, b, c, s, is));
      here = subst (λ xs. p xs ≡ false) on (behind-is-read p z rest);
    }

pub scanning_none : (ends : ℕ → List ℕ → Option ℕ) (start other : ℕ) (p : Glyphs → Bool) → p [] ≡ false
    → (gs : Glyphs) (n q r next : ℕ) (d : Glyph) (span : Span)
    → Scanning ends start other p gs n q span → n < length gs → next ≡ n + 1 + reach_of p (drop (n + 1) gs) 0
    → ((v : List ℕ) → ends q ((get_or gs n d).category ∷ v) ≡ ends r v) → ends r [] ≡ None
    → Scanning ends start other p gs next r span
scanning_none ends start other p z gs n q r next d span s l is step none =
    let x = next_is p z gs n s.count next d l s.here s.some_read s.left s.reaches is in
    record {
      count = s.count + 1;
      best = s.best;
      reading = reading_none ends start other (read_of p gs) s.count q r (get_or gs n d).category s.best s.reading
          x.in_range x.value step none;
      left = x.left;
      some_read = omega (arith, x.in_range);
      reaches = x.reaches;
      here = x.here;
      same_kind = s.same_kind;
      ends_at = s.ends_at;
    }

pub scanning_some : (ends : ℕ → List ℕ → Option ℕ) (start other : ℕ) (p : Glyphs → Bool) → p [] ≡ false
    → (gs : Glyphs) (n q r next k : ℕ) (d : Glyph) (span new : Span)
    → Scanning ends start other p gs n q span → n < length gs → next ≡ n + 1 + reach_of p (drop (n + 1) gs) 0
    → ((v : List ℕ) → ends q ((get_or gs n d).category ∷ v) ≡ ends r v) → ends r [] ≡ Some k → new.len ≡ next
    → new.kind ≡ k → Scanning ends start other p gs next r new
scanning_some ends start other p z gs n q r next k d span new s l is step some len kind =
    let x = next_is p z gs n s.count next d l s.here s.some_read s.left s.reaches is in
    let best : Span = record { len = s.count + 1; kind = new.kind } in
    let at : reach_of p gs (s.count + 1) ≡ next =
    ap (reach_of p gs) (sym (add-zero (s.count + 1))) ∙ x.reaches 0
    ∙ ap (λ i. next + i) (reach-zero p (drop next gs) x.here) ∙ add-zero next in
    record {
      count = s.count + 1;
      best = best;
      reading = reading_some ends start other (read_of p gs) s.count q r (get_or gs n d).category s.best best s.reading
          x.in_range x.value step (some ∙ ap (λ y. Some y) (sym kind)) refl;
      left = x.left;
      some_read = omega (arith, x.in_range);
      reaches = x.reaches;
      here = x.here;
      same_kind = refl;
      ends_at = len ∙ sym at;
    }

-- a run of joiners, none of which leads away

reading_run : (ends : ℕ → List ℕ → Option ℕ) (start other : ℕ) (w : List ℕ) (n q : ℕ) (span : Span) (j : ℕ
    → Bool) (ks rest : List ℕ) → Reading ends start other w n q span → drop n w ≡ ks ++ rest → n ≤ length w
    → AllJoin j ks → ((k : ℕ) → j k ≡ true → (v : List ℕ) → ends q (k ∷ v) ≡ ends q v) → ends q [] ≡ None
    → Reading ends start other w (n + length ks) q span
reading_run ends start other w n q span j [] rest r e l a cycles none =
    let z : n ≡ n + 0 = omega arith in subst (λ i. Reading ends start other w i q span) z r
reading_run ends start other w n q span j (k ∷ ks) rest r e l a cycles none =
    let in_range : n < length w = omega (arith, length-drop n w, ap length e, l) in
    let value : get_or w n 0 ≡ k = sym (ap (λ i. get_or w i 0) (add-zero n)) ∙ sym (get_or-drop n w 0 0)
    ∙ ap (λ (xs : List ℕ). get_or xs 0 0) e in
    let next : drop (n + 1) w ≡ ks ++ rest = sym (drop-drop 1 n w) ∙ ap (λ (xs : List ℕ). drop 1 xs) e in
    let s : n + 1 + length ks ≡ n + suc (length ks) = omega arith in
    subst (λ i. Reading ends start other w i q span) s
    (reading_run ends start other w (n + 1) q span j ks rest
    (reading_none ends start other w n q q k span r in_range value (cycles k a.0) none) next (omega (arith, in_range))
    a.1 cycles none)

pub scanning_run : (ends : ℕ → List ℕ → Option ℕ) (start other : ℕ) (p : Glyphs
    → Bool) (gs : Glyphs) (n q k : ℕ) (span : Span) (j : ℕ → Bool)
    → Scanning ends start other p gs n q span → Joined p j (drop n gs) k
    → ((c : ℕ) → j c ≡ true → (v : List ℕ) → ends q (c ∷ v) ≡ ends q v) → ends q [] ≡ None
    → Scanning ends start other p gs (n + k) q span
scanning_run ends start other p gs n q k span j s h cycles none =
    let r = run-read p j (drop n gs) k h in
    let on : drop k (drop n gs) ≡ drop (n + k) gs = drop-drop k n gs in
    let e : drop s.count (read_of p gs) ≡ r.joiners ++ read_of p (drop k (drop n gs)) = s.left ∙ r.read in
    let whole : s.count + length r.joiners ≤ length (read_of p gs) =
    omega (
      arith,
      length-drop s.count (read_of p gs),
      ap length e,
      length-append r.joiners
          (read_of p (drop k (drop n gs))),
      s.some_read,
    ) in
    record {
      count = s.count + length r.joiners;
      best = s.best;
      reading = reading_run ends start other (read_of p gs) s.count q s.best j r.joiners
          (read_of p (drop k (drop n gs))) s.reading e s.some_read r.join cycles none;
      left = sym (drop-drop (length r.joiners) s.count (read_of p gs))
          ∙ ap (λ (xs : List ℕ). drop (length r.joiners) xs) e ∙ drop_at r.joiners (read_of p (drop k (drop n gs)))
          ∙ ap (read_of p) on;
      some_read = whole;
      reaches = (λ m.
          let a : s.count + length r.joiners + m ≡ s.count + (length r.joiners + m) = omega arith in
          let b : reach_of p (drop n gs) (length r.joiners + m) ≡ k + reach_of p (drop (n + k) gs) m =
          r.reaches m ∙ ap (λ xs. k + reach_of p xs m) on in
          let c : reach_of p gs (s.count + length r.joiners + m) ≡ n + reach_of p (drop n gs) (length r.joiners + m) =
          ap (reach_of p gs) a ∙ s.reaches (length r.joiners + m) in
          omega (arith, b, c));
      here = subst (λ xs. p xs ≡ false) on (joined-end p j (drop n gs) k h);
      same_kind = s.same_kind;
      ends_at = s.ends_at;
    }
  where
    drop_at : (xs ys : List ℕ) → drop (length xs) (xs ++ ys) ≡ ys
    drop_at [] ys = refl
    drop_at (x ∷ xs) ys = drop_at xs ys

-- the end

pub scanning_dead : (g : Grammar) (ends : ℕ → List ℕ → Option ℕ) (start : ℕ) (gs : Glyphs) (n q r : ℕ)
    (d : Glyph) (span : Span) → g.passes [] ≡ false → ((u : List ℕ) → IsKind g u (ends start u))
    → Scanning ends start g.other g.passes gs n q span → n < length gs
    → ((v : List ℕ) → ends q ((get_or gs n d).category ∷ v) ≡ ends r v) → ((v : List ℕ) → ends r v ≡ None)
    → BeginsWith g gs span
scanning_dead g ends start gs n q r d span z kinds s l step dead =
    let x = next_is g.passes z gs n s.count (n + 1 + reach_of g.passes (drop (n + 1) gs) 0) d l s.here s.some_read
    s.left s.reaches refl in
    let some : 0 < length (read_of g.passes gs) = omega (arith, x.in_range) in
    record {
      read = s.best;
      syllable = best_is_syllable g (ends start) (read_of g.passes gs) s.best kinds some
          (reading_dead ends start g.other (read_of g.passes gs) s.count q r (get_or gs n d).category s.best s.reading
          x.in_range x.value step dead);
      kind = s.same_kind;
      len = s.ends_at;
    }

pub scanning_all : (g : Grammar) (ends : ℕ → List ℕ → Option ℕ) (start : ℕ) (gs : Glyphs) (n q : ℕ)
    (span : Span) → ((u : List ℕ) → IsKind g u (ends start u)) → Scanning ends start g.other g.passes gs n q span
    → length gs ≤ n → 0 < length gs → g.passes gs ≡ false → BeginsWith g gs span
scanning_all g ends start gs n q span kinds s a l h =
    let some : 0 < length (read_of g.passes gs) = first-read g.passes gs l h in
    let e : drop s.count (read_of g.passes gs) ≡ [] = s.left ∙ ap (read_of g.passes) (drop_all n gs a) in
    let f : s.count ≡ length (read_of g.passes gs) =
    omega (arith, length-drop s.count (read_of g.passes gs), ap length e, s.some_read) in
    record {
      read = s.best;
      syllable = best_is_syllable g (ends start) (read_of g.passes gs) s.best kinds some
          (subst (λ m. IsBest (ends start) g.other (read_of g.passes gs) m s.best) f s.reading.best);
      kind = s.same_kind;
      len = s.ends_at;
    }

pub scanning_stuck : (g : Grammar) (ends : ℕ → List ℕ → Option ℕ) (start : ℕ) (gs : Glyphs) (n q : ℕ)
    (span : Span) → ((u : List ℕ) → IsKind g u (ends start u)) → Scanning ends start g.other g.passes gs n q span
    → EndsNothing g.passes ends (drop n gs) q → 0 < length gs → g.passes gs ≡ false → BeginsWith g gs span
scanning_stuck g ends start gs n q span kinds s none l h =
    let some : 0 < length (read_of g.passes gs) = first-read g.passes gs l h in
    record {
      read = s.best;
      syllable = best_is_syllable g (ends start) (read_of g.passes gs) s.best kinds some
          (reading_stuck ends start g.other (read_of g.passes gs) s.count q s.best s.reading s.some_read
          (λ m. ap (λ (u : List ℕ). ends q (take m u)) s.left ∙ none m));
      kind = s.same_kind;
      len = s.ends_at;
    }
