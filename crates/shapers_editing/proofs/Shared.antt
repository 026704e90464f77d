-- The spans that two lists share at the front.
use Rattle.std.proofs.Common.{◌≡◌, ℕ, zero, suc, ◌+◌, ◌-◌, ◌<◌, ◌≤◌, ◌⊎◌, Bool, true, false, cond, ◌==◌, List, [], ◌∷◌, ◌++◌, drop, length, reverse, refl, sym, ap, ◌∙◌, arith, inl, inr, ⊎_elim}
use Rattle.std.specs.Prelude.{nat_le, nat_lt, ◌&&◌, slice_get, Some}
use Rattle.std.specs.List.{list_all}
use Rattle.std.proofs.lemmas.Grind.{reverse_onto}
use Rattle.std.proofs.lemmas.Bool.{and_from, and_parts, cases_Bool, eq-eqb, eqb-true, le-leb, leb-true, ltb-true}
use Rattle.std.proofs.lemmas.List.{length-reverse, reverse-append, reverse-reverse}
use Rattle.std.proofs.lemmas.List.Sums.{sum_by-append, sum_by-cons}
use Rattle.shapers_buffer.specs.declared.buffer.syllables.Span.{Span}
use Rattle.shapers_editing.specs.Affected.{IsShared, SharedAreApart, SharedIsMost, glyphs_in, is_same, shared, from_either_end}

pub same-span : (s t : Span) → is_same s t ≡ true → s ≡ t
same-span s t h =
    let (a, b) = and_parts (s.len == t.len) (s.kind == t.kind) h in
    ap (λ (n : ℕ). let u : Span = record { len = n; kind = s.kind } in u) (eqb-true s.len t.len a)
    ∙ ap (λ (k : ℕ). let u : Span = record { len = t.len; kind = k } in u) (eqb-true s.kind t.kind b)

same-itself : (s : Span) → is_same s s ≡ true
same-itself s = and_from (s.len == s.len) (s.kind == s.kind) (eq-eqb s.len s.len refl) (eq-eqb s.kind s.kind refl)

cons-head : (x y : Span) (xs ys : List Span) → x ∷ xs ≡ y ∷ ys → x ≡ y
cons-head x y xs ys e = cc

cons-tail : (x y : Span) (xs ys : List Span) → x ∷ xs ≡ y ∷ ys → xs ≡ ys
cons-tail x y xs ys e = cc

none-longer : (other us : List Span) → [] ≡ other ++ us → length other ≤ 0
none-longer [] us e = omega arith
none-longer (o ∷ os) us e = absurd cc

not-both : (b : Bool) → b ≡ true → b ≡ false → ⊥
not-both b h k = cc

pub shared-most : SharedIsMost
shared-most n [] ts = record {
  first = ([], refl);
  second = (ts, refl);
  few = omega arith;
  most =
      (λ other us vs e f l. none-longer other us e);
}
shared-most n (s ∷ ss) [] = record {
  first = (s ∷ ss, refl);
  second = ([], refl);
  few = omega arith;
  most =
      (λ other us vs e f l. none-longer other vs f);
}
shared-most n (s ∷ ss) (t ∷ ts) =
    let test = is_same s t && nat_le s.len n in
    elim test as (λ b. test ≡ b → IsShared n (s ∷ ss) (t ∷ ts) (cond b (s ∷ shared (n - s.len) ss ts) [])) [
      | true ↦ λ h.
          let (same, fits) = and_parts (is_same s t) (nat_le s.len n) h in
          let e = same-span s t same in
          let within : s.len ≤ n = leb-true s.len n fits in
          let r = shared-most (n - s.len) ss ts in
          let few = r.few in
          record {
            first = (r.first.0, ap (λ (xs : List Span). s ∷ xs) r.first.1);
            second = (r.second.0, ap (λ (u : Span). u ∷ ts) (sym e) ∙ ap (λ (xs : List Span). s ∷ xs) r.second.1);
            few = omega (arith, sum_by-cons (λ (u : Span). u.len) s (shared (n - s.len) ss ts));
            most = longest n s t ss ts within r;
          }
      | false ↦ λ h. record {
        first = (s ∷ ss, refl);
        second = (t ∷ ts, refl);
        few = omega arith;
        most = none n s t ss ts h;
      }
    ] refl
  where
    longest : (n : ℕ) (s t : Span) (ss ts : List Span) → s.len ≤ n →
        IsShared (n - s.len) ss ts (shared (n - s.len) ss ts) → (other us vs : List Span) →
        s ∷ ss ≡ other ++ us → t ∷ ts ≡ other ++ vs → glyphs_in other ≤ n →
        length other ≤ suc (length (shared (n - s.len) ss ts))
    longest n s t ss ts within r [] us vs e f l = omega arith
    longest n s t ss ts within r (o ∷ os) us vs e f l =
        let head : s.len ≡ o.len = ap (λ (u : Span). u.len) (cons-head s o ss (os ++ us) e) in
        let rest = r.most os us vs (cons-tail s o ss (os ++ us) e) (cons-tail t o ts (os ++ vs) f)
        (omega (arith, sum_by-cons (λ (u : Span). u.len) o os)) in
        omega arith

    none : (n : ℕ) (s t : Span) (ss ts : List Span) → (is_same s t && nat_le s.len n) ≡ false →
        (other us vs : List Span) → s ∷ ss ≡ other ++ us → t ∷ ts ≡ other ++ vs → glyphs_in other ≤ n →
        length other ≤ 0
    none n s t ss ts h [] us vs e f l = omega arith
    none n s t ss ts h (o ∷ os) us vs e f l =
        let a = cons-head s o ss (os ++ us) e in
        let b = cons-head t o ts (os ++ vs) f in
        let same : is_same s t ≡ true = ap (λ (u : Span). is_same s u) (b ∙ sym a) ∙ same-itself s in
        let fits : s.len ≤ n = omega (arith, ap (λ (u : Span). u.len) a, sum_by-cons (λ (u : Span). u.len) o os) in
        absurd (not-both (is_same s t && nat_le s.len n)
        (and_from (is_same s t) (nat_le s.len n) same (le-leb s.len n fits)) h)

-- AT BOTH ENDS
pub glyphs-reverse : (xs : List Span) → glyphs_in (reverse xs) ≡ glyphs_in xs
glyphs-reverse [] = refl
glyphs-reverse (x ∷ xs) =
    ap glyphs_in (reverse_onto xs x [])
    ∙ sum_by-append (λ (u : Span). u.len) (reverse xs) (x ∷ [])
    ∙ omega (arith, glyphs-reverse xs, sum_by-cons (λ (u : Span). u.len) x xs, sum_by-cons (λ (u : Span). u.len) x [])

abbrev all_some : List Span → Bool
all_some xs = list_all (λ span. nat_lt 0 span.len) xs

-- what stands between a front and a back of a list
between : (fs us ws bs : List Span) → fs ++ us ≡ ws ++ bs → glyphs_in fs + glyphs_in bs ≤ glyphs_in (fs ++ us)
    → all_some (fs ++ us) ≡ true → (ms : List Span) × (us ≡ ms ++ bs)
between [] us ws bs e l some = (ws, e)
between (f ∷ fs) us [] bs e l some =
    let positive : 0 < f.len = ltb-true 0 f.len (and_parts (nat_lt 0 f.len) (all_some (fs ++ us)) some).0 in
    absurd (omega (arith, ap glyphs_in e, sum_by-cons (λ (u : Span). u.len) f fs))
between (f ∷ fs) us (w ∷ ws) bs e l some =
    between fs us ws bs (cons-tail f w (fs ++ us) (ws ++ bs) e)
    (omega (arith, sum_by-cons (λ (u : Span). u.len) f fs, sum_by-cons (λ (u : Span). u.len) f (fs ++ us)))
    (and_parts (nat_lt 0 f.len) (all_some (fs ++ us)) some).1

-- a list that ends with what its reverse begins with
ends-with : (xs own r : List Span) → reverse xs ≡ own ++ r → xs ≡ reverse r ++ reverse own
ends-with xs own r e = sym (reverse-reverse xs) ∙ ap reverse e ∙ reverse-append own r

own-part : (front back : ℕ) (xs fs us bs ws : List Span) → xs ≡ fs ++ us → xs ≡ ws ++ bs → glyphs_in fs ≤ front
    → glyphs_in bs ≤ back → front + back ≤ glyphs_in xs → all_some xs ≡ true → (ms : List Span) ×
    (xs ≡ fs ++ (ms ++ bs))
own-part front back xs fs us bs ws e f a b l some =
    let (ms, m) = between fs us ws bs (sym e ∙ f) (omega (arith, ap glyphs_in e)) (ap all_some (sym e) ∙ some) in
    (ms, e ∙ ap (λ (zs : List Span). fs ++ zs) m)

pub shared-apart : SharedAreApart
shared-apart front back old new some others l m =
    let f = shared-most front old new in
    let b = shared-most back (reverse old) (reverse new) in
    let own = shared back (reverse old) (reverse new) in
    let few : glyphs_in (reverse own) ≤ back = omega (arith, glyphs-reverse own, b.few) in
    let (us, one) = own-part front back old (shared front old new) f.first.0 (reverse own)
    (reverse b.first.0) f.first.1 (ends-with old own b.first.0 b.first.1) f.few few l some in
    let (vs, two) = own-part front back new (shared front old new) f.second.0 (reverse own)
    (reverse b.second.0) f.second.1 (ends-with new own b.second.0 b.second.1) f.few few m others in
    (us, (vs, (one, two)))

-- THE WALK
split-at : (xs : List Span) (k : ℕ) (x : Span) → slice_get xs k ≡ Some x → drop k xs ≡ x ∷ drop (k + 1) xs
split-at [] k x h = absurd cc
split-at (y ∷ ys) zero x h = cc
split-at (y ∷ ys) (suc k) x h = let one : suc (k + 1) ≡ suc k + 1 = omega arith in split-at ys k x h ∙ ap
    (λ (n : ℕ). x ∷ drop n (y ∷ ys)) one

drop-end : (xs : List Span) (k : ℕ) → length xs ≤ k → drop k xs ≡ []
drop-end [] zero l = refl
drop-end [] (suc k) l = refl
drop-end (x ∷ xs) zero l = absurd (omega arith)
drop-end (x ∷ xs) (suc k) l = drop-end xs k (omega arith)

-- one more span is the same
pub shared-step : (n k : ℕ) (ss ts : List Span) (s t : Span) → slice_get ss k ≡ Some s → slice_get ts k ≡ Some t
    → s.len ≡ t.len → s.kind ≡ t.kind → s.len ≤ n → glyphs_in (shared n (drop k ss) (drop k ts)) ≡ s.len + glyphs_in
    (shared (n - s.len) (drop (k + 1) ss) (drop (k + 1) ts))
shared-step n k ss ts s t a b e f l =
    let rest = shared (n - s.len) (drop (k + 1) ss) (drop (k + 1) ts) in
    let test : (is_same s t && nat_le s.len n) ≡ true = and_from (is_same s t) (nat_le s.len n)
    (and_from (s.len == t.len) (s.kind == t.kind) (eq-eqb s.len t.len e) (eq-eqb s.kind t.kind f)) (le-leb s.len n l) in
    ap (λ (xs : List Span). glyphs_in (shared n xs (drop k ts))) (split-at ss k s a)
    ∙ ap (λ (xs : List Span). glyphs_in (shared n (s ∷ drop (k + 1) ss) xs)) (split-at ts k t b)
    ∙ ap (λ (v : Bool). glyphs_in (cond v (s ∷ rest) [])) test
    ∙ sum_by-cons (λ (u : Span). u.len) s rest

-- another one isn't
pub shared-stop : (n k : ℕ) (ss ts : List Span) (s t : Span) → slice_get ss k ≡ Some s → slice_get ts k ≡ Some t →
    (s.len ≡ t.len → s.kind ≡ t.kind → s.len ≤ n → ⊥) → glyphs_in (shared n (drop k ss) (drop k ts)) ≡ 0
shared-stop n k ss ts s t a b differ =
    let rest = shared (n - s.len) (drop (k + 1) ss) (drop (k + 1) ts) in
    ap (λ (xs : List Span). glyphs_in (shared n xs (drop k ts))) (split-at ss k s a)
    ∙ ap (λ (xs : List Span). glyphs_in (shared n (s ∷ drop (k + 1) ss) xs)) (split-at ts k t b)
    ∙ ⊎_elim
    (λ h. let (same, fits) = and_parts (is_same s t) (nat_le s.len n) h in
    let e = same-span s t same in
    absurd (differ (ap (λ (u : Span). u.len) e) (ap (λ (u : Span). u.kind) e) (leb-true s.len n fits)))
    (λ h. ap (λ (v : Bool). glyphs_in (cond v (s ∷ rest) [])) h)
    (cases_Bool (is_same s t && nat_le s.len n))

-- one list ends
pub shared-end : (n k : ℕ) (ss ts : List Span) → (length ss ≤ k) ⊎ (length ts ≤ k) → glyphs_in
    (shared n (drop k ss) (drop k ts)) ≡ 0
shared-end n k ss ts (inl l) = ap (λ (xs : List Span). glyphs_in (shared n xs (drop k ts))) (drop-end ss k l)
shared-end n k ss ts (inr l) = ap (λ (xs : List Span). glyphs_in (shared n (drop k ss) xs)) (drop-end ts k l)
    ∙ no-more n (drop k ss)
  where
    no-more : (n : ℕ) (xs : List Span) → glyphs_in (shared n xs []) ≡ 0
    no-more n [] = refl
    no-more n (x ∷ xs) = refl

pub length-turned : (b : Bool) (xs : List Span) → length (from_either_end b xs) ≡ length xs
length-turned true xs = length-reverse xs
length-turned false xs = refl
