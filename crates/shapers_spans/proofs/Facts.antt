-- What the code needs of a machine's tables: tests that compute, and what they show.
use Rattle.std.proofs.Common.{◌≡◌, ℕ, zero, suc, ◌*◌, ◌<◌, Bool, true, false, ◌==◌, List, [], ◌∷◌, Some, None, cond, get_or, take, drop, length, refl, sym, ap, ◌∙◌, arith, eqb-true}
use Rattle.std.specs.Prelude.{nat_lt}
use Rattle.std.proofs.lemmas.Bool.{ltb-true, cond-false, ne_eqb}
use Rattle.std.proofs.lemmas.List.{get_or_default, get_or-drop, get_or-take}
use Rattle.shapers_spans.specs.Machine.{Tables, state_behind, run, kind_or_none, ends_by}
use Rattle.shapers_spans.proofs.StepLemmas.{cond_and}

-- each entry is below n
unfoldable pub entries_below : ℕ → List ℕ → Bool
entries_below n [] = true
entries_below n (x ∷ xs) = let rest = entries_below n xs in cond (nat_lt x n) rest false

pub entry-below : (n : ℕ) (xs : List ℕ) (i : ℕ) → 0 < n → entries_below n xs ≡ true → get_or xs i 0 < n
unfolding entries_below
entry-below n [] i s h = s
entry-below n (x ∷ xs) zero s h = ltb-true x n (cond_and (nat_lt x n) (entries_below n xs) h).0
entry-below n (x ∷ xs) (suc i) s h = entry-below n xs i s (cond_and (nat_lt x n) (entries_below n xs) h).1

-- each entry is n
unfoldable pub entries_are : ℕ → List ℕ → Bool
entries_are n [] = true
entries_are n (x ∷ xs) = let rest = entries_are n xs in cond (x == n) rest false

entry-is : (n : ℕ) (xs : List ℕ) (i : ℕ) → i < length xs → entries_are n xs ≡ true → get_or xs i 0 ≡ n
unfolding entries_are
entry-is n [] i l h = absurd (omega arith)
entry-is n (x ∷ xs) zero l h = eqb-true x n (cond_and (x == n) (entries_are n xs) h).0
entry-is n (x ∷ xs) (suc i) l h = entry-is n xs i (omega arith) (cond_and (x == n) (entries_are n xs) h).1

-- from state d nothing ends
unfoldable pub dead_ok : Tables → ℕ → Bool
dead_ok t d =
    let row = take t.row_len (drop (d * t.row_len) t.rows) in
    let stays = entries_are d row in
    let whole = cond (length row == t.row_len) stays false in
    let classes = cond (entries_below t.row_len t.class_of) whole false in
    let some = cond (nat_lt 0 t.row_len) classes false in
    cond (get_or t.kind_in d 255 == 255) some false

dead_stays : (t : Tables) (d : ℕ) → 0 < t.row_len → entries_below t.row_len t.class_of ≡ true
    → length (take t.row_len (drop (d * t.row_len) t.rows)) ≡ t.row_len
    → entries_are d (take t.row_len (drop (d * t.row_len) t.rows)) ≡ true → (k : ℕ) → state_behind t d k ≡ d
dead_stays t d some classes whole stays k =
    let c = get_or t.class_of k 0 in
    let l : c < t.row_len = entry-below t.row_len t.class_of k some classes in
    let l2 : c < length (take t.row_len (drop (d * t.row_len) t.rows)) = omega (arith, l, whole) in
    sym (get_or-drop (d * t.row_len) t.rows c 0)
    ∙ sym (get_or-take t.row_len (drop (d * t.row_len) t.rows) c 0 l)
    ∙ entry-is d (take t.row_len (drop (d * t.row_len) t.rows)) c l2 stays

record DeadFacts (t : Tables) (d : ℕ) : Type 0 where
  none : get_or t.kind_in d 255 ≡ 255
  stays : (k : ℕ) → state_behind t d k ≡ d

dead-facts : (t : Tables) (d : ℕ) → dead_ok t d ≡ true → DeadFacts t d
unfolding dead_ok
dead-facts t d h =
    let row = take t.row_len (drop (d * t.row_len) t.rows) in
    let stays = entries_are d row in
    let whole = cond (length row == t.row_len) stays false in
    let classes = cond (entries_below t.row_len t.class_of) whole false in
    let some = cond (nat_lt 0 t.row_len) classes false in
    let p = cond_and (get_or t.kind_in d 255 == 255) some h in
    let q = cond_and (nat_lt 0 t.row_len) classes p.1 in
    let r = cond_and (entries_below t.row_len t.class_of) whole q.1 in
    let s = cond_and (length row == t.row_len) stays r.1 in
    record {
      none = eqb-true (get_or t.kind_in d 255) 255 p.0;
      stays = (λ k. dead_stays t d (ltb-true 0 t.row_len q.0) r.0 (eqb-true (length row) t.row_len s.0) s.1 k);
    }

dead-run : (t : Tables) (d : ℕ) → ((k : ℕ) → state_behind t d k ≡ d) → (w : List ℕ) → run t d w ≡ d
unfolding run
dead-run t d h [] = refl
dead-run t d h (k ∷ ks) = ap (λ q. run t q ks) (h k) ∙ dead-run t d h ks

pub dead-ends : (t : Tables) (d : ℕ) → dead_ok t d ≡ true → (w : List ℕ) → ends_by t d w ≡ None
dead-ends t d h w =
    let f = dead-facts t d h in
    ap (λ q. kind_or_none (get_or t.kind_in q 255)) (dead-run t d f.stays w) ∙ ap kind_or_none f.none

some_kind : (k : ℕ) → (k ≡ 255 → ⊥) → Some k ≡ kind_or_none k
some_kind k h = sym (cond-false (k == 255) None (Some k) (ne_eqb k 255 h))

-- the kind of what ends in a state, if anything does
pub kind_none : (t : Tables) (q : ℕ) → q < length t.kind_in → get_or t.kind_in q 0 ≡ 255 → None ≡ ends_by t q []
unfolding run
kind_none t q l h = sym (ap kind_or_none (get_or_default t.kind_in q 255 0 l ∙ h))

pub kind_some : (t : Tables) (q : ℕ) → q < length t.kind_in → (get_or t.kind_in q 0 ≡ 255 → ⊥)
    → Some (get_or t.kind_in q 0) ≡ ends_by t q []
unfolding run
kind_some t q l h =
    let e : get_or t.kind_in q 0 ≡ get_or t.kind_in q 255 = get_or_default t.kind_in q 0 255 l in
    ap (λ k. Some k) e ∙ some_kind (get_or t.kind_in q 255) (λ f. h (e ∙ f))

-- one category more
pub ends_next : (t : Tables) (q k : ℕ) (w : List ℕ) → ends_by t q (k ∷ w) ≡ ends_by t (state_behind t q k) w
unfolding run
ends_next t q k w = refl
