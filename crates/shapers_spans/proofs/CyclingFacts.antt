-- What bounds how often glyphs are read: a test of a machine's tables that computes, and what it
-- shows.
use Rattle.std.proofs.Common.{◌≡◌, ℕ, zero, suc, ◌+◌, ◌-◌, ◌*◌, ◌<◌, ◌≤◌, ◌⊎◌, Bool, IsTrue, true, false, ◌==◌, List, [], ◌∷◌, None, Some, cond, get_or, take, drop, length, refl, sym, subst, ◌∙◌, inl, inr, ⊎_elim, arith, eqb-true, zero-add, rules}
use Rattle.std.specs.Prelude.{nat_lt}
use Rattle.std.proofs.lemmas.Bool.{ltb-true, cond_both, cases_lt, cond-false, cond-true, eq-eqb, lt-ltb}
use Rattle.std.proofs.lemmas.List.{get_or-drop, get_or-take, length-drop, length-take-le}
use Rattle.std.proofs.Math.Nat.{suc-mul, mul-le-mul_right}
use Rattle.shapers_spans.specs.Machine.{Tables, run, ends_by}
use Rattle.shapers_spans.specs.Cycling.{CellCycles, Cycling, joins, rank_of, has_begun, has_wait, has_cycle}
use Rattle.shapers_spans.proofs.StepLemmas.{cond_and}

-- The test of a cell: the class c leads from the state q to p.
unfoldable pub cell_cycles : Tables → Cycling → ℕ → ℕ → ℕ → Bool
cell_cycles t f q c p =
    let joiner = get_or f.joiners c 0 == 1 in
    let cycling = has_cycle f q in
    let same = p == q in
    let silent = get_or t.kind_in p 255 == 255 in
    let lower = cond (has_cycle f p) true (nat_lt (rank_of f p) (rank_of f q)) in
    let fall = cond silent lower true in
    let falls = cond (nat_lt 0 (rank_of f q)) fall true in
    let opened = cond joiner (has_begun f p) true in
    let one = cond (q == 0) opened true in
    let near = nat_lt (rank_of f p) 2 in
    let still = cond (has_cycle f p) false near in
    let begun = cond (has_begun f p) still true in
    let home = p == f.cycled in
    let quiet = cond silent home false in
    let second = cond joiner quiet true in
    let two = cond (has_begun f q) second true in
    let ended = cond (get_or t.kind_in q 255 == 255) false true in
    let before = cond (has_wait f q) true ended in
    let led = cond joiner before false in
    let waits = cond (has_wait f p) led true in
    let stay = cond joiner same true in
    let stays = cond cycling stay true in
    let e = cond waits stays false in
    let d = cond two e false in
    let c = cond begun d false in
    let b = cond one c false in
    let a = cond (nat_lt (rank_of f p) 3) b false in
    cond falls a false

unfoldable pub row_cycles : Tables → Cycling → ℕ → ℕ → List ℕ → Bool
row_cycles t f q c [] = true
row_cycles t f q c (p ∷ ps) = let rest = row_cycles t f q (suc c) ps in cond (cell_cycles t f q c p) rest false

-- so for the state's row; if the state cycles, it waits; and if it isn't dead, it has a rank
unfoldable pub state_cycles : Tables → Cycling → ℕ → Bool
state_cycles t f q =
    let row = row_cycles t f q 0 (take t.row_len (drop (q * t.row_len) t.rows)) in
    let waits = cond (has_cycle f q) (has_wait f q) true in
    let both = cond waits row false in
    cond (cond (q == f.dead) true (nat_lt 0 (rank_of f q))) both false

-- so for each state below n
unfoldable pub states_cycle : Tables → Cycling → ℕ → Bool
states_cycle t f zero = true
states_cycle t f (suc q) = let rest = states_cycle t f q in cond (state_cycles t f q) rest false

-- the whole test, of n states
unfoldable pub cycling_ok : Tables → Cycling → ℕ → Bool
cycling_ok t f n = let states = states_cycle t f n in cond (length t.rows == n * t.row_len) states false

cond_then : (x y : Bool) → cond x y true ≡ true → x ≡ true → y ≡ true
cond_then true y h e = h
cond_then false y h e = cc

cond_or : (x y : Bool) → cond x true y ≡ true → (x ≡ true) ⊎ (y ≡ true)
cond_or true y h = inl refl
cond_or false y h = inr h

not_both : (x : Bool) → cond x false true ≡ true → x ≡ true → ⊥
not_both true h e = cc
not_both false h e = cc

silent : (t : Tables) (q : ℕ) → ends_by t q [] ≡ None → (get_or t.kind_in q 255 == 255) ≡ true
unfolding run
silent t q e =
    let k = get_or t.kind_in q 255 in
    cond_both (k == 255) None (Some k) (λ o. o ≡ None → (k == 255) ≡ true) (λ h _. h) (λ h i. cc) e

quiet_ends : (t : Tables) (q : ℕ) → (get_or t.kind_in q 255 == 255) ≡ true → ends_by t q [] ≡ None
unfolding run
quiet_ends t q h = cond-true (get_or t.kind_in q 255 == 255) None (Some (get_or t.kind_in q 255)) h

cond_not : (x y : Bool) → cond x false y ≡ true → (x ≡ false) × (y ≡ true)
cond_not true y h = absurd (cc)
cond_not false y h = (refl, h)

cond_unless : (x y : Bool) → cond x true y ≡ true → x ≡ false → y ≡ true
cond_unless true y h e = cc
cond_unless false y h e = h

cell-facts : (t : Tables) (f : Cycling) (q k p : ℕ) → cell_cycles t f q (get_or t.class_of k 0) p ≡ true
    → CellCycles t f q k p
unfolding cell_cycles
cell-facts t f q k p h =
    let joiner = joins t f k in
    let cycling = has_cycle f q in
    let same = p == q in
    let mute = get_or t.kind_in p 255 == 255 in
    let lower = cond (has_cycle f p) true (nat_lt (rank_of f p) (rank_of f q)) in
    let fall = cond mute lower true in
    let falls = cond (nat_lt 0 (rank_of f q)) fall true in
    let opened = cond joiner (has_begun f p) true in
    let one = cond (q == 0) opened true in
    let near = nat_lt (rank_of f p) 2 in
    let still = cond (has_cycle f p) false near in
    let begun = cond (has_begun f p) still true in
    let home = p == f.cycled in
    let quiet = cond mute home false in
    let second = cond joiner quiet true in
    let two = cond (has_begun f q) second true in
    let ended = cond (get_or t.kind_in q 255 == 255) false true in
    let before = cond (has_wait f q) true ended in
    let led = cond joiner before false in
    let waits = cond (has_wait f p) led true in
    let stay = cond joiner same true in
    let stays = cond cycling stay true in
    let e = cond waits stays false in
    let d = cond two e false in
    let c = cond begun d false in
    let b = cond one c false in
    let a = cond (nat_lt (rank_of f p) 3) b false in
    let u = cond_and falls a h in
    let v = cond_and (nat_lt (rank_of f p) 3) b u.1 in
    let w = cond_and one c v.1 in
    let x = cond_and begun d w.1 in
    let y = cond_and two e x.1 in
    let z = cond_and waits stays y.1 in
    record {
      falls = (λ i n m.
          ltb-true (rank_of f p) (rank_of f q)
          (cond_unless (has_cycle f p) (nat_lt (rank_of f p) (rank_of f q))
          (cond_then mute lower (cond_then (nat_lt 0 (rank_of f q)) fall u.0 (lt-ltb 0 (rank_of f q) i)) (silent t p n))
          m));
      low = (let l : rank_of f p < 3 = ltb-true (rank_of f p) 3 v.0 in omega (arith, l));
      one = (λ i j. cond_then joiner (has_begun f p) (cond_then (q == 0) opened w.0 (eq-eqb q 0 i)) j);
      begun = (λ i.
          let m = cond_not (has_cycle f p) near (cond_then (has_begun f p) still x.0 i) in
          let l : rank_of f p < 2 = ltb-true (rank_of f p) 2 m.1 in
          (m.0, omega (arith, l)));
      two = (λ i j.
          let m = cond_and mute home (cond_then joiner quiet (cond_then (has_begun f q) second y.0 i) j) in
          (eqb-true p f.cycled m.1, quiet_ends t p m.0));
      waits = (λ i.
          let m = cond_and joiner before (cond_then (has_wait f p) led z.0 i) in (
            m.0,
            ⊎_elim (λ o. inl o) (λ o. inr (λ n. not_both (get_or t.kind_in q 255 == 255) o (silent t q n)))
                (cond_or (has_wait f q) ended m.1),
          ));
      stays = (λ i j. eqb-true p q (cond_then joiner same (cond_then cycling stay z.1 i) j));
    }

row-cycles : (t : Tables) (f : Cycling) (q c : ℕ) (row : List ℕ) (j : ℕ) → row_cycles t f q c row ≡ true → j < length row
    → cell_cycles t f q (c + j) (get_or row j 0) ≡ true
unfolding row_cycles
row-cycles t f q c [] j h l = absurd (omega arith)
row-cycles t f q c (p ∷ ps) zero h l =
    let e : c ≡ c + 0 = omega arith in
    subst (λ i. cell_cycles t f q i p ≡ true) e (cond_and (cell_cycles t f q c p) (row_cycles t f q (suc c) ps) h).0
row-cycles t f q c (p ∷ ps) (suc j) h l =
    let e : suc c + j ≡ c + suc j = omega arith in
    subst (λ i. cell_cycles t f q i (get_or ps j 0) ≡ true) e
    (row-cycles t f q (suc c) ps j (cond_and (cell_cycles t f q c p) (row_cycles t f q (suc c) ps) h).1 (omega arith))

state-at : (t : Tables) (f : Cycling) (n q : ℕ) → states_cycle t f n ≡ true → q < n → state_cycles t f q ≡ true
unfolding states_cycle
state-at t f zero q h l = absurd (omega arith)
state-at t f (suc n) q h l =
    let p = cond_and (state_cycles t f n) (states_cycle t f n) h in
    ⊎_elim (λ m. state-at t f n q p.1 m)
    (λ m. let e : n ≡ q = omega arith in subst (λ i. state_cycles t f i ≡ true) e p.0) (cases_lt q n)

pub cell-cycles : (t : Tables) (f : Cycling) (n : ℕ) → cycling_ok t f n ≡ true → (q k : ℕ) → q < n
    → get_or t.class_of k 0 < t.row_len → CellCycles t f q k (get_or t.rows (q * t.row_len + get_or t.class_of k 0) 0)
unfolding cycling_ok state_cycles
cell-cycles t f n h q k l m =
    let c = get_or t.class_of k 0 in
    let row = take t.row_len (drop (q * t.row_len) t.rows) in
    let w = cond_and (length t.rows == n * t.row_len) (states_cycle t f n) h in
    let s = state-at t f n q w.1 l in
    let waits = cond (has_cycle f q) (has_wait f q) true in
    let both = cond waits (row_cycles t f q 0 row) false in
    let r : row_cycles t f q 0 row ≡ true =
    (cond_and waits (row_cycles t f q 0 row)
    (cond_and (cond (q == f.dead) true (nat_lt 0 (rank_of f q))) both s).1).1 in
    let e : length t.rows ≡ n * t.row_len = eqb-true (length t.rows) (n * t.row_len) w.0 in
    let whole : length row ≡ t.row_len = row-len t.row_len n q t.rows l e in
    let here : get_or row c 0 ≡ get_or t.rows (q * t.row_len + c) 0 =
    get_or-take t.row_len (drop (q * t.row_len) t.rows) c 0 m ∙ get_or-drop (q * t.row_len) t.rows c 0 in
    let in_row : c < length row = omega (arith, m, whole) in
    subst (λ p. CellCycles t f q k p) here
    (cell-facts t f q k (get_or row c 0)
    (subst (λ i. cell_cycles t f q i (get_or row c 0) ≡ true) (zero-add c) (row-cycles t f q 0 row c r in_row)))
  where
    row-within : (w n q : ℕ) → q < n → q * w + w ≤ n * w
    row-within w n q l =
        let m : suc q * w ≤ n * w = mul-le-mul_right w (omega (arith, l)) in
        let e : suc q * w ≡ q * w + w = suc-mul q w in
        omega (arith, m, e)

    row-len : (w n q : ℕ) (rows : List ℕ) → q < n → length rows ≡ n * w → length (take w (drop (q * w) rows)) ≡ w
    row-len w n q rows l e =
        let b : q * w + w ≤ n * w = row-within w n q l in
        let d : length (drop (q * w) rows) ≡ length rows - q * w = length-drop (q * w) rows in
        let le : w ≤ length (drop (q * w) rows) = omega (arith, b, d, e) in
        length-take-le w (drop (q * w) rows) le

pub state-cycles : (t : Tables) (f : Cycling) (n : ℕ) → cycling_ok t f n ≡ true → (q : ℕ) → q < n → IsTrue (has_cycle f q)
    → has_wait f q ≡ true
unfolding cycling_ok state_cycles
state-cycles t f n h q l u =
    let w = cond_and (length t.rows == n * t.row_len) (states_cycle t f n) h in
    let s = state-at t f n q w.1 l in
    let row = row_cycles t f q 0 (take t.row_len (drop (q * t.row_len) t.rows)) in
    let waits = cond (has_cycle f q) (has_wait f q) true in
    let both = cond waits row false in
    cond_then (has_cycle f q) (has_wait f q)
    (cond_and waits row (cond_and (cond (q == f.dead) true (nat_lt 0 (rank_of f q))) both s).1).0
    (is-true (has_cycle f q) u)
  where
    is-true : (b : Bool) → IsTrue b → b ≡ true
    is-true b i = search rules

pub state-lives : (t : Tables) (f : Cycling) (n : ℕ) → cycling_ok t f n ≡ true → (q : ℕ) → q < n → (q == f.dead) ≡ false
    → 0 < rank_of f q
unfolding cycling_ok state_cycles
state-lives t f n h q l u =
    let w = cond_and (length t.rows == n * t.row_len) (states_cycle t f n) h in
    let s = state-at t f n q w.1 l in
    let row = row_cycles t f q 0 (take t.row_len (drop (q * t.row_len) t.rows)) in
    let waits = cond (has_cycle f q) (has_wait f q) true in
    let both = cond waits row false in
    let r : cond (q == f.dead) true (nat_lt 0 (rank_of f q)) ≡ true =
    (cond_and (cond (q == f.dead) true (nat_lt 0 (rank_of f q))) both s).0 in
    ltb-true 0 (rank_of f q) (sym (cond-false (q == f.dead) true (nat_lt 0 (rank_of f q)) u) ∙ r)
