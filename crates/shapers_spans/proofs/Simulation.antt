-- A machine's tables are those of a grammar where a test holds that computes: beside the table
-- stands what is left of the rules in each of some states, the machine's state for each, and where
-- each category leads.
use Rattle.std.proofs.Common.{◌≡◌, ℕ, zero, suc, ◌+◌, ◌*◌, ◌<◌, ◌≤◌, ◌-◌, Bool, true, false, ◌==◌, List, [], ◌∷◌, ◌++◌, cond, get_or, drop, length, refl, sym, ap, ap₂, subst, ◌∙◌, ⊎_elim, arith, eqb-true, zero-add}
use Rattle.std.specs.Prelude.{nat_lt}
use Rattle.std.proofs.lemmas.Bool.{ltb-true, cases_lt, cond-false, ne_eqb}
use Rattle.std.proofs.lemmas.List.{get_or-drop}
use Rattle.shapers_spans.specs.Re.{Re, none, empty, one, seq, alt, star}
use Rattle.shapers_spans.specs.Grammar.{Grammar, IsKind}
use Rattle.shapers_spans.specs.Machine.{Tables, state_behind, run, kind_or_none, ends_by}
use Rattle.shapers_spans.proofs.Steps.{nullable, same, chain, union, step}
use Rattle.shapers_spans.proofs.StepLemmas.{cond_and, same-true}
use Rattle.shapers_spans.proofs.Tables.{steps, after, first_kind, kinds_fit, kind-is}

-- each pair names a state that is known and a category, and gives the next state
unfoldable pub known_states : List (ℕ × ℕ) → List (List Re) → List (List Re)
known_states [] known = known
known_states (p ∷ ps) known = known_states ps (known ++ steps p.1 (get_or known p.0 []) ∷ [])

unfoldable pub same_all : List Re → List Re → Bool
same_all [] [] = true
same_all (a ∷ xs) (b ∷ ys) = let rest = same_all xs ys in cond (same a b) rest false
same_all _ _ = false

same_all-true : (xs ys : List Re) → same_all xs ys ≡ true → xs ≡ ys
unfolding same_all
same_all-true [] [] h = refl
same_all-true (a ∷ xs) (b ∷ ys) h =
    let p = cond_and (same a b) (same_all xs ys) h in ap₂ (λ x zs. x ∷ zs) (same-true a b p.0) (same_all-true xs ys p.1)
same_all-true [] (b ∷ ys) h = cc
same_all-true (a ∷ xs) [] h = cc

-- whether the expressions name only categories below n

unfoldable pub below : ℕ → Re → Bool
below n none = true
below n empty = true
below n (one k) = nat_lt k n
below n (seq a b) = let rest = below n b in cond (below n a) rest false
below n (alt a b) = let rest = below n b in cond (below n a) rest false
below n (star a) = below n a

unfoldable pub all_below : ℕ → List Re → Bool
all_below n [] = true
all_below n (r ∷ rs) = let rest = all_below n rs in cond (below n r) rest false

step-far : (n k : ℕ) (r : Re) → below n r ≡ true → n ≤ k → step k r ≡ step n r
unfolding step below
step-far n k none h l = refl
step-far n k empty h l = refl
step-far n k (one j) h l =
    let lt : j < n = ltb-true j n h in
    cond-false (j == k) empty none (ne_eqb j k (λ e. omega arith))
    ∙ sym (cond-false (j == n) empty none (ne_eqb j n (λ e. omega arith)))
step-far n k (seq a b) h l =
    let p = cond_and (below n a) (below n b) h in
    ap₂ (λ (x y : Re). cond (nullable a) (union (chain x b) y) (chain x b)) (step-far n k a p.0 l)
    (step-far n k b p.1 l)
step-far n k (alt a b) h l =
    let p = cond_and (below n a) (below n b) h in ap₂ union (step-far n k a p.0 l) (step-far n k b p.1 l)
step-far n k (star a) h l = ap (λ (x : Re). chain x (star a)) (step-far n k a h l)

steps-far : (n k : ℕ) (rs : List Re) → all_below n rs ≡ true → n ≤ k → steps k rs ≡ steps n rs
unfolding all_below
steps-far n k [] h l = refl
steps-far n k (r ∷ rs) h l =
    let p = cond_and (below n r) (all_below n rs) h in
    ap₂ (λ x zs. x ∷ zs) (step-far n k r p.0 l) (steps-far n k rs p.1 l)

unfoldable pub zeros : List ℕ → Bool
zeros [] = true
zeros (x ∷ xs) = let rest = zeros xs in cond (x == 0) rest false

zeros-at : (xs : List ℕ) (i : ℕ) → zeros xs ≡ true → get_or xs i 0 ≡ 0
unfolding zeros
zeros-at [] i h = refl
zeros-at (x ∷ xs) zero h = eqb-true x 0 (cond_and (x == 0) (zeros xs) h).0
zeros-at (x ∷ xs) (suc i) h = zeros-at xs i (cond_and (x == 0) (zeros xs) h).1

-- the test: category k leads from the expressions rs and the state whose row begins `here` to the
-- expressions and the state number n, of `count`

unfoldable pub cell_ok : List (List Re) → ℕ → List ℕ → List ℕ → List ℕ → List Re → ℕ → ℕ → Bool
cell_ok all count states class here rs k n =
    let left = same_all (steps k rs) (get_or all n []) in
    let moved = get_or here (get_or class k 0) 0 == get_or states n 0 in
    let both = cond left moved false in
    cond (nat_lt n count) both false

unfoldable pub row_ok : List (List Re) → ℕ → List ℕ → List ℕ → List ℕ → List Re → ℕ → List ℕ → Bool
row_ok all count states class here rs k [] = true
row_ok all count states class here rs k (n ∷ ns) =
    let rest = row_ok all count states class here rs (suc k) ns in cond (cell_ok all count states class here rs k n)
    rest false

-- so for each category below n, and for n, which no rule names
unfoldable pub state_ok : List (List Re) → ℕ → List ℕ → Tables → ℕ → List ℕ → List Re → ℕ → List ℕ → Bool
state_ok all count states t n kinds rs q row =
    let cells = row_ok all count states t.class_of (drop (q * t.row_len) t.rows) rs 0 row in
    let fits = cond (length row == suc n) cells false in
    let low = cond (all_below n rs) fits false in
    cond (get_or t.kind_in q 255 == first_kind kinds rs) low false

unfoldable pub states_ok : List (List Re) → ℕ → List ℕ → Tables → ℕ → List ℕ → List (List Re) → List ℕ → List (List ℕ)
    → Bool
states_ok all count states t n kinds [] [] [] = true
states_ok all count states t n kinds (rs ∷ more) (q ∷ qs) (row ∷ rows) =
    let rest = states_ok all count states t n kinds more qs rows in cond (state_ok all count states t n kinds rs q row)
    rest false
states_ok _ _ _ _ _ _ _ _ _ = false

row-at : (all : List (List Re)) (count : ℕ) (states class here : List ℕ) (rs : List Re) (k : ℕ) (row : List ℕ) (j : ℕ)
    → row_ok all count states class here rs k row ≡ true → j < length row
    → cell_ok all count states class here rs (k + j) (get_or row j 0) ≡ true
unfolding row_ok
row-at all count states class here rs k [] j h l = absurd (omega arith)
row-at all count states class here rs k (n ∷ ns) zero h l =
    let e : k ≡ k + 0 = omega arith in
    subst (λ i. cell_ok all count states class here rs i n ≡ true) e
    (cond_and (cell_ok all count states class here rs k n) (row_ok all count states class here rs (suc k) ns) h).0
row-at all count states class here rs k (n ∷ ns) (suc j) h l =
    let e : suc k + j ≡ k + suc j = omega arith in
    subst (λ i. cell_ok all count states class here rs i (get_or ns j 0) ≡ true) e
    (row-at all count states class here rs (suc k) ns j
    (cond_and (cell_ok all count states class here rs k n) (row_ok all count states class here rs (suc k) ns) h).1
    (omega arith))

states-at : (all : List (List Re)) (count : ℕ) (states : List ℕ) (t : Tables) (n : ℕ) (kinds : List ℕ)
    (xs : List (List Re)) (qs : List ℕ) (rows : List (List ℕ)) (i : ℕ) → states_ok all count states t n kinds xs qs rows
    ≡ true → i < length xs → state_ok all count states t n kinds (get_or xs i []) (get_or qs i 0) (get_or rows i [])
    ≡ true
unfolding states_ok
states-at all count states t n kinds [] [] [] i h l = absurd (omega arith)
states-at all count states t n kinds (x ∷ xs) (q ∷ qs) (row ∷ rows) zero h l =
    (cond_and (state_ok all count states t n kinds x q row) (states_ok all count states t n kinds xs qs rows) h).0
states-at all count states t n kinds (x ∷ xs) (q ∷ qs) (row ∷ rows) (suc i) h l =
    states-at all count states t n kinds xs qs rows i
    (cond_and (state_ok all count states t n kinds x q row) (states_ok all count states t n kinds xs qs rows) h).1
    (omega arith)
states-at all count states t n kinds [] [] (row ∷ rows) i h l = cc
states-at all count states t n kinds [] (q ∷ qs) rows i h l = cc
states-at all count states t n kinds (x ∷ xs) [] rows i h l = cc
states-at all count states t n kinds (x ∷ xs) (q ∷ qs) [] i h l = cc

record CellFacts (all : List (List Re)) (count : ℕ) (states : List ℕ) (t : Tables) (rs : List Re) (q k n : ℕ) : Type
    0 where
  within : n < count
  left : steps k rs ≡ get_or all n []
  moved : state_behind t q k ≡ get_or states n 0

cell-facts : (all : List (List Re)) (count : ℕ) (states : List ℕ) (t : Tables) (rs : List Re) (q k n : ℕ)
    → cell_ok all count states t.class_of (drop (q * t.row_len) t.rows) rs k n ≡ true
    → CellFacts all count states t rs q k n
unfolding cell_ok
cell-facts all count states t rs q k n h =
    let here = drop (q * t.row_len) t.rows in
    let left = same_all (steps k rs) (get_or all n []) in
    let moved = get_or here (get_or t.class_of k 0) 0 == get_or states n 0 in
    let p = cond_and (nat_lt n count) (cond left moved false) h in
    let r = cond_and left moved p.1 in
    record {
      within = ltb-true n count p.0;
      left = same_all-true (steps k rs) (get_or all n []) r.0;
      moved = sym (get_or-drop (q * t.row_len) t.rows (get_or t.class_of k 0) 0)
          ∙ eqb-true (get_or here (get_or t.class_of k 0) 0) (get_or states n 0) r.1;
    }

record StateFacts (all : List (List Re)) (count : ℕ) (states : List ℕ) (t : Tables) (n : ℕ) (kinds : List ℕ)
    (rs : List Re) (q : ℕ) (row : List ℕ) : Type 0 where
  ending : get_or t.kind_in q 255 ≡ first_kind kinds rs
  low : all_below n rs ≡ true
  len : length row ≡ suc n
  cells : row_ok all count states t.class_of (drop (q * t.row_len) t.rows) rs 0 row ≡ true

state-facts : (all : List (List Re)) (count : ℕ) (states : List ℕ) (t : Tables) (n : ℕ) (kinds : List ℕ) (rs : List Re)
    (q : ℕ) (row : List ℕ) → state_ok all count states t n kinds rs q row ≡ true
    → StateFacts all count states t n kinds rs q row
unfolding state_ok
state-facts all count states t n kinds rs q row h =
    let cells = row_ok all count states t.class_of (drop (q * t.row_len) t.rows) rs 0 row in
    let fits = cond (length row == suc n) cells false in
    let low = cond (all_below n rs) fits false in
    let p = cond_and (get_or t.kind_in q 255 == first_kind kinds rs) low h in
    let r = cond_and (all_below n rs) fits p.1 in
    let s = cond_and (length row == suc n) cells r.1 in
    record {
      ending = eqb-true (get_or t.kind_in q 255) (first_kind kinds rs) p.0;
      low = r.0;
      len = eqb-true (length row) (suc n) s.0;
      cells = s.1;
    }

far_is_zero : (class : List ℕ) (n k : ℕ) → zeros (drop n class) ≡ true → n ≤ k → get_or class k 0 ≡ 0
far_is_zero class n k z l =
    let e : n + (k - n) ≡ k = omega arith in
    ap (λ i. get_or class i 0) (sym e) ∙ sym (get_or-drop n class (k - n) 0) ∙ zeros-at (drop n class) (k - n) z

same_far : (class : List ℕ) (n k : ℕ) → zeros (drop n class) ≡ true → n ≤ k → get_or class k 0 ≡ get_or class n 0
same_far class n k z l = far_is_zero class n k z l ∙ sym (far_is_zero class n n z (omega arith))

record Leads (all : List (List Re)) (count : ℕ) (states : List ℕ) (t : Tables) (rs : List Re) (q k : ℕ) : Type 0 where
  to : ℕ
  facts : CellFacts all count states t rs q k to

cell_from : (all : List (List Re)) (count : ℕ) (states : List ℕ) (t : Tables) (n : ℕ) (kinds : List ℕ) (rs : List Re)
    (q : ℕ) (row : List ℕ) (j : ℕ) → StateFacts all count states t n kinds rs q row → j < length row
    → CellFacts all count states t rs q j (get_or row j 0)
cell_from all count states t n kinds rs q row j s l =
    let here = drop (q * t.row_len) t.rows in
    cell-facts all count states t rs q j (get_or row j 0)
    (subst (λ i. cell_ok all count states t.class_of here rs i (get_or row j 0) ≡ true) (zero-add j)
    (row-at all count states t.class_of here rs 0 row j s.cells l))

leads : (all : List (List Re)) (count : ℕ) (states : List ℕ) (t : Tables) (n : ℕ) (kinds : List ℕ) (rs : List Re)
    (q : ℕ) (row : List ℕ) → state_ok all count states t n kinds rs q row ≡ true → zeros (drop n t.class_of) ≡ true
    → (k : ℕ) → Leads all count states t rs q k
leads all count states t n kinds rs q row h z k =
    let s = state-facts all count states t n kinds rs q row h in
    ⊎_elim
    (λ l. record {
      to = get_or row k 0;
      facts = cell_from all count states t n kinds rs q row k s (omega (arith, s.len, l));
    })
    (λ l. let c = cell_from all count states t n kinds rs q row n s (omega (arith, s.len)) in
    let far : get_or t.class_of k 0 ≡ get_or t.class_of n 0 = same_far t.class_of n k z l in
    record {
      to = get_or row n 0;
      facts = record {
        within = c.within;
        left = steps-far n k rs s.low l ∙ c.left;
        moved = ap (λ x. get_or t.rows (q * t.row_len + x) 0) far ∙ c.moved;
      };
    })
    (cases_lt k n)

-- What the tables say from a state is what is left there of the rules.
simulates : (all : List (List Re)) (states : List ℕ) (t : Tables) (n : ℕ) (kinds : List ℕ) (rows : List (List ℕ))
    → states_ok all (length all) states t n kinds all states rows ≡ true → zeros (drop n t.class_of) ≡ true
    → (w : List ℕ) (i : ℕ) → i < length all → get_or t.kind_in (run t (get_or states i 0) w) 255
    ≡ first_kind kinds (after w (get_or all i []))
unfolding run after
simulates all states t n kinds rows h z [] i l =
    (state-facts all (length all) states t n kinds (get_or all i []) (get_or states i 0) (get_or rows i [])
    (states-at all (length all) states t n kinds all states rows i h l)).ending
simulates all states t n kinds rows h z (k ∷ ks) i l =
    let ok = states-at all (length all) states t n kinds all states rows i h l in
    let m = leads all (length all) states t n kinds (get_or all i []) (get_or states i 0) (get_or rows i []) ok z k in
    ap (λ q. get_or t.kind_in (run t q ks) 255) m.facts.moved
    ∙ simulates all states t n kinds rows h z ks m.to m.facts.within
    ∙ ap (λ rs. first_kind kinds (after ks rs)) (sym m.facts.left)

-- The whole test.
unfoldable pub machine_ok : List (List Re) → List ℕ → Tables → ℕ → List (List ℕ) → Grammar → Bool
machine_ok all states t n rows g =
    let table = states_ok all (length all) states t n g.kinds all states rows in
    let far = cond (zeros (drop n t.class_of)) table false in
    let fits = cond (kinds_fit g.kinds g.rules) far false in
    let starts = cond (get_or states 0 0 == 0) fits false in
    let some = cond (nat_lt 0 (length all)) starts false in
    cond (same_all (get_or all 0 []) g.rules) some false

pub machine-is : (all : List (List Re)) (states : List ℕ) (t : Tables) (n : ℕ) (rows : List (List ℕ)) (g : Grammar)
    → machine_ok all states t n rows g ≡ true → (w : List ℕ) → IsKind g w (ends_by t 0 w)
unfolding machine_ok
machine-is all states t n rows g h w =
    let table = states_ok all (length all) states t n g.kinds all states rows in
    let far = cond (zeros (drop n t.class_of)) table false in
    let fits = cond (kinds_fit g.kinds g.rules) far false in
    let starts = cond (get_or states 0 0 == 0) fits false in
    let some = cond (nat_lt 0 (length all)) starts false in
    let p = cond_and (same_all (get_or all 0 []) g.rules) some h in
    let q = cond_and (nat_lt 0 (length all)) starts p.1 in
    let r = cond_and (get_or states 0 0 == 0) fits q.1 in
    let s = cond_and (kinds_fit g.kinds g.rules) far r.1 in
    let u = cond_and (zeros (drop n t.class_of)) table s.1 in
    let e : get_or t.kind_in (run t (get_or states 0 0) w) 255 ≡ first_kind g.kinds (after w (get_or all 0 []))
    = simulates all states t n g.kinds rows u.1 u.0 w 0 (ltb-true 0 (length all) q.0) in
    let e0 : get_or t.kind_in (run t 0 w) 255 ≡ first_kind g.kinds (after w g.rules)
    = ap (λ x. get_or t.kind_in (run t x w) 255) (sym (eqb-true (get_or states 0 0) 0 r.0)) ∙ e
    ∙ ap (λ rs. first_kind g.kinds (after w rs)) (same_all-true (get_or all 0 []) g.rules p.0) in
    subst (λ k. IsKind g w (kind_or_none k)) (sym e0) (kind-is g w s.0)
