-- A test that a table in two levels has the values of some steps. A block of one value is compared
-- at once where a step covers it, and any other cell by cell.
use Rattle.std.proofs.Common.{◌≡◌, ℕ, zero, suc, ◌+◌, ◌*◌, ◌/◌, ◌%◌, ◌<◌, Bool, true, cond, ◌&&◌, ◌==◌, nat_lt, nat_le, List, [], ◌∷◌, map, length, get_or, slice_index, refl, sym, ap, subst, ◌∙◌, arith, inl, inr, lt-ltb, le-ltb, leb-true, ltb-true, eqb-true, suc-mul, zero-mul, mul-le-mul_right, div-mul-le_self, div-add-mod', le_of_suc-le-suc, le_refl, not-suc-le-zero}
use Rattle.std.proofs.lemmas.Bool.{cond-true, cond-false, cond_both, cases_lt, and_parts}
use Rattle.std.proofs.lemmas.Nat.{mod_below}
use Rattle.ucd_table.specs.Steps.{Step, step_value}
use Rattle.ucd_table.proofs.StepsLemmas.{step_value-here, skip, step_value-skip, same_steps, same_steps-true}
use Rattle.ucd_table.proofs.Stepped.{Stepped, runs_of, step_value-runs_of}
use Rattle.ucd_table.proofs.Facts.{ends_by, Stepped-beyond}
use Rattle.shapers_unicode.specs.Table.{IsTable, table_value}

-- the cells have the values of the steps from c on
unfoldable pub cells_ok : List ℕ → ℕ → List (Step ℕ) → Bool
cells_ok [] c ss = true
cells_ok (w ∷ ws) c ss = let here = skip ss c in (w == step_value 0 here c) && cells_ok ws (suc c) here

-- each cell is v
unfoldable pub all_are : ℕ → List ℕ → Bool
all_are v [] = true
all_are v (w ∷ ws) = (w == v) && all_are v ws

-- one more than the value of all cells of a block, or 0
unfoldable pub uniform : List ℕ → ℕ
uniform [] = 0
uniform (w ∷ ws) = cond (all_are w ws) (suc w) 0

unfoldable pub lengths_ok : ℕ → List (List ℕ) → Bool
lengths_ok size [] = true
lengths_ok size (b ∷ bs) = (length b == size) && lengths_ok size bs

abbrev IsFilled : List ℕ → ℕ → List (Step ℕ) → Type 0
IsFilled ws c ss = (j : ℕ) → j < length ws → slice_index ws j ≡ step_value 0 ss (c + j)

cells_ok-true : (ws : List ℕ) (c : ℕ) (ss : List (Step ℕ)) → cells_ok ws c ss ≡ true → IsFilled ws c ss
unfolding cells_ok
cells_ok-true [] c ss h j lt = absurd (not-suc-le-zero lt)
cells_ok-true (w ∷ ws) c ss h zero lt =
    let parts = and_parts (w == step_value 0 (skip ss c) c) (cells_ok ws (suc c) (skip ss c)) h in
    let at : c ≡ c + 0 = omega arith in
    eqb-true w _ parts.0 ∙ step_value-skip 0 ss c c (le_refl c) ∙ ap (step_value 0 ss) at
cells_ok-true (w ∷ ws) c ss h (suc j) lt =
    let parts = and_parts (w == step_value 0 (skip ss c) c) (cells_ok ws (suc c) (skip ss c)) h in
    let at : suc c + j ≡ c + suc j = omega arith in
    cells_ok-true ws (suc c) (skip ss c) parts.1 j (le_of_suc-le-suc lt)
    ∙ step_value-skip 0 ss c (suc c + j) (omega arith) ∙ ap (step_value 0 ss) at

all_are-true : (v : ℕ) (ws : List ℕ) → all_are v ws ≡ true → (j : ℕ) → j < length ws → slice_index ws j ≡ v
unfolding all_are
all_are-true v [] h j lt = absurd (not-suc-le-zero lt)
all_are-true v (w ∷ ws) h zero lt = eqb-true w v (and_parts (w == v) (all_are v ws) h).0
all_are-true v (w ∷ ws) h (suc j) lt = all_are-true v ws (and_parts (w == v) (all_are v ws) h).1 j (le_of_suc-le-suc lt)

uniform-each : (w : ℕ) (ws : List ℕ) (v : ℕ) → all_are w ws ≡ true → w ≡ v → (j : ℕ) → j < length (w ∷ ws)
    → slice_index (w ∷ ws) j ≡ v
uniform-each w ws v all is zero lt = is
uniform-each w ws v all is (suc j) lt = all_are-true w ws all j (le_of_suc-le-suc lt) ∙ is

uniform-suc : (ws : List ℕ) (v : ℕ) → uniform ws ≡ suc v → (j : ℕ) → j < length ws → slice_index ws j ≡ v
unfolding uniform
uniform-suc [] v h j lt = absurd (not-suc-le-zero lt)
uniform-suc (w ∷ ws) v h j lt =
    cond_both (all_are w ws) (suc w) 0 (λ n. n ≡ suc v → slice_index (w ∷ ws) j ≡ v)
    (λ all same. let is : w ≡ v = omega arith in uniform-each w ws v all is j lt)
    (λ _ none. absurd (omega arith))
    h

get_or-uniform : (bs : List (List ℕ)) (k : ℕ) → get_or (map uniform bs) k 0 ≡ uniform (get_or bs k [])
unfolding uniform
get_or-uniform [] k = refl
get_or-uniform (b ∷ bs) zero = refl
get_or-uniform (b ∷ bs) (suc k) = get_or-uniform bs k

lengths_ok-true : (size : ℕ) (bs : List (List ℕ)) → lengths_ok size bs ≡ true → (k : ℕ) → k < length bs
    → length (get_or bs k []) ≡ size
unfolding lengths_ok
lengths_ok-true size [] h k lt = absurd (not-suc-le-zero lt)
lengths_ok-true size (b ∷ bs) h zero lt = eqb-true _ _ (and_parts (length b == size) (lengths_ok size bs) h).0
lengths_ok-true size (b ∷ bs) h (suc k) lt =
    lengths_ok-true size bs (and_parts (length b == size) (lengths_ok size bs) h).1 k (le_of_suc-le-suc lt)

module _ (size : ℕ) (blocks : List (List ℕ)) where
  -- block k, whose entry in `uniforms` is u, has the values from c on
  unfoldable pub fits : ℕ → ℕ → ℕ → List (Step ℕ) → Bool
  fits k u c [] = cells_ok (get_or blocks k []) c []
  fits k u c (s ∷ ss) =
      let each = cells_ok (get_or blocks k []) c (s ∷ ss) in cond (nat_le (c + size) s.0 && u == suc s.1) true each

  unfoldable pub index_ok : List ℕ → List ℕ → ℕ → List (Step ℕ) → Bool
  index_ok uniforms [] c ss = true
  index_ok uniforms (k ∷ ks) c ss =
      let here = skip ss c in
      (nat_lt k (length blocks) && fits k (get_or uniforms k 0) c here) && index_ok uniforms ks (c + size) here

  -- block k has the values from c on
  record Has (k c : ℕ) (ss : List (Step ℕ)) : Type 0 where
    named : k < length blocks
    values : (j : ℕ) → j < size → slice_index (get_or blocks k []) j ≡ step_value 0 ss (c + j)

  module _ (lengths : lengths_ok size blocks ≡ true) where
    fits-true : (k c : ℕ) (ss : List (Step ℕ)) → k < length blocks → fits k (uniform (get_or blocks k [])) c ss ≡ true
        → (j : ℕ) → j < size → slice_index (get_or blocks k []) j ≡ step_value 0 ss (c + j)
    unfolding fits
    fits-true k c [] named h j lt =
        cells_ok-true (get_or blocks k []) c [] h j (omega (arith, lengths_ok-true size blocks lengths k named))
    fits-true k c (s ∷ ss) named h j lt =
        let long : length (get_or blocks k []) ≡ size = lengths_ok-true size blocks lengths k named in
        cond_both (nat_le (c + size) s.0 && uniform (get_or blocks k []) == suc s.1) true
        (cells_ok (get_or blocks k []) c (s ∷ ss))
        (λ b. b ≡ true → slice_index (get_or blocks k []) j ≡ step_value 0 (s ∷ ss) (c + j))
        (λ both _.
        let parts = and_parts (nat_le (c + size) s.0) (uniform (get_or blocks k []) == suc s.1) both in
        let covers = leb-true (c + size) s.0 parts.0 in
        uniform-suc (get_or blocks k []) s.1 (eqb-true _ _ parts.1) j (omega arith)
        ∙ sym (step_value-here 0 s ss (c + j) (omega arith)))
        (λ _ each. cells_ok-true (get_or blocks k []) c (s ∷ ss) each j (omega arith))
        h

    index_ok-true : (ks : List ℕ) (c : ℕ) (ss : List (Step ℕ)) → index_ok (map uniform blocks) ks c ss ≡ true → (i : ℕ)
        → i < length ks → Has (slice_index ks i) (c + i * size) ss
    unfolding index_ok
    index_ok-true [] c ss h i lt = absurd (not-suc-le-zero lt)
    index_ok-true (k ∷ ks) c ss h zero lt =
        let here = skip ss c in
        let parts = and_parts (nat_lt k (length blocks) && fits k (get_or (map uniform blocks) k 0) c here) _ h in
        let first = and_parts (nat_lt k (length blocks)) (fits k (get_or (map uniform blocks) k 0) c here) parts.0 in
        let named = ltb-true k (length blocks) first.0 in
        let same : get_or (map uniform blocks) k 0 ≡ uniform (get_or blocks k []) = get_or-uniform blocks k in
        let at : c ≡ c + zero * size = omega (arith, zero-mul size) in
        subst (λ x. Has k x ss) at
        (record {
          named = named;
          values = λ j below.
              fits-true k c here named (subst (λ u. fits k u c here ≡ true) same first.1) j below
              ∙ step_value-skip 0 ss c (c + j) (omega arith);
        })
    index_ok-true (k ∷ ks) c ss h (suc i) lt =
        let here = skip ss c in
        let parts = and_parts (nat_lt k (length blocks) && fits k (get_or (map uniform blocks) k 0) c here)
        (index_ok (map uniform blocks) ks (c + size) here) h in
        let rest = index_ok-true ks (c + size) here parts.1 i (le_of_suc-le-suc lt) in
        let at : c + size + i * size ≡ c + suc i * size = omega (arith, suc-mul i size) in
        subst (λ x. Has (slice_index ks i) x ss) at
        (record {
          named = rest.named;
          values = λ j below. rest.values j below ∙ step_value-skip 0 ss c (c + size + i * size + j) (omega arith);
        })

-- the whole test
unfoldable pub table_ok : ℕ → List ℕ → List (List ℕ) → List (Step ℕ) → List (Step ℕ) → Bool
table_ok size index blocks tail ss =
    (nat_lt 0 size && lengths_ok size blocks)
    && (index_ok size blocks (map uniform blocks) index 0 ss && same_steps tail (skip ss (length index * size)))

module _ (size : ℕ) (index : List ℕ) (blocks : List (List ℕ)) (tail ss : List (Step ℕ))
    (ok : table_ok size index blocks tail ss ≡ true) where
  record Parts : Type 0 where
    some : 0 < size
    blocks_of : (i : ℕ) → i < length index → Has size blocks (slice_index index i) (0 + i * size) ss
    last : tail ≡ skip ss (length index * size)

  parts : Parts
  unfolding table_ok
  parts =
      let halves = and_parts (nat_lt 0 size && lengths_ok size blocks) _ ok in
      let shape = and_parts (nat_lt 0 size) (lengths_ok size blocks) halves.0 in
      let back = and_parts (index_ok size blocks (map uniform blocks) index 0 ss) _ halves.1 in
      record {
        some = ltb-true 0 size shape.0;
        blocks_of = index_ok-true size blocks shape.1 index 0 ss back.0;
        last = same_steps-true _ _ back.1;
      }

  pub table_ok-IsTable : IsTable size index blocks
  table_ok-IsTable = record { some = parts.some; blocks_named = λ i lt. (parts.blocks_of i lt).named }

  in_index : (c : ℕ) → c / size < length index
      → slice_index (get_or blocks (slice_index index (c / size)) []) (c % size) ≡ step_value 0 ss c
  in_index c lt =
      let whole = div-add-mod' c size in
      let at : 0 + c / size * size + c % size ≡ c = omega arith in
      (parts.blocks_of (c / size) lt).values (c % size) (mod_below c size parts.some) ∙ ap (step_value 0 ss) at

  pub table_ok-table_value : (c : ℕ) → table_value size index blocks tail c ≡ step_value 0 ss c
  unfolding table_value
  table_ok-table_value c =
      elim (cases_lt (c / size) (length index)) [
        | inl within ↦ cond-true _ _ _ (lt-ltb (c / size) (length index) within) ∙ in_index c within
        | inr past ↦
            let low = mul-le-mul_right size past in
            let high = div-mul-le_self c size in
            cond-false _ _ _ (le-ltb (c / size) (length index) past)
            ∙ ap (λ ts. step_value 0 ts c) parts.last ∙ step_value-skip 0 ss (length index * size) c (omega arith)
      ]

-- a table that passes the test against the runs of a function has its values
pub table_value-Stepped : (size : ℕ) (index : List ℕ) (blocks : List (List ℕ)) (tail : List (Step ℕ)) (f : ℕ
    → ℕ) (s : Stepped f) → table_ok size index blocks tail (runs_of f s) ≡ true → (c : ℕ) → c < 0x11_0000
    → table_value size index blocks tail c ≡ f c
table_value-Stepped size index blocks tail f s ok c lt =
    table_ok-table_value size index blocks tail (runs_of f s) ok c ∙ step_value-runs_of f s c lt

-- and everywhere, if the function has 0 past the end of Unicode
pub table_value-everywhere : (size : ℕ) (index : List ℕ) (blocks : List (List ℕ)) (tail : List (Step ℕ)) (f : ℕ
    → ℕ) (s : Stepped f) → table_ok size index blocks tail (runs_of f s) ≡ true → s.default ≡ 0
    → ends_by 0x11_0000 s.steps ≡ true → ends_by 0x11_0000 (runs_of f s) ≡ true → (c : ℕ)
    → table_value size index blocks tail c ≡ f c
table_value-everywhere size index blocks tail f s ok zero_by_default ends runs_end c =
    elim (cases_lt c 0x11_0000) [
      | inl within ↦ table_value-Stepped size index blocks tail f s ok c within
      | inr past ↦
          let runs : Stepped (step_value 0 (runs_of f s)) =
          record { default = 0; steps = runs_of f s; gives = λ c. refl } in
          table_ok-table_value size index blocks tail (runs_of f s) ok c
          ∙ Stepped-beyond (step_value 0 (runs_of f s)) runs runs_end c past
          ∙ sym (Stepped-beyond f s ends c past ∙ zero_by_default)
    ]

-- each of these code points has its value; they rise
unfoldable pub cells_hold : List (ℕ × ℕ) → List (Step ℕ) → Bool
cells_hold [] ss = true
cells_hold (cell ∷ cells) ss =
    let here = skip ss cell.0 in (step_value 0 here cell.0 == cell.1) && cells_hold cells here

-- `unfolding table_cells` opens the test
unfoldable pub table_cells : Unit {0}
unfolding cells_ok all_are uniform lengths_ok fits index_ok table_ok cells_hold
table_cells = tt
