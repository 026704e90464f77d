-- The code's list of compositions has the primary composites, and nothing else.
use Rattle.std.proofs.Common.{◌≡◌, ◌≢◌, ℕ, ◌+◌, ◌<◌, ◌≤◌, length, drop, slice_index, length-drop, ne_eqb, Bool, true, false, not, ◌&&◌, ◌||◌, ◌==◌, nat_le, List, [], ◌∷◌, Option, Some, None, find, option_map, is_some, refl, sym, ap, ap₂, subst, ◌∙◌, arith, eqb-true, eq-eqb, leb-true}
use Rattle.std.proofs.lemmas.Bool.{cond_both, cond-true, cond-false, and_parts, and_from, not-true, not_from_false}
use Rattle.std.proofs.lemmas.List.{drop_more}
use Rattle.ucd_table.specs.Rows.{Row, value_in}
use Rattle.ucd_table.proofs.GroupsCheck.{same_string, same_string-true}
use Rattle.ucd_table.proofs.Facts.{tree_value, tree_of, tree_value-tree_of}
use Rattle.ucd_table.proofs.RangedFacts.{points_ok, Stepped-at_points}
use Rattle.ucd_table.proofs.Computing.{tables}
use Rattle.shapers_unicode.specs.Pairs.{canonical_mapping, compositions, is_excluded, is_pair, paired_with, primary_composite}
use Rattle.shapers_unicode.specs.MappingRows.{mapping_rows}
use Rattle.shapers_unicode.proofs.PairSteps.{composition_stepped, excluded_stepped, mapping_stepped}

-- `primary_composite a b ≡ Some p`, in words
pub record IsCompositeOf (a b p : ℕ) : Type 0 where
  mapping : canonical_mapping p ≡ a ∷ b ∷ []
  allowed : is_excluded p ≡ false

pub is_pair-true : (a b : ℕ) (s : List ℕ) → is_pair a b s ≡ true → s ≡ a ∷ b ∷ []
is_pair-true a b [] h = cc
is_pair-true a b (x ∷ []) h = cc
is_pair-true a b (x ∷ y ∷ []) h =
    let parts = and_parts (x == a) (y == b) h in ap₂ (λ u v. u ∷ v ∷ []) (eqb-true x a parts.0) (eqb-true y b parts.1)
is_pair-true a b (x ∷ y ∷ z ∷ s) h = cc

pub is_pair-pair : (a b : ℕ) (s : List ℕ) → s ≡ a ∷ b ∷ [] → is_pair a b s ≡ true
is_pair-pair a b s e = ap (is_pair a b) e ∙ and_from _ _ (eq-eqb a a refl) (eq-eqb b b refl)

abbrev pub is_empty : List ℕ → Bool
is_empty [] = true
is_empty (x ∷ xs) = false

abbrev pub is_some_of : ℕ → Option ℕ → Bool
is_some_of p None = false
is_some_of p (Some x) = x == p

pub is_some_of-true : (p : ℕ) (o : Option ℕ) → is_some_of p o ≡ true → o ≡ Some p
is_some_of-true p None h = cc
is_some_of-true p (Some x) h = ap Some (eqb-true x p h)

-- ---- a scan of the pairs

two_more : (xs : List ℕ) (i : ℕ) → i + 1 < length xs → drop i xs ≡ slice_index xs i ∷ slice_index xs (i + 1)
    ∷ drop (i + 2) xs
two_more xs i h =
    let next : i + 1 + 1 ≡ i + 2 = omega arith in
    drop_more xs i 0 (omega arith)
    ∙ ap (λ l. slice_index xs i ∷ l) (drop_more xs (i + 1) 0 h ∙ ap (λ n. slice_index xs (i + 1) ∷ drop n xs) next)

pub paired_with-here : (b : ℕ) (xs : List ℕ) (i : ℕ) → i + 1 < length xs → slice_index xs i ≡ b
    → paired_with b (drop i xs) ≡ Some (slice_index xs (i + 1))
unfolding paired_with
paired_with-here b xs i h same = ap (paired_with b) (two_more xs i h) ∙ cond-true _ _ _ (eq-eqb _ b same)

pub paired_with-later : (b : ℕ) (xs : List ℕ) (i : ℕ) → i + 1 < length xs → slice_index xs i ≢ b
    → paired_with b (drop i xs) ≡ paired_with b (drop (i + 2) xs)
unfolding paired_with
paired_with-later b xs i h other = ap (paired_with b) (two_more xs i h) ∙ cond-false _ _ _ (ne_eqb _ b other)

paired_with-short : (b : ℕ) (xs : List ℕ) → length xs ≤ 1 → paired_with b xs ≡ None
unfolding paired_with
paired_with-short b [] h = refl
paired_with-short b (x ∷ []) h = refl
paired_with-short b (x ∷ y ∷ xs) h = absurd (omega arith)

pub paired_with-end : (b : ℕ) (xs : List ℕ) (i : ℕ) → length xs ≤ i + 1 → paired_with b (drop i xs) ≡ None
paired_with-end b xs i h = paired_with-short b (drop i xs) (omega (arith, length-drop i xs))

-- ---- the table of pairs has each composite

abbrev listed : (ℕ → Bool) → (ℕ → List ℕ) → ℕ → List ℕ → Bool
listed excluded pairs p (a ∷ b ∷ []) = excluded p || is_some_of p (paired_with b (pairs a))
listed excluded pairs p _ = true

abbrev entry_listed : (ℕ → Bool) → (ℕ → List ℕ) → ℕ → List ℕ → Bool
entry_listed excluded pairs p entry = listed excluded pairs p (entry)

all_listed : (p : ℕ) → is_empty (canonical_mapping p) ≡ false → listed is_excluded compositions p (canonical_mapping p)
    ≡ true
unfolding tables points_ok paired_with mapping_stepped composition_stepped excluded_stepped
all_listed p some =
    let excluded = tree_value-tree_of is_excluded excluded_stepped in
    let pairs = tree_value-tree_of compositions composition_stepped in
    ap₂ (λ x y. listed x y p (canonical_mapping p)) excluded pairs
    ∙ Stepped-at_points canonical_mapping mapping_stepped (λ e. is_empty (e))
    (entry_listed (tree_value false (tree_of is_excluded excluded_stepped)) (tree_value
    [] (tree_of compositions composition_stepped)))
    refl p some

IsCompositeOf-paired_with : (a b p : ℕ) → IsCompositeOf a b p → paired_with b (compositions a) ≡ Some p
IsCompositeOf-paired_with a b p h =
    let found : listed is_excluded compositions p (a ∷ b ∷ []) ≡ true =
    ap (listed is_excluded compositions p) (sym h.mapping) ∙ all_listed p (ap is_empty h.mapping) in
    is_some_of-true p _ (ap (λ x. x || is_some_of p (paired_with b (compositions a))) (sym h.allowed) ∙ found)

-- ---- and has nothing else

abbrev composes : (ℕ → Bool) → (ℕ → List ℕ) → ℕ → ℕ → ℕ → Bool
composes excluded table a b p = is_pair a b (table p) && not (excluded p)

pairs_compose : (ℕ → Bool) → (ℕ → List ℕ) → ℕ → List ℕ → Bool
pairs_compose excluded table a (b ∷ p ∷ rest) = composes excluded table a b p && pairs_compose excluded table a rest
pairs_compose excluded table a _ = true

all_compose : (a : ℕ) → is_empty (compositions a) ≡ false
    → pairs_compose is_excluded canonical_mapping a (compositions a) ≡ true
unfolding tables points_ok pairs_compose mapping_stepped composition_stepped excluded_stepped
all_compose a some =
    let excluded = tree_value-tree_of is_excluded excluded_stepped in
    let table = tree_value-tree_of canonical_mapping mapping_stepped in
    ap₂ (λ x y. pairs_compose x y a (compositions a)) excluded table
    ∙ Stepped-at_points compositions composition_stepped is_empty
    (pairs_compose (tree_value false (tree_of is_excluded excluded_stepped)) (tree_value
    [] (tree_of canonical_mapping mapping_stepped)))
    refl a some

composes-IsCompositeOf : (a b p : ℕ) → composes is_excluded canonical_mapping a b p ≡ true → IsCompositeOf a b p
composes-IsCompositeOf a b p h =
    let parts = and_parts (is_pair a b (canonical_mapping p)) (not (is_excluded p)) h in
    record { mapping = is_pair-true a b _ parts.0; allowed = not-true _ parts.1 }

pairs_compose-true : (a b p : ℕ) (pairs : List ℕ)
    → (is_empty pairs ≡ false → pairs_compose is_excluded canonical_mapping a pairs ≡ true)
    → paired_with b pairs ≡ Some p → IsCompositeOf a b p
unfolding pairs_compose paired_with
pairs_compose-true a b p [] ok h = cc
pairs_compose-true a b p (x ∷ []) ok h = cc
pairs_compose-true a b p (x ∷ q ∷ rest) ok h =
    let parts = and_parts (composes is_excluded canonical_mapping a x q)
    (pairs_compose is_excluded canonical_mapping a rest) (ok refl) in
    cond_both (x == b) (Some q) (paired_with b rest) (λ o. o ≡ Some p → IsCompositeOf a b p)
    (λ here found.
    let second = eqb-true x b here in
    let both : q ≡ p = cc in
    subst (IsCompositeOf a b) both (subst (λ y. IsCompositeOf a y q) second (composes-IsCompositeOf a x q parts.0)))
    (λ _ found. pairs_compose-true a b p rest (λ _. parts.1) found)
    h

paired_with-IsCompositeOf : (a b p : ℕ) → paired_with b (compositions a) ≡ Some p → IsCompositeOf a b p
paired_with-IsCompositeOf a b p = pairs_compose-true a b p (compositions a) (all_compose a)

-- ---- the search through the rows finds the composites

abbrev found_in : ℕ → ℕ → List (Row (List ℕ)) → Option ℕ
found_in a b rows =
    option_map (λ row. row.0) (find (λ row. is_pair a b (row.2) && not (is_excluded row.0)) rows)

-- each row has one code point, at which the table has the row's canonical mapping
rows_agree : (ℕ → List ℕ) → List (Row (List ℕ)) → Bool
rows_agree table [] = true
rows_agree table (r ∷ rs) = (r.0 == r.1 && same_string (table r.0) (r.2)) && rows_agree table rs

all_agree : rows_agree canonical_mapping mapping_rows ≡ true
unfolding tables rows_agree mapping_stepped
all_agree = ap (λ table. rows_agree table mapping_rows) (tree_value-tree_of canonical_mapping mapping_stepped) ∙ refl

module _ (a b p : ℕ) where
  found_in-IsCompositeOf : (rs : List (Row (List ℕ))) → rows_agree canonical_mapping rs ≡ true
      → found_in a b rs ≡ Some p → IsCompositeOf a b p
  unfolding rows_agree
  found_in-IsCompositeOf [] ok h = cc
  found_in-IsCompositeOf (r ∷ rs) ok h =
      let test = λ (row : Row (List ℕ)). is_pair a b (row.2) && not (is_excluded row.0) in
      let parts = and_parts (r.0 == r.1 && same_string (canonical_mapping r.0) r.2) (rows_agree canonical_mapping rs)
      ok in
      let same = same_string-true _ _ (and_parts (r.0 == r.1) (same_string (canonical_mapping r.0) r.2) parts.0).1 in
      cond_both (test r) (Some r) (find test rs) (λ o. option_map (λ (row : Row (List ℕ)). row.0) o ≡ Some p
      → IsCompositeOf a b p)
      (λ here found.
      let passes = and_parts (is_pair a b (r.2)) (not (is_excluded r.0)) here in
      let at : r.0 ≡ p = cc in
      subst (IsCompositeOf a b) at
      (record { mapping = same ∙ is_pair-true a b _ passes.0; allowed = not-true _ passes.1 }))
      (λ _ found. found_in-IsCompositeOf rs parts.1 found)
      h

  found_in-some : (rs : List (Row (List ℕ))) → rows_agree canonical_mapping rs ≡ true → is_pair a b (value_in [] rs p)
      ≡ true → is_excluded p ≡ false → is_some (found_in a b rs) ≡ true
  unfolding rows_agree value_in
  found_in-some [] ok pair allowed = pair
  found_in-some (r ∷ rs) ok pair allowed =
      let test = λ (row : Row (List ℕ)). is_pair a b (row.2) && not (is_excluded row.0) in
      let parts = and_parts (r.0 == r.1 && same_string (canonical_mapping r.0) r.2) (rows_agree canonical_mapping rs)
      ok in
      let single = eqb-true r.0 r.1 (and_parts (r.0 == r.1) (same_string (canonical_mapping r.0) r.2) parts.0).0 in
      cond_both (test r) (Some r) (find test rs) (λ o. is_some (option_map (λ (row : Row (List ℕ)). row.0) o) ≡ true)
      (λ _. refl)
      (λ fails.
      cond_both (nat_le r.0 p && nat_le p r.1) r.2 (value_in [] rs p)
      (λ e. is_pair a b (e) ≡ true → is_some (found_in a b rs) ≡ true)
      (λ within here.
      let ends = and_parts (nat_le r.0 p) (nat_le p r.1) within in
      let low = leb-true r.0 p ends.0 in
      let high = leb-true p r.1 ends.1 in
      let at : r.0 ≡ p = omega arith in
      let passes : test r ≡ true = and_from _ _ here (not_from_false _ (ap is_excluded at ∙ allowed)) in
      let clash : true ≡ false = sym passes ∙ fails in
      cc)
      (λ _ later. found_in-some rs parts.1 later allowed)
      pair)

pub composite-IsCompositeOf : (a b p : ℕ) → primary_composite a b ≡ Some p → IsCompositeOf a b p
unfolding primary_composite
composite-IsCompositeOf a b p = found_in-IsCompositeOf a b p mapping_rows all_agree

composite-some : (a b p : ℕ) → IsCompositeOf a b p → is_some (primary_composite a b) ≡ true
unfolding primary_composite
composite-some a b p h = found_in-some a b p mapping_rows all_agree (is_pair-pair a b _ h.mapping) h.allowed

same_answers : (x y : Option ℕ) → ((p : ℕ) → x ≡ Some p → y ≡ Some p) → ((p : ℕ) → y ≡ Some p → is_some x ≡ true)
    → x ≡ y
same_answers (Some p) y forth back = sym (forth p refl)
same_answers None None forth back = refl
same_answers None (Some p) forth back = let clash = back p refl in cc

-- the compiled table gives the composite
pub composite-paired_with : (a b : ℕ) → primary_composite a b ≡ paired_with b (compositions a)
composite-paired_with a b =
    same_answers _ _
    (λ p h. IsCompositeOf-paired_with a b p (composite-IsCompositeOf a b p h))
    (λ p h. composite-some a b p (paired_with-IsCompositeOf a b p h))
