-- The Indic, Khmer and Myanmar shapers' categories and positions by steps, and the places of the
-- pairs in the list of pairs.
use Rattle.std.proofs.Common.{◌≡◌, ℕ, suc, ◌<◌, Bool, true, ◌&&◌, ◌==◌, nat_lt, cond, List, [], ◌∷◌, length, get_or, None, refl, ltb-true, eqb-true}
use Rattle.std.proofs.lemmas.Bool.{and_parts}
use Rattle.ucd_table.proofs.Computing.{tables}
use Rattle.ucd_table.proofs.Facts.{Stepped-everywhere}
use Rattle.ucd_table.proofs.Stepped.{Stepped, of_rows, of_ranges, map_stepped, zip_stepped}
use Rattle.ucd_table.proofs.StepsLemmas.{rises_from}
use Rattle.ucd_table.specs.Rows.{in_ranges, value_in}
use Rattle.shapers_unicode.specs.declared.tables.indic.TheConstants.{INDIC_PAIRS}
use Rattle.shapers_unicode.specs.Indic.{early_matras, indic_by, indic_categories, own_pairs}
use Rattle.shapers_unicode.specs.Values.{Block as blocks, Positional as at, Syllabic as is}
use Rattle.shapers_unicode.specs.BlockRows.{block_rows}
use Rattle.shapers_unicode.specs.IndicRows.{indic_rows}
use Rattle.shapers_unicode.specs.PositionalRows.{positional_rows}
use Rattle.shapers_unicode.specs.SyllabicRows.{syllabic_rows}
use Rattle.shapers_unicode.proofs.UniversalSteps.{positional_stepped, syllabic_stepped}

abbrev with : {V W : Type 0} (f : ℕ → V → W) (g : ℕ → V) → Stepped f → Stepped g → Stepped (λ c. f c (g c))
with f g s t = zip_stepped (λ h v. h v) f g s t

unfoldable pub indic_stepped : Stepped indic_categories
unfolding indic_categories rises_from own_pairs indic_rows block_rows early_matras
indic_stepped =
    with _ (value_in is.Other syllabic_rows)
    (with _ (value_in at.NA positional_rows)
    (with _ (in_ranges early_matras)
    (with _ (value_in blocks.Another block_rows)
    (with _ (value_in None indic_rows)
    (map_stepped indic_by (value_in None own_pairs) (of_rows None own_pairs refl))
    (of_rows None indic_rows refl))
    (of_rows blocks.Another block_rows refl))
    (of_ranges early_matras refl))
    positional_stepped)
    syllabic_stepped

abbrev pub same_pair : ℕ × ℕ → ℕ × ℕ → Bool
same_pair p q = (p.0 == q.0) && (p.1 == q.1)

-- the place of a pair in a list
unfoldable pub pair_place_in : ℕ × ℕ → List (ℕ × ℕ) → ℕ
pair_place_in p [] = 0
pair_place_in p (q ∷ qs) = let later = suc (pair_place_in p qs) in cond (same_pair p q) 0 later

abbrev pub pair_place : ℕ → ℕ
pair_place c = pair_place_in (indic_categories c) INDIC_PAIRS

abbrev pub place_stepped : Stepped pair_place
place_stepped = map_stepped (λ p. pair_place_in p INDIC_PAIRS) indic_categories indic_stepped

-- the pair stands in the list, at its place
abbrev pub is_listed_pair : ℕ × ℕ → Bool
is_listed_pair p =
    nat_lt (pair_place_in p INDIC_PAIRS) (length INDIC_PAIRS)
    && same_pair (get_or INDIC_PAIRS (pair_place_in p INDIC_PAIRS) (0, 0)) p

all_listed : (c : ℕ) → is_listed_pair (indic_categories c) ≡ true
unfolding tables pair_place_in indic_stepped positional_stepped syllabic_stepped
all_listed = Stepped-everywhere (λ c. is_listed_pair (indic_categories c))
    (map_stepped is_listed_pair indic_categories indic_stepped) refl

module _ (c : ℕ) where
  both : (pair_place c < length INDIC_PAIRS)
      × (same_pair (get_or INDIC_PAIRS (pair_place c) (0, 0)) (indic_categories c) ≡ true)
  both =
      let parts = and_parts (nat_lt (pair_place c) (length INDIC_PAIRS))
      (same_pair (get_or INDIC_PAIRS (pair_place c) (0, 0)) (indic_categories c)) (all_listed c) in
      (ltb-true _ _ parts.0, parts.1)

  pub pair-listed : pair_place c < length INDIC_PAIRS
  pair-listed = both.0

  pub pair-there : get_or INDIC_PAIRS (pair_place c) (0, 0) ≡ indic_categories c
  pair-there =
      let there = get_or INDIC_PAIRS (pair_place c) (0, 0) in
      let parts = and_parts (there.0 == (indic_categories c).0) (there.1 == (indic_categories c).1) both.1 in
      λ i. (eqb-true there.0 (indic_categories c).0 parts.0 i, eqb-true there.1 (indic_categories c).1 parts.1 i)
