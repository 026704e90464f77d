-- Canonical decompositions and compositions (The Unicode Standard, "Normalization Forms" and
-- "Conjoining Jamo Behavior"), and mirrored characters.
use Rattle.std.specs.Prelude.{ℕ, ◌-◌, ◌%◌, Bool, false, not, ◌&&◌, ◌==◌, List, [], ◌∷◌, Option, Some, None, find, option_map, if◌then◌else◌}
use Rattle.ucd_table.specs.Rows.{in_ranges, value_in}
use Rattle.shapers_hangul.specs.Hangul.{combines_l, combines_t, combines_v, is_lv, is_s, lead, trail, vowel, with_t, with_v}
use Rattle.shapers_unicode.specs.CompositionRows.{composition_rows}
use Rattle.shapers_unicode.specs.ExclusionRanges.{exclusion_ranges}
use Rattle.shapers_unicode.specs.MappingRows.{mapping_rows}
use Rattle.shapers_unicode.specs.MirroredRows.{mirrored_rows}

-- Unicode's canonical mapping of a code point: one or two characters, or none
abbrev pub canonical_mapping : ℕ → List ℕ
canonical_mapping = value_in [] mapping_rows

-- a mapping as a pair: one character has 0 beside it
abbrev pub as_pair : List ℕ → Option (ℕ × ℕ)
as_pair (a ∷ []) = Some (a, 0)
as_pair (a ∷ b ∷ []) = Some (a, b)
as_pair _ = None

-- a syllable of Hangul in one step: L and V, or LV and T
abbrev pub hangul_parts : ℕ → ℕ × ℕ
hangul_parts s = if is_lv s then (lead s, vowel s) else (s - (s - 0xAC00) % 28, trail s)

-- what a character decomposes to in one step
unfoldable pub decomposed : ℕ → Option (ℕ × ℕ)
decomposed c = if is_s c then Some (hangul_parts c) else as_pair (canonical_mapping c)

-- a mapping is these two
abbrev pub is_pair : ℕ → ℕ → List ℕ → Bool
is_pair a b (x ∷ y ∷ []) = x == a && y == b
is_pair a b _ = false

abbrev pub is_excluded : ℕ → Bool
is_excluded = in_ranges exclusion_ranges

-- the primary composite of two characters: what has them as its mapping, unless it is excluded
unfoldable pub primary_composite : ℕ → ℕ → Option ℕ
primary_composite a b =
    option_map (λ row. row.0)
    (find (λ row. is_pair a b row.2 && not (is_excluded row.0)) mapping_rows)

-- what two characters compose to; jamo of Hangul to a syllable
unfoldable pub composed : ℕ → ℕ → Option ℕ
composed a b =
    if combines_l a && combines_v b then Some (with_v a b)
    else if is_lv a && combines_t b then Some (with_t a b)
    else primary_composite a b

-- the mirrored character, if there is one
abbrev pub first_or_none : List ℕ → Option ℕ
first_or_none [] = None
first_or_none (x ∷ xs) = Some x

abbrev pub mirrored_string : ℕ → List ℕ
mirrored_string = value_in [] mirrored_rows

unfoldable pub mirrored : ℕ → Option ℕ
mirrored c = first_or_none (mirrored_string c)

-- ---- how the code has compositions

-- what follows a character and composes with it, each with the composite
abbrev pub compositions : ℕ → List ℕ
compositions = value_in [] composition_rows

-- the number after b in a list of pairs
unfoldable pub paired_with : ℕ → List ℕ → Option ℕ
paired_with b (x ∷ p ∷ rest) =
    let later = paired_with b rest in if x == b then Some p else later
paired_with b _ = None
