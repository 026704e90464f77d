-- Worked rows: the bits of lookups in the rows of glyphs.
use Rattle.std.specs.Prelude.{◌≡◌, ℕ, List, [], ◌∷◌, map, refl}
use Rattle.opentype_layout.specs.LookupRows.{lookup_bit, row_bit}
use Rattle.opentype_layout.specs.declared.lookup_rows.LookupBits.{LookupBits}

-- two rows: lookups 1, 2 and 64 may begin at glyph 0, and lookup 127 at glyph 1
abbrev rows : List ℕ
rows = 6 ∷ 1 ∷ 0 ∷ 9223372036854775808 ∷ []

of_glyph_0 : map (λ index. row_bit rows 0 index) (0 ∷ 1 ∷ 2 ∷ 3 ∷ 63 ∷ 64 ∷ 65 ∷ 127 ∷ [])
    ≡ 0 ∷ 1 ∷ 1 ∷ 0 ∷ 0 ∷ 1 ∷ 0 ∷ 0 ∷ []
of_glyph_0 = refl

of_glyph_1 : map (λ index. row_bit rows 1 index) (0 ∷ 1 ∷ 63 ∷ 64 ∷ 126 ∷ 127 ∷ []) ≡ 0 ∷ 0 ∷ 0 ∷ 0 ∷ 0 ∷ 1 ∷ []
of_glyph_1 = refl

-- a glyph behind the rows has no bits
of_glyph_2 : map (λ index. row_bit rows 2 index) (0 ∷ 1 ∷ 64 ∷ 127 ∷ []) ≡ 0 ∷ 0 ∷ 0 ∷ 0 ∷ []
of_glyph_2 = refl

-- both rows together
abbrev of_both : LookupBits
of_both = record { low = 6; high = 9223372036854775809 }

bits_of_both : map (lookup_bit of_both) (0 ∷ 1 ∷ 2 ∷ 63 ∷ 64 ∷ 65 ∷ 126 ∷ 127 ∷ [])
    ≡ 0 ∷ 1 ∷ 1 ∷ 0 ∷ 1 ∷ 0 ∷ 0 ∷ 1 ∷ []
bits_of_both = refl
