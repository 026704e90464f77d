-- Worked rows: which lookups can begin nowhere in a text.
use Rattle.std.proofs.Common.{arith}
use Rattle.std.specs.Prelude.{◌≡◌, [], ◌∷◌, map, refl}
use Rattle.opentype_layout.specs.LookupRows.{lookup_bit}
use Rattle.opentype_layout.specs.declared.lookup_rows.LookupBits.{LookupBits}
use Rattle.opentype_font.specs.Presence.{IsAbsent}

-- lookups 0, 2, 63, 64 and 126
abbrev five : LookupBits
five = record { low = 9223372036854775813; high = 4611686018427387905 }

bits : map (lookup_bit five) (0 ∷ 1 ∷ 2 ∷ 3 ∷ 62 ∷ 63 ∷ 64 ∷ 65 ∷ 125 ∷ 126 ∷ 127 ∷ [])
    ≡ 1 ∷ 0 ∷ 1 ∷ 0 ∷ 0 ∷ 1 ∷ 1 ∷ 0 ∷ 0 ∷ 1 ∷ 0 ∷ []
bits = refl

absent : IsAbsent five 127
absent = (omega arith, refl)

-- lookup 128 may always begin
behind : IsAbsent five 128 → ⊥
behind a = omega (arith, a.0)
