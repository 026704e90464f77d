-- The table of types: each character of the block has its own.
use Rattle.std.proofs.Common.{◌≡◌, ◌<◌, ◌+◌, ◌%◌, ℕ, map, get_or, refl, arith}
use Rattle.std.specs.List.{range_with_len}
use Rattle.std.proofs.lemmas.List.FromFn.{get_or-map-range_with_len}
use Rattle.shapers_text.specs.declared.ot_shaper_thai.forms.TheConstants.{TYPES}
use Rattle.shapers_text.specs.declared.ot_shaper_thai.forms.Types.{Types}
use Rattle.shapers_text.specs.ThaiWalk.{types_of}

-- the table, by the rule
table_is : TYPES ≡ map types_of (range_with_len 0x0E00 96)
table_is = refl

pub types_read : (u : ℕ) (d : Types) → u < 4294967296 → (u + 4294963712) % 4294967296 < 96
    → get_or TYPES ((u + 4294963712) % 4294967296) d ≡ types_of u
types_read u d fits low =
    cc (get_or-map-range_with_len types_of 0x0E00 96 ((u + 4294963712) % 4294967296) u d low (omega arith))
