-- A mask without bits is on no glyph.
use Rattle.shapers_indic.proofs.PlaceSearch.{passes_there}
use Rattle.std.proofs.Common.{◌≡◌, ◌==◌, ℕ, false, not, List, [], ◌∷◌, Option, None, Some, refl, ap, arith}
use Rattle.std.specs.Int.Bits.{and_zero_r}
use Rattle.std.specs.List.{find}
use Rattle.std.specs.Option.{option_map_or}
use Rattle.shapers_buffer.specs.Glyphs.{Glyph, Glyphs}
use Rattle.shapers_indic.specs.Glyphs.{least_place, passes, places}
use Rattle.shapers_base.specs.Masks.{has_bits}

no_mask : (g : Glyph) → has_bits 0 g ≡ false
no_mask g = ap (λ n. not (n == 0)) (and_zero_r g.mask)

none_at : (x : Option Glyph) → option_map_or (has_bits 0) x false ≡ false
none_at None = refl
none_at (Some g) = no_mask g

none_found : (gs : Glyphs) (ps : List ℕ) → find (passes (has_bits 0) gs) ps ≡ None
none_found gs [] = refl
none_found gs (p ∷ ps) = search (none_at, none_found gs ps)

pub no_place : (gs : Glyphs) (s e : ℕ) → least_place (passes (has_bits 0) gs) s e ≡ None
no_place gs s e = none_found gs (places s e)

-- what is said of a place, and of a search for one
pub ruleset at_places = (arith, passes_there)
