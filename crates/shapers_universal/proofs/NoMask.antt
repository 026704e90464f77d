-- The set-up without a mask of rphf changes nothing.
use Rattle.std.proofs.Common.{arith}
use Rattle.std.proofs.Common.{ap, refl, take-append-drop, ◌∙◌}
use Rattle.std.specs.Int.Bits.{or_zero_r}
use Rattle.std.specs.List.{flat_map}
use Rattle.std.specs.Prelude.{◌≡◌, List, [], ◌∷◌, map, ℕ}
use Rattle.shapers_buffer.specs.GlyphFlags.{with_bits}
use Rattle.shapers_buffer.specs.Syllables.{syllables}
use Rattle.shapers_buffer.specs.Glyphs.{Glyphs}
use Rattle.shapers_syllabic.proofs.CircleLaws.{joined-syllables}
use Rattle.shapers_universal.specs.UniversalSyllables.{with_rphf}

no_bits : (gs : Glyphs) → map (with_bits 0) gs ≡ gs
no_bits [] = refl
no_bits (g ∷ gs) = ap (λ (m : ℕ). record g { mask = m } ∷ map (with_bits 0) gs) (or_zero_r g.mask)
    ∙ ap (λ xs. g ∷ xs) (no_bits gs)

syllable_stays : (gs : Glyphs) → with_rphf 0 gs ≡ gs
syllable_stays = search (no_bits, take-append-drop)

all_stay : (pieces : List Glyphs) → flat_map (with_rphf 0) pieces ≡ flat_map (λ piece. piece) pieces
all_stay [] = refl
all_stay (piece ∷ pieces) = cc (syllable_stays piece, all_stay pieces)

pub no_mask : (mask : ℕ) (gs : Glyphs) → mask ≡ 0 → gs ≡ flat_map (with_rphf mask) (syllables gs)
no_mask mask gs none = search (arith, all_stay, joined-syllables)
