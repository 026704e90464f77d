-- The record of rphf without a mask changes nothing.
use Rattle.std.proofs.Common.{refl, subst, sym}
use Rattle.std.specs.Int.Bits.{and_zero_r}
use Rattle.std.specs.List.{flat_map, prefix_len}
use Rattle.std.specs.Prelude.{◌≡◌, ◌==◌, ◌+◌, List, [], ◌∷◌, if◌then◌else◌, not, ℕ}
use Rattle.shapers_buffer.specs.Buffer.{Buffer}
use Rattle.shapers_buffer.specs.Glyphs.{Glyphs}
use Rattle.shapers_syllabic.proofs.CircleLaws.{joined-syllables}
use Rattle.shapers_universal.specs.UniversalSyllables.{rphf_recorded, with_rphf_recorded}
use Rattle.shapers_base.specs.Masks.{has_bits}

none_leads : (gs : Glyphs) → prefix_len (has_bits 0) gs ≡ 0
none_leads [] = refl
none_leads (g ∷ gs) =
    subst (λ (n : ℕ). (if not (n == 0) then 1 + prefix_len (has_bits 0) gs else 0) ≡ 0) (sym (and_zero_r g.mask)) refl

syllable_stays : (gs : Glyphs) → rphf_recorded 0 gs ≡ gs
syllable_stays = search none_leads

all_stay : (pieces : List Glyphs) → flat_map (rphf_recorded 0) pieces ≡ flat_map (λ piece. piece) pieces
all_stay [] = refl
all_stay (piece ∷ pieces) = cc (syllable_stays piece, all_stay pieces)

pub nothing_recorded : (b : Buffer) → with_rphf_recorded 0 b ≡ b
nothing_recorded = search (all_stay, joined-syllables)
