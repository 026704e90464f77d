-- Steps that leave a text as it is: no slash of a fraction stands in it, and the caller has no features in ranges.
use Rattle.std.proofs.Common.{◌≡◌, ◌==◌, ◌+◌, ℕ, zero, suc, Bool, true, false, ◌||◌, cond, List, [], ◌∷◌, length, map, get_or, refl, ap, ◌∙◌, arith}
use Rattle.std.specs.Prelude.{not}
use Rattle.std.specs.List.{list_any}
use Rattle.std.proofs.lemmas.Bool.{or_parts}
use Rattle.std.proofs.lemmas.List.{map-id}
use Rattle.shapers_buffer.specs.Buffer.{Buffer, asks, flags_concat}
use Rattle.shapers_buffer.specs.Glyphs.{Glyphs}
use Rattle.shapers_buffer.specs.Glyph.{default_glyph}
use Rattle.shapers_buffer.specs.GlyphFlags.{unsafe_to_concat_in}
use Rattle.shapers_plan.specs.declared.ot_shape_plan.DriverMasks.{DriverMasks}
use Rattle.shapers_plan.specs.declared.ot_shape_plan.user.UserRange.{UserRange}
use Rattle.shapers_pipeline.specs.declared.fractions.SlashMasks.{SlashMasks}
use Rattle.shapers_pipeline.specs.Fractions.{decimals_before, decimals_behind, fraction_around, fraction_marked, fractions_around, fractions_set, has_fractions, is_fraction_slash, slash_masks}
use Rattle.shapers_pipeline.specs.Masks.{with_features}

no_slash_at : (gs : Glyphs) (i : ℕ) → list_any is_fraction_slash gs ≡ false
    → is_fraction_slash (get_or gs i default_glyph) ≡ false
no_slash_at [] i none = refl
no_slash_at (g ∷ gs) zero none = (or_parts (is_fraction_slash g) (list_any is_fraction_slash gs) none).0
no_slash_at (g ∷ gs) (suc i) none =
    no_slash_at gs i (or_parts (is_fraction_slash g) (list_any is_fraction_slash gs) none).1

no_fraction : (m : SlashMasks) (concat : Bool) (i : ℕ) (gs : Glyphs) → list_any is_fraction_slash gs ≡ false
    → fraction_around m concat i gs ≡ gs
no_fraction m concat i gs none =
    let before = decimals_before i gs in
    let behind = decimals_behind i gs in
    ap (λ b. cond (not b) gs (cond (before == 0 || behind == 0) (unsafe_to_concat_in concat i (i + 1) gs)
    (fraction_marked m i before behind gs)))
    (no_slash_at gs i none)

no_fractions : (m : SlashMasks) (concat : Bool) (n : ℕ) (gs : Glyphs) → list_any is_fraction_slash gs ≡ false
    → fractions_around m concat n gs ≡ gs
no_fractions m concat zero gs none = refl
no_fractions m concat (suc n) gs none =
    ap (fraction_around m concat n) (no_fractions m concat n gs none) ∙ no_fraction m concat n gs none

-- A text without a slash of a fraction.
pub no_fractions_set : (m : DriverMasks) (b : Buffer) → list_any is_fraction_slash b.glyphs ≡ false
    → fractions_set m b ≡ b.glyphs
no_fractions_set m b none =
    let all = fractions_around (slash_masks b.direction m) (asks flags_concat b) (length b.glyphs) b.glyphs in
    elim (has_fractions m) as (λ has. cond has all b.glyphs ≡ b.glyphs) [
      | true ↦ no_fractions (slash_masks b.direction m) (asks flags_concat b) (length b.glyphs) b.glyphs none
      | false ↦ refl
    ]

-- A text whose caller wants no features in ranges.
pub no_features : (features : List UserRange) (gs : Glyphs) → length features ≡ 0
    → map (with_features features) gs ≡ gs
no_features [] gs none = map-id gs
no_features (feature ∷ features) gs none = absurd (omega arith)
