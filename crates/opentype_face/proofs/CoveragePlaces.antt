-- Where the glyphs of a Coverage rise, its answer is the place in the list.
use Rattle.std.proofs.Common.{ℕ, ◌+◌, ◌-◌, ◌*◌, Option, None, Some, arith, refl}
use Rattle.std.specs.Option.{option_map}
use Rattle.opentype_face.specs.Bytes.{u16_in}
use Rattle.opentype_face.specs.CoverageLaws.{AreRangesPlaced, CoverageLaw, CoverageRangesLaw, IsPlaceAmong, IsPlaceInRanges, NumbersRise}
use Rattle.opentype_face.specs.SearchLaws.{AreRangesInOrder, IsFirstHolding}
use Rattle.opentype_face.proofs.SearchOrder.{search_law}

place_if_first : (count : ℕ) (number : ℕ → ℕ) (glyph : ℕ) (o : Option ℕ) → IsFirstHolding count number number glyph o →
    IsPlaceAmong count number glyph o
place_if_first count number glyph None h = λ i lt e. h i lt (omega arith, omega arith)
place_if_first count number glyph (Some i) h = (h.0, (let x = h.1.0 in let y = h.1.1 in omega arith))

in_order : (count : ℕ) (number : ℕ → ℕ) → NumbersRise count number → AreRangesInOrder count number number
in_order count number rise = record { ranges = λ i lt. omega arith; apart = rise }

pub coverage_law : CoverageLaw
coverage_law bytes glyph format rise = rw format (place_if_first (u16_in bytes 2) (λ i. u16_in bytes (4 + i * 2)) glyph _
    (search_law (u16_in bytes 2) (λ i. u16_in bytes (4 + i * 2)) (λ i. u16_in bytes (4 + i * 2)) glyph
    (in_order (u16_in bytes 2) (λ i. u16_in bytes (4 + i * 2)) rise)))

in_range_if_first : (count : ℕ) (first last place : ℕ → ℕ) (glyph : ℕ) (o : Option ℕ) →
    AreRangesPlaced count first last place → IsFirstHolding count first last glyph o →
    IsPlaceInRanges count first last glyph (option_map (λ i. place i + (glyph - first i)) o)
in_range_if_first count first last place glyph None s h = h
in_range_if_first count first last place glyph (Some i) s h = record {
  range = i;
  inside = h.0;
  holds = h.1;
  counted = rw (s.placed i h.0) refl;
}

pub coverage_ranges_law : CoverageRangesLaw
coverage_ranges_law bytes glyph format s = rw format (in_range_if_first (u16_in bytes 2) (λ i. u16_in bytes (4 + i * 6))
    (λ i. u16_in bytes (6 + i * 6)) (λ i. u16_in bytes (8 + i * 6)) glyph _ s
    (search_law (u16_in bytes 2) (λ i. u16_in bytes (4 + i * 6)) (λ i. u16_in bytes (6 + i * 6)) glyph s.order))
