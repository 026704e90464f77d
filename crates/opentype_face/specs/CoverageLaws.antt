-- What Coverage says of a glyph where its glyphs rise.
use Rattle.std.specs.Prelude.{ℕ, zero, suc, ◌+◌, ◌-◌, ◌*◌, ◌<◌, ◌≡◌, List, Option, None, Some}
use Rattle.opentype_face.specs.Bytes.{u16_in}
use Rattle.opentype_face.specs.Glyphs.{coverage_in}
use Rattle.opentype_face.specs.SearchLaws.{AreRangesInOrder, Holds}

-- each number is greater than those before it
abbrev pub NumbersRise : ℕ → (ℕ → ℕ) → Type 0
NumbersRise count number = (i j : ℕ) → i < j → j < count → number i < number j

-- where a glyph stands among so many; or it is none of them
abbrev pub IsPlaceAmong : ℕ → (ℕ → ℕ) → ℕ → Option ℕ → Type 0
IsPlaceAmong count number glyph None = (i : ℕ) → i < count → number i ≡ glyph → ⊥
IsPlaceAmong count number glyph (Some i) = (i < count) × (number i ≡ glyph)

-- format 1: the answer is the glyph's place in the list
abbrev pub CoverageLaw : Type 0
CoverageLaw = (bytes : List ℕ) (glyph : ℕ) → u16_in bytes 0 ≡ 1 →
    NumbersRise (u16_in bytes 2) (λ i. u16_in bytes (4 + i * 2)) →
    IsPlaceAmong (u16_in bytes 2) (λ i. u16_in bytes (4 + i * 2)) glyph (coverage_in bytes glyph)

-- how many glyphs the ranges before one have
unfoldable pub glyphs_before : (ℕ → ℕ) → (ℕ → ℕ) → ℕ → ℕ
glyphs_before first last zero = 0
glyphs_before first last (suc i) = glyphs_before first last i + (last i + 1 - first i)

-- ranges in order, whose places go on from one to the next
pub record AreRangesPlaced (count : ℕ) (first last place : ℕ → ℕ) : Type 0 where
  pub order : AreRangesInOrder count first last
  pub placed : (i : ℕ) → i < count → place i ≡ glyphs_before first last i

-- a range holds the glyph, and so many glyphs of the ranges are before it
pub record IsPlaceInRange (count : ℕ) (first last : ℕ → ℕ) (glyph place : ℕ) : Type 0 where
  pub range : ℕ
  pub inside : range < count
  pub holds : Holds first last glyph range
  pub counted : place ≡ glyphs_before first last range + (glyph - first range)

abbrev pub IsPlaceInRanges : ℕ → (ℕ → ℕ) → (ℕ → ℕ) → ℕ → Option ℕ → Type 0
IsPlaceInRanges count first last glyph None = (i : ℕ) → i < count → Holds first last glyph i → ⊥
IsPlaceInRanges count first last glyph (Some place) = IsPlaceInRange count first last glyph place

-- format 2: the answer is the glyph's place among those of all ranges
abbrev pub CoverageRangesLaw : Type 0
CoverageRangesLaw = (bytes : List ℕ) (glyph : ℕ) → u16_in bytes 0 ≡ 2 →
    AreRangesPlaced (u16_in bytes 2) (λ i. u16_in bytes (4 + i * 6)) (λ i. u16_in bytes (6 + i * 6))
    (λ i. u16_in bytes (8 + i * 6)) →
    IsPlaceInRanges (u16_in bytes 2) (λ i. u16_in bytes (4 + i * 6)) (λ i. u16_in bytes (6 + i * 6))
    glyph (coverage_in bytes glyph)
