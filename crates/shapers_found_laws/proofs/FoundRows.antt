-- Rows for how often a syllable has a category, written out from the rule.
use Rattle.std.proofs.Common.{ℕ, [], ◌∷◌, arith, lit≤, refl}
use Rattle.std.proofs.lemmas.Bool.{false≢true}
use Rattle.shapers_buffer.specs.Glyph.{default_glyph}
use Rattle.shapers_buffer.specs.Glyphs.{Glyph}
use Rattle.shapers_found_laws.specs.FoundSyllables.{AtMostOneEach, GainsNone, OpensWithOne}

-- a glyph of this category in the syllable of this byte
glyph_of : ℕ → ℕ → Glyph
glyph_of k byte = record default_glyph { category = k; syllable = byte }

-- two of category 18 in one syllable, and in two
row_twice : AtMostOneEach 18 (glyph_of 18 0x17 ∷ glyph_of 18 0x17 ∷ []) → ⊥
unfolding glyph_of
row_twice each = omega (arith, each.0)

row_apart : AtMostOneEach 18 (glyph_of 18 0x17 ∷ glyph_of 18 0x27 ∷ [])
unfolding glyph_of
row_apart = (lit≤ tt, (lit≤ tt, tt))

-- a syllable with a second one behind a base opens with one, though it has two
row_opens : OpensWithOne 18 (glyph_of 18 0x17 ∷ glyph_of 1 0x17 ∷ glyph_of 18 0x17 ∷ [])
unfolding glyph_of
row_opens = (lit≤ tt, tt)

row_has : AtMostOneEach 18 (glyph_of 18 0x17 ∷ glyph_of 1 0x17 ∷ glyph_of 18 0x17 ∷ []) → ⊥
unfolding glyph_of
row_has each = omega (arith, each.0)

-- a base that becomes one, and one that changes its syllable
row_gained : GainsNone 18 (glyph_of 1 0x17) (glyph_of 18 0x17) → ⊥
unfolding glyph_of
row_gained gains = false≢true (gains.gained refl)

row_moved : GainsNone 18 (glyph_of 18 0x17) (glyph_of 18 0x27) → ⊥
unfolding glyph_of
row_moved gains = omega (arith, gains.byte)
