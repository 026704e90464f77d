-- Clusters that strictly rise or strictly fall, and which places of falling ones a call leaves clear.
use Rattle.std.proofs.Common.{ℕ, zero, suc, ◌<◌, inl, inr, false, [], ◌∷◌, arith}
use Rattle.std.specs.List.{slice_index_or}
use Rattle.shapers_buffer.specs.Glyphs.{Glyph, Glyphs}
use Rattle.shapers_buffer.specs.Glyph.{default_glyph}
use Rattle.shapers_buffer.specs.GlyphFlags.{UnsafeToBreak, flags_called}
use Rattle.shapers_clusters.specs.Breaks.{IsClear, IsStrictlyMonotone}

-- clusters that rise, that fall, that stay for a place and that do both
rising : (i j d : ℕ) → i < j → j < 2 → slice_index_or (2 ∷ 5 ∷ []) i d < slice_index_or (2 ∷ 5 ∷ []) j d
rising zero (suc zero) d low high = omega arith
rising _ _ d low high = absurd (omega arith)

falling : (i j d : ℕ) → i < j → j < 2 → slice_index_or (5 ∷ 3 ∷ []) j d < slice_index_or (5 ∷ 3 ∷ []) i d
falling zero (suc zero) d low high = omega arith
falling _ _ d low high = absurd (omega arith)

monotone : IsStrictlyMonotone (2 ∷ 5 ∷ []) × IsStrictlyMonotone (5 ∷ 3 ∷ [])
monotone = (inl rising, inr falling)

not_staying : IsStrictlyMonotone (2 ∷ 2 ∷ []) → ⊥
not_staying (inl up) = search (arith, up 0 1 0 (omega arith) (omega arith))
not_staying (inr down) = search (arith, down 0 1 0 (omega arith) (omega arith))

not_both : IsStrictlyMonotone (1 ∷ 3 ∷ 2 ∷ []) → ⊥
not_both (inl up) = search (arith, up 1 2 0 (omega arith) (omega arith))
not_both (inr down) = search (arith, down 0 1 0 (omega arith) (omega arith))

-- clusters 2 1 0, and a call on the last two glyphs: it forbids a break between these alone, and
-- there the flag stands in the middle glyph, whose cluster is the greater one
glyph : ℕ → Glyph
glyph c = record default_glyph { cluster = c }

abbrev called : Glyphs
called = flags_called false false (UnsafeToBreak 1 3 ∷ []) (glyph 2 ∷ glyph 1 ∷ glyph 0 ∷ [])

clear_outside : IsClear called 1
unfolding glyph
clear_outside = search arith

not_clear_inside : IsClear called 2 → ⊥
unfolding glyph
not_clear_inside clear = cc
