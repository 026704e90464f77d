-- The words of laws, each on something that they hold of, and on something that they don't.
use Rattle.std.proofs.Common.{ℕ, zero, suc, ◌<◌, ◌≤◌, ◌≡◌, inl, inr, true, false, List, [], ◌∷◌, slice_index, refl, arith}
use Rattle.std.specs.List.{slice_index_or}
use Rattle.shapers_buffer.specs.Glyphs.{Glyph}
use Rattle.shapers_buffer.specs.Glyph.{default_glyph}
use Rattle.shapers_clusters.specs.Cuts.{IsMonotone, OneAlong, SameBlock, ShareCluster, StandsApart, linked}
use Rattle.shapers_clusters.specs.Flags.{FallsTo, KeepsBits}
use Rattle.shapers_clusters.specs.Steps.{Spares, Step}
use Rattle.shapers_clusters.proofs.FlagCalls.{keeps-with_bits}
use Rattle.shapers_clusters.proofs.Moves.{moves_anywhere}

-- Places 1 and 2 of these numbers are the same, and so are 1 and 4, but not what stands between.
abbrev numbers : List ℕ
numbers = 5 ∷ 3 ∷ 3 ∷ 4 ∷ 3 ∷ []

threes : (r : ℕ) → 1 ≤ r → r < 3 → slice_index numbers r ≡ 3
threes (suc zero) low high = refl
threes (suc (suc zero)) low high = refl
threes _ low high = absurd (omega arith)

-- asked from either end
shared : ShareCluster numbers 1 2
shared r low high = threes r low (omega arith)

shared_back : ShareCluster numbers 2 1
shared_back r low high = threes r low (omega arith)

not_shared : ShareCluster numbers 1 4 → ⊥
not_shared = search arith

not_shared_back : ShareCluster numbers 4 1 → ⊥
not_shared_back = search arith

-- neighbours that differ, asked from either end
not_shared_next : ShareCluster numbers 2 3 → ⊥
not_shared_next = search arith

not_shared_before : ShareCluster numbers 3 2 → ⊥
not_shared_before = search arith

-- a stretch has one label, its end left out
one_label : OneAlong numbers (1, 3)
one_label = search (arith, threes)

two_labels : OneAlong numbers (1, 4) → ⊥
two_labels = search arith

-- two stretches that meet in place 1 link places 0 to 2, but not 3
chain : (r : ℕ) → 0 < r → r ≤ 2 → linked (0 ∷ 1 ∷ 2 ∷ 3 ∷ []) ((0, 2) ∷ (1, 3) ∷ []) r ≡ true
chain (suc zero) low high = refl
chain (suc (suc zero)) low high = refl
chain _ low high = absurd (omega arith)

one_block : SameBlock (0 ∷ 1 ∷ 2 ∷ 3 ∷ []) ((0, 2) ∷ (1, 3) ∷ []) 2 0
one_block r low high = chain r low high

two_blocks : SameBlock (0 ∷ 1 ∷ 2 ∷ 3 ∷ []) ((0, 2) ∷ (1, 3) ∷ []) 0 3 → ⊥
two_blocks = search arith

-- a place alone in its cluster stands apart; one whose cluster comes again behind it or before it doesn't
apart : StandsApart 1 2 (0 ∷ 1 ∷ 2 ∷ [])
apart zero j low high some out = absurd (omega arith)
apart (suc zero) zero low high some out = search arith
apart (suc zero) (suc zero) low high some (inl before) = absurd (omega arith)
apart (suc zero) (suc zero) low high some (inr behind) = absurd (omega arith)
apart (suc zero) (suc (suc zero)) low high some out = search arith
apart (suc zero) (suc (suc (suc j))) low high some out = absurd (omega arith)
apart (suc (suc i)) j low high some out = absurd (omega arith)

not_apart_behind : StandsApart 1 2 (0 ∷ 1 ∷ 1 ∷ []) → ⊥
not_apart_behind alone = alone 1 2 (omega arith) (omega arith) (omega arith) (inr (omega arith)) refl

not_apart_before : StandsApart 1 2 (1 ∷ 1 ∷ 2 ∷ []) → ⊥
not_apart_before alone = alone 1 0 (omega arith) (omega arith) (omega arith) (inl (omega arith)) refl

-- a glyph keeps its cluster with its flags, or falls and loses them; it neither rises nor keeps
-- flags in a fall, nor loses them without one
abbrev glyph : ℕ → ℕ → Glyph
glyph c m = record default_glyph { cluster = c; mask = m }

stays : FallsTo (glyph 5 0x13) (glyph 5 0x13)
stays = (omega arith, refl)

falls : FallsTo (glyph 5 0x13) (glyph 3 0x10)
falls = (omega arith, refl)

rises : FallsTo (glyph 5 0x13) (glyph 6 0x10) → ⊥
rises = search arith

keeps_flags : FallsTo (glyph 5 0x13) (glyph 3 0x13) → ⊥
keeps_flags = search arith

loses_flags : FallsTo (glyph 5 0x13) (glyph 5 0x10) → ⊥
loses_flags = search arith

-- bits may be gained, not lost
gained : KeepsBits (glyph 5 9) (glyph 5 11)
gained = keeps-with_bits 2 (glyph 5 9)

lost : KeepsBits (glyph 5 9) (glyph 5 10) → ⊥
lost kept = search (arith, kept 0)

-- clusters that never fall, that never rise, and that do both
rising : (i j d : ℕ) → i < j → j < 2 → slice_index_or (2 ∷ 2 ∷ []) i d ≤ slice_index_or (2 ∷ 2 ∷ []) j d
rising zero (suc zero) d low high = omega arith
rising _ _ d low high = absurd (omega arith)

falling : (i j d : ℕ) → i < j → j < 2 → slice_index_or (5 ∷ 3 ∷ []) j d ≤ slice_index_or (5 ∷ 3 ∷ []) i d
falling zero (suc zero) d low high = omega arith
falling _ _ d low high = absurd (omega arith)

monotone : IsMonotone (2 ∷ 2 ∷ []) × IsMonotone (5 ∷ 3 ∷ [])
monotone = (inl rising, inr falling)

not_monotone : IsMonotone (1 ∷ 3 ∷ 2 ∷ []) → ⊥
not_monotone (inl up) = search (arith, up 1 2 0 (omega arith) (omega arith))
not_monotone (inr down) = search (arith, down 0 1 0 (omega arith) (omega arith))

-- a step that swaps places 0 and 1 unmerged spares a stretch that it leaves, and none that it
-- enters; merged first, it spares that too
abbrev swap : Step
swap = record { merged_first = []; places = 1 ∷ 0 ∷ 2 ∷ []; merged_then = [] }

left : (p : ℕ) → 2 ≤ p → p < 3 → slice_index (1 ∷ 0 ∷ 2 ∷ []) p ≡ p
left (suc (suc zero)) low high = refl
left _ low high = absurd (omega arith)

spared : Spares 3 (2, 3) swap
spared = inl left

not_spared : Spares 3 (1, 3) swap → ⊥
not_spared (inl stays) = cc (stays 1 (omega arith) (omega arith))
not_spared (inr moves) =
    absurd (let e : false ≡ true = moves.inside 0 (omega arith) 1 (omega arith) (omega arith) in cc)

spared_inside : Spares 2 (0, 2) (record { merged_first = (0, 2) ∷ []; places = 1 ∷ 0 ∷ []; merged_then = [] })
spared_inside = inr (search (arith, moves_anywhere))
