-- Rows computed: what the definitions give for small lists of clusters.
use Rattle.std.proofs.Common.{ℕ, true, false, map, ◌%◌, ◌+◌, ◌≡◌, ◌≤◌, [], ◌∷◌, refl, arith, subst}
use Rattle.std.specs.List.{AllByRecursion}
use Rattle.shapers_buffer.specs.declared.buffer.level.BufferClusterLevel.TheVariants.{MonotoneGraphemes, Characters}
use Rattle.shapers_buffer.specs.Glyphs.{Glyph}
use Rattle.shapers_buffer.specs.Glyph.{default_glyph, without_flags}
use Rattle.shapers_clusters.specs.Cuts.{held, linked}
use Rattle.shapers_clusters.specs.Flags.{HidesFields, bit_at, seen, whole}
use Rattle.shapers_clusters.specs.ClusterMerges.{joined, joined_all}
use Rattle.shapers_buffer.specs.Places.{pick}
use Rattle.shapers_clusters.specs.Steps.{Step, joined_steps, old_places, MovesMerged, all_first, all_merged, shifted, widened, still_step, swap_step, steps_along, reordered_along}
use Rattle.shapers_clusters.proofs.Merging.{without_flags-twice}
use Rattle.shapers_clusters.proofs.Moves.{moves_anywhere}
use Rattle.shapers_clusters.proofs.Widened.{moves-widened}

-- the last two of three places merge; the merged stretch reaches back over what shares the cluster of its first place
row_one : joined MonotoneGraphemes 1 3 (0 ∷ 1 ∷ 2 ∷ []) ≡ 0 ∷ 1 ∷ 1 ∷ []
row_one = refl

row_reach : joined MonotoneGraphemes 1 3 (5 ∷ 5 ∷ 3 ∷ 3 ∷ 7 ∷ []) ≡ 3 ∷ 3 ∷ 3 ∷ 3 ∷ 7 ∷ []
row_reach = refl

-- a stretch of one place, or none, merges nothing, and level Characters nothing at all
row_single : joined MonotoneGraphemes 3 3 (1 ∷ 3 ∷ 3 ∷ 3 ∷ []) ≡ 1 ∷ 3 ∷ 3 ∷ 3 ∷ []
row_single = refl

row_unmerged : joined Characters 0 3 (0 ∷ 1 ∷ 2 ∷ []) ≡ 0 ∷ 1 ∷ 2 ∷ []
row_unmerged = refl

-- two merges that overlap, on falling clusters
row_falling : joined_all MonotoneGraphemes ((0, 2) ∷ (1, 3) ∷ []) (4 ∷ 3 ∷ 2 ∷ 1 ∷ []) ≡ 2 ∷ 2 ∷ 2 ∷ 1 ∷ []
row_falling = refl

-- a glyph made out of the last of a merged stretch goes before the others; one that is dropped
-- leaves its cluster to the rest
row_made : pick (0 ∷ 2 ∷ 1 ∷ 2 ∷ 3 ∷ []) (joined_all MonotoneGraphemes ((1, 3) ∷ []) (0 ∷ 1 ∷ 2 ∷ 3 ∷ []))
    ≡ 0 ∷ 1 ∷ 1 ∷ 1 ∷ 3 ∷ []
row_made = refl

row_dropped : pick (0 ∷ 2 ∷ 3 ∷ []) (joined_all MonotoneGraphemes ((1, 3) ∷ []) (0 ∷ 1 ∷ 2 ∷ 3 ∷ [])) ≡ 0 ∷ 1 ∷ 3 ∷ []
row_dropped = refl

-- of six marks the last two of the first three merge and swap
swap_two : Step
swap_two = record { merged_first = (0, 2) ∷ []; places = 1 ∷ 0 ∷ []; merged_then = [] }

row_swapped : joined_steps MonotoneGraphemes (widened 1 3 6 swap_two ∷ []) (0 ∷ 1 ∷ 2 ∷ 3 ∷ 4 ∷ 5 ∷ []) ≡ 0 ∷ 1 ∷ 1 ∷ 3
    ∷ 4 ∷ 5 ∷ []
unfolding swap_two
row_swapped = refl

row_old_places : old_places 6 (widened 1 3 6 swap_two ∷ []) ≡ 0 ∷ 2 ∷ 1 ∷ 3 ∷ 4 ∷ 5 ∷ []
unfolding swap_two
row_old_places = refl

row_unmerged_moves : joined_steps Characters (widened 1 3 6 swap_two ∷ []) (0 ∷ 1 ∷ 2 ∷ 3 ∷ 4 ∷ 5 ∷ []) ≡ 0 ∷ 2 ∷ 1 ∷ 3
    ∷ 4 ∷ 5 ∷ []
unfolding swap_two
row_unmerged_moves = refl

-- a move merged only afterwards can leave falling clusters that no old block had: here 3 comes before 2
row_late : joined_steps MonotoneGraphemes
    (record { merged_first = []; places = 1 ∷ 0 ∷ 2 ∷ []; merged_then = (0, 1) ∷ [] } ∷ []) (5 ∷ 4 ∷ 3 ∷ [])
    ≡ 4 ∷ 5 ∷ 3 ∷ []
row_late = refl

-- stretches hold the neighbours inside them, not those at their borders; equal clusters link neighbours too
row_held : map (held ((1, 3) ∷ [])) (1 ∷ 2 ∷ 3 ∷ []) ≡ false ∷ true ∷ false ∷ []
row_held = refl

row_linked : map (linked (0 ∷ 0 ∷ 1 ∷ 2 ∷ []) ((1, 3) ∷ [])) (1 ∷ 2 ∷ 3 ∷ []) ≡ true ∷ true ∷ false ∷ []
row_linked = refl

-- places may come again or not at all; behind the end there is nothing
row_pick : pick {X = ℕ} (2 ∷ 0 ∷ 0 ∷ 3 ∷ []) (5 ∷ 6 ∷ 7 ∷ []) ≡ 7 ∷ 5 ∷ 5 ∷ []
row_pick = refl

-- the smallest steps, and steps of a part as steps of the whole
row_still : still_step 3 ≡ record { merged_first = []; places = 0 ∷ 1 ∷ 2 ∷ []; merged_then = [] }
row_still = refl

row_swap : swap_step 4 1 ≡ record { merged_first = (1, 3) ∷ []; places = 0 ∷ 2 ∷ 1 ∷ 3 ∷ []; merged_then = [] }
row_swap = refl

row_shifted : shifted 2 ((0, 1) ∷ (3, 5) ∷ []) ≡ (2, 3) ∷ (5, 7) ∷ []
row_shifted = refl

row_along : steps_along 5 0 ((1, []) ∷ (2, swap_two ∷ []) ∷ [])
    ≡ record { merged_first = (1, 3) ∷ []; places = 0 ∷ 2 ∷ 1 ∷ 3 ∷ 4 ∷ []; merged_then = [] } ∷ []
unfolding swap_two
row_along = refl

row_reordered : reordered_along {X = ℕ} ((1, []) ∷ (2, swap_two ∷ []) ∷ []) (5 ∷ 6 ∷ 7 ∷ 8 ∷ []) ≡ 5 ∷ 7 ∷ 6 ∷ 8 ∷ []
unfolding swap_two
row_reordered = refl

row_first : all_first (swap_step 4 1 ∷ still_step 4 ∷ swap_step 4 0 ∷ []) ≡ (1, 3) ∷ (0, 2) ∷ []
row_first = refl

row_merged : all_merged
    (swap_step 4 1 ∷ record {
      merged_first = (2, 4) ∷ [];
      places = 0 ∷ 1 ∷ 3 ∷ 2 ∷ [];
      merged_then = (0, 2) ∷ (1, 3) ∷ [];
    } ∷ still_step 4 ∷ []) ≡ (1, 3) ∷ (2, 4) ∷ (0, 2) ∷ (1, 3) ∷ []
row_merged = refl

-- bits of a mask, from the lowest on
row_bits : map (λ k. bit_at k 13) (0 ∷ 1 ∷ 2 ∷ 3 ∷ 4 ∷ []) ≡ 1 ∷ 0 ∷ 1 ∷ 1 ∷ 0 ∷ []
row_bits = refl

-- what shows, through a view that hides masks and categories, of a glyph's number and class, but
-- neither cluster nor glyph flags
a_glyph : ℕ → ℕ → ℕ → Glyph
a_glyph c m k =
    record default_glyph { glyph_id = 65; cluster = c; mask = m; category = k; unicode_props = record { 0 = 0x0700 } }

row_seen : seen (λ g. record g { mask = g.mask % 8; category = 0 }) (a_glyph 4 255 3 ∷ []) ≡ a_glyph 0 0 0 ∷ []
unfolding a_glyph
row_seen = refl

row_whole : seen whole (a_glyph 4 255 3 ∷ []) ≡ a_glyph 0 248 3 ∷ []
unfolding a_glyph
row_whole = refl

-- views for hooks that besides moving glyphs change masks, categories and positions, or classes
rests : (m : ℕ) → without_flags (without_flags m % 8) ≡ without_flags (m % 8)
rests = omega arith

masks_hidden : HidesFields (λ g. record g { mask = g.mask % 8; category = 0; auxiliary = 0 })
masks_hidden = search (arith, rests)

classes_hidden : HidesFields (λ g. record g { unicode_props = record { 0 = 0 } })
classes_hidden = search (arith, without_flags-twice)

-- a hook that merges and swaps the places i + 1 and i + 2 of n: all laws of merged steps hold of it
swap_moves : MovesMerged 2 swap_two
unfolding swap_two
swap_moves = search (arith, moves_anywhere)

swapped_moves : (i n : ℕ) → i + 3 ≤ n → AllByRecursion (MovesMerged n) (widened (i + 1) (i + 3) n swap_two ∷ [])
swapped_moves i n l = (
  moves-widened (i + 1) (i + 3) n swap_two (omega arith) l (subst
      (λ k. MovesMerged k swap_two) (omega arith) swap_moves),
  tt,
)
