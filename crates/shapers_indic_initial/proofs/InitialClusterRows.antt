-- What the order of a syllable keeps together, computed.
use Rattle.std.specs.Prelude.{◌≡◌, true, false, [], ◌∷◌, length, map, refl}
use Rattle.std.specs.List.{range_with_len}
use Rattle.shapers_buffer.specs.declared.buffer.level.BufferClusterLevel.TheVariants.{Characters, MonotoneCharacters, MonotoneGraphemes}
use Rattle.shapers_clusters.specs.Steps.{joined_step}
use Rattle.shapers_indic.proofs.RowWords.{C, M, of}
use Rattle.shapers_indic_initial.proofs.InitialWords.{no_masks, rules}
use Rattle.shapers_indic_initial.specs.InitialClusters.{all_ways, joined_stretches}
use Rattle.shapers_indic_initial.specs.InitialReordering.{indic_order_step}
use Rattle.shapers_syllabic.specs.Reordering.{glyphs_before}

-- each place with the old place of what stands there: from the start, and from a base behind it
ways : map (λ from. all_ways from 0) ((0 ∷ 2 ∷ 3 ∷ 1 ∷ []) ∷ (2 ∷ 1 ∷ 0 ∷ []) ∷ [] ∷ [])
    ≡ ((0, 1) ∷ (1, 3) ∷ (2, 4) ∷ (1, 4) ∷ []) ∷ ((0, 3) ∷ (1, 2) ∷ (0, 3) ∷ []) ∷ [] ∷ []
ways = refl

ways_from_base : all_ways (3 ∷ 0 ∷ 1 ∷ 2 ∷ []) 2 ∷ all_ways (1 ∷ 0 ∷ 3 ∷ 2 ∷ []) 1 ∷ all_ways (1 ∷ 0 ∷ []) 2 ∷ []
    ≡ ((2, 3) ∷ (2, 4) ∷ []) ∷ ((1, 2) ∷ (2, 4) ∷ (2, 4) ∷ []) ∷ [] ∷ []
ways_from_base = refl

-- all from the base on in the older specification, and for more than 127 glyphs
kept : joined_stretches (rules "Deva" true no_masks) (0 ∷ 2 ∷ 1 ∷ []) 1 ∷ joined_stretches (rules "Deva" false no_masks)
    (0 ∷ 2 ∷ 1 ∷ []) 1 ∷ [] ≡ ((1, 3) ∷ []) ∷ ((1, 3) ∷ (1, 3) ∷ []) ∷ []
kept = refl

kept_long : map (λ n. length (joined_stretches (rules "Deva" false no_masks) (range_with_len 0 n) 0)) (127 ∷ 128 ∷ [])
    ≡ 127 ∷ 1 ∷ []
kept_long = refl

kept_longer : joined_stretches (rules "Deva" false no_masks) (range_with_len 0 300) 7 ≡ (7, 300) ∷ []
kept_longer = refl

-- clusters after the order: B M(9) M(6) and B M(9) M(6) M(8), and with a left matra and one that moves before it
joined_clusters : joined_step MonotoneGraphemes
    (indic_order_step (rules "Deva" false no_masks) (of ((C, 4) ∷ (M, 9) ∷ (M, 6) ∷ []))) (0 ∷ 1 ∷ 2 ∷ [])
    ∷ joined_step MonotoneCharacters
    (indic_order_step (rules "Deva" false no_masks) (of ((C, 4) ∷ (M, 9) ∷ (M, 6) ∷ (M, 8) ∷ [])))
    (0 ∷ 1 ∷ 2 ∷ 3 ∷ []) ∷ joined_step MonotoneGraphemes
    (indic_order_step (rules "Deva" false no_masks) (of ((C, 4) ∷ (M, 2) ∷ (M, 9) ∷ (M, 6) ∷ [])))
    (0 ∷ 1 ∷ 2 ∷ 3 ∷ [])
    ∷ joined_step Characters (indic_order_step (rules "Deva" false no_masks) (of ((C, 4) ∷ (M, 9) ∷ (M, 6) ∷ [])))
    (0 ∷ 1 ∷ 2 ∷ []) ∷ [] ≡ (0 ∷ 1 ∷ 1 ∷ []) ∷ (0 ∷ 1 ∷ 1 ∷ 1 ∷ []) ∷ (1 ∷ 0 ∷ 2 ∷ 2 ∷ []) ∷ (0 ∷ 2 ∷ 1 ∷ []) ∷ []
joined_clusters = refl

-- where a syllable stands
standing : map (λ before. glyphs_before before) ([] ∷ (of ((C, 4) ∷ (C, 4) ∷ []) ∷ of ((C, 4) ∷ []) ∷ []) ∷ [])
    ≡ 0 ∷ 3 ∷ []
standing = refl
