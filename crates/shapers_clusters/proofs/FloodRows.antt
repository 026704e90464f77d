-- Rows of texts whose clusters fall, or don't.
use Rattle.std.specs.Prelude.{ℕ, ◌≡◌, List, [], ◌∷◌, map, true, false, refl}
use Rattle.std.specs.List.{range_with_len}
use Rattle.shapers_buffer.specs.Glyphs.{Glyphs}
use Rattle.shapers_clusters.specs.ClusterMerges.{of_cluster}
use Rattle.shapers_clusters.specs.Floods.{clusters_fall, falls_below, floods_again}

-- whether clusters fall: at the end, at the beginning, between; and not where they rise or stay
in_clusters : List ℕ → Glyphs
in_clusters cs = map of_cluster cs

row_falls : map (λ cs. clusters_fall (in_clusters cs)) ((3 ∷ 2 ∷ []) ∷ (3 ∷ 4 ∷ 1 ∷ []) ∷ (3 ∷ 1 ∷ 5 ∷ [])
    ∷ (1 ∷ 4 ∷ 3 ∷ 5 ∷ []) ∷ []) ≡ true ∷ true ∷ true ∷ true ∷ []
unfolding in_clusters
row_falls = refl

row_no_fall : map (λ cs. clusters_fall (in_clusters cs)) ([] ∷ (3 ∷ []) ∷ (3 ∷ 3 ∷ []) ∷ (3 ∷ 4 ∷ 4 ∷ []) ∷ [])
    ≡ false ∷ false ∷ false ∷ false ∷ []
unfolding in_clusters
row_no_fall = refl

row_falls_below : map (λ c. falls_below c (in_clusters (3 ∷ 5 ∷ []))) (2 ∷ 3 ∷ 4 ∷ []) ≡ false ∷ false ∷ true ∷ []
unfolding in_clusters
row_falls_below = refl

-- of few glyphs the ends tell: the last below the first, the same, and above
row_few : map (λ cs. floods_again (in_clusters cs)) ((3 ∷ 1 ∷ 2 ∷ []) ∷ (3 ∷ 1 ∷ 3 ∷ []) ∷ (3 ∷ 1 ∷ 5 ∷ [])
    ∷ [] ∷ []) ≡ true ∷ false ∷ false ∷ false ∷ []
unfolding in_clusters
row_few = refl

-- and of 257 all do, where of 256 the ends still do
row_many : map (λ len. floods_again (in_clusters (5 ∷ (4 ∷ range_with_len 6 len)))) (254 ∷ 255 ∷ [])
    ≡ false ∷ true ∷ []
unfolding in_clusters
row_many = refl

row_many_rise : floods_again (in_clusters (range_with_len 6 300)) ≡ false
unfolding in_clusters
row_many_rise = refl
