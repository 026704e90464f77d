-- Rows of groups: what stands for them, and what is read from that.
use Rattle.std.proofs.Common.{ℕ, ◌≡◌, List, [], ◌∷◌, map, refl}
use Rattle.shapers_buffer.specs.Glyphs.{Glyphs}
use Rattle.shapers_buffer.specs.Glyph.{clusters}
use Rattle.shapers_clusters.specs.CarriedGroups.{first_group_cluster, grouped, joined_end, len_of, put_before, read_back, shown_groups, spread_groups}
use Rattle.shapers_clusters.specs.ClusterMerges.{of_cluster}
use Rattle.shapers_buffer.specs.declared.buffer.group_room.ClusterGroup.{ClusterGroup}

glyphs : List ℕ → Glyphs
glyphs cs = map of_cluster cs

groups : List (ℕ × ℕ) → List ClusterGroup
groups gs = map (λ g. record { len = g.0; cluster = g.1 }) gs

-- two groups, of two and three glyphs, and a glyph behind them
spread_two : clusters (spread_groups (glyphs (9 ∷ 9 ∷ []) ∷ glyphs (9 ∷ 8 ∷ 9 ∷ []) ∷ []) (glyphs (3 ∷ 5 ∷ 7 ∷ [])))
    ≡ 3 ∷ 3 ∷ 5 ∷ 5 ∷ 5 ∷ 7 ∷ []
unfolding glyphs
spread_two = refl

grouped_two : clusters (grouped (groups ((2, 3) ∷ (3, 5) ∷ [])) (glyphs (9 ∷ 9 ∷ 9 ∷ 8 ∷ 9 ∷ 7 ∷ [])))
    ≡ 3 ∷ 3 ∷ 5 ∷ 5 ∷ 5 ∷ []
unfolding glyphs groups
grouped_two = refl

len_of_two : len_of (groups ((2, 3) ∷ (3, 5) ∷ [])) ≡ 5
unfolding groups
len_of_two = refl

first_of_two : first_group_cluster (groups ((2, 3) ∷ (3, 5) ∷ [])) ≡ 3
unfolding groups
first_of_two = refl

shown_two : clusters (shown_groups (groups ((2, 3) ∷ (3, 5) ∷ [])) (glyphs (9 ∷ 9 ∷ 7 ∷ []))) ≡ 3 ∷ 5 ∷ 7 ∷ []
unfolding glyphs groups
shown_two = refl

before_third : clusters (put_before 2 8 (glyphs (9 ∷ 9 ∷ 7 ∷ []))) ≡ 9 ∷ 8 ∷ 7 ∷ []
unfolding glyphs
before_third = refl

before_first : clusters (put_before 0 8 (glyphs (9 ∷ 9 ∷ 7 ∷ []))) ≡ 9 ∷ 9 ∷ 7 ∷ []
unfolding glyphs
before_first = refl

-- a group falls, and never rises
read_two : map (λ (g : ClusterGroup). g.cluster) (read_back (glyphs (2 ∷ 6 ∷ [])) (groups ((2, 3) ∷ (3, 5) ∷ []))) ≡ 2 ∷ 5 ∷ []
unfolding glyphs groups
read_two = refl

joined_three : joined_end (groups ((1, 2) ∷ (2, 3) ∷ (3, 3) ∷ [])) ≡ groups ((1, 2) ∷ (5, 3) ∷ [])
unfolding groups
joined_three = refl
