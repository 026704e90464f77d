-- Merges and moves through a view that hides only what no merge reads.
use Rattle.std.proofs.Common.{arith}
use Rattle.std.proofs.Common.{ℕ, ◌-◌, ◌≡◌, List, [], ◌∷◌, map, length, reverse, refl, sym, ◌∙◌, ap}
use Rattle.std.proofs.lemmas.List.{map-append, take-map, drop-map, length-map}
use Rattle.shapers_buffer.specs.Glyphs.{Glyph, Glyphs}
use Rattle.shapers_buffer.specs.declared.buffer.level.BufferClusterLevel.{BufferClusterLevel}
use Rattle.shapers_buffer.specs.Glyph.{clusters}
use Rattle.shapers_buffer.specs.Clusters.{first_cluster, last_cluster, in_cluster, flooded, merge, merge_all, merges}
use Rattle.shapers_buffer.specs.Places.{pick}
use Rattle.shapers_buffer.proofs.MappedLists.{map-reverse}
use Rattle.shapers_buffer.proofs.ClusterLemmas.{flood_merged, merge_is}
use Rattle.shapers_clusters.specs.Steps.{Step, after_step, after_steps}
use Rattle.shapers_clusters.proofs.Appended.{two_sides}
use Rattle.shapers_clusters.proofs.Picks.{pick-map}

-- a view that shows clusters, and through which a glyph comes into a cluster as it does itself
pub record PassesMerges (view : Glyph → Glyph) : Type 0 where
  pub cluster : (g : Glyph) → (view g).cluster ≡ g.cluster
  pub put : (m : ℕ) (g : Glyph) → view (in_cluster m g) ≡ in_cluster m (view g)

flooded-through : (view : Glyph → Glyph) → PassesMerges view → (c m : ℕ) (gs : Glyphs)
    → map view (flooded c m gs) ≡ flooded c m (map view gs)
flooded-through view passes c m [] = refl
flooded-through view passes c m (g ∷ gs) = search (arith, flooded-through view passes c m gs)

put-through : (view : Glyph → Glyph) → PassesMerges view → (m : ℕ) (gs : Glyphs)
    → map view (map (in_cluster m) gs) ≡ map (in_cluster m) (map view gs)
put-through view passes m [] = refl
put-through view passes m (g ∷ gs) = cc (passes.put m g, put-through view passes m gs)

pub clusters-through : (view : Glyph → Glyph) → PassesMerges view → (gs : Glyphs)
    → clusters (map view gs) ≡ clusters gs
clusters-through view passes [] = refl
clusters-through view passes (g ∷ gs) = cc (passes.cluster g, clusters-through view passes gs)

first-through : (view : Glyph → Glyph) → PassesMerges view → (gs : Glyphs)
    → first_cluster (map view gs) ≡ first_cluster gs
first-through view passes [] = refl
first-through view passes (g ∷ gs) = passes.cluster g

last-through : (view : Glyph → Glyph) → PassesMerges view → (gs : Glyphs)
    → last_cluster (map view gs) ≡ last_cluster gs
last-through view passes gs = cc (map-reverse view gs, first-through view passes (reverse gs))

-- a merge, several, and steps, seen through the view
pub merge-through : (view : Glyph → Glyph) → PassesMerges view → (level : BufferClusterLevel) (s e : ℕ) (gs : Glyphs)
    → map view (merge level s e gs) ≡ merge level s e (map view gs)
merge-through view passes level s e gs =
    ap (map view) (merge_is level s e gs)
    ∙ two_sides (e - s) (merges level) (λ x y. map view x ≡ y) (flood_merged s e gs) gs
    (flood_merged s e (map view gs)) (map view gs) refl
    (λ two. search (arith, map-append, map-reverse, flooded-through, put-through, clusters-through, last-through, take-map, drop-map)) ∙ sym (merge_is level s e (map view gs))

pub merge_all-through : (view : Glyph → Glyph) → PassesMerges view
    → (level : BufferClusterLevel) (sts : List (ℕ × ℕ)) (gs : Glyphs) → map view (merge_all level sts gs)
    ≡ merge_all level sts (map view gs)
merge_all-through view passes level [] gs = refl
merge_all-through view passes level (st ∷ sts) gs =
    search (merge-through, merge_all-through view passes level sts (merge level st.0 st.1 gs))

pub after_step-through : (view : Glyph → Glyph) → PassesMerges view
    → (level : BufferClusterLevel) (step : Step) (gs : Glyphs) → map view (after_step level step gs)
    ≡ after_step level step (map view gs)
after_step-through view passes level step gs = cc (
  merge_all-through view passes level step.merged_then (pick step.places (merge_all level step.merged_first gs)),
  pick-map view step.places (merge_all level step.merged_first gs),
  merge_all-through view passes level step.merged_first gs,
)

pub after_steps-through : (view : Glyph → Glyph) → PassesMerges view
    → (level : BufferClusterLevel) (steps : List Step) (gs : Glyphs) → map view (after_steps level steps gs)
    ≡ after_steps level steps (map view gs)
after_steps-through view passes level [] gs = refl
after_steps-through view passes level (step ∷ steps) gs =
    search (after_step-through, after_steps-through view passes level steps (after_step level step gs))

-- what looks the same through the view still does after the same merges, moves and steps
pub merge-same : (view : Glyph → Glyph) → PassesMerges view → (level : BufferClusterLevel) (s e : ℕ) (xs ys : Glyphs)
    → map view xs ≡ map view ys → map view (merge level s e xs) ≡ map view (merge level s e ys)
merge-same view passes level s e xs ys same =
    cc (merge-through view passes level s e xs, merge-through view passes level s e ys)

pub merge_all-same : (view : Glyph → Glyph) → PassesMerges view
    → (level : BufferClusterLevel) (sts : List (ℕ × ℕ)) (xs ys : Glyphs) → map view xs ≡ map view ys
    → map view (merge_all level sts xs) ≡ map view (merge_all level sts ys)
merge_all-same = search (arith, merge_all-through)

pub pick-same : (view : Glyph → Glyph) (places : List ℕ) (xs ys : Glyphs)
    → map view xs ≡ map view ys → map view (pick places xs) ≡ map view (pick places ys)
pick-same view places xs ys same = cc (pick-map view places xs, pick-map view places ys)

pub after_steps-same : (view : Glyph → Glyph) → PassesMerges view
    → (level : BufferClusterLevel) (steps : List Step) (xs ys : Glyphs) → map view xs ≡ map view ys
    → map view (after_steps level steps xs) ≡ map view (after_steps level steps ys)
after_steps-same = search (arith, after_steps-through)

-- as many glyphs look the same
pub length-same : (view : Glyph → Glyph) (xs ys : Glyphs) → map view xs ≡ map view ys → length xs ≡ length ys
length-same = search (arith, length-map)
