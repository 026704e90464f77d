-- Steps that move only inside what they merge: all their merges, and then all their moves at once.
use Rattle.std.proofs.Common.{◌≡◌, ℕ, ◌<◌, inl, inr, true, List, [], ◌∷◌, length, drop, get_or, refl, ap, sym, ◌∙◌, subst, arith}
use Rattle.std.specs.List.{AllByRecursion, AllZip}
use Rattle.std.proofs.lemmas.Bool.{cases_Bool}
use Rattle.std.proofs.lemmas.List.{length-map}
use Rattle.shapers_buffer.specs.Glyphs.{Glyph, Glyphs}
use Rattle.shapers_buffer.specs.declared.buffer.level.BufferClusterLevel.{BufferClusterLevel}
use Rattle.shapers_buffer.specs.Clusters.{in_cluster, merge_all, merges}
use Rattle.shapers_buffer.specs.Glyph.{clusters}
use Rattle.shapers_buffer.specs.Places.{pick}
use Rattle.shapers_clusters.specs.Cuts.{ShareCluster}
use Rattle.shapers_clusters.specs.Flags.{FallsTo}
use Rattle.shapers_clusters.specs.ClusterMerges.{joined_all}
use Rattle.shapers_clusters.specs.Steps.{MovesMerged, Step, all_first, old_places, after_steps}
use Rattle.shapers_clusters.proofs.Falls.{merge_all-falls}
use Rattle.shapers_clusters.proofs.Moves.{clusters-merge_all, clusters-after_steps, clusters_stay, end_within-all_first, falls-after_steps, joined-merged_steps, length-old_places, merge_all-unmerged, merged_fits, after_steps-unmerged, share-moved, within-old_places}
use Rattle.shapers_clusters.proofs.Neighbours.{length-joined_all}
use Rattle.shapers_clusters.proofs.Picks.{AllZip-pick, pick-map}

-- glyphs that fall from the same ones to the same clusters are the same
same_fall : (zs xs ys : Glyphs) → AllZip FallsTo zs xs → AllZip FallsTo zs ys → clusters xs ≡ clusters ys
    → xs ≡ ys
same_fall [] [] [] h i same = refl
same_fall (z ∷ zs) (x ∷ xs) (y ∷ ys) h i same =
    let first : x.cluster ≡ y.cluster = ap (λ cs. get_or cs 0 0) same in
    let rest : clusters xs ≡ clusters ys = ap (drop 1) same in
    let one : x ≡ y = h.0.1 ∙ ap (λ c. in_cluster c z) first ∙ sym i.0.1 in
    ap (λ w. w ∷ xs) one ∙ ap (λ ws. y ∷ ws) (same_fall zs xs ys h.1 i.1 rest)
same_fall [] (x ∷ xs) ys h i same = absurd h
same_fall [] [] (y ∷ ys) h i same = absurd i
same_fall (z ∷ zs) [] ys h i same = absurd h
same_fall (z ∷ zs) (x ∷ xs) [] h i same = absurd i

moved_clusters : (level : BufferClusterLevel) → merges level ≡ true → (steps : List Step) (cs : List ℕ)
    → AllByRecursion (MovesMerged (length cs)) steps
    → pick (old_places (length cs) steps) (joined_all level (all_first steps) cs)
    ≡ joined_all level (all_first steps) cs
moved_clusters level m steps cs f =
    let n = length cs in
    let olds = old_places n steps in
    let js = joined_all level (all_first steps) cs in
    let k : length js ≡ n = length-joined_all level (all_first steps) cs (end_within-all_first n steps f) in
    let many : length olds ≡ n = length-old_places n steps (merged_fits n steps f) in
    let within = within-old_places n steps in
    clusters_stay js olds (many ∙ sym k) (subst (λ j. AllByRecursion (λ p. p < j) olds) (sym k) within)
    (λ p l.
    let share = subst (λ xs. ShareCluster xs p (get_or olds p 0)) (joined-merged_steps level m steps cs f)
    (share-moved level m steps cs f p (omega arith)) in
    share (get_or olds p 0) (omega arith) (omega arith))

pub run_at_once : (level : BufferClusterLevel) (steps : List Step) (gs : Glyphs)
    → AllByRecursion (MovesMerged (length gs)) steps
    → after_steps level steps gs ≡ pick (old_places (length gs) steps) (merge_all level (all_first steps) gs)
run_at_once level steps gs f =
    let n = length gs in
    let olds = old_places n steps in
    let ms = merge_all level (all_first steps) gs in
    elim (cases_Bool (merges level)) [
      | inl on ↦
          let cs = clusters gs in
          let size : length cs ≡ n = length-map gs (λ g. g.cluster) in
          let g = subst (λ k. AllByRecursion (MovesMerged k) steps) (sym size) f in
          let x = (falls-after_steps level steps gs (merged_fits n steps f)).1 in
          let y = AllZip-pick FallsTo olds gs ms
          (merge_all-falls level (all_first steps) gs (end_within-all_first n steps f)) in
          let first : clusters (after_steps level steps gs) ≡ joined_all level (all_first steps) cs =
          clusters-after_steps level steps gs ∙ joined-merged_steps level on steps cs g in
          let second : clusters (pick olds ms) ≡ joined_all level (all_first steps) cs =
          sym (pick-map (λ (g : Glyph). g.cluster) olds ms)
          ∙ ap (pick olds) (clusters-merge_all level (all_first steps) gs)
          ∙ ap (λ k. pick (old_places k steps) (joined_all level (all_first steps) cs)) (sym size)
          ∙ moved_clusters level on steps cs g in
          same_fall (pick olds gs) (after_steps level steps gs) (pick olds ms) x y (first ∙ sym second)
      | inr off ↦ after_steps-unmerged level off steps gs
          ∙ ap (pick olds) (sym (merge_all-unmerged level off (all_first steps) gs))
    ]
