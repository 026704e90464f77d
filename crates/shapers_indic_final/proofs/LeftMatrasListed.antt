-- The left matras listed behind what stays, and the clusters of the two runs written.
use Rattle.std.proofs.Common.{◌≡◌, ℕ, zero, suc, ◌+◌, ◌-◌, ◌≤◌, Bool, not, List, ◌++◌, filter, length, take, drop, refl, sym, ap, ◌∙◌, append_assoc, arith, length-append}
use Rattle.std.proofs.lemmas.List.{drop-drop, take-append-drop}
use Rattle.shapers_buffer.specs.Glyph.{default_glyph}
use Rattle.shapers_clusters.proofs.Picks.{pick-within}
use Rattle.shapers_indic_final.proofs.LeftMatraSteps.{Lies}
use Rattle.std.specs.List.{range_with_len}
use Rattle.std.specs.List.Sorted.{IsPermutation}
use Rattle.std.proofs.lemmas.List.FromFn.{length-range_with_len}
use Rattle.std.proofs.lemmas.List.Sorted.{IsPermutation-filter_both, length_permutation}
use Rattle.shapers_buffer.specs.Glyphs.{Glyphs}
use Rattle.shapers_buffer.specs.declared.buffer.level.BufferClusterLevel.{BufferClusterLevel}
use Rattle.shapers_buffer.specs.Buffer.{Buffer}
use Rattle.shapers_buffer.specs.Clusters.{stretch_of, with_stretch}
use Rattle.shapers_buffer.specs.ListingWalk.{with_listed}
use Rattle.shapers_buffer.specs.Places.{listed, pick, placed}
use Rattle.shapers_buffer.proofs.ClusterLemmas.{length-stretch}
use Rattle.shapers_buffer.proofs.Listing.{lists, with_listed-append}
use Rattle.shapers_clusters.proofs.Picks.{pick-append}
use Rattle.shapers_indic.specs.Glyphs.{places}
use Rattle.shapers_indic_final.specs.declared.ot_shaper_indic_final.left_matras.MergedRanges.{MergedRanges}
use Rattle.shapers_indic_final.specs.LeftMatraWalk.{as_partitioned, gone, has_gone, has_stayed, merge_stretch, staying}
use Rattle.shapers_indic_final.specs.Proved.LeftMatraMoves.{stretch_between}
use Rattle.shapers_indic_final.proofs.LeftMatraPlaces.{chosen, chosen-all, chosen-none, chosen-split, gone_before}
use Rattle.shapers_indic_final.proofs.LeftMatraSplit.{both_long, length-merge_stretch}

-- both lists have each place once
pub parted_once : (s top e : ℕ) (gs : Glyphs)
    → IsPermutation (places s e) (filter (has_stayed s top gs) (places s e) ++ filter (has_gone s top gs) (places s e))
parted_once = search (arith, IsPermutation-filter_both)

pub parted_long : (s top e : ℕ) (gs : Glyphs)
    → length (filter (has_stayed s top gs) (places s e)) + length (filter (has_gone s top gs) (places s e)) ≡ e - s
parted_long s top e gs =
    let xs = filter (has_stayed s top gs) (places s e) in
    let ys = filter (has_gone s top gs) (places s e) in
    cc (
      length_permutation (places s e) (xs ++ ys) (parted_once s top e gs),
      length-append xs ys,
      length-range_with_len s (e - s),
    )

-- what the two walks list
pub parted_listed : (s top e at : ℕ) (b0 b1 b2 : Buffer)
    → b1 ≡ record b0 { places = with_listed s (filter (has_stayed s top b0.glyphs) (places s e)) b0.places }
    → at ≡ s + length (filter (has_stayed s top b0.glyphs) (places s e))
    → b2 ≡ record b1 { places = with_listed at (filter (has_gone s top b1.glyphs) (places s e)) b1.places }
    → (b2 ≡ record b0 { places = b2.places })
    × (listed s e b2.places ≡ filter (has_stayed s top b0.glyphs) (places s e)
    ++ filter (has_gone s top b0.glyphs) (places s e))
parted_listed = search (arith, with_listed-append, lists, length-append, parted_long)

-- the glyphs put so
pub parted_placed : (s top e : ℕ) (ps : List ℕ) (gs : Glyphs) → s ≤ e → e ≤ length gs
    → listed s e ps ≡ filter (has_stayed s top gs) (places s e) ++ filter (has_gone s top gs) (places s e)
    → placed s e ps gs ≡ staying s top gs 0 e ++ (gone s top gs 0 e ++ drop e gs)
parted_placed s top e ps gs h w is =
    let t = has_stayed s top gs in
    let u = has_gone s top gs in
    search (
      arith,
      pick-append (filter t (places s e)) (filter u (places s e)) gs,
      append_assoc (staying s top gs s e) (gone s top gs s e) (drop e gs),
      append_assoc (take s gs) (staying s top gs s e) (gone s top gs s e ++ drop e gs),
      chosen-split t gs 0 s e (omega arith) h,
      chosen-all t gs 0 s (omega arith) (omega arith) (λ j a z. ap not (gone_before s top j gs z)),
      chosen-split u gs 0 s e (omega arith) h,
      chosen-none u gs 0 s (λ j a z. gone_before s top j gs z),
    )

-- how many are picked
length_pick : (t : ℕ → Bool) (a n : ℕ) (gs : Glyphs) → a + n ≤ length gs
    → length (pick (filter t (range_with_len a n)) gs) ≡ length (filter t (range_with_len a n))
length_pick t a zero gs h = refl
length_pick t a (suc n) gs h = search (
  arith,
  pick-within default_glyph a (filter t (range_with_len (a + 1) n)) gs (omega arith),
  length_pick t (a + 1) n gs (omega arith),
)

pub length-chosen : (t : ℕ → Bool) (gs : Glyphs) (a b : ℕ) → a ≤ b → b ≤ length gs
    → length (chosen t gs a b) ≡ length (filter t (places a b))
length-chosen = search (arith, length_pick)

-- the clusters of the two runs written
pub parted_written : (level : BufferClusterLevel) (s top p b at len : ℕ) (runs : MergedRanges) (gs : Glyphs)
    → s ≤ p → p ≤ b → Lies p b runs gs → at ≡ s + length (filter (has_stayed s top gs) (places s p))
    → len ≡ length (filter (has_stayed s top gs) (places runs.start p)) → (len ≤ at) × (at ≤ runs.end)
    × (with_stretch at runs.end (merge_stretch level runs.cluster)
    (with_stretch (at - len) at (merge_stretch level runs.before) (staying s top gs 0 p ++ (gone s top gs 0 p ++ drop p gs)))
    ≡ as_partitioned level s top p runs gs)
parted_written level s top p b at len runs gs h l lies to many =
    let t = has_stayed s top gs in
    let q = runs.start in
    let c = runs.before in
    let e0 = lies.end in
    let S1 = staying s top gs 0 q in
    let S2 = staying s top gs q p in
    let G = gone s top gs 0 p in
    let D = stretch_of p runs.end gs in
    let H = drop runs.end gs in
    let low : length (staying s top gs 0 s) ≡ s = ap length
    (chosen-all t gs 0 s (omega arith) (omega arith) (λ j a z. ap not (gone_before s top j gs z)))
    ∙ length-stretch 0 s gs (omega arith) ∙ omega arith in
    let n : length (staying s top gs 0 p) ≡ at = ap length (chosen-split t gs 0 s p (omega arith) h)
    ∙ length-append (staying s top gs 0 s) (staying s top gs s p)
    ∙ omega (arith, length-chosen t gs s p h (omega arith)) in
    let n2 = length-chosen t gs q p (omega arith) (omega arith) ∙ sym many in
    let sum = ap length (chosen-split t gs 0 q p (omega arith) (omega arith)) ∙ length-append S1 S2 in
    let bn = ap (λ k. at + k) (length-append G D)
    ∙ omega (arith, both_long (has_gone s top gs) gs p (omega arith), n, length-stretch p runs.end gs e0) in
    search (
      arith,
      chosen-split t gs 0 q p (omega arith) (omega arith),
      append_assoc S1 S2 (G ++ drop p gs),
      stretch_between (merge_stretch level c) (at - len) at S1 S2 (G ++ drop p gs) (omega (arith, sum, n, n2))
          (omega (arith, sum, n, n2)),
      append_assoc S1 (merge_stretch level c S2) (G ++ drop p gs),
      drop-drop (runs.end - p) p gs,
      take-append-drop (runs.end - p) (drop p gs),
      append_assoc G D H,
      stretch_between (merge_stretch level runs.cluster) at runs.end (S1 ++ merge_stretch level c S2) (G ++ D) H
          (length-append S1 (merge_stretch level c S2) ∙ omega (arith, length-merge_stretch level c S2, sum, n)) bn,
    )
