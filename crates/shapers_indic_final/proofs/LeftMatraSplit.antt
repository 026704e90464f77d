-- The glyphs as they stand when a left matra is met, in parts: what stands before it, and what from it to its place.
use Rattle.std.proofs.Common.{◌≡◌, ◌≢◌, ℕ, zero, suc, ◌+◌, ◌-◌, ◌<◌, ◌≤◌, inl, inr, Bool, true, false, not, nat_le, nat_lt, ◌∷◌, ◌++◌, map, length, get_or, slice_index, refl, ap, ◌∙◌, append_assoc, arith, length-append, if◌then◌else◌}
use Rattle.std.proofs.lemmas.List.{length-map, map-append}
use Rattle.std.proofs.lemmas.List.Folds.{list_all-append}
use Rattle.std.proofs.lemmas.Bool.{and_parts, cases_lt, leb-true}
use Rattle.shapers_buffer.specs.Glyphs.{Glyph, Glyphs}
use Rattle.shapers_buffer.specs.declared.buffer.level.BufferClusterLevel.{BufferClusterLevel}
use Rattle.shapers_buffer.specs.Glyph.{clusters, default_glyph}
use Rattle.shapers_buffer.specs.Clusters.{in_cluster, merges}
use Rattle.shapers_buffer.specs.ClusterRanges.{none_below}
use Rattle.shapers_buffer.proofs.ClusterLemmas.{length-stretch}
use Rattle.shapers_indic.specs.Glyphs.{passes}
use Rattle.shapers_indic_final.specs.FinalMatras.{is_left}
use Rattle.shapers_indic_final.specs.LeftMatraWalk.{gone, has_gone, has_stayed, merge_stretch, staying}
use Rattle.shapers_buffer.proofs.RunLemmas.{put_twice}
use Rattle.shapers_indic_final.proofs.LeftMatraFloods.{cluster_read}
use Rattle.shapers_indic_final.proofs.LeftMatraPlaces.{chosen, chosen-all, chosen-none, chosen-one, chosen-same, chosen-split, gone_before, gone_elsewhere, gone_here, one_before}

-- glyphs put into a cluster
pub put_on : (level : BufferClusterLevel) (m : ℕ) (gs : Glyphs) → merges level ≡ true
    → merge_stretch level m gs ≡ map (in_cluster m) gs
put_on level m gs on = cc

pub put_off : (level : BufferClusterLevel) (m : ℕ) (gs : Glyphs) → merges level ≡ false → merge_stretch level m gs ≡ gs
put_off level m gs off = cc

pub merge_stretch-append : (level : BufferClusterLevel) (m : ℕ) (xs ys : Glyphs)
    → merge_stretch level m (xs ++ ys) ≡ merge_stretch level m xs ++ merge_stretch level m ys
merge_stretch-append = search (arith, map-append)

pub length-merge_stretch : (level : BufferClusterLevel) (m : ℕ) (gs : Glyphs) → length (merge_stretch level m gs) ≡ length gs
length-merge_stretch = search (arith, length-map)

abbrev pub put_one : BufferClusterLevel → ℕ → Glyph → Glyph
put_one level m g = if merges level then in_cluster m g else g

merge_stretch-cons : (level : BufferClusterLevel) (m : ℕ) (g : Glyph) (gs : Glyphs)
    → merge_stretch level m (g ∷ gs) ≡ put_one level m g ∷ merge_stretch level m gs
merge_stretch-cons = search arith

cluster_put : (m : ℕ) (g : Glyph) → (in_cluster m g).cluster ≡ m
cluster_put = grind arith

-- all that has gone, and one more
pub gone_more : (k top p : ℕ) (gs : Glyphs) → k < top → top ≤ p → p ≤ length gs
    → passes is_left gs k ≡ true → gone k top gs 0 p ≡ get_or gs k default_glyph ∷ gone (k + 1) top gs 0 p
gone_more k top p gs h l w left =
    let v = has_gone (k + 1) top gs in
    let u = has_gone k top gs in
    cc (
      one_before u gs 0 k p (omega arith) (omega arith) (omega arith),
      chosen-none u gs 0 k (λ j a b. gone_before k top j gs b),
      gone_here k top gs h,
      chosen-split v gs 0 (k + 1) p (omega arith) (omega arith),
      chosen-none v gs 0 (k + 1) (λ j a b. gone_before (k + 1) top j gs b),
      chosen-same v u gs (k + 1) p (λ j a b. gone_elsewhere k top j gs (λ e. absurd (omega arith))),
    )

-- how many stay and go
pub both_long : (t : ℕ → Bool) (gs : Glyphs) (b : ℕ) → b ≤ length gs
    → length (chosen t gs 0 b) + length (chosen (λ j. not (t j)) gs 0 b) ≡ b
both_long t gs zero w = refl
both_long t gs (suc b) w =
    let u : ℕ → Bool = λ j. not (t j) in
    search (
      arith,
      chosen-split t gs 0 b (b + 1) (omega arith) (omega arith),
      length-append (chosen t gs 0 b) (chosen t gs b (b + 1)),
      chosen-one t gs b (omega arith),
      chosen-split u gs 0 b (b + 1) (omega arith) (omega arith),
      length-append (chosen u gs 0 b) (chosen u gs b (b + 1)),
      chosen-one u gs b (omega arith),
      both_long t gs b (omega arith),
    )

pub record Split (level : BufferClusterLevel) (k top p q c : ℕ) (gs : Glyphs) : Type 0 where
  pub front : Glyphs
  pub back : Glyphs
  pub y : Glyph
  pub before : staying (k + 1) top gs 0 q ++ merge_stretch level c (staying (k + 1) top gs q p) ≡ front ++ (y ∷ back)
  pub after : staying k top gs 0 q ++ merge_stretch level c (staying k top gs q p) ≡ front ++ back
  pub long : length front ≡ k
  pub own : merges level ≡ true → y.cluster ≡ (if nat_lt k q then slice_index (clusters gs) k else c)
  pub same : merges level ≡ true → (m : ℕ) → m ≤ y.cluster → in_cluster m y ≡ in_cluster m (get_or gs k default_glyph)
  pub above : merges level ≡ true → y.cluster ≤ (get_or gs k default_glyph).cluster
  pub plain : merges level ≡ false → y ≡ get_or gs k default_glyph
  pub kept : merges level ≡ true → none_below c (staying k top gs q p) ≡ true

pub split : (level : BufferClusterLevel) (k top p q c : ℕ) (gs : Glyphs) → k < top → top ≤ p
    → p ≤ length gs → q ≤ p → passes is_left gs k ≡ true
    → (merges level ≡ true → none_below c (staying (k + 1) top gs q p) ≡ true) → Split level k top p q c gs
split level k top p q c gs h l w within left none =
    let t = has_stayed (k + 1) top gs in
    let u = has_stayed k top gs in
    let g = get_or gs k default_glyph in
    let tk : has_stayed (k + 1) top gs k ≡ true = search (arith, gone_before) in
    let uk : has_stayed k top gs k ≡ false = ap not (gone_here k top gs h ∙ left) in
    let same : (a b : ℕ) → ((j : ℕ) → a ≤ j → j < b → j ≢ k) → staying (k + 1) top gs a b ≡ staying k top gs a b =
    λ a b other. chosen-same t u gs a b (λ j m n. search (arith, gone_elsewhere)) in
    let old : (a b : ℕ) → a ≤ k → k < b → staying (k + 1) top gs a b ≡ staying k top gs a k
    ++ (g ∷ staying k top gs (k + 1) b) = λ a b m n.
    cc (
      one_before t gs a k b m n (omega arith),
      same a k (λ j x z e. absurd (omega arith)),
      same (k + 1) b (λ j x z e. absurd (omega arith)),
    ) in
    let new : (a b : ℕ) → a ≤ k → k < b → staying k top gs a b ≡ staying k top gs a k ++ staying k top gs (k + 1) b =
    λ a b m n. cc (one_before u gs a k b m n (omega arith)) in
    let many : (a b : ℕ) → a ≤ b → b ≤ k → length (staying k top gs a b) ≡ b - a =
    search (arith, chosen-all, gone_before, length-stretch) in
    elim (cases_lt k q) [
      | inl less ↦
          record {
            front = staying k top gs 0 k;
            back = staying k top gs (k + 1) q ++ merge_stretch level c (staying k top gs q p);
            y = g;
            before = search (arith, append_assoc);
            after = search (arith, append_assoc);
            long = search arith;
            own = search (arith, cluster_read);
            same = λ on m z. refl;
            above = λ on. omega arith;
            plain = λ off. refl;
            kept = search arith;
          }
      | inr more ↦
          let A = staying k top gs q k in
          let B = staying k top gs (k + 1) p in
          let parts : merges level ≡ true → (none_below c (staying k top gs q k) ≡ true)
          × (none_below c (g ∷ staying k top gs (k + 1) p) ≡ true) = search (arith, and_parts, list_all-append) in
          let high : merges level ≡ true → c ≤ g.cluster = search (arith, leb-true, and_parts) in
          let is : merges level ≡ true → put_one level c g ≡ in_cluster c g = search arith in
          record {
            front = staying k top gs 0 q ++ merge_stretch level c (staying k top gs q k);
            back = merge_stretch level c (staying k top gs (k + 1) p);
            y = put_one level c g;
            before = cc (
              same 0 q (λ j x z e. absurd (omega arith)),
              old q p (omega arith) (omega arith),
              merge_stretch-append level c A (g ∷ B),
              merge_stretch-cons level c g B,
              append_assoc (staying k top gs 0 q) (merge_stretch level c A) (put_one level c g ∷ merge_stretch level c B),
            );
            after = cc (
              new q p (omega arith) (omega arith),
              merge_stretch-append level c A B,
              append_assoc (staying k top gs 0 q) (merge_stretch level c A) (merge_stretch level c B),
            );
            long = length-append (staying k top gs 0 q) (merge_stretch level c A)
                ∙ omega (
                  arith,
                  many 0 q (omega arith) (omega arith),
                  length-merge_stretch level c A,
                  many q k (omega arith) (omega arith),
                );
            own = search (arith, cluster_put);
            same = λ on m z. ap (in_cluster m) (is on)
                ∙ put_twice m c g (omega (arith, ap (λ (x : Glyph). x.cluster) (is on) ∙ cluster_put c g, z))
                (high on);
            above = search (arith, cluster_put);
            plain = search arith;
            kept = λ on. ap (none_below c) (new q p (omega arith) (omega arith))
                ∙ list_all-append (λ x. nat_le c x.cluster) A B
                ∙ (rw ((parts on).0, (and_parts (nat_le c g.cluster) (none_below c B) (parts on).1).1) refl);
          }
    ]
