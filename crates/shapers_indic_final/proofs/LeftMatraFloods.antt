-- How far a merge floods over what has stayed before it, and over what follows it.
use Rattle.std.proofs.Common.{◌≡◌, ◌≢◌, ℕ, ◌+◌, ◌-◌, ◌<◌, ◌≤◌, ◌==◌, true, false, [], ◌∷◌, ◌++◌, min, map, length, get_or, reverse, refl, sym, ◌∙◌, append_assoc, arith, length-append}
use Rattle.std.specs.Prelude.{fold}
use Rattle.std.specs.List.{list_all}
use Rattle.std.proofs.Math.ListN.{get_or-map}
use Rattle.std.proofs.lemmas.List.{drop_at, reverse-append, take_at}
use Rattle.std.proofs.lemmas.Bool.{and_parts}
use Rattle.shapers_buffer.specs.Glyphs.{Glyph, Glyphs}
use Rattle.shapers_buffer.specs.Glyph.{clusters, default_glyph}
use Rattle.shapers_buffer.specs.Clusters.{flooded, has_cluster, in_cluster, merged}
use Rattle.shapers_buffer.proofs.ClusterLemmas.{merged_is}
use Rattle.shapers_buffer.proofs.OneCluster.{last_of_end, last_stays, least_stays}
use Rattle.shapers_indic_final.specs.LeftMatraWalk.{Reaches, has_stayed, flood_passes, staying}
use Rattle.shapers_indic_final.proofs.LeftMatraPlaces.{chosen-one, chosen-split}

-- a flood over glyphs that are all in its cluster
pub flooded_all : (c m : ℕ) (gs behind : Glyphs) → list_all (has_cluster c) gs ≡ true
    → flooded c m (gs ++ behind) ≡ map (in_cluster m) gs ++ flooded c m behind
flooded_all c m [] behind all = refl
flooded_all c m (g ∷ gs) behind all =
    let parts = and_parts (g.cluster == c) (list_all (has_cluster c) gs) all in
    cc (flooded_all c m gs behind parts.1)

-- one that meets glyphs of another cluster
pub back_none : (x c m : ℕ) (before gs : Glyphs) → x ≢ c → 0 < length gs → list_all (has_cluster c) gs
    ≡ true → flooded x m (reverse (before ++ gs)) ≡ reverse (before ++ gs)
back_none x c m before [] other some all = absurd (omega arith)
back_none x c m before (g ∷ []) other some all = search (arith, reverse-append)
back_none x c m before (g ∷ (k ∷ gs)) other some all = search (
  arith,
  append_assoc,
  back_none x c m (before ++ g ∷ []) (k ∷ gs) other (omega arith)
      (and_parts (g.cluster == c) (list_all (has_cluster c) (k ∷ gs)) all).1,
)

-- the least of glyphs in one cluster, with another before them
least_with : (a c : ℕ) (gs : Glyphs) → 0 < length gs → list_all (has_cluster c) gs ≡ true
    → fold min a (clusters gs) ≡ min a c
least_with a c [] some all = absurd (omega arith)
least_with a c (g ∷ gs) some all = search (arith, least_stays)

-- the merge of a glyph with glyphs in one cluster, between what stands before them and behind them
pub merged_before : (at end m : ℕ) (front : Glyphs) (y : Glyph) (zs behind : Glyphs) → length front ≡ at
    → end ≡ at + 1 + length zs → 0 < length zs → list_all (has_cluster m) zs ≡ true
    → merged at end (front ++ ((y ∷ zs) ++ behind)) ≡ reverse (flooded y.cluster (min y.cluster m) (reverse front))
    ++ (map (in_cluster (min y.cluster m)) (y ∷ zs) ++ flooded m (min y.cluster m) behind)
merged_before at end m front y zs behind long to some all = search (
  arith,
  merged_is at end (front ++ ((y ∷ zs) ++ behind)) (omega arith),
  drop_at front ((y ∷ zs) ++ behind) at long,
  take_at (y ∷ zs) behind (end - at) (omega arith),
  take_at front ((y ∷ zs) ++ behind) at long,
  append_assoc front (y ∷ zs) behind,
  drop_at (front ++ (y ∷ zs)) behind end (length-append front (y ∷ zs) ∙ omega arith),
  least_with y.cluster m zs some all,
  last_of_end (y ∷ []) zs some,
  last_stays m zs some all,
)

-- the cluster that is read of a glyph
pub cluster_read : (gs : Glyphs) (j : ℕ) → j < length gs → (get_or gs j default_glyph).cluster
    ≡ get_or (clusters gs) j 0
cluster_read gs j h = sym (get_or-map (λ (g : Glyph). g.cluster) gs j default_glyph)

-- How far the walk back has come.
abbrev pub Passes : ℕ → ℕ → ℕ → ℕ → ℕ → Glyphs → Type 0
Passes i top c from j gs = (j ≤ from) × (list_all (has_cluster c) (staying i top gs j from) ≡ true)

pub reaches_more : (i top c from k j : ℕ) (gs : Glyphs) → k + 1 ≡ j → j ≤ length gs
    → Passes i top c from j gs → flood_passes i top c gs k ≡ true → Passes i top c from k gs
reaches_more i top c from k j gs one within so passed =
    let t = has_stayed i top gs in
    search (arith, chosen-split t gs k (k + 1) from (omega arith) (omega arith), chosen-one t gs k (omega arith), cluster_read gs k (omega arith))

pub reaches_here : (i top c from j : ℕ) (gs : Glyphs) → 0 < j → j ≤ length gs → Passes i top c from j gs
    → flood_passes i top c gs (j - 1) ≡ false → Reaches i top c from (j - 1 + 1) gs
reaches_here i top c from j gs some within so fails =
    let k = j - 1 in
    let t = has_stayed i top gs in
    search (arith, chosen-split t gs 0 k (k + 1) (omega arith) (omega arith), chosen-one t gs k (omega arith), reverse-append (staying i top gs 0 k) ((get_or gs k default_glyph) ∷ []), cluster_read gs k (omega arith))
