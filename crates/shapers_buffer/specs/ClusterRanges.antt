-- Ranges of glyphs that merges put into one cluster, which is written behind the last of them.
use Rattle.std.specs.Prelude.{ℕ, ◌≡◌, ◌≤◌, nat_le, Bool, true, length, map}
use Rattle.std.specs.List.{list_all}
use Rattle.shapers_buffer.specs.Glyphs.{Glyphs}
use Rattle.shapers_buffer.specs.declared.buffer.cluster_ranges.ClusterRange.{ClusterRange}
use Rattle.shapers_buffer.specs.Clusters.{in_cluster, stretch_of, with_stretch}

-- the glyphs, with those of the range in its cluster
abbrev pub with_range : ClusterRange → Glyphs → Glyphs
with_range range gs = with_stretch range.start range.end (map (in_cluster range.cluster)) gs

-- whether no glyph has a cluster below m
abbrev pub none_below : ℕ → Glyphs → Bool
none_below m gs = list_all (λ g. nat_le m g.cluster) gs

-- the range lies among these glyphs, and none of its own has a cluster below the range's
pub record RangeFits (range : ClusterRange) (gs : Glyphs) : Type 0 where
  pub in_order : range.start ≤ range.end
  pub in_range : range.end ≤ length gs
  pub least : none_below range.cluster (stretch_of range.start range.end gs) ≡ true
