-- Words of the code's walks that merge by ranges: how far a merge reaches over neighbours, and when
-- a range is carried on.
use Rattle.std.specs.Prelude.{ℕ, ◌+◌, ◌<◌, ◌≤◌, ◌==◌, ◌≡◌, true, if◌then◌else◌}
use Rattle.std.specs.List.{list_all, prefix_len, suffix_len}
use Rattle.shapers_buffer.specs.declared.buffer.cluster_ranges.ClusterRange.{ClusterRange}
use Rattle.shapers_buffer.specs.Glyphs.{Glyphs}
use Rattle.shapers_buffer.specs.Clusters.{has_cluster, stretch_of}

-- how many glyphs of cluster c end the list, if these come into cluster m and that is another one
abbrev pub equal_before : ℕ → ℕ → Glyphs → ℕ
equal_before c m gs = if c == m then 0 else suffix_len (has_cluster c) gs

-- how many of cluster c open it
abbrev pub equal_behind : ℕ → ℕ → Glyphs → ℕ
equal_behind c m gs = if c == m then 0 else prefix_len (has_cluster c) gs

-- The range goes on to the glyph at s, if there is a range before it and all glyphs from its end to
-- that one are in its cluster.
abbrev pub ReachesGlyph : ℕ → ClusterRange → Glyphs → ClusterRange → Type 0
ReachesGlyph s run gs reached = run.start < run.end → run.end ≤ s
    → list_all (has_cluster run.cluster) (stretch_of run.end (s + 1) gs) ≡ true → s < reached.end
