-- Groups of glyphs in front of a place where merges go on, each of which one glyph stands for.
use Rattle.std.specs.Prelude.{ℕ, zero, suc, ◌+◌, ◌-◌, ◌^◌, ◌≡◌, ◌<◌, ◌≤◌, ◌⊎◌, List, [], ◌∷◌, ◌++◌, drop, get_or, length, map, min, slice_set, take, true}
use Rattle.shapers_buffer.specs.Glyphs.{Glyph, Glyphs}
use Rattle.shapers_buffer.specs.ClusterRanges.{none_below}
use Rattle.shapers_buffer.specs.Clusters.{first_cluster, in_cluster, last_cluster, least, stretch_of}
use Rattle.shapers_buffer.specs.Glyph.{clusters, default_glyph, order_view}
use Rattle.shapers_clusters.specs.declared.carried_groups.CarriedGroups.{CarriedGroups}
use Rattle.shapers_buffer.specs.declared.buffer.group_room.ClusterGroup.{ClusterGroup}

-- the last of these glyphs, if there is one, has a cluster above c
abbrev pub EndsAbove : ℕ → Glyphs → Type 0
EndsAbove c gs = 0 < length gs → c < last_cluster gs

-- how many glyphs the groups have
abbrev pub groups_len : List Glyphs → ℕ
groups_len [] = 0
groups_len (group ∷ groups) = length group + groups_len groups

-- the list with a group in place of each of its first glyphs, in the cluster of that glyph
abbrev pub spread_groups : List Glyphs → Glyphs → Glyphs
spread_groups [] gs = gs
spread_groups (group ∷ groups) [] = []
spread_groups (group ∷ groups) (g ∷ gs) =
    map (in_cluster g.cluster) group ++ spread_groups groups gs

-- each of the first glyphs of the list stands for a group, which isn't empty, and in which no glyph
-- has a cluster below its own
abbrev pub StandFor : List Glyphs → Glyphs → Type 0
StandFor [] gs = Unit {0}
StandFor (group ∷ groups) [] = ⊥
StandFor (group ∷ groups) (g ∷ gs) =
    ((0 < length group) × (none_below g.cluster group ≡ true)) × StandFor groups gs

-- No merge of the list reaches what stands before it: that ends in a cluster above the first one,
-- or the first one is still the same.
abbrev pub StopsBefore : Glyphs → Glyphs → Glyphs → Type 0
StopsBefore before gs new =
    EndsAbove (first_cluster gs) before ⊎ (first_cluster new ≡ first_cluster gs)

-- how many glyphs these groups have
abbrev pub len_of : List ClusterGroup → ℕ
len_of [] = 0
len_of (group ∷ groups) = group.len + len_of groups

-- the glyphs of these groups, which begin the list, each in the cluster of its group
abbrev pub grouped : List ClusterGroup → Glyphs → Glyphs
grouped [] gs = []
grouped (group ∷ groups) gs =
    map (in_cluster group.cluster) (take group.len gs) ++ grouped groups (drop group.len gs)

-- none is empty, and in none has a glyph a cluster below its own
abbrev pub LeastIn : List ClusterGroup → Glyphs → Type 0
LeastIn [] gs = Unit {0}
LeastIn (group ∷ groups) gs = ((0 < group.len)
    × (none_below group.cluster (take group.len gs) ≡ true)) × LeastIn groups (drop group.len gs)

-- the glyphs, with those of each group in its cluster
abbrev pub with_list : CarriedGroups → List ClusterGroup → Glyphs → Glyphs
with_list it groups gs =
    take it.start gs ++ (grouped groups (drop it.start gs) ++ drop it.end gs)

abbrev pub with_groups : CarriedGroups → Glyphs → Glyphs
with_groups it gs = with_list it it.groups.items gs

-- the groups stand one behind the other from start to end
pub record AreCarried (it : CarriedGroups) (gs : Glyphs) : Type 0 where
  pub span : it.start + len_of it.groups.items ≡ it.end
  pub within : it.end ≤ length gs
  pub least : LeastIn it.groups.items (drop it.start gs)

-- nothing is another one, if the groups were written
pub record StillSame (it : CarriedGroups) (gs : Glyphs) (after : CarriedGroups)
    (hs : Glyphs) : Type 0 where
  pub same : with_groups after hs ≡ with_groups it gs
  pub fits : AreCarried after hs
  pub same_length : length hs ≡ length gs

-- glyphs in the clusters of groups, one for each
abbrev pub shown_groups : List ClusterGroup → Glyphs → Glyphs
shown_groups [] gs = gs
shown_groups (group ∷ groups) [] = []
shown_groups (group ∷ groups) (g ∷ gs) =
    record g { cluster = group.cluster } ∷ shown_groups groups gs

-- groups in the clusters of glyphs, if those are lower
abbrev pub read_back : Glyphs → List ClusterGroup → List ClusterGroup
read_back [] groups = groups
read_back (g ∷ gs) [] = []
read_back (g ∷ gs) (group ∷ groups) =
    record group { cluster = min group.cluster g.cluster } ∷ read_back gs groups

-- the cluster of the first group
abbrev pub first_group_cluster : List ClusterGroup → ℕ
first_group_cluster [] = 0
first_group_cluster (group ∷ groups) = group.cluster

-- the last groups, so many
abbrev pub last_groups : ℕ → CarriedGroups → List ClusterGroup
last_groups count it = drop (length it.groups.items - count) it.groups.items

-- What stands before the groups ends in a cluster above that of the first one; and there is one
-- above that.
pub record GroupsApart (it : CarriedGroups) (gs : Glyphs) : Type 0 where
  pub room : first_group_cluster it.groups.items + 1 < 2 ^ 32
  pub above : EndsAbove (first_group_cluster it.groups.items) (take it.start gs)

-- One glyph stands for each of the last groups, with their glyphs' place before it, and one of
-- another cluster before them; what stood there is kept.
pub record AreShown (count : ℕ) (it : CarriedGroups) (gs : Glyphs) (after :
    CarriedGroups) (hs : Glyphs) : Type 0 where
  pub same : after ≡ record it { kept = after.kept }
  pub kept : after.kept.items ≡ stretch_of (it.end - count - 1) it.end gs
  pub room : count ≤ it.end
  pub rest : drop (it.end - count) hs
      ≡ shown_groups (last_groups count it) (drop (it.end - count) gs)
  pub front : take (it.end - count - 1) hs ≡ take (it.end - count - 1) gs
  pub above : EndsAbove (first_group_cluster it.groups.items) (take (it.end - count) hs)
  pub view : order_view hs ≡ order_view gs

-- Before merges from first to end: groups are shown that stand before first, behind one that is
-- below all that merges, or that stands behind a glyph above it; or none are left.
pub record GroupsGuarded (first end : ℕ) (it : CarriedGroups) (gs : Glyphs) (after :
    CarriedGroups) (count : ℕ) (hs : Glyphs) : Type 0 where
  pub before : CarriedGroups
  pub between : Glyphs
  pub same : with_groups before between ≡ with_groups it gs
  pub fits : AreCarried before between
  pub at : before.end ≡ first
  pub none : count ≡ 0 → (after ≡ before) × (before.groups.items ≡ []) × (hs ≡ between)
  pub within : count ≤ length before.groups.items
  pub some : 0 < count → AreShown count before between after hs
  pub stops : 0 < count → (first < end) ×
      ((first_group_cluster (last_groups count before)
      < least (clusters (stretch_of first end between)))
      ⊎ ((count ≡ length before.groups.items) × EndsAbove (first_group_cluster before.groups.items)
      (take before.start between)))

-- the list with what was kept in its place
abbrev pub taken_back : ℕ → CarriedGroups → Glyphs → Glyphs
taken_back count it gs = take (it.end - count - 1) gs ++ (it.kept.items ++ drop it.end gs)

-- the last groups in the clusters of the glyphs that stand for them
abbrev pub fallen_groups : ℕ → CarriedGroups → Glyphs → List ClusterGroup
fallen_groups count it gs = take (length it.groups.items - count) it.groups.items
    ++ read_back (stretch_of (it.end - count) it.end gs) (last_groups count it)

-- Behind merges: what was kept comes back, and the groups come into the clusters of those that
-- stood for them.
pub record CanTakeBack (it : CarriedGroups) (count : ℕ) (gs : Glyphs) : Type 0 where
  pub within : count ≤ length it.groups.items
  pub in_range : it.end ≤ length gs
  pub kept : 0 < count → length it.kept.items ≡ it.end - (it.end - count - 1)
  pub none : count ≡ 0 → AreCarried it gs
  pub fits : 0 < count → AreCarried it (taken_back count it gs)

pub record GroupsTakenBack (it : CarriedGroups) (count : ℕ) (gs : Glyphs) (after :
    CarriedGroups) (hs : Glyphs) : Type 0 where
  pub none : count ≡ 0 → hs ≡ gs
  pub still : count ≡ 0 → after ≡ it
  pub same : 0 < count → with_groups after hs
      ≡ with_list it (fallen_groups count it gs) (taken_back count it gs)
  pub fits : AreCarried after hs
  pub end : after.end ≡ it.end

-- the list with another cluster in the place before this one
abbrev pub put_before : ℕ → ℕ → Glyphs → Glyphs
put_before zero cluster gs = gs
put_before (suc place) cluster gs =
    let g : Glyph = get_or gs place default_glyph in
    slice_set gs place (record g { cluster = cluster })

-- the last two groups as one, in the cluster of the first of them
abbrev pub no_group : ClusterGroup
no_group = record { len = 0; cluster = 0 }

abbrev pub joined_end : List ClusterGroup → List ClusterGroup
joined_end groups =
    let n = length groups in
    let one : ClusterGroup = get_or groups (n - 2) no_group in
    let other : ClusterGroup = get_or groups (n - 1) no_group in
    take (n - 2) groups ++ record one { len = one.len + other.len } ∷ []
