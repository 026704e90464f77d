-- The glyph flags of whole clusters: bit 1 unsafe to break, 2 unsafe to concatenate, 4 safe to
-- insert a tatweel (HarfBuzz's hb_propagate_flags).
use Rattle.std.specs.Prelude.{ℕ, ◌%◌, ◌==◌, bit_and, bit_or, Bool, not, List, [], ◌∷◌, fold, map, if◌then◌else◌}
use Rattle.std.specs.List.{flat_map}
use Rattle.shapers_buffer.specs.declared.buffer.flags.BufferFlags.{BufferFlags}
use Rattle.shapers_buffer.specs.Glyphs.{Glyph, Glyphs}
use Rattle.shapers_buffer.specs.Buffer.{flags_concat, flags_tatweel, has_flag}
use Rattle.shapers_buffer.specs.Clusters.{has_cluster}
use Rattle.shapers_buffer.specs.Glyph.{without_flags}

-- groups with a glyph in front of them: in the first group, if that is of its cluster
abbrev pub group_with_first : Glyph → List Glyphs →
    List Glyphs
group_with_first g ((h ∷ group) ∷ groups) =
    if has_cluster g.cluster h then (g ∷ h ∷ group) ∷ groups
    else (g ∷ []) ∷ (h ∷ group) ∷ groups
group_with_first g groups = (g ∷ []) ∷ groups

-- the list cut between neighbours of different clusters
abbrev pub cluster_groups : Glyphs → List Glyphs
cluster_groups [] = []
cluster_groups (g ∷ gs) = group_with_first g (cluster_groups gs)

-- the flags that one of these glyphs has
abbrev pub flags_of : Glyphs → ℕ
flags_of gs = fold (λ flags g. bit_or flags (g.mask % 8)) 0 gs

-- whether a glyph has one
abbrev pub is_flagged : Glyph → Bool
is_flagged g = not (g.mask % 8 == 0)

-- Flags where tatweels are wanted: what is unsafe to break takes none, and what takes one is unsafe
-- to break and to concatenate.
abbrev pub joins_decided : ℕ → ℕ
joins_decided flags =
    if bit_and flags 1 == 1 then bit_and flags 3
    else if bit_and flags 4 == 4 then bit_or flags 3 else flags

-- the flags of a cluster that a buffer with these flags of its own keeps
abbrev pub flags_wanted : BufferFlags → ℕ → ℕ
flags_wanted wanted flags =
    let settled = if has_flag flags_tatweel wanted then joins_decided flags else flags in
    if has_flag flags_concat wanted then settled else bit_and settled 5

-- a glyph with these flags in the place of its own
abbrev pub with_flags : ℕ → Glyph → Glyph
with_flags flags g = record g { mask = bit_or (without_flags g.mask) flags }

-- the glyphs of a cluster, each with the flags of all
abbrev pub flags_shared : BufferFlags → Glyphs → Glyphs
flags_shared wanted gs = map (with_flags (flags_wanted wanted (flags_of gs))) gs

-- a text, each cluster for itself
abbrev pub flags_propagated : BufferFlags → Glyphs → Glyphs
flags_propagated wanted gs = flat_map (flags_shared wanted) (cluster_groups gs)
