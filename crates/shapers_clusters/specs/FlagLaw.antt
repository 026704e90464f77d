-- The flag law, glyph by glyph, of hooks that also set glyph flags.
use Rattle.std.specs.Prelude.{ℕ, ◌<◌, ◌≤◌, ◌≡◌}
use Rattle.std.specs.List.{AllZip}
use Rattle.shapers_buffer.specs.Glyphs.{Glyph, Glyphs}
use Rattle.shapers_clusters.specs.Flags.{bit_at}

-- none of the three glyph flags is lost
abbrev pub KeepsFlags : Glyph → Glyph → Type 0
KeepsFlags old new = (k : ℕ) → k < 3 → bit_at k old.mask ≤ bit_at k new.mask

-- A glyph's cluster doesn't rise, and unless it fell, no glyph flag is lost.
pub record FlagsStay (old new : Glyph) : Type 0 where
  pub at_most : new.cluster ≤ old.cluster
  pub kept : new.cluster ≡ old.cluster → KeepsFlags old new

-- of each glyph, where none moves
abbrev pub AllFlagsStay : Glyphs → Glyphs → Type 0
AllFlagsStay gs ms = AllZip FlagsStay gs ms

-- A glyph keeps its cluster and its glyph flags: flags are only added.
pub record FlagsAdded (old new : Glyph) : Type 0 where
  pub same : new.cluster ≡ old.cluster
  pub kept : KeepsFlags old new

-- of each glyph, where none moves
abbrev pub OnlyFlagsAdded : Glyphs → Glyphs → Type 0
OnlyFlagsAdded gs ms = AllZip FlagsAdded gs ms
