-- What becomes of clusters and glyph flags, glyph by glyph; views of glyphs.
use Rattle.std.proofs.Common.{ℕ, ◌/◌, ◌%◌, ◌^◌, ◌<◌, ◌≤◌, ◌≡◌, map}
use Rattle.std.specs.List.{AllZip}
use Rattle.shapers_buffer.specs.Glyphs.{Glyph, Glyphs}
use Rattle.shapers_buffer.specs.Glyph.{clusters, order_view, plain}
use Rattle.shapers_buffer.specs.Clusters.{in_cluster}
use Rattle.shapers_buffer.specs.GlyphFlags.{FlagCall, UnsafeToBreak, UnsafeToConcat, SafeToInsertTatweel}

-- a glyph falls to another: its cluster is that or a lower one, and if it is lower, the glyph flags
-- are gone
abbrev pub FallsTo : Glyph → Glyph → Type 0
FallsTo old new = (new.cluster ≤ old.cluster) × (new ≡ in_cluster new.cluster old)

-- so of cluster and glyph flags, other fields apart: fell, the flags are gone; kept, they are kept
pub record FlagsFall (old new : Glyph) : Type 0 where
  pub at_most : new.cluster ≤ old.cluster
  pub fell : new.cluster < old.cluster → new.mask % 8 ≡ 0
  pub kept : new.cluster ≡ old.cluster → new.mask % 8 ≡ old.mask % 8

-- bit k of a number, and that no bit of the glyph's mask is lost
abbrev pub bit_at : ℕ → ℕ → ℕ
bit_at k m = m / 2 ^ k % 2

abbrev pub KeepsBits : Glyph → Glyph → Type 0
KeepsBits old new = (k : ℕ) → bit_at k old.mask ≤ bit_at k new.mask

-- nothing but glyph flags changes, and none is lost
pub record FlagsAlone (gs ms : Glyphs) : Type 0 where
  pub same_view : order_view ms ≡ order_view gs
  pub same_clusters : clusters ms ≡ clusters gs
  pub none_lost : AllZip KeepsBits gs ms

-- a flag call's stretch doesn't end before it begins
abbrev pub InOrder : FlagCall → Type 0
InOrder (UnsafeToBreak s e) = s ≤ e
InOrder (UnsafeToConcat s e) = s ≤ e
InOrder (SafeToInsertTatweel s e) = s ≤ e

-- a view of glyphs that shows their clusters and glyph flags
pub record ShowsClusters (view : Glyph → Glyph) : Type 0 where
  pub cluster : (g : Glyph) → (view g).cluster ≡ g.cluster
  pub flags : (g : Glyph) → (view g).mask % 8 ≡ g.mask % 8

-- besides, what else it shows depends on neither: it hides some other fields, or none
pub record HidesFields (view : Glyph → Glyph) : Type 0 where
  pub shows : ShowsClusters view
  pub apart : (g : Glyph) → plain (view (plain g)) ≡ plain (view g)

-- the view that hides nothing
abbrev pub whole : Glyph → Glyph
whole g = g

-- the order view of what the view shows
abbrev pub seen : (Glyph → Glyph) → Glyphs → Glyphs
seen view gs = map (λ g. plain (view g)) gs
