-- Laws of positions, of ignorable glyphs that are hidden or go, and of glyph flags that clusters
-- share.
use Rattle.std.specs.Prelude.{ℕ, suc, ◌≡◌, ◌≢◌, ◌↔◌, ◌<◌, ◌-◌, ◌==◌, ◌%◌, true, false, List, map, filter, get_or, length, slice_index}
use Rattle.std.specs.List.{All, Contains, list_any}
use Rattle.shapers_base.specs.declared.font.GlyphId.{GlyphId}
use Rattle.shapers_buffer.specs.declared.buffer.flags.BufferFlags.{BufferFlags}
use Rattle.shapers_buffer.specs.declared.buffer.glyph.GlyphPosition.{GlyphPosition}
use Rattle.shapers_buffer.specs.Glyphs.{Glyph, Glyphs}
use Rattle.shapers_buffer.specs.declared.buffer.level.BufferClusterLevel.{BufferClusterLevel}
use Rattle.shapers_buffer.specs.Buffer.{flags_tatweel, has_flag}
use Rattle.shapers_buffer.specs.Glyph.{clusters, default_glyph, default_position, order_view}
use Rattle.shapers_clusters.specs.Breaks.{IsClear, is_unsafe}
use Rattle.shapers_clusters.specs.Cuts.{IsFalling, IsMonotone, IsRising}
use Rattle.shapers_clusters.specs.Flags.{bit_at}
use Rattle.shapers_position.specs.ClusterFlags.{flags_propagated}
use Rattle.shapers_position.specs.Ignorables.{drawn_by, is_default_ignorable, stays_in_text, positions_kept, removed}
use Rattle.shapers_position.specs.Widths.{positions_changed}

-- the glyph flags of each glyph
abbrev pub glyph_flags : Glyphs → List ℕ
glyph_flags gs = map (λ g. g.mask % 8) gs

-- the glyph with this number
abbrev pub with_glyph_id : ℕ → Glyph → Glyph
with_glyph_id n g = record g { glyph_id = n }

-- What sharing the flags makes of the glyphs gs: ms. Nothing but glyph flags changes. Neighbours of
-- one cluster have the same flags. A second time changes nothing, unless tatweels are wanted: one
-- that is there makes its place unsafe to break, and a second time that would take it away. A place
-- is clear as before.
pub record FlagsAreShared (wanted : BufferFlags) (gs ms : Glyphs) : Type 0 where
  pub same_view : order_view ms ≡ order_view gs
  pub same_clusters : clusters ms ≡ clusters gs
  pub alike : (p : ℕ) → suc p < length gs →
      slice_index (clusters gs) p ≡ slice_index (clusters gs) (suc p) →
      slice_index (glyph_flags ms) p ≡ slice_index (glyph_flags ms) (suc p)
  pub again : has_flag flags_tatweel wanted ≡ false → flags_propagated wanted ms ≡ ms
  pub clear : (p : ℕ) → IsClear ms p ↔ IsClear gs p

abbrev pub FlagsLaw : Type 0
FlagsLaw = (wanted : BufferFlags) (gs : Glyphs) →
    FlagsAreShared wanted gs (flags_propagated wanted gs)

-- One glyph tells whether a line may be broken where two clusters meet: the first one behind that
-- place where clusters never decrease, the last one before it where they never increase. The place
-- is clear exactly if that glyph is safe.
abbrev pub OneGlyphTells : Type 0
OneGlyphTells = (wanted : BufferFlags) (gs : Glyphs) (p : ℕ) →
    0 < p → p < length gs →
    slice_index (clusters gs) (p - 1) ≢ slice_index (clusters gs) p →
    let ms = flags_propagated wanted gs in
    (IsRising (clusters gs) → IsClear gs p ↔ (is_unsafe (get_or ms p default_glyph) ≡ false))
    × (IsFalling (clusters gs) →
    IsClear gs p ↔ (is_unsafe (get_or ms (p - 1) default_glyph) ≡ false))

-- Where tatweels are wanted, a glyph is unsafe exactly if it has the flag of that, bit 1.
abbrev pub OneFlagTells : Type 0
OneFlagTells = (wanted : BufferFlags) (gs : Glyphs) →
    has_flag flags_tatweel wanted ≡ true →
    All (λ g. is_unsafe g ≡ (bit_at 0 g.mask == 1)) (flags_propagated wanted gs)

-- Each position is changed by its own glyph, and there are as many.
pub record ChangedByGlyphs (f : Glyph → GlyphPosition → GlyphPosition)
    (gs : Glyphs) (ps qs : List GlyphPosition) : Type 0 where
  pub same_length : length qs ≡ length ps
  pub each : (i : ℕ) → i < length gs →
      get_or qs i default_position ≡ f (get_or gs i default_glyph) (get_or ps i default_position)

abbrev pub PositionsLaw : Type 0
PositionsLaw = (f : Glyph → GlyphPosition → GlyphPosition)
    (gs : Glyphs) (ps : List GlyphPosition) → length ps ≡ length gs →
    ChangedByGlyphs f gs ps (positions_changed f gs ps)

-- A glyph that is drawn by another one keeps all but its number.
abbrev pub DrawnLaw : Type 0
DrawnLaw = (glyph : GlyphId) (n : ℕ) (gs : Glyphs) →
    map (with_glyph_id n) (map (drawn_by glyph) gs) ≡ map (with_glyph_id n) gs

-- What taking the ignorable glyphs out of gs leaves: ms. The others stay in their order, with all
-- but cluster and glyph flags, and with their positions. Every cluster is one that was there.
-- Clusters that rise, or fall, still do. Without an ignorable glyph nothing changes.
pub record IgnorablesAreRemoved (gs ms : Glyphs) : Type 0 where
  pub same_view : order_view ms ≡ order_view (filter stays_in_text gs)
  pub paired : (ps : List GlyphPosition) → length ps ≡ length gs →
      length (positions_kept gs ps) ≡ length ms
  pub old_clusters : All (Contains (clusters gs)) (clusters ms)
  pub monotone : IsMonotone (clusters gs) → IsMonotone (clusters ms)
  pub none : list_any is_default_ignorable gs ≡ false → ms ≡ gs

abbrev pub RemovalLaw : Type 0
RemovalLaw = (level : BufferClusterLevel) (gs : Glyphs) →
    IgnorablesAreRemoved gs (removed level gs)
