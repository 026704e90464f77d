-- Glyphs of characters that need not be drawn (Default_Ignorable_Code_Point): without a width,
-- drawn by an invisible glyph, or gone.
use Rattle.std.specs.Prelude.{ℕ, ◌+◌, ◌==◌, ◌%◌, min, nat_lt, pos, bit_and, bit_or, Bool, false, not, ◌&&◌, List, [], ◌∷◌, ◌++◌, length, map, filter, Option, None, Some, if◌then◌else◌}
use Rattle.std.specs.List.{prefix_len, zip}
use Rattle.shapers_base.specs.declared.font.GlyphId.{GlyphId}
use Rattle.shapers_buffer.specs.declared.buffer.glyph.GlyphPosition.{GlyphPosition}
use Rattle.shapers_buffer.specs.Glyphs.{Glyph, Glyphs}
use Rattle.shapers_buffer.specs.declared.buffer.level.BufferClusterLevel.{BufferClusterLevel}
use Rattle.shapers_buffer.specs.declared.buffer.level.Direction.{Direction}
use Rattle.shapers_buffer.specs.Buffer.{Buffer}
use Rattle.shapers_buffer.specs.Clusters.{has_cluster, last_cluster, merge}
use Rattle.shapers_buffer.specs.Glyph.{without_flags}
use Rattle.shapers_buffer.specs.Lists.{before_last_stretch, last_stretch}
use Rattle.shapers_buffer.specs.Properties.{is_ignorable, is_substituted}
use Rattle.shapers_choice.specs.Choice.{is_horizontal}
use Rattle.shapers_position.specs.declared.ot_shape_position.ignorables.DefaultIgnorables.{DefaultIgnorables}
use Rattle.shapers_position.specs.declared.ot_shape_position.ignorables.DefaultIgnorables.TheVariants.{Hide, Preserve, Remove}
use Rattle.shapers_position.specs.Widths.{positions_changed, without_advance}

-- what HarfBuzz's flags of a buffer request: bit 4 to preserve, else bit 8 to remove
abbrev pub ignorables_for : ℕ → DefaultIgnorables
ignorables_for bits =
    if bit_and bits 4 == 4 then Preserve else if bit_and bits 8 == 8 then Remove else Hide

-- the character need not be drawn, and no lookup put the glyph in
abbrev pub is_default_ignorable : Glyph → Bool
is_default_ignorable g = is_ignorable g.unicode_props && not (is_substituted g.glyph_props)

-- the others
abbrev pub stays_in_text : Glyph → Bool
stays_in_text g = not (is_default_ignorable g)

-- a glyph without an advance, and without an offset along the line
abbrev pub without_extent : Bool → GlyphPosition → GlyphPosition
without_extent horizontal p =
    if horizontal then record (without_advance p) { x_offset = pos 0 }
    else record (without_advance p) { y_offset = pos 0 }

abbrev pub ignorable_zeroed : Bool → Glyph → GlyphPosition → GlyphPosition
ignorable_zeroed horizontal g p =
    if is_default_ignorable g then without_extent horizontal p else p

-- the positions where glyphs that are to be hidden have no width
abbrev pub ignorables_zeroed : DefaultIgnorables → Direction →
    Glyphs → List GlyphPosition → List GlyphPosition
ignorables_zeroed Hide direction gs ps =
    positions_changed (ignorable_zeroed (is_horizontal direction)) gs ps
ignorables_zeroed Preserve direction gs ps = ps
ignorables_zeroed Remove direction gs ps = ps

-- an ignorable glyph, drawn by this one
abbrev pub drawn_by : GlyphId → Glyph → Glyph
drawn_by glyph g =
    if is_default_ignorable g then (let r : Glyph = record g { glyph_id = glyph.0 } in r)
    else g

-- A glyph that takes in the text of one that goes: its cluster, and its glyph flags.
abbrev pub in_place_of : Glyph → Glyph → Glyph
in_place_of gone g = record g {
  cluster = gone.cluster;
  mask = bit_or (without_flags g.mask) (gone.mask % 8);
}

-- What stands before a glyph that goes, the last of its cluster there: where that cluster is below
-- the one of the glyph directly before it, that one and all directly before it of its cluster take
-- in the text of what goes.
abbrev pub covering : Glyph → Glyphs → Glyphs
covering gone gs =
    let in_last = has_cluster (last_cluster gs) in
    if nat_lt gone.cluster (last_cluster gs)
    then before_last_stretch in_last gs ++ map (in_place_of gone) (last_stretch in_last gs) else gs

-- whether the next glyph is of this cluster
abbrev pub is_of_cluster : ℕ → Glyphs → Bool
is_of_cluster cluster [] = false
is_of_cluster cluster (g ∷ gs) = has_cluster cluster g

-- the glyphs that stay of a text, behind those that stay of what stands before it
abbrev pub removed_behind : Glyphs → Glyphs → Glyphs
removed_behind kept [] = kept
removed_behind kept (g ∷ gs) =
    if is_default_ignorable g
    then removed_behind (if is_of_cluster g.cluster gs then kept else covering g kept) gs
    else removed_behind (kept ++ g ∷ []) gs

-- The glyphs of a text without the ignorable ones. Those that open it merge with the first glyph
-- that stays. Behind that, one that goes leaves its cluster to the next glyph, if that is of it,
-- and else to those before it.
abbrev pub removed : BufferClusterLevel → Glyphs → Glyphs
removed level gs =
    let opening = prefix_len is_default_ignorable gs in
    removed_behind [] (merge level 0 (min (opening + 1) (length gs)) gs)

-- the positions of the glyphs that stay
abbrev pub positions_kept : Glyphs → List GlyphPosition → List GlyphPosition
positions_kept gs ps = map (λ c. c.1) (filter (λ c. stays_in_text c.0) (zip gs ps))

abbrev pub ignorables_removed : Buffer → Buffer
ignorables_removed b = record b {
  glyphs = removed b.level b.glyphs;
  positions = positions_kept b.glyphs b.positions;
}

-- the buffer with its ignorable glyphs drawn by an invisible one, if there is one, or without them
abbrev pub ignorables_hidden : DefaultIgnorables → Option GlyphId → Buffer → Buffer
ignorables_hidden Hide (Some glyph) b = record b { glyphs = map (drawn_by glyph) b.glyphs }
ignorables_hidden Hide None b = ignorables_removed b
ignorables_hidden Preserve glyph b = b
ignorables_hidden Remove glyph b = ignorables_removed b
