-- What lookups do to glyphs.
use Rattle.std.specs.Prelude.{ℕ, zero, suc, ◌+◌, ◌-◌, ◌*◌, ◌%◌, ◌==◌, ◌&&◌, nat_lt, bit_and, bit_or, min, List, [], ◌∷◌, ◌++◌, take, drop, length, slice_index, if◌then◌else◌}
use Rattle.std.specs.List.{remove}
use Rattle.shapers_buffer.specs.Glyphs.{Glyph, Glyphs}
use Rattle.shapers_buffer.specs.Clusters.{merge}
use Rattle.shapers_buffer.specs.declared.buffer.level.BufferClusterLevel.{BufferClusterLevel}
use Rattle.opentype_face.specs.Bytes.{u16_in}
use Rattle.opentype_face.specs.Classes.{has_classes, props_of}
use Rattle.opentype_layout.specs.Text.{glyph_at}

-- the properties of a glyph that is put in: what was done stays, the class is the font's, or a
-- guess
unfoldable pub new_props : List ℕ → ℕ → ℕ → ℕ → ℕ
new_props gdef to guess old =
    let props = bit_or old 16 in
    if has_classes gdef then bit_or (bit_and props 112) (props_of gdef to)
    else (if guess == 0 then props else bit_or (bit_and props 112) guess)

unfoldable pub replaced : List ℕ → ℕ → ℕ → Glyph → Glyph
replaced gdef to guess g = record g {
  glyph_id = to;
  glyph_props = record { 0 = new_props gdef to guess g.glyph_props.0 };
}

-- the glyphs of a sequence in the place of one, from a number on
unfoldable pub sequence_glyph : List ℕ → List ℕ → Glyph → ℕ → Glyph
sequence_glyph gdef sequence g k =
    let guess = (if bit_and g.glyph_props.0 4 == 0 then 0 else 2) in
    let r = replaced gdef (u16_in sequence (2 + k * 2)) guess g in
    record r {
      glyph_props = record { 0 = bit_or r.glyph_props.0 64 };
      lig_props = if nat_lt g.lig_props.0 32 then record { 0 = k % 16 } else g.lig_props;
    }

unfoldable pub sequence_glyphs : ℕ → List ℕ → List ℕ → Glyph → ℕ → Glyphs
sequence_glyphs zero gdef sequence g k = []
sequence_glyphs (suc n) gdef sequence g k =
    sequence_glyph gdef sequence g k ∷ sequence_glyphs n gdef sequence g (k + 1)

-- how many glyphs a sequence has; a number of two bytes is below 65536
abbrev pub count_in : List ℕ → ℕ
count_in sequence = min 65535 (u16_in sequence 0)

unfoldable pub multiplied : List ℕ → List ℕ → ℕ → Glyphs → Glyphs
multiplied gdef sequence at gs =
    take at gs ++ (sequence_glyphs (count_in sequence) gdef sequence (glyph_at gs at) 0 ++ drop (at
    + 1) gs)

-- a glyph goes; its cluster stays with a neighbour
unfoldable pub handed_on : BufferClusterLevel → ℕ → Glyphs → Glyphs
handed_on level at gs =
    let here = (glyph_at gs at).cluster in
    if nat_lt (at + 1) (length gs) && ((glyph_at gs (at + 1)).cluster == here) then gs
    else (if at == 0 then
    (if nat_lt (at + 1) (length gs) then merge level at (at + 2) gs else gs)
    else (if nat_lt here (glyph_at gs (at - 1)).cluster then merge level (at - 1) (at + 1) gs else
    gs))

-- glyphs go, the last first
unfoldable pub removed_all : List ℕ → Glyphs → Glyphs
removed_all [] gs = gs
removed_all (p ∷ ps) gs = remove (removed_all ps gs) p

-- the last of a place and those behind it
abbrev pub last_place : ℕ → List ℕ → ℕ
last_place at ps = if length ps == 0 then at else slice_index ps (length ps - 1)

-- the clusters of a stretch merged, by its first place and its last one
unfoldable pub merged_up_to : BufferClusterLevel → ℕ → ℕ → Glyphs → Glyphs
merged_up_to level at last gs = if nat_lt at last then merge level at (last + 1) gs else gs
