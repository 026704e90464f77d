-- A face: its tables, and what it says of characters and glyphs.
use Rattle.std.specs.Prelude.{ℕ, ◌+◌, ◌/◌, ◌==◌, ◌||◌, not, nat_le, nat_abs, ℤ, pos, ◌+ℤ◌, List, [], length, Option, None, Some, Result, Ok, Err, if◌then◌else◌, nat_lt}
use Rattle.std.specs.Option.{unwrap_or}
use Rattle.opentype_face.specs.Bytes.{u16_in}
use Rattle.opentype_face.specs.Characters.{chosen_encoding, chosen_table, nominal_in, subtable_of}
use Rattle.opentype_face.specs.Directory.{directory_in, table_in}
use Rattle.opentype_face.specs.Ignored.{is_ignored}
use Rattle.opentype_face.specs.Metrics.{advance_in, ascender_in, bearing_in, descender_in, font_page_in, long_metrics_in, origin_in, units_in}
use Rattle.opentype_face.specs.Origins.{centred_outline, measured, top_in}
use Rattle.opentype_face.specs.Outlines.{outline_count_in, outline_in}
use Rattle.opentype_face.specs.Variants.{variant_in}
use Rattle.opentype_face.specs.declared.characters.Encoding.{Encoding}
use Rattle.opentype_face.specs.declared.directory.FaceError.{FaceError}
use Rattle.opentype_face.specs.declared.directory.FaceError.TheVariants.{MissingHead, MissingMaxp}
use Rattle.opentype_face.specs.declared.face.Face.{Face}
use Rattle.opentype_face.specs.declared.variants.GlyphVariant.{GlyphVariant}
use Rattle.opentype_face.specs.declared.variants.GlyphVariant.TheVariants.{NotFound, Found, UseDefault}

-- the bytes of a font's tables, empty where it has none; of cmap the subtables that are looked into
pub record Tables : Type 0 where
  pub head : List ℕ
  pub maxp : List ℕ
  pub hhea : List ℕ
  pub hmtx : List ℕ
  pub vhea : List ℕ
  pub vmtx : List ℕ
  pub vorg : List ℕ
  pub os2 : List ℕ
  pub post : List ℕ
  pub loca : List ℕ
  pub glyf : List ℕ
  pub gdef : List ℕ
  pub gsub : List ℕ
  pub gpos : List ℕ
  pub subtable : List ℕ
  pub encoding : Encoding
  pub selectors : List ℕ

-- those that a face lends
abbrev pub tables_of : Face → Tables
tables_of f = record {
  head = f.head.now;
  maxp = f.maxp.now;
  hhea = f.hhea.now;
  hmtx = f.hmtx.now;
  vhea = f.vhea.now;
  vmtx = f.vmtx.now;
  vorg = f.vorg.now;
  os2 = f.os2.now;
  post = f.post.now;
  loca = f.loca.now;
  glyf = f.glyf.now;
  gdef = f.gdef.now;
  gsub = f.gsub.now;
  gpos = f.gpos.now;
  subtable = f.characters.subtable.now;
  encoding = f.characters.encoding;
  selectors = f.selectors.now;
}

-- GDEF of version 1, unless HarfBuzz ignores it
abbrev pub gdef_in : List ℕ → List ℕ → List ℕ
gdef_in bytes directory =
    let gdef = table_in bytes directory 0x47444546 in
    if not (u16_in gdef 0 == 1) || is_ignored (length gdef) (length (table_in bytes directory
    0x47535542))
    (length (table_in bytes directory 0x47504F53)) then [] else gdef

-- the tables of a directory, by their tags' four characters
abbrev pub tables_in : List ℕ → List ℕ → Tables
tables_in bytes directory = record {
  head = table_in bytes directory 0x68656164;
  maxp = table_in bytes directory 0x6D617870;
  hhea = table_in bytes directory 0x68686561;
  hmtx = table_in bytes directory 0x686D7478;
  vhea = table_in bytes directory 0x76686561;
  vmtx = table_in bytes directory 0x766D7478;
  vorg = table_in bytes directory 0x564F5247;
  os2 = table_in bytes directory 0x4F532F32;
  post = table_in bytes directory 0x706F7374;
  loca = table_in bytes directory 0x6C6F6361;
  glyf = table_in bytes directory 0x676C7966;
  gdef = gdef_in bytes directory;
  gsub = table_in bytes directory 0x47535542;
  gpos = table_in bytes directory 0x47504F53;
  subtable = chosen_table (table_in bytes directory 0x636D6170);
  encoding = chosen_encoding (table_in bytes directory 0x636D6170) (font_page_in (table_in bytes
      directory 0x4F532F32));
  selectors = subtable_of (table_in bytes directory 0x636D6170) 5;
}

-- a face must have head and maxp
abbrev pub with_needed : Tables → Result Tables FaceError
with_needed t =
    if length t.head == 0 then Err MissingHead
    else (if length t.maxp == 0 then Err MissingMaxp else Ok t)

abbrev pub face_from : List ℕ → Result (List ℕ) FaceError → Result Tables FaceError
face_from bytes (Ok directory) = with_needed (tables_in bytes directory)
face_from bytes (Err e) = Err e

abbrev pub face_in : List ℕ → ℕ → Result Tables FaceError
face_in bytes index = face_from bytes (directory_in bytes index)

-- how many glyphs: by maxp, or by loca where that has more, at most 65535
abbrev pub glyph_count_of : Tables → ℕ
glyph_count_of t =
    let outlines = outline_count_in t.head t.loca in
    if nat_le outlines (u16_in t.maxp 4) then u16_in t.maxp 4
    else (if nat_le 65535 outlines then 65535 else outlines)

-- the glyph of a character, and of one with a selector
abbrev pub nominal_glyph_of : Tables → ℕ → Option ℕ
nominal_glyph_of t c = nominal_in t.encoding t.subtable c

abbrev pub by_variant : Tables → ℕ → GlyphVariant → Option ℕ
by_variant t c NotFound = None
by_variant t c (Found glyph) = Some glyph
by_variant t c UseDefault = nominal_glyph_of t c

abbrev pub variation_glyph_of : Tables → ℕ → ℕ → Option ℕ
variation_glyph_of t c selector = by_variant t c (variant_in t.selectors c selector)

-- heights of a line
abbrev pub ascender_of : Tables → ℤ
ascender_of t = ascender_in t.hhea t.os2 (units_in t.head)

abbrev pub descender_of : Tables → ℤ
descender_of t = descender_in t.hhea t.os2 (units_in t.head)

-- advances to the right
abbrev pub h_advance_of : Tables → ℕ → ℕ
h_advance_of t glyph = unwrap_or (advance_in t.hhea t.hmtx (glyph_count_of t) glyph) (units_in
    t.head / 2)

abbrev pub v_advance_of : Tables → ℕ → Option ℕ
v_advance_of t glyph = advance_in t.vhea t.vmtx (glyph_count_of t) glyph

-- the bearing of a glyph on the left, and its outline
abbrev pub left_side_bearing_of : Tables → ℕ → ℤ
left_side_bearing_of t glyph = bearing_in t.hhea t.hmtx (u16_in t.maxp 4) glyph

abbrev pub outline_of : Tables → ℕ → Option (List ℕ)
outline_of t glyph =
    if nat_lt glyph (outline_count_in t.head t.loca) then Some (outline_in t.head t.loca t.glyf
    glyph) else None

-- how high a line is, and how high above the base line the vertical origin of a glyph lies
unfoldable pub line_height_of : Tables → ℕ
line_height_of t = nat_abs (ascender_of t) + nat_abs (descender_of t)

-- with outlines and vertical metrics: the top of the outline whose metrics a glyph has, and the
-- bearing above it. A number that isn't an outline's has the base line.
unfoldable pub top_with_bearing : Tables → ℕ → ℤ
top_with_bearing t glyph =
    top_in (outline_in t.head t.loca t.glyf glyph)
    +ℤ bearing_in t.vhea t.vmtx (u16_in t.maxp 4) glyph

unfoldable pub origin_by_bearing : Tables → ℕ → ℤ
origin_by_bearing t glyph =
    if nat_lt glyph (outline_count_in t.head t.loca)
    then top_with_bearing t (measured 64 t.head t.loca t.glyf glyph) else pos 0

-- with outlines alone, the middle of a line; with neither its ascender
unfoldable pub origin_by_box : Tables → Option (List ℕ) → ℤ
origin_by_box t None = ascender_of t
origin_by_box t (Some outline) = centred_outline outline (line_height_of t)

unfoldable pub origin_without_vorg : Tables → ℕ → ℤ
origin_without_vorg t glyph =
    if long_metrics_in t.vhea t.vmtx == 0 || outline_count_in t.head t.loca == 0
    then origin_by_box t (outline_of t glyph)
    else origin_by_bearing t glyph

abbrev pub v_origin_of : Tables → ℕ → ℤ
v_origin_of t glyph = unwrap_or (origin_in t.vorg glyph) (origin_without_vorg t glyph)
