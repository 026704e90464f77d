-- Two small files, whose tables are written out from OpenType's specification, and what they say: a font of four glyphs with
-- outlines, and a collection of two fonts of symbols.
use Rattle.std.specs.Prelude.{ℕ, ◌+◌, ◌*◌, ◌/◌, ◌%◌, ◌≡◌, refl, List, [], ◌∷◌, ◌++◌, length, map, flat_map, replicate, None, Some, true, false, pos, negsuc, Ok, Err}
use Rattle.opentype_face.specs.Characters.{by_code, code_in}
use Rattle.opentype_face.specs.Classes.{is_in_set, mark_set_count_in, props_of}
use Rattle.opentype_face.specs.Directory.{face_count_in}
use Rattle.opentype_face.specs.Faces.{Tables, ascender_of, descender_of, face_in, glyph_count_of, h_advance_of, left_side_bearing_of, line_height_of, nominal_glyph_of, origin_by_bearing, origin_by_box, origin_without_vorg, outline_of, top_with_bearing, v_advance_of, v_origin_of, variation_glyph_of}
use Rattle.opentype_face.specs.Firsts.{first_from}
use Rattle.opentype_face.specs.Metrics.{units_in}
use Rattle.opentype_face.specs.Names.{name_in, string_start}
use Rattle.opentype_face.specs.Origins.{lent_from, measured}
use Rattle.opentype_face.specs.Ranges.{bisect}
use Rattle.opentype_face.specs.declared.characters.Encoding.{Encoding}
use Rattle.opentype_face.specs.declared.characters.Encoding.TheVariants.{Unicode, Symbol, SimplifiedArabic}
use Rattle.opentype_face.specs.declared.directory.FaceError.TheVariants.{IndexOutOfRange, MissingHead, MissingMaxp}

-- numbers of two bytes
abbrev words : List ℕ → List ℕ
words ns = flat_map (λ n. n / 256 ∷ n % 256 ∷ []) ns

-- a table: the two halves of its tag, and its bytes
abbrev Part : Type 0
Part = ℕ × ℕ × List ℕ

-- the records of tables that stand one behind the other from a place of the file on
records : ℕ → List Part → List ℕ
records at [] = []
records at (table_at ∷ parts) =
    words (table_at.0 ∷ table_at.1 ∷ 0 ∷ 0 ∷ at / 65536 ∷ at % 65536 ∷ 0 ∷ length table_at.2 ∷ []) ++ records (at + length table_at.2) parts

-- a directory, with so many bytes before it, and its tables
abbrev font : ℕ → ℕ → ℕ → List Part → List ℕ
font before high low parts =
    words (high ∷ low ∷ length parts ∷ 0 ∷ 0 ∷ 0 ∷ []) ++ records (before + 12 + 16 * length parts) parts
    ++ flat_map (λ table_at. table_at.2) parts

-- ---- the font: its glyphs are none, A, a mark, and A with that mark

abbrev head : ℕ → List ℕ
head units = replicate 18 0 ++ words (units ∷ []) ++ replicate 34 0

-- heights 800 and -200, and so many long metrics
abbrev header : ℕ → List ℕ
header long = words (1 ∷ 0 ∷ 800 ∷ 65336 ∷ 90 ∷ []) ++ replicate 24 0 ++ words (long ∷ [])

-- classes of the glyphs 1 and 2, a mark's class 7, and a set of marks with glyph 2
abbrev gdef : List ℕ
gdef = words (1 ∷ 2 ∷ 14 ∷ 0 ∷ 0 ∷ 24 ∷ 32 ∷ 1 ∷ 1 ∷ 2 ∷ 1 ∷ 3 ∷ 1 ∷ 2 ∷ 1 ∷ 7 ∷ 1 ∷ 1 ∷ 0 ∷ 8 ∷ 1 ∷ 1 ∷ 2 ∷ [])

abbrev vorg : List ℕ
vorg = words (1 ∷ 0 ∷ 880 ∷ 1 ∷ 2 ∷ 900 ∷ [])

-- format 14: with FE00, U+0301 is as without it, and A is glyph 3; format 4: U+0041, U+00C1 and U+0301
abbrev selectors : List ℕ
selectors = words (14 ∷ 0 ∷ 38 ∷ 0 ∷ 1 ∷ []) ++ 0 ∷ 254 ∷ 0 ∷ words (0 ∷ 21 ∷ 0 ∷ 29 ∷ 0 ∷ 1 ∷ []) ++ 0 ∷ 3 ∷ 1 ∷ 0 ∷ words (0 ∷ 1 ∷ [])
    ++ 0 ∷ 0 ∷ 65 ∷ 0 ∷ 3 ∷ []

abbrev letters : List ℕ
letters = words (4 ∷ 48 ∷ 0 ∷ 8 ∷ 8 ∷ 2 ∷ 0 ∷ 0x41 ∷ 0xC1 ∷ 0x301 ∷ 0xFFFF ∷ 0 ∷ 0x41 ∷ 0xC1 ∷ 0x301 ∷ 0xFFFF
    ∷ 65472 ∷ 65346 ∷ 64769 ∷ 1 ∷ 0 ∷ 0 ∷ 0 ∷ 0 ∷ [])

abbrev cmap : List ℕ
cmap = words (0 ∷ 2 ∷ 0 ∷ 5 ∷ 0 ∷ 20 ∷ 3 ∷ 1 ∷ 0 ∷ 58 ∷ []) ++ selectors ++ letters

-- the boxes of the glyphs 1 and 2; the second's sides and heights are turned, and its contours below 0
abbrev glyf : List ℕ
glyf = words (1 ∷ 5 ∷ 65529 ∷ 105 ∷ 693 ∷ 65535 ∷ 100 ∷ 50 ∷ 40 ∷ 20 ∷ [])

abbrev loca : List ℕ
loca = words (0 ∷ 0 ∷ 5 ∷ 10 ∷ 10 ∷ [])

abbrev hmtx : List ℕ
hmtx = words (500 ∷ 10 ∷ 600 ∷ 65516 ∷ 30 ∷ 40 ∷ [])

abbrev vmtx : List ℕ
vmtx = words (1000 ∷ 50 ∷ 60 ∷ 70 ∷ 80 ∷ [])

abbrev maxp : ℕ → List ℕ
maxp count = words (0 ∷ 0x5000 ∷ count ∷ [])

-- names of the Macintosh and two of its own: mark, A.mark
abbrev post : List ℕ
post = words (2 ∷ 0 ∷ []) ++ replicate 28 0 ++ words (4 ∷ 0 ∷ 36 ∷ 258 ∷ 259 ∷ []) ++ 4 ∷ 109 ∷ 97 ∷ 114 ∷ 107
    ∷ 6 ∷ 65 ∷ 46 ∷ 109 ∷ 97 ∷ 114 ∷ 107 ∷ []

abbrev latin : List ℕ
latin = font 0 1 0 ((0x4744, 0x4546, gdef) ∷ (0x564F, 0x5247, vorg) ∷ (0x636D, 0x6170, cmap) ∷ (0x676C, 0x7966, glyf)
    ∷ (0x6865, 0x6164, head 1000) ∷ (0x6868, 0x6561, header 2) ∷ (0x686D, 0x7478, hmtx) ∷ (0x6C6F, 0x6361, loca)
    ∷ (0x6D61, 0x7870, maxp 4) ∷ (0x706F, 0x7374, post) ∷ (0x7668, 0x6561, header 1) ∷ (0x766D, 0x7478, vmtx) ∷ [])

-- its tables, with these vertical origins, metrics and places of outlines
abbrev tables : List ℕ → List ℕ → List ℕ → Tables
tables vorg vmtx loca = record {
  head = head 1000;
  maxp = maxp 4;
  hhea = header 2;
  hmtx = hmtx;
  vhea = header 1;
  vmtx = vmtx;
  vorg = vorg;
  os2 = [];
  post = post;
  loca = loca;
  glyf = glyf;
  gdef = gdef;
  gsub = [];
  gpos = [];
  subtable = letters;
  encoding = Unicode;
  selectors = selectors ++ letters;
}

parsed : face_in latin 0 ∷ face_in latin 1 ∷ [] ≡ Ok (tables vorg vmtx loca) ∷ Err IndexOutOfRange ∷ []
unfolding bisect first_from records
parsed = refl

counts : face_count_in latin ∷ glyph_count_of (tables vorg vmtx loca) ∷ units_in (head 1000) ∷ [] ≡ 1 ∷ 4 ∷ 1000 ∷ []
counts = refl

characters : map (nominal_glyph_of (tables vorg vmtx loca)) (0x40 ∷ 0x41 ∷ 0x42 ∷ 0xC1 ∷ 0x301 ∷ 0xFFFF ∷ 0x10041 ∷ [])
    ≡ None ∷ Some 1 ∷ None ∷ Some 3 ∷ Some 2 ∷ None ∷ None ∷ []
unfolding bisect
characters = refl

variations : map (λ (k : ℕ × ℕ). variation_glyph_of (tables vorg vmtx loca) k.0 k.1)
    ((0x41, 0xFE00) ∷ (0x301, 0xFE00) ∷ (0xC1, 0xFE00) ∷ (0x41, 0xFE01) ∷ []) ≡ Some 3 ∷ Some 2 ∷ None ∷ None ∷ []
unfolding bisect
variations = refl

names : map (name_in post) (0 ∷ 1 ∷ 2 ∷ 3 ∷ 4 ∷ []) ≡ (46 ∷ 110 ∷ 111 ∷ 116 ∷ 100 ∷ 101 ∷ 102 ∷ []) ∷ (65 ∷ [])
    ∷ (109 ∷ 97 ∷ 114 ∷ 107 ∷ []) ∷ (65 ∷ 46 ∷ 109 ∷ 97 ∷ 114 ∷ 107 ∷ []) ∷ [] ∷ []
unfolding string_start
names = refl

classes : map (props_of gdef) (0 ∷ 1 ∷ 2 ∷ 3 ∷ []) ≡ 0 ∷ 2 ∷ 1800 ∷ 0 ∷ []
unfolding bisect
classes = refl

sets : mark_set_count_in gdef ≡ 1
sets = refl

in_sets : is_in_set gdef 0 2 ∷ is_in_set gdef 0 1 ∷ is_in_set gdef 1 2 ∷ [] ≡ true ∷ false ∷ false ∷ []
unfolding bisect
in_sets = refl

heights : ascender_of (tables vorg vmtx loca) ∷ descender_of (tables vorg vmtx loca) ∷ [] ≡ pos 800 ∷ negsuc 199 ∷ []
heights = refl

line : line_height_of (tables vorg vmtx loca) ≡ 1000
unfolding line_height_of
line = refl

advances : map (h_advance_of (tables vorg vmtx loca)) (0 ∷ 1 ∷ 2 ∷ 3 ∷ 4 ∷ []) ≡ 500 ∷ 600 ∷ 600 ∷ 600 ∷ 0 ∷ []
advances = refl

bearings : map (left_side_bearing_of (tables vorg vmtx loca)) (0 ∷ 1 ∷ 2 ∷ 3 ∷ 4 ∷ []) ≡ pos 10 ∷ negsuc 19 ∷ pos 30 ∷ pos 40 ∷ pos 0 ∷ []
bearings = refl

vertical_advances : map (v_advance_of (tables vorg vmtx loca)) (0 ∷ 3 ∷ 4 ∷ []) ≡ Some 1000 ∷ Some 1000 ∷ Some 0 ∷ []
vertical_advances = refl

outlines : map (outline_of (tables vorg vmtx loca)) (0 ∷ 1 ∷ 3 ∷ 4 ∷ [])
    ≡ Some [] ∷ Some (words (1 ∷ 5 ∷ 65529 ∷ 105 ∷ 693 ∷ [])) ∷ Some [] ∷ None ∷ []
outlines = refl

-- vertical origins by VORG, by tops and bearings, in the middle of a line, and at the ascender
origins : map (v_origin_of (tables vorg vmtx loca)) (0 ∷ 1 ∷ 2 ∷ 3 ∷ 4 ∷ []) ≡ pos 880 ∷ pos 880 ∷ pos 900 ∷ pos 880 ∷ pos 880 ∷ []
unfolding bisect
origins = refl

origins_by_tops : map (v_origin_of (tables [] vmtx loca)) (0 ∷ 1 ∷ 2 ∷ 3 ∷ 4 ∷ []) ≡ pos 50 ∷ pos 753 ∷ pos 90 ∷ pos 80 ∷ pos 0 ∷ []
unfolding lent_from line_height_of measured origin_by_bearing origin_by_box origin_without_vorg top_with_bearing
origins_by_tops = refl

origins_by_boxes : map (v_origin_of (tables [] [] loca)) (0 ∷ 1 ∷ 2 ∷ 3 ∷ 4 ∷ []) ≡ pos 500 ∷ pos 843 ∷ pos 535 ∷ pos 500 ∷ pos 800 ∷ []
unfolding line_height_of origin_by_bearing origin_by_box origin_without_vorg
origins_by_boxes = refl

origins_by_lines : map (v_origin_of (tables [] vmtx [])) (0 ∷ 1 ∷ []) ≡ pos 800 ∷ pos 800 ∷ []
unfolding line_height_of origin_by_bearing origin_by_box origin_without_vorg
origins_by_lines = refl

-- ---- the collection: both fonts have two glyphs, of the symbols F10C and F10D

abbrev os2 : ℕ → ℕ → List ℕ
os2 version selection = words (version ∷ 0 ∷ 400 ∷ []) ++ replicate 56 0 ++ words (selection ∷ 0 ∷ 0 ∷ 750 ∷ 65286 ∷ []) ++ replicate 6 0

abbrev symbols : List ℕ
symbols = words (6 ∷ 16 ∷ 0 ∷ 0xF10C ∷ 2 ∷ 1 ∷ 0 ∷ [])

abbrev symbol_parts : ℕ → ℕ → List Part
symbol_parts version selection = (0x4F53, 0x2F32, os2 version selection)
    ∷ (0x636D, 0x6170, words (0 ∷ 1 ∷ 3 ∷ 0 ∷ 0 ∷ 12 ∷ []) ++ symbols) ∷ (0x6865, 0x6164, head 2048)
    ∷ (0x6868, 0x6561, header 2) ∷ (0x6D61, 0x7870, maxp 2) ∷ []

-- OTTO with typographic heights, and true with the page of Simplified Arabic
abbrev collection : List ℕ
collection = words (0x7474 ∷ 0x6366 ∷ 1 ∷ 0 ∷ 0 ∷ 2 ∷ 0 ∷ 20 ∷ 0 ∷ 312 ∷ []) ++ font 20 0x4F54 0x544F (symbol_parts 4 0x80)
    ++ font 312 0x7472 0x7565 (symbol_parts 0 0xB200)

abbrev symbol_tables : ℕ → ℕ → Encoding → Tables
symbol_tables version selection encoding = record {
  head = head 2048;
  maxp = maxp 2;
  hhea = header 2;
  hmtx = [];
  vhea = [];
  vmtx = [];
  vorg = [];
  os2 = os2 version selection;
  post = [];
  loca = [];
  glyf = [];
  gdef = [];
  gsub = [];
  gpos = [];
  subtable = symbols;
  encoding = encoding;
  selectors = [];
}

both_parsed : map (face_in collection) (0 ∷ 1 ∷ 2 ∷ [])
    ≡ Ok (symbol_tables 4 0x80 Symbol) ∷ Ok (symbol_tables 0 0xB200 SimplifiedArabic) ∷ Err IndexOutOfRange ∷ []
unfolding bisect first_from records
both_parsed = refl

two_faces : face_count_in collection ≡ 2
unfolding records
two_faces = refl

symbol_glyphs : map (nominal_glyph_of (symbol_tables 4 0x80 Symbol)) (0xF10C ∷ 0x10C ∷ 0x0C ∷ 0xF10D ∷ []) ≡ Some 1 ∷ None ∷ None ∷ None ∷ []
unfolding bisect
symbol_glyphs = refl

-- the codes of U+200C and U+200E by a table of both; the glyph of the first
codes : map (code_in (words (0x200C ∷ 0xF10C ∷ 0x200E ∷ 0xF10D ∷ []))) (0x200B ∷ 0x200C ∷ 0x200D ∷ 0x200E ∷ 0x1200C ∷ [])
    ≡ 0 ∷ 0xF10C ∷ 0 ∷ 0xF10D ∷ 0 ∷ []
unfolding bisect
codes = refl

code_glyphs : map (by_code symbols) (0 ∷ 0xF10B ∷ 0xF10C ∷ []) ≡ None ∷ None ∷ Some 1 ∷ []
code_glyphs = refl

-- heights by OS/2, and by hhea; half an em, and no vertical advance, where there is none
symbol_heights : ascender_of (symbol_tables 4 0x80 Symbol) ∷ descender_of (symbol_tables 4 0x80 Symbol)
    ∷ ascender_of (symbol_tables 0 0xB200 SimplifiedArabic) ∷ [] ≡ pos 750 ∷ negsuc 249 ∷ pos 800 ∷ []
symbol_heights = refl

symbol_advance : h_advance_of (symbol_tables 4 0x80 Symbol) 1 ≡ 1024
symbol_advance = refl

no_vertical_advance : v_advance_of (symbol_tables 4 0x80 Symbol) 1 ≡ None
no_vertical_advance = refl

-- fonts without head, and without maxp
refused : face_in (font 0 1 0 ((0x6D61, 0x7870, maxp 2) ∷ [])) 0 ∷ face_in (font 0 1 0 ((0x6865, 0x6164, head 2048) ∷ [])) 0
    ∷ face_in (font 0 1 0 ((0x6865, 0x6164, []) ∷ (0x6D61, 0x7870, maxp 2) ∷ [])) 0 ∷ [] ≡ Err MissingHead ∷ Err MissingMaxp ∷ Err MissingHead ∷ []
unfolding bisect first_from records
refused = refl
