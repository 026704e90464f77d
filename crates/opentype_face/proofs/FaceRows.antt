-- Numbers of faces and glyphs, and what is chosen, by tables written out from OpenType's specification.
use Rattle.std.specs.Prelude.{ℕ, ℤ, ◌-◌, ◌/◌, ◌%◌, ◌≡◌, refl, List, [], ◌∷◌, ◌++◌, map, flat_map, replicate, None, Some, true, false, pos, negsuc}
use Rattle.opentype_face.specs.Characters.{chosen_encoding, chosen_table, nominal_in}
use Rattle.opentype_face.specs.Directory.{directory_in, face_count_in, record_in, table_in}
use Rattle.opentype_face.specs.Faces.{gdef_in}
use Rattle.opentype_face.specs.Firsts.{first_from}
use Rattle.opentype_face.specs.Ignored.{is_ignored}
use Rattle.opentype_face.specs.Metrics.{advance_in, ascender_in, bearing_in, descender_in, font_page_in, origin_in, units_in}
use Rattle.opentype_face.specs.Names.{name_in, string_start}
use Rattle.opentype_face.specs.Outlines.{box_bottom_in, box_top_in, box_width_in, has_box_in, outline_count_in, outline_in}
use Rattle.opentype_face.specs.Ranges.{bisect}
use Rattle.opentype_face.specs.declared.characters.Encoding.TheVariants.{Unicode, Symbol, SimplifiedArabic, TraditionalArabic, MacRoman, Mac}
use Rattle.opentype_face.specs.declared.directory.FaceError.TheVariants.{UnknownMagic, IndexOutOfRange}
use Rattle.std.specs.Prelude.{Ok, Err}

-- numbers of two bytes
abbrev words : List ℕ → List ℕ
words ns = flat_map (λ n. n / 256 ∷ n % 256 ∷ []) ns

-- head: units 15 and 16385 aren't taken
units : map (λ n. units_in (replicate 18 0 ++ words (n ∷ []))) (0 ∷ 15 ∷ 16 ∷ 2048 ∷ 16384 ∷ 16385 ∷ [])
    ≡ 1000 ∷ 1000 ∷ 16 ∷ 2048 ∷ 16384 ∷ 1000 ∷ []
units = refl

-- two long metrics (500, 10) and (600, -20), then the bearings 30 and 40, of four glyphs
abbrev hhea : List ℕ
hhea = replicate 34 0 ++ words (2 ∷ [])

abbrev hmtx : List ℕ
hmtx = words (500 ∷ 10 ∷ 600 ∷ 65516 ∷ 30 ∷ 40 ∷ [])

advances : map (advance_in hhea hmtx 4) (0 ∷ 1 ∷ 2 ∷ 3 ∷ 4 ∷ [])
    ≡ Some 500 ∷ Some 600 ∷ Some 600 ∷ Some 600 ∷ Some 0 ∷ []
advances = refl

bearings : map (bearing_in hhea hmtx 4) (0 ∷ 1 ∷ 2 ∷ 3 ∷ 4 ∷ []) ≡ pos 10 ∷ negsuc 19 ∷ pos 30 ∷ pos 40 ∷ pos 0 ∷ []
bearings = refl

-- no metrics, and a table with room for one
spoilt : advance_in hhea [] 4 0 ∷ advance_in [] hmtx 4 0 ∷ advance_in hhea (words (500 ∷ 10 ∷ [])) 4 3 ∷ []
    ≡ None ∷ None ∷ Some 500 ∷ []
spoilt = refl

-- VORG: 880, of glyph 2 900
origins : map (origin_in (words (1 ∷ 0 ∷ 880 ∷ 1 ∷ 2 ∷ 900 ∷ []))) (1 ∷ 2 ∷ 3 ∷ [])
    ≡ Some (pos 880) ∷ Some (pos 900) ∷ Some (pos 880) ∷ []
unfolding bisect
origins = refl

no_origin : origin_in [] 1 ≡ None
no_origin = refl

-- heights by OS/2 with bit 7, by hhea, by neither
abbrev os2 : List ℕ
os2 = words (4 ∷ 0 ∷ 400 ∷ []) ++ replicate 56 0 ++ words (128 ∷ 0 ∷ 0 ∷ 750 ∷ 65286 ∷ [])

abbrev heights : List ℕ
heights = words (1 ∷ 0 ∷ 800 ∷ 65336 ∷ [])

ascenders : ascender_in heights os2 1000 ∷ ascender_in heights [] 1000 ∷ ascender_in [] [] 2048 ∷ []
    ≡ pos 750 ∷ pos 800 ∷ pos 1638 ∷ []
ascenders = refl

descenders : descender_in heights os2 1000 ∷ descender_in heights [] 1000 ∷ descender_in [] [] 2048 ∷ []
    ≡ negsuc 249 ∷ negsuc 199 ∷ negsuc 409 ∷ []
descenders = refl

-- OS/2: pages of version 0 alone
pages : map (λ v. font_page_in (words (v ∷ []) ++ replicate 60 0 ++ words (45568 ∷ []))) (0 ∷ 1 ∷ []) ≡ 178 ∷ 0 ∷ []
pages = refl

-- post of format 2: .notdef, A, and a name of the table's own; nothing for what it lacks
names : map (name_in (words (2 ∷ 0 ∷ []) ++ replicate 28 0 ++ words (4 ∷ 0 ∷ 36 ∷ 258 ∷ 259 ∷ []) ++ 2 ∷ 97 ∷ 98 ∷ []))
    (0 ∷ 1 ∷ 2 ∷ 3 ∷ 4 ∷ []) ≡ (46 ∷ 110 ∷ 111 ∷ 116 ∷ 100 ∷ 101 ∷ 102 ∷ []) ∷ (65 ∷ []) ∷ (97 ∷ 98 ∷ []) ∷ [] ∷ [] ∷ []
unfolding string_start
names = refl

-- post of formats 1 and 3: the Macintosh's last name is dcroat
mac_names : map (name_in (words (1 ∷ 0 ∷ []))) (257 ∷ 258 ∷ []) ≡ (100 ∷ 99 ∷ 114 ∷ 111 ∷ 97 ∷ 116 ∷ []) ∷ [] ∷ []
unfolding string_start
mac_names = refl

no_names : name_in (words (3 ∷ 0 ∷ [])) 0 ≡ []
no_names = refl

-- outlines of 0, 4 and 0 bytes by short offsets, and 3 bytes by long ones
outlines : outline_count_in (replicate 54 0) (words (0 ∷ 0 ∷ 2 ∷ 2 ∷ [])) ∷ outline_count_in (replicate 50 0 ++ 0 ∷ 1 ∷ 0 ∷ 0 ∷ [])
    (words (0 ∷ 0 ∷ 0 ∷ 3 ∷ [])) ∷ outline_count_in (replicate 50 0 ++ 0 ∷ 2 ∷ []) (words (0 ∷ 0 ∷ [])) ∷ [] ≡ 3 ∷ 1 ∷ 0 ∷ []
outlines = refl

short_outlines : map (outline_in (replicate 54 0) (words (0 ∷ 0 ∷ 2 ∷ 2 ∷ [])) (1 ∷ 2 ∷ 3 ∷ 4 ∷ [])) (0 ∷ 1 ∷ 2 ∷ [])
    ≡ [] ∷ (1 ∷ 2 ∷ 3 ∷ 4 ∷ []) ∷ [] ∷ []
short_outlines = refl

-- a box from 5 to 105 and from -7 to 693, and one whose sides and heights are turned
boxes : map {B = ℤ × ℤ × ℕ} (λ o. (box_top_in o, box_bottom_in o, box_width_in o)) (words (1 ∷ 5 ∷ 65529 ∷ 105 ∷ 693 ∷ [])
    ∷ words (65535 ∷ 100 ∷ 50 ∷ 40 ∷ 20 ∷ []) ∷ []) ≡ (pos 693, negsuc 6, 100) ∷ (pos 50, pos 20, 60) ∷ []
boxes = refl

have_boxes : map has_box_in (words (1 ∷ 5 ∷ 5 ∷ 5 ∷ 5 ∷ []) ∷ words (0 ∷ 5 ∷ 5 ∷ 5 ∷ 5 ∷ []) ∷ words (1 ∷ 5 ∷ []) ∷ [])
    ≡ true ∷ false ∷ false ∷ []
have_boxes = refl

-- GDEF of Times New Roman Italic, and one that is a byte longer
ignored : is_ignored 442 2874 42038 ∷ is_ignored 443 2874 42038 ∷ is_ignored 816 7868 17138 ∷ [] ≡ true ∷ false ∷ true ∷ []
ignored = refl

-- files of one face by their first four bytes; a collection of two
magic : map (λ m. directory_in m 0) ((0 ∷ 1 ∷ 0 ∷ 0 ∷ []) ∷ (79 ∷ 84 ∷ 84 ∷ 79 ∷ []) ∷ (116 ∷ 114 ∷ 117 ∷ 101 ∷ [])
    ∷ (116 ∷ 121 ∷ 112 ∷ 49 ∷ []) ∷ (119 ∷ 79 ∷ 70 ∷ 70 ∷ []) ∷ [] ∷ [])
    ≡ Ok (0 ∷ 1 ∷ 0 ∷ 0 ∷ []) ∷ Ok (79 ∷ 84 ∷ 84 ∷ 79 ∷ []) ∷ Ok (116 ∷ 114 ∷ 117 ∷ 101 ∷ [])
    ∷ Ok (116 ∷ 121 ∷ 112 ∷ 49 ∷ []) ∷ Err UnknownMagic ∷ Err UnknownMagic ∷ []
magic = refl

abbrev collection : List ℕ
collection = 116 ∷ 116 ∷ 99 ∷ 102 ∷ words (1 ∷ 0 ∷ 0 ∷ 2 ∷ 0 ∷ 20 ∷ 0 ∷ 21 ∷ []) ++ 7 ∷ 8 ∷ []

faces : map (directory_in collection) (0 ∷ 1 ∷ 2 ∷ []) ≡ Ok (7 ∷ 8 ∷ []) ∷ Ok (8 ∷ []) ∷ Err IndexOutOfRange ∷ []
faces = refl

-- a directory of one table, "a   ", of two bytes
tables : map (table_in (1 ∷ 2 ∷ 3 ∷ 4 ∷ 5 ∷ []) (words (0 ∷ 0 ∷ 1 ∷ 0 ∷ 0 ∷ 0 ∷ 24864 ∷ 8224 ∷ 0 ∷ 0 ∷ 0 ∷ 2 ∷ 0 ∷ 2 ∷ [])))
    (1629495328 ∷ 1629495329 ∷ []) ≡ (3 ∷ 4 ∷ []) ∷ [] ∷ []
unfolding first_from
tables = refl

-- cmap: a subtable of one record, of a platform and an encoding
abbrev cmap : ℕ → ℕ → List ℕ
cmap platform encoding = words (0 ∷ 1 ∷ platform ∷ encoding ∷ 0 ∷ 12 ∷ 6 ∷ 14 ∷ 0 ∷ 61440 ∷ 1 ∷ 9 ∷ [])

chosen : map (λ (k : ℕ × ℕ). chosen_encoding (cmap k.0 k.1) 0) ((3, 0) ∷ (3, 10) ∷ (0, 6) ∷ (0, 4) ∷ (3, 1) ∷ (0, 3) ∷ (0, 2) ∷ (0, 1)
    ∷ (0, 0) ∷ (1, 0) ∷ (1, 1) ∷ (3, 2) ∷ []) ≡ Symbol ∷ Unicode ∷ Unicode ∷ Unicode ∷ Unicode ∷ Unicode ∷ Unicode
    ∷ Unicode ∷ Unicode ∷ MacRoman ∷ Mac ∷ Mac ∷ []
unfolding bisect
chosen = refl

by_page : map (chosen_encoding (cmap 3 0)) (0 ∷ 178 ∷ 179 ∷ 180 ∷ []) ≡ Symbol ∷ SimplifiedArabic ∷ TraditionalArabic ∷ Unicode ∷ []
unfolding bisect
by_page = refl

-- with the page of no script, character 0 is that of F000
symbols : map (nominal_in Symbol (chosen_table (cmap 3 0))) (0 ∷ 1 ∷ 61440 ∷ []) ≡ Some 9 ∷ None ∷ Some 9 ∷ []
unfolding bisect
symbols = refl

-- of 3/2, and of a version that isn't 0, nothing is read
no_subtable : chosen_table (cmap 3 2) ∷ chosen_table (1 ∷ 0 ∷ cmap 3 1) ∷ [] ≡ [] ∷ [] ∷ []
unfolding bisect
no_subtable = refl

-- of each two, in HarfBuzz's order, the first is taken: both begin with what is theirs
abbrev two : (ℕ × ℕ) × (ℕ × ℕ) → List ℕ
two k = words (0 ∷ 2 ∷ k.0.0 ∷ k.0.1 ∷ 0 ∷ 20 ∷ k.1.0 ∷ k.1.1 ∷ 0 ∷ 22 ∷ 7 ∷ 8 ∷ [])

first_of_two : map (λ k. chosen_table (two k)) (((3, 0), (3, 10)) ∷ ((0, 4), (3, 1)) ∷ ((0, 0), (1, 0)) ∷ ((1, 0), (1, 1)) ∷ [])
    ≡ words (7 ∷ 8 ∷ []) ∷ words (7 ∷ 8 ∷ []) ∷ words (7 ∷ 8 ∷ []) ∷ words (7 ∷ 8 ∷ []) ∷ []
unfolding bisect
first_of_two = refl

second_of_two : map (λ k. chosen_table (two k)) (((0, 6), (3, 10)) ∷ ((0, 4), (0, 6)) ∷ ((0, 3), (3, 1)) ∷ ((0, 2), (0, 3)) ∷ ((0, 1), (0, 2))
    ∷ ((0, 0), (0, 1)) ∷ []) ≡ words (8 ∷ []) ∷ words (8 ∷ []) ∷ words (8 ∷ []) ∷ words (8 ∷ []) ∷ words (8 ∷ []) ∷ words (8 ∷ []) ∷ []
unfolding bisect
second_of_two = refl

-- collections of version 1 and 2 alone, with no more faces than the file has room for
collections : map face_count_in (map (λ v. 116 ∷ 116 ∷ 99 ∷ 102 ∷ words (v ∷ 0 ∷ 0 ∷ 2 ∷ 0 ∷ 20 ∷ 0 ∷ 21 ∷ [])) (0 ∷ 1 ∷ 2 ∷ 3 ∷ [])
    ++ (116 ∷ 116 ∷ 99 ∷ 102 ∷ words (1 ∷ 0 ∷ 65535 ∷ 65535 ∷ [])) ∷ []) ≡ 0 ∷ 2 ∷ 2 ∷ 0 ∷ 3 ∷ []
collections = refl

-- GDEF of version 1 alone: a file of this one table
abbrev only_gdef : ℕ → List ℕ
only_gdef version = words (0 ∷ 1 ∷ 1 ∷ 0 ∷ 0 ∷ 0 ∷ 0x4744 ∷ 0x4546 ∷ 0 ∷ 0 ∷ 0 ∷ 28 ∷ 0 ∷ 4 ∷ version ∷ 0 ∷ [])

gdefs : map (λ v. gdef_in (only_gdef v) (only_gdef v)) (0 ∷ 1 ∷ 2 ∷ []) ≡ [] ∷ words (1 ∷ 0 ∷ []) ∷ [] ∷ []
unfolding first_from
gdefs = refl

-- a directory of 15 records is read one after the other, of 16 by halves: the last has the tag 1, the others 2
abbrev directory : ℕ → List ℕ
directory count = words (0 ∷ 1 ∷ count ∷ 0 ∷ 0 ∷ 0 ∷ []) ++ flat_map {X = ℕ} (λ n. words (0 ∷ 2 ∷ 0 ∷ 0 ∷ 0 ∷ 0 ∷ 0 ∷ 0 ∷ [])) (replicate (count - 1) 0)
    ++ words (0 ∷ 1 ∷ 0 ∷ 0 ∷ 0 ∷ 0 ∷ 0 ∷ 0 ∷ [])

out_of_order : record_in (directory 15) 1 ∷ record_in (directory 16) 1 ∷ record_in (directory 15) 2 ∷ record_in (directory 16) 2 ∷ []
    ≡ Some 14 ∷ None ∷ Some 0 ∷ Some 7 ∷ []
unfolding bisect first_from
out_of_order = refl
