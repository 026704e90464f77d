-- Tables written out from OpenType's specification, and what they say.
use Rattle.std.specs.Prelude.{ℕ, ◌/◌, ◌%◌, ◌≡◌, refl, List, [], ◌∷◌, ◌++◌, map, flat_map, replicate, None, Some, true, false, pos, negsuc}
use Rattle.opentype_face.specs.Bytes.{u16_in, u32_in, u24_in, i16_in, table_at, stretch_bytes}
use Rattle.opentype_face.specs.Classes.{is_in_set, mark_set_count_in, props_of}
use Rattle.opentype_face.specs.Cmap.{cmap_in}
use Rattle.opentype_face.specs.Glyphs.{class_in, coverage_in}
use Rattle.opentype_face.specs.Lookups.{lookup_in, mark_set_in, operations_in, rule_count_in, subtable_in, subtables_in, type_in}
use Rattle.opentype_face.specs.Ranges.{bisect}
use Rattle.opentype_face.specs.Variants.{variant_in}
use Rattle.opentype_face.specs.declared.variants.GlyphVariant.TheVariants.{NotFound, Found, UseDefault}

-- numbers of two bytes
abbrev words : List ℕ → List ℕ
words ns = flat_map (λ n. n / 256 ∷ n % 256 ∷ []) ns

-- behind the end each byte is 0
numbers : u16_in (1 ∷ 2 ∷ 3 ∷ []) 0 ∷ u16_in (1 ∷ 2 ∷ 3 ∷ []) 2 ∷ u16_in (1 ∷ 2 ∷ 3 ∷ []) 3 ∷ u32_in (1 ∷ 2 ∷ 3 ∷ []) 0
    ∷ u24_in (1 ∷ 2 ∷ 3 ∷ []) 0 ∷ [] ≡ 258 ∷ 768 ∷ 0 ∷ 16909056 ∷ 66051 ∷ []
numbers = refl

signed : map (i16_in (words (0 ∷ 1 ∷ 32767 ∷ 32768 ∷ 65535 ∷ []))) (0 ∷ 2 ∷ 4 ∷ 6 ∷ 8 ∷ [])
    ≡ pos 0 ∷ pos 1 ∷ pos 32767 ∷ negsuc 32767 ∷ negsuc 0 ∷ []
signed = refl

parts : table_at (1 ∷ 2 ∷ 3 ∷ []) 0 ∷ table_at (1 ∷ 2 ∷ 3 ∷ []) 2 ∷ table_at (1 ∷ 2 ∷ 3 ∷ []) 3
    ∷ stretch_bytes (1 ∷ 2 ∷ 3 ∷ []) 1 1 ∷ stretch_bytes (1 ∷ 2 ∷ 3 ∷ []) 1 9 ∷ []
    ≡ [] ∷ (3 ∷ []) ∷ [] ∷ (2 ∷ []) ∷ (2 ∷ 3 ∷ []) ∷ []
parts = refl

-- Coverage format 1: glyphs 5, 9, 12
coverage1 : map (coverage_in (words (1 ∷ 3 ∷ 5 ∷ 9 ∷ 12 ∷ []))) (4 ∷ 5 ∷ 6 ∷ 9 ∷ 12 ∷ 13 ∷ [])
    ≡ None ∷ Some 0 ∷ None ∷ Some 1 ∷ Some 2 ∷ None ∷ []
unfolding bisect
coverage1 = refl

-- Coverage format 2: glyphs 10 to 12 from place 0 on, 20 at place 3
coverage2 : map (coverage_in (words (2 ∷ 2 ∷ 10 ∷ 12 ∷ 0 ∷ 20 ∷ 20 ∷ 3 ∷ []))) (9 ∷ 10 ∷ 12 ∷ 13 ∷ 20 ∷ 21 ∷ [])
    ≡ None ∷ Some 0 ∷ Some 2 ∷ None ∷ Some 3 ∷ None ∷ []
unfolding bisect
coverage2 = refl

-- a format that isn't one
coverage3 : coverage_in (words (3 ∷ 1 ∷ 5 ∷ 5 ∷ 0 ∷ [])) 5 ∷ coverage_in [] 0 ∷ [] ≡ None ∷ None ∷ []
coverage3 = refl

-- ClassDef format 1: from glyph 10 on the classes 1, 2, 0, 3
class1 : map (class_in (words (1 ∷ 10 ∷ 4 ∷ 1 ∷ 2 ∷ 0 ∷ 3 ∷ []))) (9 ∷ 10 ∷ 11 ∷ 12 ∷ 13 ∷ 14 ∷ [])
    ≡ 0 ∷ 1 ∷ 2 ∷ 0 ∷ 3 ∷ 0 ∷ []
class1 = refl

-- ClassDef format 2: glyphs 10 to 12 of class 1, 20 of class 3
class2 : map (class_in (words (2 ∷ 2 ∷ 10 ∷ 12 ∷ 1 ∷ 20 ∷ 20 ∷ 3 ∷ []))) (9 ∷ 10 ∷ 12 ∷ 13 ∷ 20 ∷ 21 ∷ [])
    ≡ 0 ∷ 1 ∷ 1 ∷ 0 ∷ 3 ∷ 0 ∷ []
unfolding bisect
class2 = refl

-- cmap format 0: character 65 is glyph 7
cmap0 : map (cmap_in (words (0 ∷ 262 ∷ 0 ∷ []) ++ replicate 65 0 ++ 7 ∷ replicate 189 0 ++ 9 ∷ []))
    (64 ∷ 65 ∷ 66 ∷ 255 ∷ 256 ∷ []) ≡ None ∷ Some 7 ∷ None ∷ Some 9 ∷ None ∷ []
cmap0 = refl

-- cmap format 4, the specification's example: 10 to 20, 30 to 90, 153 to 480
cmap4 : map (cmap_in (words (4 ∷ 48 ∷ 0 ∷ 8 ∷ 8 ∷ 2 ∷ 0 ∷ 20 ∷ 90 ∷ 480 ∷ 65535 ∷ 0 ∷ 10 ∷ 30 ∷ 153 ∷ 65535
    ∷ 65527 ∷ 65518 ∷ 65456 ∷ 1 ∷ 0 ∷ 0 ∷ 0 ∷ 0 ∷ [])))
    (9 ∷ 10 ∷ 20 ∷ 21 ∷ 30 ∷ 90 ∷ 152 ∷ 153 ∷ 480 ∷ 481 ∷ 65535 ∷ 65546 ∷ [])
    ≡ None ∷ Some 1 ∷ Some 11 ∷ None ∷ Some 12 ∷ Some 72 ∷ None ∷ Some 73 ∷ Some 400 ∷ None ∷ None ∷ None ∷ []
unfolding bisect
cmap4 = refl

-- cmap format 4 with an array of glyphs: 65 to 67 are 5, none, 7, and one more by idDelta
cmap4array : map (cmap_in (words (4 ∷ 38 ∷ 0 ∷ 4 ∷ 4 ∷ 1 ∷ 0 ∷ 67 ∷ 65535 ∷ 0 ∷ 65 ∷ 65535 ∷ 1 ∷ 1 ∷ 4 ∷ 0
    ∷ 5 ∷ 0 ∷ 7 ∷ []))) (64 ∷ 65 ∷ 66 ∷ 67 ∷ 68 ∷ []) ≡ None ∷ Some 6 ∷ None ∷ Some 8 ∷ None ∷ []
unfolding bisect
cmap4array = refl

-- cmap format 6: from 48 on the glyphs 4, 5, 6
cmap6 : map (cmap_in (words (6 ∷ 16 ∷ 0 ∷ 48 ∷ 3 ∷ 4 ∷ 5 ∷ 6 ∷ []))) (47 ∷ 48 ∷ 50 ∷ 51 ∷ [])
    ≡ None ∷ Some 4 ∷ Some 6 ∷ None ∷ []
cmap6 = refl

-- cmap format 10: from 65536 on the glyphs 8, 9
cmap10 : map (cmap_in (words (10 ∷ 0 ∷ 0 ∷ 24 ∷ 0 ∷ 0 ∷ 1 ∷ 0 ∷ 0 ∷ 2 ∷ 8 ∷ 9 ∷ []))) (65535 ∷ 65536 ∷ 65537 ∷ 65538 ∷ [])
    ≡ None ∷ Some 8 ∷ Some 9 ∷ None ∷ []
cmap10 = refl

-- cmap format 12: 65 to 67 from glyph 3 on, 128512 to 128513 from 10 on
cmap12 : map (cmap_in (words (12 ∷ 0 ∷ 0 ∷ 40 ∷ 0 ∷ 0 ∷ 0 ∷ 2 ∷ 0 ∷ 65 ∷ 0 ∷ 67 ∷ 0 ∷ 3
    ∷ 1 ∷ 62976 ∷ 1 ∷ 62977 ∷ 0 ∷ 10 ∷ []))) (64 ∷ 65 ∷ 67 ∷ 68 ∷ 128511 ∷ 128512 ∷ 128513 ∷ 128514 ∷ [])
    ≡ None ∷ Some 3 ∷ Some 5 ∷ None ∷ None ∷ Some 10 ∷ Some 11 ∷ None ∷ []
unfolding bisect
cmap12 = refl

-- cmap format 13: 65 to 90 are all glyph 3
cmap13 : map (cmap_in (words (13 ∷ 0 ∷ 0 ∷ 28 ∷ 0 ∷ 0 ∷ 0 ∷ 1 ∷ 0 ∷ 65 ∷ 0 ∷ 90 ∷ 0 ∷ 3 ∷ []))) (64 ∷ 65 ∷ 90 ∷ 91 ∷ [])
    ≡ None ∷ Some 3 ∷ Some 3 ∷ None ∷ []
unfolding bisect
cmap13 = refl

-- cmap format 14: with FE00, 48 and 49 are as without it, 97 is glyph 9
cmap14 : map (λ c. variant_in (words (14 ∷ 0 ∷ 38 ∷ 0 ∷ 1 ∷ []) ++ 0 ∷ 254 ∷ 0 ∷ words (0 ∷ 21 ∷ 0 ∷ 29 ∷ 0 ∷ 1 ∷ [])
    ++ 0 ∷ 0 ∷ 48 ∷ 1 ∷ words (0 ∷ 1 ∷ []) ++ 0 ∷ 0 ∷ 97 ∷ 0 ∷ 9 ∷ []) c 65024) (47 ∷ 48 ∷ 49 ∷ 50 ∷ 97 ∷ 98 ∷ [])
    ≡ NotFound ∷ UseDefault ∷ UseDefault ∷ NotFound ∷ Found 9 ∷ NotFound ∷ []
unfolding bisect
cmap14 = refl

-- GDEF 1.2: glyphs 3 to 6 are a base, a ligature, a mark of attachment class 2 and a component; set 0 has glyph 5
abbrev gdef : List ℕ
gdef = words (1 ∷ 2 ∷ 14 ∷ 0 ∷ 0 ∷ 28 ∷ 36 ∷ 1 ∷ 3 ∷ 4 ∷ 1 ∷ 2 ∷ 3 ∷ 4 ∷ 1 ∷ 5 ∷ 1 ∷ 2 ∷ 1 ∷ 1 ∷ 0 ∷ 8 ∷ 1 ∷ 1 ∷ 5 ∷ [])

props : map (props_of gdef) (2 ∷ 3 ∷ 4 ∷ 5 ∷ 6 ∷ []) ≡ 0 ∷ 2 ∷ 4 ∷ 520 ∷ 0 ∷ []
props = refl

sets : is_in_set gdef 0 5 ∷ is_in_set gdef 0 4 ∷ is_in_set gdef 1 5 ∷ [] ≡ true ∷ false ∷ false ∷ []
unfolding bisect
sets = refl

-- sets of marks from version 1.2 on, in a table of format 1: the first has another version, the second another format
abbrev old_gdef : ℕ → ℕ → List ℕ
old_gdef version format = words (1 ∷ version ∷ 0 ∷ 0 ∷ 0 ∷ 0 ∷ 14 ∷ format ∷ 1 ∷ 0 ∷ 8 ∷ 1 ∷ 1 ∷ 5 ∷ [])

set_counts : mark_set_count_in (old_gdef 1 1) ∷ mark_set_count_in (old_gdef 2 1) ∷ mark_set_count_in (old_gdef 3 1)
    ∷ mark_set_count_in (old_gdef 2 2) ∷ [] ≡ 0 ∷ 1 ∷ 1 ∷ 0 ∷ []
set_counts = refl

-- lookups by their numbers; type 7 names another subtable, of type 1, two bytes behind; a set of marks behind the subtables
abbrev lookups : List ℕ
lookups = words (1 ∷ 0 ∷ 0 ∷ 0 ∷ 10 ∷ 2 ∷ 6 ∷ 8 ∷ 9 ∷ [])

lookups_by_number : map (lookup_in lookups) (0 ∷ 1 ∷ 2 ∷ []) ≡ words (9 ∷ []) ∷ [] ∷ [] ∷ []
lookups_by_number = refl

abbrev extension : List ℕ
extension = words (7 ∷ 16 ∷ 1 ∷ 10 ∷ 4 ∷ 1 ∷ 1 ∷ 0 ∷ 8 ∷ 33 ∷ [])

extended : subtable_in 7 extension 0 ∷ subtable_in 9 extension 0 ∷ [] ≡ words (33 ∷ []) ∷ words (1 ∷ 1 ∷ 0 ∷ 8 ∷ 33 ∷ []) ∷ []
extended = refl

types : type_in 7 extension 0 ∷ type_in 9 extension 0 ∷ mark_set_in extension ∷ [] ≡ 1 ∷ 7 ∷ 4 ∷ []
types = refl

-- counts of subtables, of which the first 4,096 are read
counts : map (λ count. subtables_in (words (7 ∷ 16 ∷ count ∷ 10 ∷ []))) (0 ∷ 1 ∷ 736 ∷ 4095 ∷ 4096 ∷ 4097 ∷ 65535 ∷ [])
    ≡ 0 ∷ 1 ∷ 736 ∷ 4095 ∷ 4096 ∷ 4096 ∷ 4096 ∷ []
counts = refl

-- and by type: 0 and 10 are none
counts_by_type : map (λ kind. subtables_in (words (kind ∷ 16 ∷ 3 ∷ 10 ∷ []))) (0 ∷ 1 ∷ 8 ∷ 9 ∷ 10 ∷ 256 ∷ 65535 ∷ [])
    ≡ 0 ∷ 3 ∷ 3 ∷ 3 ∷ 0 ∷ 0 ∷ 0 ∷ []
counts_by_type = refl

-- what a rule's lookup takes of the operations
operations : map (λ count. operations_in (words (7 ∷ 16 ∷ count ∷ 10 ∷ []))) (0 ∷ 1 ∷ 3 ∷ 4 ∷ 7 ∷ 8 ∷ 736 ∷ 4095 ∷ 4096 ∷ 65535 ∷ [])
    ≡ 1 ∷ 1 ∷ 1 ∷ 2 ∷ 2 ∷ 3 ∷ 185 ∷ 1024 ∷ 1025 ∷ 1025 ∷ []
operations = refl

-- counts of rules, of which the first 4,096 are read
rule_counts : map (λ count. rule_count_in (words (count ∷ 7 ∷ []))) (0 ∷ 1 ∷ 1836 ∷ 4095 ∷ 4096 ∷ 4097 ∷ 65535 ∷ [])
    ≡ 0 ∷ 1 ∷ 1836 ∷ 4095 ∷ 4096 ∷ 4096 ∷ 4096 ∷ []
rule_counts = refl

-- the count stands in bytes 4 and 5, and what a lookup lacks of them reads as zero
uncounted : map subtables_in ([] ∷ words (7 ∷ 16 ∷ []) ∷ (0 ∷ 7 ∷ 7 ∷ 7 ∷ 7 ∷ []) ∷ []) ≡ 0 ∷ 0 ∷ 1792 ∷ []
uncounted = refl
