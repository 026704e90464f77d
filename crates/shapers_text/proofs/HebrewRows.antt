-- Hebrew computed on small texts.
use Rattle.std.specs.Prelude.{◌≡◌, ℕ, true, false, Option, Some, None, List, [], ◌∷◌, map, flat_map, replicate, refl}
use Rattle.std.specs.List.{range_with_len}
use Rattle.shapers_buffer.specs.declared.buffer.category.hb_unicode_general_category_t.{hb_unicode_general_category_t}
use Rattle.shapers_buffer.specs.declared.buffer.category.hb_unicode_general_category_t.TheVariants.{Cc, Cf, Lo, Mc, Me, Mn, Zs}
use Rattle.shapers_buffer.specs.Glyphs.{Glyph, Glyphs}
use Rattle.shapers_buffer.specs.declared.buffer.level.BufferClusterLevel.TheVariants.{MonotoneGraphemes, Characters}
use Rattle.shapers_buffer.specs.Glyph.{default_glyph, clusters}
use Rattle.shapers_buffer.specs.Properties.{CONTINUATION, IGNORABLE, general_category, modified_combining_class, properties, with_property}
use Rattle.shapers_clusters.specs.Steps.{after_step}
use Rattle.shapers_text.specs.Hebrew.{composed_in_hebrew, hebrew_form, is_meteg_or_below, is_patah_or_qamats, is_sheva_or_hiriq, hebrew_mark_step, marks_swapped, second_of_triple, triple_place}

-- marks of these classes and clusters
abbrev marks : List (ℕ × ℕ) → Glyphs
marks ms = map
    (λ m. let g : Glyph = record default_glyph { unicode_props = properties Mn m.0; cluster = m.1 } in g) ms

abbrev classes : Glyphs → List ℕ
classes gs = map (λ g. modified_combining_class g.unicode_props) gs

abbrev twice : Glyphs
twice = marks ((20, 0) ∷ (22, 1) ∷ (25, 2) ∷ (20, 3) ∷ (22, 4) ∷ (25, 5) ∷ [])

-- of two triples the first
first_alone : classes (after_step MonotoneGraphemes (hebrew_mark_step 0 6 twice) twice) ≡ 20 ∷ 25 ∷ 22 ∷ 20 ∷ 22 ∷ 25 ∷ []
unfolding modified_combining_class general_category
first_alone = refl

first_merges : clusters (after_step MonotoneGraphemes (hebrew_mark_step 0 6 twice) twice) ≡ 0 ∷ 1 ∷ 1 ∷ 3 ∷ 4 ∷ 5 ∷ []
unfolding modified_combining_class general_category
first_merges = refl

-- at level Characters the marks take their clusters along
characters : clusters (after_step Characters (hebrew_mark_step 0 6 twice) twice) ≡ 0 ∷ 2 ∷ 1 ∷ 3 ∷ 4 ∷ 5 ∷ []
unfolding modified_combining_class general_category
characters = refl

-- what a letter and a point compose to
abbrev formed : ℕ × ℕ → Option ℕ
formed p = hebrew_form p.0 p.1

-- glyphs of a category with these high bytes, and marks of these classes
abbrev of_category : hb_unicode_general_category_t → List ℕ → Glyphs
of_category category bytes = map
    (λ byte. let g : Glyph = record default_glyph { unicode_props = properties category byte } in g) bytes

abbrev of_classes : List ℕ → Glyphs
of_classes cs = of_category Mn cs

-- the fourteen pairs, from the names of the presentation forms
fourteen : map formed ((0x05D9, 0x05B4) ∷ (0x05F2, 0x05B7) ∷ (0x05D0, 0x05B7) ∷ (0x05D0, 0x05B8) ∷ (0x05D5, 0x05B9)
    ∷ (0xFB2A, 0x05BC) ∷ (0xFB2B, 0x05BC) ∷ (0x05D1, 0x05BF) ∷ (0x05DB, 0x05BF) ∷ (0x05E4, 0x05BF) ∷ (0x05E9, 0x05C1)
    ∷ (0xFB49, 0x05C1) ∷ (0x05E9, 0x05C2) ∷ (0xFB49, 0x05C2) ∷ []) ≡ Some 0xFB1D ∷ Some 0xFB1F ∷ Some 0xFB2E
    ∷ Some 0xFB2F ∷ Some 0xFB4B ∷ Some 0xFB2C ∷ Some 0xFB2D ∷ Some 0xFB4C ∷ Some 0xFB4D ∷ Some 0xFB4E ∷ Some 0xFB2A
    ∷ Some 0xFB2C ∷ Some 0xFB2B ∷ Some 0xFB2D ∷ []
fourteen = refl

-- dagesh on each letter from 05CF to 05EB: one before alef, the five that have no form, and one after tav
dagesh : map (λ a. hebrew_form a 0x05BC) (range_with_len 0x05CF 29) ≡ None ∷ Some 0xFB30 ∷ Some 0xFB31 ∷ Some 0xFB32
    ∷ Some 0xFB33 ∷ Some 0xFB34 ∷ Some 0xFB35 ∷ Some 0xFB36 ∷ None ∷ Some 0xFB38 ∷ Some 0xFB39 ∷ Some 0xFB3A
    ∷ Some 0xFB3B ∷ Some 0xFB3C ∷ None ∷ Some 0xFB3E ∷ None ∷ Some 0xFB40 ∷ Some 0xFB41 ∷ None ∷ Some 0xFB43
    ∷ Some 0xFB44 ∷ None ∷ Some 0xFB46 ∷ Some 0xFB47 ∷ Some 0xFB48 ∷ Some 0xFB49 ∷ Some 0xFB4A ∷ None ∷ []
dagesh = refl

-- each letter of a pair with every point from 05B0 to 05C7
abbrev points : List ℕ
points = range_with_len 0x05B0 24

points_on_05d0 : map (hebrew_form 0x05D0) points ≡ None ∷ None ∷ None ∷ None ∷ None ∷ None ∷ None ∷ Some 0xFB2E
    ∷ Some 0xFB2F ∷ None ∷ None ∷ None ∷ Some 0xFB30 ∷ None ∷ None ∷ None ∷ None ∷ None ∷ None ∷ None ∷ None ∷ None
    ∷ None ∷ None ∷ []
points_on_05d0 = refl

points_on_05d1 : map (hebrew_form 0x05D1) points ≡ None ∷ None ∷ None ∷ None ∷ None ∷ None ∷ None ∷ None ∷ None ∷ None
    ∷ None ∷ None ∷ Some 0xFB31 ∷ None ∷ None ∷ Some 0xFB4C ∷ None ∷ None ∷ None ∷ None ∷ None ∷ None ∷ None ∷ None ∷ []
points_on_05d1 = refl

points_on_05d5 : map (hebrew_form 0x05D5) points ≡ None ∷ None ∷ None ∷ None ∷ None ∷ None ∷ None ∷ None ∷ None
    ∷ Some 0xFB4B ∷ None ∷ None ∷ Some 0xFB35 ∷ None ∷ None ∷ None ∷ None ∷ None ∷ None ∷ None ∷ None ∷ None ∷ None
    ∷ None ∷ []
points_on_05d5 = refl

points_on_05d9 : map (hebrew_form 0x05D9) points ≡ None ∷ None ∷ None ∷ None ∷ Some 0xFB1D ∷ None ∷ None ∷ None ∷ None
    ∷ None ∷ None ∷ None ∷ Some 0xFB39 ∷ None ∷ None ∷ None ∷ None ∷ None ∷ None ∷ None ∷ None ∷ None ∷ None ∷ None ∷ []
points_on_05d9 = refl

points_on_05db : map (hebrew_form 0x05DB) points ≡ None ∷ None ∷ None ∷ None ∷ None ∷ None ∷ None ∷ None ∷ None ∷ None
    ∷ None ∷ None ∷ Some 0xFB3B ∷ None ∷ None ∷ Some 0xFB4D ∷ None ∷ None ∷ None ∷ None ∷ None ∷ None ∷ None ∷ None ∷ []
points_on_05db = refl

points_on_05e4 : map (hebrew_form 0x05E4) points ≡ None ∷ None ∷ None ∷ None ∷ None ∷ None ∷ None ∷ None ∷ None ∷ None
    ∷ None ∷ None ∷ Some 0xFB44 ∷ None ∷ None ∷ Some 0xFB4E ∷ None ∷ None ∷ None ∷ None ∷ None ∷ None ∷ None ∷ None ∷ []
points_on_05e4 = refl

points_on_05e9 : map (hebrew_form 0x05E9) points ≡ None ∷ None ∷ None ∷ None ∷ None ∷ None ∷ None ∷ None ∷ None ∷ None
    ∷ None ∷ None ∷ Some 0xFB49 ∷ None ∷ None ∷ None ∷ None ∷ Some 0xFB2A ∷ Some 0xFB2B ∷ None ∷ None ∷ None ∷ None
    ∷ None ∷ []
points_on_05e9 = refl

points_on_05f2 : map (hebrew_form 0x05F2) points ≡ None ∷ None ∷ None ∷ None ∷ None ∷ None ∷ None ∷ Some 0xFB1F ∷ None
    ∷ None ∷ None ∷ None ∷ None ∷ None ∷ None ∷ None ∷ None ∷ None ∷ None ∷ None ∷ None ∷ None ∷ None ∷ None ∷ []
points_on_05f2 = refl

points_on_fb2a : map (hebrew_form 0xFB2A) points ≡ None ∷ None ∷ None ∷ None ∷ None ∷ None ∷ None ∷ None ∷ None ∷ None
    ∷ None ∷ None ∷ Some 0xFB2C ∷ None ∷ None ∷ None ∷ None ∷ None ∷ None ∷ None ∷ None ∷ None ∷ None ∷ None ∷ []
points_on_fb2a = refl

points_on_fb2b : map (hebrew_form 0xFB2B) points ≡ None ∷ None ∷ None ∷ None ∷ None ∷ None ∷ None ∷ None ∷ None ∷ None
    ∷ None ∷ None ∷ Some 0xFB2D ∷ None ∷ None ∷ None ∷ None ∷ None ∷ None ∷ None ∷ None ∷ None ∷ None ∷ None ∷ []
points_on_fb2b = refl

points_on_fb49 : map (hebrew_form 0xFB49) points ≡ None ∷ None ∷ None ∷ None ∷ None ∷ None ∷ None ∷ None ∷ None ∷ None
    ∷ None ∷ None ∷ None ∷ None ∷ None ∷ None ∷ None ∷ Some 0xFB2C ∷ Some 0xFB2D ∷ None ∷ None ∷ None ∷ None ∷ None ∷ []
points_on_fb49 = refl

-- their neighbours with the points of the pairs have none
abbrev neighbours : List ℕ
neighbours = 0x05F1 ∷ 0x05F3 ∷ 0x05D8 ∷ 0x05DA ∷ 0x05CF ∷ 0x05D4 ∷ 0x05D6 ∷ 0x05E3 ∷ 0x05E8 ∷ 0x05EA ∷ 0xFB29 ∷ 0xFB48
    ∷ 0xFB4A ∷ 0xFB4B ∷ 0x0041 ∷ []

no_neighbour : flat_map (λ b. map (λ a. hebrew_form a b) neighbours) (0x05B4 ∷ 0x05B7 ∷ 0x05B8 ∷ 0x05B9 ∷ 0x05BF
    ∷ 0x05C1 ∷ 0x05C2 ∷ []) ≡ replicate 105 None
no_neighbour = refl

-- the table comes first, and the forms only where the font places no marks
composed : composed_in_hebrew (Some 0x41) false 0x05D0 0x05B7 ∷ composed_in_hebrew (Some 0x41) true 0x05D0 0x05B7
    ∷ composed_in_hebrew None false 0x05D0 0x05B7 ∷ composed_in_hebrew None true 0x05D0 0x05B7
    ∷ composed_in_hebrew None false 0x05D0 0x05B0 ∷ [] ≡ Some 0x41 ∷ Some 0x41 ∷ Some 0xFB2E ∷ None ∷ None ∷ []
composed = refl

-- the classes of each place of a triple, with neighbours that don't count
abbrev near : List ℕ
near = 0 ∷ 1 ∷ 19 ∷ 20 ∷ 21 ∷ 22 ∷ 23 ∷ 24 ∷ 25 ∷ 26 ∷ 27 ∷ 219 ∷ 220 ∷ 221 ∷ 230 ∷ []

first_classes : map is_patah_or_qamats near ≡ false ∷ false ∷ false ∷ true ∷ true ∷ false ∷ false ∷ false ∷ false
    ∷ false ∷ false ∷ false ∷ false ∷ false ∷ false ∷ []
first_classes = refl

second_classes : map is_sheva_or_hiriq near ≡ false ∷ false ∷ false ∷ false ∷ false ∷ true ∷ true ∷ false ∷ false
    ∷ false ∷ false ∷ false ∷ false ∷ false ∷ false ∷ []
second_classes = refl

third_classes : map is_meteg_or_below near ≡ false ∷ false ∷ false ∷ false ∷ false ∷ false ∷ false ∷ false ∷ true
    ∷ false ∷ false ∷ false ∷ true ∷ false ∷ false ∷ []
third_classes = refl

-- each of the eight triples, and three that aren't one by one class alone
triples : map (λ cs. triple_place (of_classes cs)) ((20 ∷ 22 ∷ 25 ∷ []) ∷ (20 ∷ 22 ∷ 220 ∷ []) ∷ (20 ∷ 23 ∷ 25 ∷ [])
    ∷ (20 ∷ 23 ∷ 220 ∷ []) ∷ (21 ∷ 22 ∷ 25 ∷ []) ∷ (21 ∷ 22 ∷ 220 ∷ []) ∷ (21 ∷ 23 ∷ 25 ∷ []) ∷ (21 ∷ 23 ∷ 220 ∷ [])
    ∷ []) ≡ replicate 8 (Some 0)
unfolding modified_combining_class general_category
triples = refl

no_triples : map (λ cs. triple_place (of_classes cs)) ([] ∷ (20 ∷ []) ∷ (20 ∷ 22 ∷ []) ∷ (22 ∷ 20 ∷ 25 ∷ [])
    ∷ (20 ∷ 25 ∷ 22 ∷ []) ∷ (20 ∷ 22 ∷ 22 ∷ []) ∷ (20 ∷ 20 ∷ 25 ∷ []) ∷ (22 ∷ 22 ∷ 25 ∷ []) ∷ (20 ∷ 22 ∷ 26 ∷ [])
    ∷ (20 ∷ 22 ∷ 0 ∷ 25 ∷ []) ∷ []) ≡ replicate 10 None
unfolding modified_combining_class general_category
no_triples = refl

-- glyphs of any category are, but for Cf and Zs, whose high bytes are no classes
by_category : map (λ category. triple_place (of_category category (20 ∷ 22 ∷ 25 ∷ [])))
    (Lo ∷ Cc ∷ Cf ∷ Zs ∷ Me ∷ Mc ∷ Mn ∷ []) ≡ Some 0 ∷ Some 0 ∷ None ∷ None ∷ Some 0 ∷ Some 0 ∷ Some 0 ∷ []
unfolding modified_combining_class general_category
by_category = refl

-- the first of two triples of letters
abbrev letters : Glyphs
letters = of_category Lo (20 ∷ 22 ∷ 25 ∷ 20 ∷ 22 ∷ 25 ∷ [])

letters_swapped : marks_swapped 0 6 letters ≡ of_category Lo (20 ∷ 25 ∷ 22 ∷ 20 ∷ 22 ∷ 25 ∷ [])
unfolding modified_combining_class general_category
letters_swapped = refl

-- behind others, at the end of the text, and the first of two, which may overlap what is nearly one
later : map (λ cs. triple_place (of_classes cs)) ((0 ∷ 20 ∷ 22 ∷ 25 ∷ []) ∷ (20 ∷ 20 ∷ 22 ∷ 25 ∷ [])
    ∷ (20 ∷ 22 ∷ 20 ∷ 22 ∷ 220 ∷ []) ∷ (20 ∷ 22 ∷ 25 ∷ 21 ∷ 23 ∷ 220 ∷ []) ∷ []) ≡ Some 1 ∷ Some 1 ∷ Some 2 ∷ Some 0
    ∷ []
unfolding modified_combining_class general_category
later = refl

-- within a stretch alone: from its start on, up to its end, and no triple that reaches over either
abbrev six : Glyphs
six = of_classes (20 ∷ 22 ∷ 25 ∷ 21 ∷ 23 ∷ 220 ∷ [])

within : map (λ (s : ℕ × ℕ). second_of_triple s.0 s.1 six) ((0, 6) ∷ (0, 3) ∷ (0, 2) ∷ (1, 6) ∷ (1, 5) ∷ (3, 6) ∷ (4, 6)
    ∷ (3, 3) ∷ []) ≡ Some 1 ∷ Some 1 ∷ None ∷ Some 4 ∷ None ∷ Some 4 ∷ None ∷ None ∷ []
unfolding modified_combining_class general_category
within = refl

swapped : map (λ (s : ℕ × ℕ). classes (marks_swapped s.0 s.1 six)) ((0, 6) ∷ (1, 6) ∷ (1, 5) ∷ [])
    ≡ (20 ∷ 25 ∷ 22 ∷ 21 ∷ 23 ∷ 220 ∷ []) ∷ (20 ∷ 22 ∷ 25 ∷ 21 ∷ 220 ∷ 23 ∷ []) ∷ (20 ∷ 22 ∷ 25 ∷ 21 ∷ 23 ∷ 220 ∷ [])
    ∷ []
unfolding modified_combining_class general_category
swapped = refl

-- the step: the last two merge and change places, in a text of six marks
second_step : hebrew_mark_step 1 6 six
    ≡ record { merged_first = (4, 6) ∷ []; places = 0 ∷ 1 ∷ 2 ∷ 3 ∷ 5 ∷ 4 ∷ []; merged_then = [] }
unfolding modified_combining_class general_category
second_step = refl

no_step : hebrew_mark_step 1 5 six ≡ record { merged_first = []; places = 0 ∷ 1 ∷ 2 ∷ 3 ∷ 4 ∷ 5 ∷ []; merged_then = [] }
unfolding modified_combining_class general_category
no_step = refl

-- with a start above 0, where clusters are merged and flags fall, all other fields stay
abbrev full : ℕ → ℕ → ℕ → Glyph
full class c m = record {
  glyph_id = 0x05B7;
  cluster = c;
  mask = m;
  syllable = 0x24;
  category = 1;
  auxiliary = 3;
  glyph_props = record { 0 = 0x70 };
  lig_props = record { 0 = 2 };
  unicode_props = with_property CONTINUATION (with_property IGNORABLE (properties Mn class));
}

full_swapped : after_step MonotoneGraphemes
    (hebrew_mark_step 1 4 (full 20 0 15 ∷ full 21 1 15 ∷ full 23 2 15 ∷ full 220 3 15 ∷ []))
    (full 20 0 15 ∷ full 21 1 15 ∷ full 23 2 15 ∷ full 220 3 15 ∷ []) ≡ full 20 0 15 ∷ full 21 1 15 ∷ full 220 2 8
    ∷ full 23 2 15 ∷ []
unfolding modified_combining_class general_category
full_swapped = refl
