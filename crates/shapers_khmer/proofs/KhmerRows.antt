-- Worked rows of Khmer, computed: split vowels, syllables with their masks and clusters.
use Rattle.std.specs.Prelude.{◌≡◌, ◌==◌, ◌+◌, ◌||◌, ℕ, Some, None, false, true, if◌then◌else◌, List, [], ◌∷◌, ◌++◌, map, refl}
use Rattle.std.specs.List.{enumerate_from}
use Rattle.shapers_buffer.specs.declared.buffer.category.hb_unicode_general_category_t.TheVariants.{Lo, Mn}
use Rattle.shapers_buffer.specs.Glyphs.{Glyph, Glyphs}
use Rattle.shapers_buffer.specs.declared.buffer.level.BufferClusterLevel.TheVariants.{MonotoneGraphemes}
use Rattle.shapers_buffer.specs.Glyph.{default_glyph, clusters}
use Rattle.shapers_base.specs.Font.{CharacterTables}
use Rattle.shapers_base.specs.declared.plan.joining.hb_arabic_joining_type_t.TheVariants.{U}
use Rattle.shapers_clusters.specs.Steps.{after_step}
use Rattle.shapers_khmer.specs.declared.ot_shaper_khmer.reordering.KhmerOrder.{KhmerOrder}
use Rattle.shapers_khmer.specs.Khmer.{decomposed_in_khmer, is_coeng, is_ro, is_left_vowel, is_reordered_in_khmer, khmer_circles, khmer_order, khmer_step, order_in, with_mask}
use Rattle.shapers_base.specs.declared.plan.PlanData.TheVariants.{Khmer}
use Rattle.shapers_buffer.specs.Syllables.{unknown_refusal}
use Rattle.shapers_buffer.specs.declared.buffer.refusal.ShaperError.TheVariants.{UnknownSyllable}
use Rattle.shapers_syllabic.specs.Characters.{composed_behind, with_category, with_category_and_position}

-- CHARACTERS, by a table in which 17C1 and 17D2 are marks, all compose to 1 and decompose to 2 and
-- 3, and each has category 15 and position 8
abbrev table : CharacterTables
table = record {
  joining = λ c. U;
  general = λ c. if c == 0x17C1 || c == 0x17D2 then Mn else Lo;
  indic = λ c. (15, 8);
  universal = λ c. 0;
  composed = λ a b. Some 1;
  decomposed = λ ab. Some (2, 3);
}

compositions : map (λ a. composed_behind table a 0x17B8) (0x17C1 ∷ 0x17D2 ∷ 0x1784 ∷ []) ≡ None ∷ None ∷ Some 1 ∷ []
compositions = refl

decompositions : map (decomposed_in_khmer table) (0x17BD ∷ 0x17BE ∷ 0x17BF ∷ 0x17C0 ∷ 0x17C1 ∷ 0x17C3 ∷ 0x17C4 ∷ 0x17C5
    ∷ 0x17C6 ∷ []) ≡ Some (2, 3) ∷ Some (0x17C1, 0x17BE) ∷ Some (0x17C1, 0x17BF) ∷ Some (0x17C1, 0x17C0) ∷ Some (2, 3)
    ∷ Some (2, 3) ∷ Some (0x17C1, 0x17C4) ∷ Some (0x17C1, 0x17C5) ∷ Some (2, 3) ∷ []
decompositions = refl

-- a glyph with all fields set: nothing but the named ones change
abbrev full : Glyph
full = record {
  glyph_id = 0x179A;
  mask = 0x1003;
  cluster = 7;
  glyph_props = record { 0 = 0x70 };
  lig_props = record { 0 = 2 };
  syllable = 0x21;
  unicode_props = record { 0 = 0x09E7 };
  category = 4;
  auxiliary = 5;
}

categories : with_category table full ≡ record full { category = 15 }
categories = refl

categories_and_positions : with_category_and_position table full ≡ record full { category = 15; auxiliary = 8 }
categories_and_positions = refl

masks : with_mask 0x25 full ≡ record full { mask = 0x1023 }
masks = refl

-- SYLLABLES: glyphs by number and category, of a syllable of a kind, in clusters 0, 1, 2 ..
abbrev glyphs : ℕ → List (ℕ × ℕ) → Glyphs
glyphs kind gs = map (λ p. let g : Glyph = record default_glyph {
  glyph_id = p.1.0;
  cluster = p.0;
  syllable = 0x30 + kind;
  category = p.1.1;
} in g) (enumerate_from 0 gs)

-- with the masks of pref 10, of blwf, abvf and pstf E0, of cfar 100
abbrev by_masks : KhmerOrder
by_masks = record { others = 0xE0; pref = 0x10; cfar = 0x100 }

-- number and mask of each glyph of the result, and the clusters
abbrev shown : ℕ → List (ℕ × ℕ) → List (ℕ × ℕ)
shown kind gs = map (λ g. (g.glyph_id, g.mask)) (khmer_order by_masks (glyphs kind gs))

abbrev clusters_after : ℕ → List (ℕ × ℕ) → List ℕ
clusters_after kind gs = clusters (after_step MonotoneGraphemes (khmer_step (glyphs kind gs)) (glyphs kind gs))

-- consonants, Coengs, Ros and left vowels, told apart by their numbers
abbrev c : ℕ → ℕ × ℕ
c n = (n, 1)

abbrev h : ℕ → ℕ × ℕ
h n = (n, 4)

abbrev ra : ℕ → ℕ × ℕ
ra n = (n, 15)

abbrev pre : ℕ → ℕ × ℕ
pre n = (n, 22)

-- the categories
signs : map is_coeng (3 ∷ 4 ∷ 5 ∷ []) ++ (map is_ro (14 ∷ 15 ∷ 16 ∷ []) ++ map is_left_vowel (21 ∷ 22 ∷ 23 ∷ []))
    ≡ false ∷ true ∷ false ∷ false ∷ true ∷ false ∷ false ∷ true ∷ false ∷ []
signs = refl

-- the kinds: consonant syllables and broken ones
kinds : map (λ kind. is_reordered_in_khmer (glyphs kind (c 1 ∷ []))) (0 ∷ 1 ∷ 2 ∷ 3 ∷ []) ≡ true ∷ true ∷ false ∷ false
    ∷ []
kinds = refl

nothing : is_reordered_in_khmer [] ≡ false
nothing = refl

-- C H Ra H C
one_pair : shown 0 (c 0x1784 ∷ h 0x17D2 ∷ ra 0x179A ∷ h 0x17D2 ∷ c 0x1782 ∷ []) ≡ (0x17D2, 0xF0) ∷ (0x179A, 0xF0)
    ∷ (0x1784, 0) ∷ (0x17D2, 0x1E0) ∷ (0x1782, 0x1E0) ∷ []
one_pair = refl

one_pair_clusters : clusters_after 0 (c 0x1784 ∷ h 0x17D2 ∷ ra 0x179A ∷ h 0x17D2 ∷ c 0x1782 ∷ []) ≡ 0 ∷ 0 ∷ 0 ∷ 3 ∷ 4
    ∷ []
one_pair_clusters = refl

-- C H1 Ra1 H2 Ra2: the last pair stands first, and has cfar for the one before it
two_pairs : shown 0 (c 1 ∷ h 2 ∷ ra 3 ∷ h 4 ∷ ra 5 ∷ []) ≡ (4, 0x1F0) ∷ (5, 0x1F0) ∷ (2, 0xF0) ∷ (3, 0xF0) ∷ (1, 0) ∷ []
two_pairs = refl

two_pairs_clusters : clusters_after 0 (c 1 ∷ h 2 ∷ ra 3 ∷ h 4 ∷ ra 5 ∷ []) ≡ 0 ∷ 0 ∷ 0 ∷ 0 ∷ 0 ∷ []
two_pairs_clusters = refl

-- the third Coeng met still moves, the fourth doesn't
third_coeng : shown 0 (c 1 ∷ h 2 ∷ c 3 ∷ h 4 ∷ c 5 ∷ h 6 ∷ ra 7 ∷ []) ≡ (6, 0xF0) ∷ (7, 0xF0) ∷ (1, 0) ∷ (2, 0xE0)
    ∷ (3, 0xE0) ∷ (4, 0xE0) ∷ (5, 0xE0) ∷ []
third_coeng = refl

fourth_coeng : shown 0 (c 1 ∷ h 2 ∷ c 3 ∷ h 4 ∷ c 5 ∷ h 6 ∷ c 7 ∷ h 8 ∷ ra 9 ∷ []) ≡ (1, 0) ∷ (2, 0xE0) ∷ (3, 0xE0)
    ∷ (4, 0xE0) ∷ (5, 0xE0) ∷ (6, 0xE0) ∷ (7, 0xE0) ∷ (8, 0xE0) ∷ (9, 0xE0) ∷ []
fourth_coeng = refl

-- after a pair a Coeng without Ro counts, and no later pair moves
pair_then_other : shown 0 (c 1 ∷ h 2 ∷ ra 3 ∷ h 4 ∷ c 5 ∷ h 6 ∷ ra 7 ∷ []) ≡ (2, 0xF0) ∷ (3, 0xF0) ∷ (1, 0) ∷ (4, 0x1E0)
    ∷ (5, 0x1E0) ∷ (6, 0x1E0) ∷ (7, 0x1E0) ∷ []
pair_then_other = refl

-- a last Coeng stays, and a vowel moves with no mask of its own
vowels : shown 1 (c 1 ∷ pre 2 ∷ c 3 ∷ pre 4 ∷ h 5 ∷ []) ≡ (4, 0xE0) ∷ (2, 0xE0) ∷ (1, 0) ∷ (3, 0xE0) ∷ (5, 0xE0) ∷ []
vowels = refl

vowels_clusters : clusters_after 1 (c 1 ∷ pre 2 ∷ c 3 ∷ pre 4 ∷ h 5 ∷ []) ≡ 0 ∷ 0 ∷ 0 ∷ 0 ∷ 4 ∷ []
vowels_clusters = refl

-- a vowel and a pair
both : shown 0 (c 1 ∷ h 2 ∷ ra 3 ∷ pre 4 ∷ []) ≡ (4, 0x1E0) ∷ (2, 0xF0) ∷ (3, 0xF0) ∷ (1, 0) ∷ []
both = refl

-- irregular syllables: the first is a vowel; neighbouring Coengs
first_vowel : shown 0 (pre 1 ∷ h 2 ∷ ra 3 ∷ []) ≡ (1, 0) ∷ (2, 0xF0) ∷ (3, 0xF0) ∷ []
first_vowel = refl

first_vowel_clusters : clusters_after 0 (pre 1 ∷ h 2 ∷ ra 3 ∷ []) ≡ 0 ∷ 0 ∷ 0 ∷ []
first_vowel_clusters = refl

two_coengs : shown 0 (h 1 ∷ h 2 ∷ ra 3 ∷ ra 4 ∷ []) ≡ (1, 0x10) ∷ (4, 0x1F0) ∷ (2, 0xF0) ∷ (3, 0xF0) ∷ []
two_coengs = refl

two_coengs_clusters : clusters_after 0 (h 1 ∷ h 2 ∷ ra 3 ∷ ra 4 ∷ []) ≡ 0 ∷ 0 ∷ 0 ∷ 0 ∷ []
two_coengs_clusters = refl

-- C H1 VPre H2 Ra1 Ra2: behind the pair that moved, the Coeng before the vowel is looked at again,
-- and it moves with a Ro three places behind it
looked_at_again : shown 0 (c 1 ∷ h 2 ∷ pre 3 ∷ h 4 ∷ ra 5 ∷ ra 6 ∷ []) ≡ (2, 0xF0) ∷ (6, 0x1F0) ∷ (4, 0xF0) ∷ (5, 0xF0)
    ∷ (3, 0xE0) ∷ (1, 0) ∷ []
looked_at_again = refl

looked_at_again_clusters : clusters_after 0 (c 1 ∷ h 2 ∷ pre 3 ∷ h 4 ∷ ra 5 ∷ ra 6 ∷ []) ≡ 0 ∷ 0 ∷ 0 ∷ 0 ∷ 0 ∷ 0 ∷ []
looked_at_again_clusters = refl

-- a circle and its consonant
broken : shown 1 ((0x25CC, 11) ∷ c 2 ∷ []) ≡ (0x25CC, 0) ∷ (2, 0xE0) ∷ []
broken = refl

-- nothing but masks and places changes, and no properties count
abbrev full_of : ℕ → Glyph
full_of category = record full { category = category }

fields_stay : khmer_order by_masks (full_of 1 ∷ full_of 4 ∷ full_of 15 ∷ []) ≡ record (full_of 4) { mask = 0x10F3 }
    ∷ record (full_of 15) { mask = 0x10F3 } ∷ full_of 1 ∷ []
fields_stay = refl

-- what isn't Khmer stays as it is, and one glyph alone does
others_stay : shown 2 (c 1 ∷ h 2 ∷ ra 3 ∷ []) ≡ (1, 0) ∷ (2, 0) ∷ (3, 0) ∷ []
others_stay = refl

others_keep_clusters : clusters_after 2 (c 1 ∷ h 2 ∷ ra 3 ∷ []) ≡ 0 ∷ 1 ∷ 2 ∷ []
others_keep_clusters = refl

alone : shown 0 (c 1 ∷ []) ≡ (1, 0) ∷ []
alone = refl

empty : khmer_order by_masks [] ≡ []
empty = refl

-- a kind that isn't known
unknown : unknown_refusal 2 (glyphs 2 (c 1 ∷ []) ++ glyphs 3 (c 2 ∷ [])) ≡ Some (UnknownSyllable 1)
unknown = refl

-- the masks by the plan's data
by_plan : order_in (Khmer (record { mask_array = 0x10 ∷ 0x20 ∷ 0x40 ∷ 0x80 ∷ 0x100 ∷ 0 ∷ 0 ∷ 0 ∷ 0 ∷ [] })) ≡ by_masks
by_plan = refl

-- dotted circles, of category 11, come into broken syllables, of kind 1, behind leading glyphs of category 14
circles : khmer_circles ≡ record { broken_kind = 1; category = 11; repha = Some 14; position = None }
circles = refl
