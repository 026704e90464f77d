-- Worked rows of the order by movers, computed: regular syllables, parts, movers, orders.
use Rattle.std.specs.Prelude.{List, ◌≡◌, ℕ, false, true, [], ◌∷◌, map, refl}
use Rattle.shapers_buffer.specs.Glyph.{default_glyph}
use Rattle.shapers_buffer.specs.Glyphs.{Glyph}
use Rattle.shapers_khmer.specs.declared.ot_shaper_khmer.reordering.KhmerOrder.{KhmerOrder}
use Rattle.shapers_khmer.specs.KhmerMovers.{Alone, Coeng, behind_coengs, coeng_place, is_mover, is_regular, khmer_by_movers, masked_at, masked_by_movers, merged_over, merges_by_movers, moves_behind, moving_coengs, order_by_movers, parts_from, part_places, with_mask_if}

-- the categories: a consonant, Coeng, Ro, a left vowel
abbrev c : ℕ
c = 1

abbrev h : ℕ
h = 4

abbrev ra : ℕ
ra = 15

abbrev pre : ℕ
pre = 22

-- regular: none, a consonant, a last Coeng (also behind a vowel), Ro first; a Coeng that is neither
-- first nor before Coeng or vowel
regular : map is_regular ([] ∷ (c ∷ []) ∷ (ra ∷ h ∷ []) ∷ (c ∷ pre ∷ h ∷ []) ∷ (c ∷ h ∷ ra ∷ h ∷ c ∷ [])
    ∷ (c ∷ pre ∷ pre ∷ []) ∷ []) ≡ true ∷ true ∷ true ∷ true ∷ true ∷ true ∷ []
regular = refl

irregular : map is_regular ((h ∷ []) ∷ (pre ∷ []) ∷ (pre ∷ h ∷ ra ∷ []) ∷ (h ∷ h ∷ ra ∷ ra ∷ []) ∷ (c ∷ h ∷ h ∷ [])
    ∷ (c ∷ h ∷ pre ∷ []) ∷ (c ∷ c ∷ h ∷ pre ∷ c ∷ []) ∷ []) ≡ false ∷ false ∷ false ∷ false ∷ false ∷ false ∷ false ∷ []
irregular = refl

-- parts: Coeng with what stands behind it, a last Coeng alone
parts : parts_from 3 (c ∷ h ∷ ra ∷ pre ∷ h ∷ c ∷ h ∷ []) ≡ Alone 3 c ∷ Coeng 4 ra ∷ Alone 6 pre ∷ Coeng 7 c ∷ Alone 9 h
    ∷ []
parts = refl

no_parts : parts_from 3 [] ≡ []
no_parts = refl

places : map part_places (Coeng 4 c ∷ Alone 6 h ∷ []) ≡ (4 ∷ 5 ∷ []) ∷ (6 ∷ []) ∷ []
places = refl

behind : behind_coengs (Alone 3 c ∷ Coeng 4 ra ∷ Alone 6 pre ∷ Coeng 7 c ∷ Alone 9 h ∷ []) ≡ ra ∷ c ∷ []
behind = refl

-- behind none, two others, Ros, two others and Ros; not behind three others, nor behind an other behind a Ro
moving : map moves_behind ([] ∷ (c ∷ c ∷ []) ∷ (ra ∷ ra ∷ ra ∷ ra ∷ []) ∷ (c ∷ c ∷ ra ∷ ra ∷ []) ∷ [])
    ≡ true ∷ true ∷ true ∷ true ∷ []
moving = refl

staying : map moves_behind ((c ∷ c ∷ c ∷ []) ∷ (c ∷ c ∷ c ∷ ra ∷ []) ∷ (ra ∷ c ∷ []) ∷ (c ∷ ra ∷ ra ∷ c ∷ ra ∷ []) ∷ [])
    ≡ false ∷ false ∷ false ∷ false ∷ []
staying = refl

-- vowels move behind all, others never, nor a last Coeng; Ro behind a Coeng, but no other
movers : map is_mover ((Coeng 1 c ∷ Coeng 3 c ∷ Coeng 5 c ∷ [], Alone 7 pre) ∷ ([], Alone 0 c) ∷ ([], Alone 0 h)
    ∷ ([], Alone 0 ra) ∷ (Alone 0 c ∷ [], Coeng 1 ra) ∷ (Alone 0 c ∷ [], Coeng 1 c)
    ∷ (Coeng 1 ra ∷ Coeng 3 c ∷ [], Coeng 5 ra) ∷ []) ≡ true ∷ false ∷ false ∷ false ∷ true ∷ false ∷ false ∷ []
movers = refl

-- C H Ra H C, and C H Ra H Ra: the last pair stands first
one_pair : order_by_movers (c ∷ h ∷ ra ∷ h ∷ c ∷ []) ≡ 1 ∷ 2 ∷ 0 ∷ 3 ∷ 4 ∷ []
one_pair = refl

two_pairs : order_by_movers (c ∷ h ∷ ra ∷ h ∷ ra ∷ []) ≡ 3 ∷ 4 ∷ 1 ∷ 2 ∷ 0 ∷ []
two_pairs = refl

-- Ro behind the third Coeng moves, behind the fourth it doesn't
third_coeng : order_by_movers (c ∷ h ∷ c ∷ h ∷ c ∷ h ∷ ra ∷ []) ≡ 5 ∷ 6 ∷ 0 ∷ 1 ∷ 2 ∷ 3 ∷ 4 ∷ []
third_coeng = refl

fourth_coeng : order_by_movers (c ∷ h ∷ c ∷ h ∷ c ∷ h ∷ c ∷ h ∷ ra ∷ []) ≡ 0 ∷ 1 ∷ 2 ∷ 3 ∷ 4 ∷ 5 ∷ 6 ∷ 7 ∷ 8 ∷ []
fourth_coeng = refl

-- from the first pair on all have Ro: three pairs behind two others; none behind another
run_of_pairs : order_by_movers (c ∷ h ∷ c ∷ h ∷ c ∷ h ∷ ra ∷ h ∷ ra ∷ h ∷ ra ∷ []) ≡ 9 ∷ 10 ∷ 7 ∷ 8 ∷ 5 ∷ 6 ∷ 0 ∷ 1 ∷ 2
    ∷ 3 ∷ 4 ∷ []
run_of_pairs = refl

pair_then_other : order_by_movers (c ∷ h ∷ ra ∷ h ∷ c ∷ h ∷ ra ∷ []) ≡ 1 ∷ 2 ∷ 0 ∷ 3 ∷ 4 ∷ 5 ∷ 6 ∷ []
pair_then_other = refl

-- vowels among pairs, and a last Coeng, which stays
vowels : order_by_movers (c ∷ pre ∷ c ∷ pre ∷ h ∷ []) ≡ 3 ∷ 1 ∷ 0 ∷ 2 ∷ 4 ∷ []
vowels = refl

both : order_by_movers (c ∷ h ∷ ra ∷ pre ∷ h ∷ ra ∷ c ∷ []) ≡ 4 ∷ 5 ∷ 3 ∷ 1 ∷ 2 ∷ 0 ∷ 6 ∷ []
both = refl

nothing : order_by_movers [] ≡ []
nothing = refl

-- MASKS. The places of the Coengs that move with their Ro
coeng_places : map coeng_place (Coeng 4 c ∷ Alone 6 h ∷ Alone 7 pre ∷ []) ≡ (4 ∷ []) ∷ [] ∷ [] ∷ []
coeng_places = refl

coengs : map moving_coengs ([] ∷ (c ∷ h ∷ ra ∷ pre ∷ h ∷ ra ∷ h ∷ c ∷ h ∷ ra ∷ []) ∷ (c ∷ pre ∷ h ∷ c ∷ [])
    ∷ (c ∷ h ∷ c ∷ h ∷ c ∷ h ∷ c ∷ h ∷ ra ∷ []) ∷ []) ≡ [] ∷ (1 ∷ 4 ∷ []) ∷ [] ∷ [] ∷ []
coengs = refl

-- a glyph with all fields set: nothing but its mask changes, and only where that is wanted
abbrev full : Glyph
full = record {
  glyph_id = 0x179A;
  mask = 0x1003;
  cluster = 7;
  glyph_props = record { 0 = 0x70 };
  lig_props = record { 0 = 2 };
  syllable = 0x21;
  unicode_props = record { 0 = 0x09E7 };
  category = 4;
  auxiliary = 5;
}

wanted : with_mask_if true 0x25 full ≡ record full { mask = 0x1023 }
wanted = refl

unwanted : with_mask_if false 0x25 full ≡ full
unwanted = refl

-- with the masks of pref 10, of blwf, abvf and pstf E0, of cfar 100
abbrev by_masks : KhmerOrder
by_masks = record { others = 0xE0; pref = 0x10; cfar = 0x100 }

at_places : map (λ place. masked_at by_masks (2 ∷ 5 ∷ []) place full) (0 ∷ 1 ∷ 2 ∷ 3 ∷ 4 ∷ 5 ∷ 6 ∷ 7 ∷ [])
    ≡ map (λ m. let g : Glyph = record full { mask = m } in g) (0x1003 ∷ 0x10E3 ∷ 0x10F3 ∷ 0x10F3 ∷ 0x11E3
    ∷ 0x11F3 ∷ 0x11F3 ∷ 0x11E3 ∷ [])
at_places = refl

-- the masks of the glyphs of a syllable of these categories, in their old places
abbrev masks_in : List ℕ → List ℕ
masks_in categories =
    map (λ g. g.mask) (masked_by_movers by_masks
    (map (λ category. let g : Glyph = record default_glyph { category = category } in g) categories))

masks_of_pairs : map masks_in ([] ∷ (c ∷ []) ∷ (c ∷ h ∷ ra ∷ h ∷ c ∷ []) ∷ (c ∷ h ∷ ra ∷ h ∷ ra ∷ [])
    ∷ (c ∷ pre ∷ h ∷ ra ∷ pre ∷ h ∷ []) ∷ []) ≡ [] ∷ (0 ∷ []) ∷ (0 ∷ 0xF0 ∷ 0xF0 ∷ 0x1E0 ∷ 0x1E0 ∷ [])
    ∷ (0 ∷ 0xF0 ∷ 0xF0 ∷ 0x1F0 ∷ 0x1F0 ∷ []) ∷ (0 ∷ 0xE0 ∷ 0xF0 ∷ 0xF0 ∷ 0x1E0 ∷ 0x1E0 ∷ []) ∷ []
masks_of_pairs = refl

masks_of_none : masks_in (c ∷ h ∷ c ∷ h ∷ c ∷ h ∷ c ∷ h ∷ ra ∷ []) ≡ 0 ∷ 0xE0 ∷ 0xE0 ∷ 0xE0 ∷ 0xE0 ∷ 0xE0 ∷ 0xE0 ∷ 0xE0
    ∷ 0xE0 ∷ []
masks_of_none = refl

-- C H Ra H C of kind 0, of kind 1, and of kind 2, which stays: category and mask of each glyph
abbrev made_of : ℕ → List ℕ → List (ℕ × ℕ)
made_of kind categories =
    map (λ g. (g.category, g.mask)) (khmer_by_movers by_masks
    (map (λ category. let g : Glyph = record default_glyph { category = category; syllable = kind } in g) categories))

made_in_kinds : map (λ kind. made_of kind (c ∷ h ∷ ra ∷ h ∷ c ∷ [])) (0 ∷ 1 ∷ 2 ∷ [])
    ≡ ((h, 0xF0) ∷ (ra, 0xF0) ∷ (c, 0) ∷ (h, 0x1E0) ∷ (c, 0x1E0) ∷ [])
    ∷ ((h, 0xF0) ∷ (ra, 0xF0) ∷ (c, 0) ∷ (h, 0x1E0) ∷ (c, 0x1E0) ∷ [])
    ∷ ((c, 0) ∷ (h, 0) ∷ (ra, 0) ∷ (h, 0) ∷ (c, 0) ∷ []) ∷ []
made_in_kinds = refl

-- MERGES. From the start to the end of each part that moves
merged_parts : map merged_over (Coeng 4 ra ∷ Alone 6 pre ∷ []) ≡ (0, 6) ∷ (0, 7) ∷ []
merged_parts = refl

merged_in : map merges_by_movers ([] ∷ (c ∷ h ∷ c ∷ []) ∷ (c ∷ pre ∷ h ∷ ra ∷ pre ∷ h ∷ ra ∷ h ∷ c ∷ h ∷ ra ∷ []) ∷ [])
    ≡ [] ∷ [] ∷ ((0, 2) ∷ (0, 4) ∷ (0, 5) ∷ (0, 7) ∷ []) ∷ []
merged_in = refl
