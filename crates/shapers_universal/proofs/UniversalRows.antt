-- The order of the universal shaper, computed on small syllables.
use Rattle.std.specs.Prelude.{ℕ, suc, ◌≡◌, None, Some, Bool, true, false, not, filter, List, [], ◌∷◌, map, refl}
use Rattle.std.specs.List.{range_with_len}
use Rattle.shapers_buffer.specs.Glyphs.{Glyph, Glyphs}
use Rattle.shapers_buffer.specs.declared.buffer.level.BufferClusterLevel.TheVariants.{MonotoneGraphemes}
use Rattle.shapers_buffer.specs.Glyph.{clusters, default_glyph}
use Rattle.shapers_clusters.specs.Steps.{after_steps}
use Rattle.shapers_universal.specs.UniversalText.{universal_circles}
use Rattle.shapers_universal.specs.UniversalWalk.{may_reorder}
use Rattle.shapers_universal.specs.Universal.{goes_front, is_universal_halant, reph_passes, is_reordered_in_universal, universal_order, universal_steps}

-- glyphs of one syllable of kind 2 by their categories, numbered from 0 in clusters of their own
abbrev from_place : ℕ → List ℕ → Glyphs
from_place i [] = []
from_place i (category ∷ categories) =
    record default_glyph { glyph_id = i; cluster = i; mask = 0x101; syllable = 0x12; category = category }
    ∷ from_place (suc i) categories

abbrev syl : List ℕ → Glyphs
syl categories = from_place 0 categories

abbrev numbers : Glyphs → List ℕ
numbers gs = map (λ g. g.glyph_id) gs

-- where the glyphs come from, and their clusters
abbrev ordered : List ℕ → List ℕ
ordered categories = numbers (universal_order (syl categories))

abbrev in_clusters : List ℕ → List ℕ
in_clusters categories = clusters (after_steps MonotoneGraphemes (universal_steps (syl categories)) (syl categories))

abbrev stepped : List ℕ → List ℕ
stepped categories = numbers (after_steps MonotoneGraphemes (universal_steps (syl categories)) (syl categories))

-- R B VAbv; B VPre H B VPre VPre; R B B VAbv; R B H; R VAbv; R alone; R B; nothing
order_rows : map ordered ((18 ∷ 1 ∷ 33 ∷ []) ∷ (1 ∷ 22 ∷ 12 ∷ 1 ∷ 22 ∷ 22 ∷ []) ∷ (18 ∷ 1 ∷ 1 ∷ 33 ∷ [])
    ∷ (18 ∷ 1 ∷ 12 ∷ []) ∷ (18 ∷ 33 ∷ []) ∷ (18 ∷ []) ∷ (18 ∷ 1 ∷ []) ∷ [] ∷ []) ≡ (1 ∷ 0 ∷ 2 ∷ [])
    ∷ (1 ∷ 0 ∷ 2 ∷ 5 ∷ 4 ∷ 3 ∷ []) ∷ (1 ∷ 2 ∷ 0 ∷ 3 ∷ []) ∷ (1 ∷ 0 ∷ 2 ∷ []) ∷ (0 ∷ 1 ∷ []) ∷ (0 ∷ []) ∷ (1 ∷ 0 ∷ [])
    ∷ [] ∷ []
order_rows = refl

steps_rows : map stepped ((18 ∷ 1 ∷ 33 ∷ []) ∷ (1 ∷ 22 ∷ 12 ∷ 1 ∷ 22 ∷ 22 ∷ []) ∷ (18 ∷ 1 ∷ 1 ∷ 33 ∷ [])
    ∷ (18 ∷ 1 ∷ 12 ∷ []) ∷ (18 ∷ 33 ∷ []) ∷ (18 ∷ []) ∷ (18 ∷ 1 ∷ []) ∷ [] ∷ []) ≡ (1 ∷ 0 ∷ 2 ∷ [])
    ∷ (1 ∷ 0 ∷ 2 ∷ 5 ∷ 4 ∷ 3 ∷ []) ∷ (1 ∷ 2 ∷ 0 ∷ 3 ∷ []) ∷ (1 ∷ 0 ∷ 2 ∷ []) ∷ (0 ∷ 1 ∷ []) ∷ (0 ∷ []) ∷ (1 ∷ 0 ∷ [])
    ∷ [] ∷ []
steps_rows = refl

cluster_rows : map in_clusters ((18 ∷ 1 ∷ 33 ∷ []) ∷ (1 ∷ 22 ∷ 12 ∷ 1 ∷ 22 ∷ 22 ∷ []) ∷ (18 ∷ 1 ∷ 1 ∷ 33 ∷ [])
    ∷ (18 ∷ 1 ∷ 12 ∷ []) ∷ (18 ∷ 33 ∷ []) ∷ []) ≡ (0 ∷ 0 ∷ 2 ∷ []) ∷ (0 ∷ 0 ∷ 2 ∷ 3 ∷ 3 ∷ 3 ∷ []) ∷ (0 ∷ 0 ∷ 0 ∷ 3 ∷ [])
    ∷ (0 ∷ 0 ∷ 2 ∷ []) ∷ (0 ∷ 1 ∷ []) ∷ []
cluster_rows = refl

-- a reph moves behind VMPre in no case; a reph and glyphs before the base: B comes behind what goes
-- to the front, then the reph
reph_and_front : map ordered ((18 ∷ 1 ∷ 23 ∷ 1 ∷ 22 ∷ []) ∷ (18 ∷ 22 ∷ []) ∷ (18 ∷ 18 ∷ 1 ∷ []) ∷ (1 ∷ 18 ∷ 1 ∷ [])
    ∷ (22 ∷ 1 ∷ 22 ∷ 12 ∷ 44 ∷ 53 ∷ 23 ∷ []) ∷ (1 ∷ 12 ∷ 22 ∷ 1 ∷ 12 ∷ []) ∷ []) ≡ (4 ∷ 2 ∷ 1 ∷ 0 ∷ 3 ∷ [])
    ∷ (1 ∷ 0 ∷ []) ∷ (1 ∷ 2 ∷ 0 ∷ []) ∷ (0 ∷ 1 ∷ 2 ∷ []) ∷ (2 ∷ 0 ∷ 1 ∷ 3 ∷ 4 ∷ 5 ∷ 6 ∷ []) ∷ (0 ∷ 1 ∷ 2 ∷ 3 ∷ 4 ∷ [])
    ∷ []
reph_and_front = refl

-- which kinds are reordered, each of them and one above
kinds : map (λ k. is_reordered_in_universal (record default_glyph { syllable = k } ∷ []))
    (0x10 ∷ 0x11 ∷ 0x12 ∷ 0x13 ∷ 0x14 ∷ 0x15 ∷ 0x16 ∷ 0x17 ∷ 0x18 ∷ 0x19 ∷ 0x1F ∷ []) ≡ true ∷ true ∷ true ∷ false
    ∷ false ∷ false ∷ false ∷ true ∷ false ∷ false ∷ false ∷ []
kinds = refl

abbrev of_kind_9 : Glyph → Glyph
of_kind_9 g = record g { syllable = 0x19 }

other_kind : universal_order (map of_kind_9 (syl (18 ∷ 1 ∷ 22 ∷ []))) ≡ map of_kind_9 (syl (18 ∷ 1 ∷ 22 ∷ []))
other_kind = refl

other_kind_steps : universal_steps (map of_kind_9 (syl (18 ∷ 1 ∷ 22 ∷ []))) ≡ []
other_kind_steps = refl

-- glyphs with all fields set: R B VPre, of which none changes
abbrev full : ℕ → ℕ → Glyph
full category comp = record {
  glyph_id = 7;
  mask = 0x1003;
  cluster = 5;
  glyph_props = record { 0 = 0x70 };
  lig_props = record { 0 = comp };
  syllable = 0x22;
  unicode_props = record { 0 = 0x09AC };
  category = category;
  auxiliary = 3;
}

fields_stay : universal_order (full 18 2 ∷ full 1 3 ∷ full 22 0 ∷ []) ≡ full 22 0 ∷ full 1 3 ∷ full 18 2 ∷ []
fields_stay = refl

-- each category from 0 to 55: what ends the run that a reph passes, which are halants, and what goes to the front
abbrev of_category : ℕ → Glyph
of_category category = record default_glyph { category = category }

abbrev that_pass : (Glyph → Bool) → List ℕ
that_pass test = filter (λ category. test (of_category category)) (range_with_len 0 57)

not_passed : that_pass (λ g. not (reph_passes g)) ≡ 12 ∷ 22 ∷ 23 ∷ 24 ∷ 25 ∷ 26 ∷ 27 ∷ 28 ∷ 29 ∷ 30 ∷ 33 ∷ 34 ∷ 35 ∷ 37
    ∷ 38 ∷ 39 ∷ 44 ∷ 45 ∷ 46 ∷ 47 ∷ 53 ∷ []
not_passed = refl

halants : that_pass is_universal_halant ≡ 12 ∷ 44 ∷ 53 ∷ []
halants = refl

fronts : that_pass goes_front ≡ 22 ∷ 23 ∷ []
fronts = refl

-- what may change a syllable: R too
changing : that_pass may_reorder ≡ 18 ∷ 22 ∷ 23 ∷ []
changing = refl

-- a ligature is no halant; of several glyphs for one the first alone goes to the front
ligatures : map (λ category. is_universal_halant (record (of_category category) { glyph_props = record { 0 = 0x20 } }))
    (12 ∷ 44 ∷ 53 ∷ []) ≡ false ∷ false ∷ false ∷ []
ligatures = refl

other_marks : map (λ marks. is_universal_halant (record (of_category 12) { glyph_props = record { 0 = marks } }))
    (0 ∷ 0x10 ∷ 0x20 ∷ 0x40 ∷ 0x08 ∷ 0x0E ∷ 0xFFDF ∷ 0xFFFF ∷ []) ≡ true ∷ true ∷ false ∷ true ∷ true ∷ true ∷ true
    ∷ false ∷ []
other_marks = refl

-- a ligature of what stands after the base ends what a reph passes, one of a halant doesn't
ligatures_passed : map (λ category. reph_passes (record (of_category category) { glyph_props = record { 0 = 0x20 } }))
    (22 ∷ 33 ∷ 12 ∷ 1 ∷ []) ≡ false ∷ false ∷ true ∷ true ∷ []
ligatures_passed = refl

components : map (λ comp. goes_front (record (of_category 22) { lig_props = record { 0 = comp } }))
    (0 ∷ 1 ∷ 15 ∷ 0xE0 ∷ 0xE1 ∷ 0xF1 ∷ []) ≡ true ∷ false ∷ false ∷ true ∷ false ∷ true ∷ []
components = refl

changing_components : map (λ comp. may_reorder (record (of_category 22) { lig_props = record { 0 = comp } }))
    (0 ∷ 1 ∷ 15 ∷ 0xE0 ∷ 0xE1 ∷ 0xF1 ∷ []) ≡ true ∷ false ∷ false ∷ true ∷ false ∷ true ∷ []
changing_components = refl

changing_reph : may_reorder (record (of_category 18) { lig_props = record { 0 = 1 } }) ≡ true
changing_reph = refl

-- dotted circles, of category 1, come into broken syllables, of kind 7, behind leading glyphs of category 18
circles : universal_circles ≡ record { broken_kind = 7; category = 1; repha = Some 18; position = None }
circles = refl
