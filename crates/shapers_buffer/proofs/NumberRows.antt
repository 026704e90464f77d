-- Every number of a general category, a level or a direction, and one past each end; flags in all their combinations.
use Rattle.std.specs.Prelude.{◌≡◌, ◌==◌, [], ◌∷◌, find, map, slice_get, None, Some, refl}
use Rattle.shapers_buffer.specs.declared.buffer.category.hb_unicode_general_category_t.TheVariants as category
use Rattle.shapers_buffer.specs.declared.buffer.category.TheConstants.hb_unicode_general_category_t as all_categories
use Rattle.shapers_buffer.specs.declared.buffer.level.BufferClusterLevel.TheVariants as level
use Rattle.shapers_buffer.specs.declared.buffer.level.Direction.TheVariants as direction
use Rattle.shapers_buffer.specs.declared.buffer.level.TheConstants.BufferClusterLevel as all_levels
use Rattle.shapers_buffer.specs.declared.buffer.level.TheConstants.Direction as all_directions
use Rattle.shapers_buffer.specs.Category.{categories, category_number}
use Rattle.shapers_buffer.specs.Numbers.{direction_number, directions, from_harfbuzz, levels, to_harfbuzz}

-- general categories, 0 to 29, as HarfBuzz's hb_unicode_general_category_t has them
first_categories : map (slice_get categories) (0 ∷ 1 ∷ 2 ∷ 3 ∷ 4 ∷ 5 ∷ 6 ∷ 7 ∷ 8 ∷ 9 ∷ []) ≡ Some category.Cc
    ∷ Some category.Cf ∷ Some category.Cn ∷ Some category.Co ∷ Some category.Cs ∷ Some category.Ll ∷ Some category.Lm
    ∷ Some category.Lo ∷ Some category.Lt ∷ Some category.Lu ∷ []
first_categories = refl

middle_categories : map (slice_get categories) (10 ∷ 11 ∷ 12 ∷ 13 ∷ 14 ∷ 15 ∷ 16 ∷ 17 ∷ 18 ∷ 19 ∷ []) ≡ Some category.Mc
    ∷ Some category.Me ∷ Some category.Mn ∷ Some category.Nd ∷ Some category.Nl ∷ Some category.No ∷ Some category.Pc
    ∷ Some category.Pd ∷ Some category.Pe ∷ Some category.Pf ∷ []
middle_categories = refl

last_categories : map (slice_get categories) (20 ∷ 21 ∷ 22 ∷ 23 ∷ 24 ∷ 25 ∷ 26 ∷ 27 ∷ 28 ∷ 29 ∷ 30 ∷ [])
    ≡ Some category.Pi ∷ Some category.Po ∷ Some category.Ps ∷ Some category.Sc ∷ Some category.Sk ∷ Some category.Sm
    ∷ Some category.So ∷ Some category.Zl ∷ Some category.Zp ∷ Some category.Zs ∷ None ∷ []
last_categories = refl

-- and the number of each
numbers : map category_number categories ≡ 0 ∷ 1 ∷ 2 ∷ 3 ∷ 4 ∷ 5 ∷ 6 ∷ 7 ∷ 8 ∷ 9 ∷ 10 ∷ 11 ∷ 12 ∷ 13 ∷ 14 ∷ 15 ∷ 16 ∷ 17
    ∷ 18 ∷ 19 ∷ 20 ∷ 21 ∷ 22 ∷ 23 ∷ 24 ∷ 25 ∷ 26 ∷ 27 ∷ 28 ∷ 29 ∷ []
numbers = refl

-- levels, 0 to 2
levels_by_number : map (slice_get levels) (0 ∷ 1 ∷ 2 ∷ 3 ∷ []) ≡ Some level.MonotoneGraphemes
    ∷ Some level.MonotoneCharacters ∷ Some level.Characters ∷ None ∷ []
levels_by_number = refl

-- directions: 0 and 4 to 7, as HarfBuzz's hb_direction_t has them
direction_numbers : map direction_number (direction.Invalid ∷ direction.LeftToRight ∷ direction.RightToLeft
    ∷ direction.TopToBottom ∷ direction.BottomToTop ∷ []) ≡ 0 ∷ 4 ∷ 5 ∷ 6 ∷ 7 ∷ []
direction_numbers = refl

directions_by_number : map (λ n. find (λ d. direction_number d == n) directions) (0 ∷ 1 ∷ 2 ∷ 3 ∷ 4 ∷ 5 ∷ 6 ∷ 7 ∷ 8
    ∷ []) ≡ Some direction.Invalid ∷ None ∷ None ∷ None ∷ Some direction.LeftToRight ∷ Some direction.RightToLeft
    ∷ Some direction.TopToBottom ∷ Some direction.BottomToTop ∷ None ∷ []
directions_by_number = refl

-- the lists that the program has are these
ALL_categories : all_categories.ALL ≡ categories
ALL_categories = refl

ALL_levels : all_levels.ALL ≡ levels
ALL_levels = refl

ALL_directions : all_directions.ALL ≡ directions
ALL_directions = refl

-- HarfBuzz's flags: each bit by itself, the three in all combinations, all of a word
flags_alone : map from_harfbuzz (0x01 ∷ 0x02 ∷ 0x04 ∷ 0x08 ∷ 0x10 ∷ 0x20 ∷ 0x40 ∷ 0x80 ∷ 0x100 ∷ []) ≡ 0 ∷ 0 ∷ 0 ∷ 0
    ∷ 0x20 ∷ 0 ∷ 0x40 ∷ 0x80 ∷ 0 ∷ []
flags_alone = refl

flags_together : map from_harfbuzz (0 ∷ 0x50 ∷ 0x90 ∷ 0xC0 ∷ 0xD0 ∷ 0x2F ∷ 0xFFFFFFFF ∷ []) ≡ 0 ∷ 0x60 ∷ 0xA0 ∷ 0xC0
    ∷ 0xE0 ∷ 0 ∷ 0xE0 ∷ []
flags_together = refl

flags_back : map to_harfbuzz (0 ∷ 0x10 ∷ 0x20 ∷ 0x40 ∷ 0x80 ∷ 0x60 ∷ 0xA0 ∷ 0xC0 ∷ 0xE0 ∷ 0xFFFFFFFF ∷ [])
    ≡ 0 ∷ 0 ∷ 0x10 ∷ 0x40 ∷ 0x80 ∷ 0x50 ∷ 0x90 ∷ 0xC0 ∷ 0xD0 ∷ 0xD0 ∷ []
flags_back = refl
