-- The numbers of a stretched mark, over whole numbers without bound, from what its sequence
-- measures: the advance of the word, of the fixed and of the repeating tiles, and how many tiles
-- repeat. Division rounds toward zero.
use Rattle.std.specs.Prelude.{ℕ, suc, ◌*◌, ◌-◌, nat_lt, ℤ, pos, negsuc, ◌^◌, ◌+ℤ◌, ◌-ℤ◌, ◌*ℤ◌, neg_ℤ, nat_abs, int_lt, int_div, Bool, ◌&&◌, List, [], ◌∷◌, ◌++◌, fold, if◌then◌else◌}
use Rattle.shapers_stretch.specs.declared.ot_shaper_arabic_stretch.measuring.TileSequence.{TileSequence}
use Rattle.shapers_base.specs.declared.plan.arabic.StretchStart.{StretchStart}
use Rattle.shapers_base.specs.declared.plan.arabic.StretchStart.TheVariants.{AsCode, Centred}

-- what the fixed tiles leave of the word
abbrev pub left : TileSequence → ℤ
left z = z.word -ℤ z.fixed

-- how far the repeating tiles reach, laid once and these times more
abbrev pub tiles_reach : TileSequence → ℕ → ℤ
tiles_reach z n = pos (suc n) *ℤ z.repeating

-- how many times more they fit into what is left
abbrev pub fit : ℤ → ℤ → ℕ
fit width room =
    if int_lt width room && int_lt (pos 0) width then nat_abs (int_div room width) - 1 else 0

abbrev pub fitting : TileSequence → ℕ
fitting z = fit z.repeating (left z)

-- whether then something is left yet, and a tile to fill it
abbrev pub falls_short : TileSequence → Bool
falls_short z = int_lt (pos 0) (left z -ℤ tiles_reach z (fitting z)) && nat_lt 0 z.repeaters

-- how many times more they are laid: as often as they fit, and once more where that falls short
abbrev pub times_added : TileSequence → ℕ
times_added z = if falls_short z then suc (fitting z) else fitting z

-- how many copies that makes
abbrev pub copies_added : TileSequence → ℕ
copies_added z = times_added z * z.repeaters

-- how far they then reach too far
abbrev pub excess : TileSequence → ℤ
excess z = tiles_reach z (times_added z) -ℤ left z

-- whether the copies overlap, and by how much each that was added then does
abbrev pub squeezes : TileSequence → Bool
squeezes z = falls_short z && int_lt (pos 0) (excess z)

abbrev pub overlap : TileSequence → ℤ
overlap z = if squeezes z then int_div (excess z) (pos (copies_added z)) else pos 0

-- the width that is laid
abbrev pub laid_width : TileSequence → ℤ
laid_width z = (z.fixed +ℤ tiles_reach z (times_added z)) -ℤ pos (copies_added z) *ℤ overlap z

-- half of what is laid less than the word
abbrev pub half_gap : TileSequence → ℤ
half_gap z = int_div (z.word -ℤ laid_width z) (pos 2)

-- where the first tile begins; Centred lays along the direction in which tiles follow one another
abbrev pub start : StretchStart → Bool → TileSequence → ℤ
start AsCode right_to_left z = if squeezes z then pos 0 else int_div (left z) (pos 2)
start Centred right_to_left z = if right_to_left then neg_ℤ (half_gap z) else half_gap z

-- the numbers that must fit 32 bits
abbrev pub sequence_numbers : TileSequence → List ℤ
sequence_numbers z =
    z.word ∷ z.fixed ∷ z.repeating ∷ left z ∷ tiles_reach z (times_added z)
    ∷ pos (copies_added z) ∷ []

abbrev pub numbers_to_fit : StretchStart → TileSequence → List ℤ
numbers_to_fit AsCode z = sequence_numbers z
numbers_to_fit Centred z = sequence_numbers z ++ laid_width z ∷ (z.word -ℤ laid_width z) ∷ []

-- whether a number fits 32 bits with a sign
abbrev pub fits_i32 : ℤ → Bool
fits_i32 (pos n) = nat_lt n (2 ^ 31)
fits_i32 (negsuc n) = nat_lt n (2 ^ 31)

-- the sum of whole numbers
abbrev pub total : List ℤ → ℤ
total xs = fold ◌+ℤ◌ (pos 0) xs
