-- The numbers of a stretched mark, computed.
use Rattle.std.specs.Prelude.{◌≡◌, ℕ, ℤ, pos, negsuc, true, false, List, [], ◌∷◌, map, refl}
use Rattle.shapers_base.specs.declared.plan.arabic.StretchStart.TheVariants.{AsCode, Centred}
use Rattle.shapers_stretch.specs.declared.ot_shaper_arabic_stretch.measuring.TileSequence.{TileSequence}
use Rattle.shapers_stretch.specs.Measure.{copies_added, overlap, start, laid_width, numbers_to_fit, fits_i32}

-- a sequence by its word, its fixed and its repeating tiles, and how many of these there are
abbrev sequence : ℤ → ℤ → ℤ → ℕ → TileSequence
sequence t f r k = record { word = t; fixed = f; repeating = r; repeaters = k }

-- overlap, start as the code has it, width, and the centred starts from left to right and from right to left
abbrev numbers_of : TileSequence → List ℤ
numbers_of z = overlap z ∷ start AsCode false z ∷ laid_width z ∷ start Centred false z ∷ start Centred true z ∷ []

four_added-added : copies_added (sequence (pos 1000) (pos 100) (pos 200) 1) ≡ 4
four_added-added = refl

four_added : numbers_of (sequence (pos 1000) (pos 100) (pos 200) 1) ≡ pos 25 ∷ pos 0 ∷ pos 1000 ∷ pos 0 ∷ pos 0 ∷ []
four_added = refl

three_added-added : copies_added (sequence (pos 1000) (pos 0) (pos 300) 1) ≡ 3
three_added-added = refl

three_added : numbers_of (sequence (pos 1000) (pos 0) (pos 300) 1) ≡ pos 66 ∷ pos 0 ∷ pos 1002 ∷ (negsuc 0) ∷ pos 1 ∷ []
three_added = refl

two_added-added : copies_added (sequence (pos 700) (pos 100) (pos 200) 1) ≡ 2
two_added-added = refl

two_added : numbers_of (sequence (pos 700) (pos 100) (pos 200) 1) ≡ pos 0 ∷ pos 300 ∷ pos 700 ∷ pos 0 ∷ pos 0 ∷ []
two_added = refl

no_width-added : copies_added (sequence (pos 50) (pos 0) (pos 0) 1) ≡ 1
no_width-added = refl

no_width : numbers_of (sequence (pos 50) (pos 0) (pos 0) 1) ≡ pos 0 ∷ pos 25 ∷ pos 0 ∷ pos 25 ∷ (negsuc 24) ∷ []
no_width = refl

too_wide-added : copies_added (sequence (pos 100) (pos 0) (pos 200) 1) ≡ 0
too_wide-added = refl

too_wide : numbers_of (sequence (pos 100) (pos 0) (pos 200) 1) ≡ pos 0 ∷ pos 50 ∷ pos 200 ∷ (negsuc 49) ∷ pos 50 ∷ []
too_wide = refl

backwards-added : copies_added (sequence (pos 100) (pos 0) (negsuc 49) 1) ≡ 1
backwards-added = refl

backwards : numbers_of (sequence (pos 100) (pos 0) (negsuc 49) 1) ≡ pos 0 ∷ pos 50 ∷ (negsuc 99) ∷ pos 100 ∷ (negsuc 99) ∷ []
backwards = refl

word_backwards-added : copies_added (sequence (negsuc 299) (pos 0) (pos 200) 1) ≡ 0
word_backwards-added = refl

word_backwards : numbers_of (sequence (negsuc 299) (pos 0) (pos 200) 1) ≡ pos 0 ∷ (negsuc 149) ∷ pos 200 ∷ (negsuc 249)
    ∷ pos 250 ∷ []
word_backwards = refl

fixed_alone-added : copies_added (sequence (pos 100) (pos 40) (pos 0) 0) ≡ 0
fixed_alone-added = refl

fixed_alone : numbers_of (sequence (pos 100) (pos 40) (pos 0) 0) ≡ pos 0 ∷ pos 30 ∷ pos 40 ∷ pos 30 ∷ (negsuc 29) ∷ []
fixed_alone = refl

lowest-added : copies_added (sequence (negsuc 2147483647) (pos 0) (pos 1) 1) ≡ 0
lowest-added = refl

lowest : numbers_of (sequence (negsuc 2147483647) (pos 0) (pos 1) 1) ≡ pos 0 ∷ (negsuc 1073741823) ∷ pos 1
    ∷ (negsuc 1073741823) ∷ pos 1073741824 ∷ []
lowest = refl

highest-added : copies_added (sequence (pos 2147483647) (pos 0) (negsuc 49) 1) ≡ 1
highest-added = refl

highest : numbers_of (sequence (pos 2147483647) (pos 0) (negsuc 49) 1) ≡ pos 0 ∷ pos 1073741823 ∷ (negsuc 99)
    ∷ pos 1073741873 ∷ (negsuc 1073741872) ∷ []
highest = refl

high-added : copies_added (sequence (pos 2147483600) (pos 0) (negsuc 39) 1) ≡ 1
high-added = refl

high : numbers_of (sequence (pos 2147483600) (pos 0) (negsuc 39) 1) ≡ pos 0 ∷ pos 1073741800 ∷ (negsuc 79) ∷ pos 1073741840
    ∷ (negsuc 1073741839) ∷ []
high = refl

two_tiles-added : copies_added (sequence (pos 1000) (pos 0) (pos 300) 2) ≡ 6
two_tiles-added = refl

two_tiles : numbers_of (sequence (pos 1000) (pos 0) (pos 300) 2) ≡ pos 33 ∷ pos 0 ∷ pos 1002 ∷ (negsuc 0) ∷ pos 1 ∷ []
two_tiles = refl

exact-added : copies_added (sequence (pos 600) (pos 0) (pos 300) 1) ≡ 1
exact-added = refl

exact : numbers_of (sequence (pos 600) (pos 0) (pos 300) 1) ≡ pos 0 ∷ pos 300 ∷ pos 600 ∷ pos 0 ∷ pos 0 ∷ []
exact = refl

just_over-added : copies_added (sequence (pos 301) (pos 0) (pos 300) 1) ≡ 1
just_over-added = refl

just_over : numbers_of (sequence (pos 301) (pos 0) (pos 300) 1) ≡ pos 299 ∷ pos 0 ∷ pos 301 ∷ pos 0 ∷ pos 0 ∷ []
just_over = refl

equal-added : copies_added (sequence (pos 300) (pos 0) (pos 300) 1) ≡ 0
equal-added = refl

equal : numbers_of (sequence (pos 300) (pos 0) (pos 300) 1) ≡ pos 0 ∷ pos 150 ∷ pos 300 ∷ pos 0 ∷ pos 0 ∷ []
equal = refl

no_tile-added : copies_added (sequence (pos 100) (pos 0) (pos 0) 0) ≡ 0
no_tile-added = refl

no_tile : numbers_of (sequence (pos 100) (pos 0) (pos 0) 0) ≡ pos 0 ∷ pos 50 ∷ pos 0 ∷ pos 50 ∷ (negsuc 49) ∷ []
no_tile = refl

-- tiles of the least width, and tiles that reach too far by one
least-added : copies_added (sequence (pos 10) (pos 0) (pos 1) 1) ≡ 9
least-added = refl

least : numbers_of (sequence (pos 10) (pos 0) (pos 1) 1) ≡ pos 0 ∷ pos 5 ∷ pos 10 ∷ pos 0 ∷ pos 0 ∷ []
least = refl

one_too_far-added : copies_added (sequence (pos 599) (pos 0) (pos 300) 1) ≡ 1
one_too_far-added = refl

one_too_far : numbers_of (sequence (pos 599) (pos 0) (pos 300) 1) ≡ pos 1 ∷ pos 0 ∷ pos 599 ∷ pos 0 ∷ pos 0 ∷ []
one_too_far = refl

two_one_too_far-added : copies_added (sequence (pos 599) (pos 0) (pos 300) 2) ≡ 2
two_one_too_far-added = refl

two_one_too_far : numbers_of (sequence (pos 599) (pos 0) (pos 300) 2) ≡ pos 0 ∷ pos 0 ∷ pos 600 ∷ pos 0 ∷ pos 0 ∷ []
two_one_too_far = refl

-- the ends of 32 bits
ends : map fits_i32 (pos 2147483647 ∷ pos 2147483648 ∷ negsuc 2147483647 ∷ negsuc 2147483648 ∷ pos 0 ∷ [])
    ≡ true ∷ false ∷ true ∷ false ∷ true ∷ []
ends = refl

-- which numbers must fit, by the choice of a start
as_code : numbers_to_fit AsCode (sequence (pos 1000) (pos 100) (pos 200) 1) ≡ pos 1000 ∷ pos 100 ∷ pos 200 ∷ pos 900
    ∷ pos 1000 ∷ pos 4 ∷ []
as_code = refl

centred : numbers_to_fit Centred (sequence (pos 1000) (pos 0) (pos 300) 1) ≡ pos 1000 ∷ pos 0 ∷ pos 300 ∷ pos 1000 ∷ pos 1200
    ∷ pos 3 ∷ pos 1002 ∷ negsuc 1 ∷ []
centred = refl
