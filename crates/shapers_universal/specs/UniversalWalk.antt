-- Words of the walk over the places of a syllable.
use Rattle.std.specs.Prelude.{ℕ, suc, ◌≡◌, ◌-◌, ◌==◌, ◌||◌, Bool, false, not, List, [], ◌∷◌, ◌++◌, filter, reverse, Option, None, Some, if◌then◌else◌, take, drop}
use Rattle.std.specs.List.{flat_map, range_with_len, slice_get, prefix_len}
use Rattle.std.specs.Option.{option_map_or}
use Rattle.shapers_buffer.specs.Glyphs.{Glyph, Glyphs}
use Rattle.shapers_buffer.specs.Clusters.{stretch_of}
use Rattle.shapers_buffer.specs.Lists.{cut_after, first_last}
use Rattle.shapers_universal.specs.Universal.{first_behind, goes_front, goes_front_at, is_universal_halant, reversed_first}
use Rattle.shapers_universal.specs.declared.ot_shaper_use.category.TheConstants.{R}
use Rattle.shapers_buffer.specs.Syllables.{has_byte, syllables}

-- whether a reph stands in front
abbrev pub has_universal_reph : Glyphs → Bool
has_universal_reph [] = false
has_universal_reph (g ∷ gs) = g.category == R

-- what may change a syllable: a reph, and what goes to the front of its piece
abbrev pub may_reorder : Glyph → Bool
may_reorder g = g.category == R || goes_front g

-- how long the first piece is of a list that is cut after each element that passes the test
abbrev pub first_piece_len : {X : Type 0} → (X → Bool) → List X → ℕ
first_piece_len test [] = 0
first_piece_len test (x ∷ xs) = if test x then 1 else suc (first_piece_len test xs)

-- whether a halant stands at a place
abbrev pub is_halant_at : Glyphs → ℕ → Bool
is_halant_at gs i = option_map_or is_universal_halant (slice_get gs i) false

-- whether a glyph stays behind what goes to the front of its piece
abbrev pub stays_at : Glyphs → ℕ → Bool
stays_at gs i = not (goes_front_at gs i)

-- the places of a syllable from s to e in their new order, where the reph and what it passes end at
-- `behind`
abbrev pub syllable_places_in_order : ℕ → ℕ → ℕ → Glyphs → List ℕ
syllable_places_in_order s behind e gs =
    let places = first_behind (behind - s) (range_with_len s (e - s)) in
    flat_map (reversed_first (goes_front_at gs)) (cut_after (is_halant_at gs) places)

-- the same of its first piece
abbrev pub piece_places : ℕ → ℕ → ℕ → Glyphs → List ℕ
piece_places s behind e gs =
    let places = range_with_len behind (e - behind) in
    let reph = first_last (range_with_len s (behind - s)) in
    reverse (filter (goes_front_at gs) places) ++ (reph ++ filter (stays_at gs) places)

-- what merges from place i on, in a piece that starts at `start`: each glyph that goes to the
-- front, from there to its place
abbrev pub fronts_from : ℕ → ℕ → Glyphs → List (ℕ × ℕ)
fronts_from start i [] = []
fronts_from start i (g ∷ gs) =
    if goes_front g then (start, suc i) ∷ fronts_from start (suc i) gs
    else fronts_from (if is_universal_halant g then suc i else start) (suc i) gs

-- where the piece starts in which a syllable ends, where it began in one that starts at `start`
abbrev pub start_from : ℕ → ℕ → Glyphs → ℕ
start_from start i [] = start
start_from start i (g ∷ gs) = start_from (if is_universal_halant g then suc i else start) (suc i) gs

-- what merges in a syllable from s to e begins so: nothing does, or this first, and then what
-- merges behind it
abbrev pub MergesFirst : ℕ → ℕ → Glyphs → Option (ℕ × ℕ) → Type 0
MergesFirst s e gs None = fronts_from s s (stretch_of s e gs) ≡ []
MergesFirst s e gs (Some p) =
    fronts_from s s (stretch_of s e gs) ≡ p ∷ fronts_from p.0 p.1 (stretch_of p.1 e gs)

-- the places from s to e with the last in front
abbrev pub last_place_first : ℕ → ℕ → List ℕ
last_place_first s e = (e - 1) ∷ range_with_len s (e - 1 - s)

-- what a change of fronts of syllables makes of the glyphs that are left, where the changes of a
-- syllable of this byte have ended
abbrev pub left_to_change : (Glyphs → Glyphs) → Option ℕ →
    Glyphs → Glyphs
left_to_change f None gs = flat_map f (syllables gs)
left_to_change f (Some byte) gs =
    let n = prefix_len (has_byte byte) gs in take n gs ++ flat_map f (syllables (drop n gs))
