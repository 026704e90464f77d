-- Placements: for each place of a syllable that is to be reordered, the place whose glyph comes
-- there.
use Rattle.std.specs.Prelude.{ℕ, suc, ◌+◌, ◌-◌, ◌≤◌, ◌==◌, ◌≡◌, List, [], ◌∷◌, ◌++◌, drop, length, map, replicate, slice_index, slice_set, take, IsPermutation, if◌then◌else◌}
use Rattle.std.specs.List.{filter_map, range_with_len, slice_get}
use Rattle.shapers_buffer.specs.Clusters.{stretch_of, with_stretch}
use Rattle.shapers_buffer.specs.Glyphs.{Glyphs}
use Rattle.shapers_buffer.specs.declared.buffer.placement.Placement.{Placement}
use Rattle.shapers_buffer.specs.declared.buffer.placement.Placement.TheVariants.{Forward, Listed, Stays}

-- the elements at these places, in the order of the places
abbrev pub pick : {X : Type 0} → List ℕ → List X → List X
pick places xs = filter_map (slice_get xs) places

-- a list of places without the zeros at its end, since a place that was never written reads 0
abbrev pub onto_places : ℕ → List ℕ → List ℕ
onto_places p [] = if p == 0 then [] else p ∷ []
onto_places p (q ∷ places) = p ∷ (q ∷ places)

abbrev pub without_last_zeros : List ℕ → List ℕ
without_last_zeros [] = []
without_last_zeros (p ∷ places) = onto_places p (without_last_zeros places)

-- the list with place p written at i
abbrev pub with_place : ℕ → ℕ → List ℕ → List ℕ
with_place i p places = without_last_zeros (slice_set (places ++ replicate (suc i) 0) i p)

-- what the list says at i: what was written there last, else 0
abbrev pub place_at : List ℕ → ℕ → ℕ
place_at places i = slice_index places i

-- what the list says from s to e
abbrev pub listed : ℕ → ℕ → List ℕ → List ℕ
listed s e places = map (place_at places) (range_with_len s (e - s))

-- what the list says from s to e is each place from s to e once
abbrev pub ListsEachOnce : ℕ → ℕ → List ℕ → Type 0
ListsEachOnce s e places = IsPermutation (range_with_len s (e - s)) (listed s e places)

-- each place from s to e with what stood at the place listed for it
abbrev pub placed : {X : Type 0} → ℕ → ℕ → List ℕ → List X → List X
placed s e places xs = with_stretch s e (λ _. pick (listed s e places) xs) xs

-- for each place from s to e, the old place of what comes there: its own; where a stretch, `count`
-- places from `from` on, comes forward to the place `to`, those of the stretch and then those that
-- it passes; or what the list says
abbrev pub places_of : Placement → ℕ → ℕ → List ℕ → List ℕ
places_of Stays s e places = range_with_len s (e - s)
places_of (Forward to from count) s e places =
    range_with_len s (to - s)
    ++ (range_with_len from count
    ++ (range_with_len to (from - to) ++ range_with_len (from + count) (e - (from + count))))
places_of Listed s e places = listed s e places

-- these are the places from s to e, each once
abbrev pub PlacesEachOnce : Placement → ℕ → ℕ → List ℕ → Type 0
PlacesEachOnce placement s e places =
    IsPermutation (range_with_len s (e - s)) (places_of placement s e places)

-- each place from s to e with what stood at its old place
abbrev pub placed_by : {X : Type 0} → Placement → ℕ → ℕ → List ℕ → List X → List X
placed_by placement s e places xs =
    with_stretch s e (λ _. pick (places_of placement s e places) xs) xs

-- a list with its `count` elements from place `from` on before those that stand from the place `to`
-- on
abbrev pub brought_forward : {X : Type 0} → ℕ → ℕ → ℕ → List X → List X
brought_forward to from count xs =
    take to xs
    ++ (stretch_of from (from + count) xs ++ (stretch_of to from xs ++ drop (from + count) xs))

-- What comes forward changes places with what it passes: of the parts a, b, c, d of a text, c comes
-- before b, whatever the placement list says.
abbrev pub PartsChangePlaces : Type 0
PartsChangePlaces = (a b c d : Glyphs) (s e : ℕ) (places : List ℕ) →
    s ≤ length a → length a + (length b + length c) ≤ e →
    e ≤ length (a ++ (b ++ (c ++ d))) →
    placed_by (Forward (length a) (length a + length b) (length c)) s e places
    (a ++ (b ++ (c ++ d)))
    ≡ a ++ (c ++ (b ++ d))

-- Reading and writing: place j reads what was written at j last.
abbrev pub PlacesAreWritten : Type 0
PlacesAreWritten = (i p : ℕ) (places : List ℕ) (j : ℕ) →
    place_at (with_place i p places) j ≡ (if j == i then p else place_at places j)
