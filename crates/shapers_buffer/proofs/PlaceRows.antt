-- The placement list, computed on small ones.
use Rattle.std.specs.Prelude.{◌≡◌, ℕ, List, [], ◌∷◌, false, map, refl, true}
use Rattle.shapers_buffer.specs.Buffer.{new_buffer}
use Rattle.shapers_buffer.specs.Glyph.{default_glyph}
use Rattle.shapers_buffer.specs.Glyphs.{Glyphs}
use Rattle.shapers_buffer.specs.Places.{brought_forward, listed, pick, place_at, placed, placed_by, places_of, with_place, without_last_zeros}
use Rattle.shapers_buffer.specs.Placements.{arranged, forward_place, is_still, moves_nothing, old_place, old_place_by_all, placed_by_all}
use Rattle.shapers_buffer.specs.declared.buffer.placement.Placement.TheVariants.{Forward, Listed, Stays}
use Rattle.shapers_buffer.specs.declared.buffer.placements.Placements.{Placements}

-- a place is written at its number alone; places before it that were never written read 0
written_first : with_place 0 3 [] ≡ 3 ∷ []
written_first = refl

written_behind : with_place 2 3 [] ≡ 0 ∷ 0 ∷ 3 ∷ []
written_behind = refl

written_over : with_place 1 7 (4 ∷ 5 ∷ 6 ∷ []) ≡ 4 ∷ 7 ∷ 6 ∷ []
written_over = refl

written_next : with_place 3 7 (4 ∷ 5 ∷ 6 ∷ []) ≡ 4 ∷ 5 ∷ 6 ∷ 7 ∷ []
written_next = refl

-- a zero at the end reads as one that was never written, one inside stays
zero_last : with_place 2 0 (4 ∷ 0 ∷ 6 ∷ []) ≡ 4 ∷ []
zero_last = refl

zero_inside : with_place 0 0 (4 ∷ 0 ∷ 6 ∷ []) ≡ 0 ∷ 0 ∷ 6 ∷ []
zero_inside = refl

zeros : without_last_zeros (0 ∷ 1 ∷ 0 ∷ 0 ∷ 2 ∷ 0 ∷ 0 ∷ []) ≡ 0 ∷ 1 ∷ 0 ∷ 0 ∷ 2 ∷ []
zeros = refl

-- what it says at each place, behind its end too, and from one place to another
said : map (place_at (4 ∷ 5 ∷ 6 ∷ [])) (0 ∷ 1 ∷ 2 ∷ 3 ∷ []) ≡ 4 ∷ 5 ∷ 6 ∷ 0 ∷ []
said = refl

said_between : listed 1 3 (4 ∷ 5 ∷ 6 ∷ 7 ∷ []) ≡ 5 ∷ 6 ∷ []
said_between = refl

said_behind : listed 2 5 (4 ∷ 5 ∷ 6 ∷ 7 ∷ []) ≡ 6 ∷ 7 ∷ 0 ∷ []
said_behind = refl

said_nothing : listed 2 2 (4 ∷ 5 ∷ 6 ∷ 7 ∷ []) ≡ []
said_nothing = refl

-- each place of the stretch gets what stood at the place that is listed for it, and the rest stays
rotated : placed {X = ℕ} 1 4 (0 ∷ 2 ∷ 3 ∷ 1 ∷ []) (10 ∷ 11 ∷ 12 ∷ 13 ∷ 14 ∷ []) ≡ 10 ∷ 12 ∷ 13 ∷ 11 ∷ 14 ∷ []
rotated = refl

whole_list : placed {X = ℕ} 0 3 (2 ∷ 1 ∷ []) (10 ∷ 11 ∷ 12 ∷ []) ≡ 12 ∷ 11 ∷ 10 ∷ []
whole_list = refl

no_stretch : placed {X = ℕ} 1 1 (2 ∷ 1 ∷ []) (10 ∷ 11 ∷ 12 ∷ []) ≡ 10 ∷ 11 ∷ 12 ∷ []
no_stretch = refl

-- places are picked in their order, as often as they are named
picked : pick {X = ℕ} (2 ∷ 0 ∷ 2 ∷ []) (10 ∷ 11 ∷ 12 ∷ []) ≡ 12 ∷ 10 ∷ 12 ∷ []
picked = refl

-- A PLACEMENT's places: each its own
own_places : places_of Stays 2 5 (9 ∷ 9 ∷ 9 ∷ 9 ∷ []) ≡ 2 ∷ 3 ∷ 4 ∷ []
own_places = refl

-- one glyph comes past three, and two past two, behind what stands before them and before what
-- stands behind; the list isn't read
one_comes : places_of (Forward 3 6 1) 2 9 (9 ∷ 9 ∷ 9 ∷ 9 ∷ []) ≡ 2 ∷ 6 ∷ 3 ∷ 4 ∷ 5 ∷ 7 ∷ 8 ∷ []
one_comes = refl

pair_comes : places_of (Forward 2 4 2) 2 7 [] ≡ 4 ∷ 5 ∷ 2 ∷ 3 ∷ 6 ∷ []
pair_comes = refl

-- one goes back past three: those three come
one_goes : places_of (Forward 2 3 3) 2 7 [] ≡ 3 ∷ 4 ∷ 5 ∷ 2 ∷ 6 ∷ []
one_goes = refl

-- from the first place to the last
whole_syllable : places_of (Forward 0 3 1) 0 4 [] ≡ 3 ∷ 0 ∷ 1 ∷ 2 ∷ []
whole_syllable = refl

-- none comes, or past none
none_comes : places_of (Forward 3 5 0) 2 7 [] ≡ 2 ∷ 3 ∷ 4 ∷ 5 ∷ 6 ∷ []
none_comes = refl

past_none : places_of (Forward 3 3 2) 2 7 [] ≡ 2 ∷ 3 ∷ 4 ∷ 5 ∷ 6 ∷ []
past_none = refl

listed_places : places_of Listed 1 4 (0 ∷ 2 ∷ 3 ∷ 1 ∷ []) ≡ 2 ∷ 3 ∷ 1 ∷ []
listed_places = refl

-- what a placement makes of a list: what stands outside stays
placed_coming : placed_by {X = ℕ} (Forward 2 3 2) 1 6 [] (10 ∷ 11 ∷ 12 ∷ 13 ∷ 14 ∷ 15 ∷ 16 ∷ []) ≡ 10 ∷ 11 ∷ 13 ∷ 14
    ∷ 12 ∷ 15 ∷ 16 ∷ []
placed_coming = refl

placed_staying : placed_by {X = ℕ} Stays 1 3 (2 ∷ 1 ∷ 0 ∷ []) (10 ∷ 11 ∷ 12 ∷ 13 ∷ []) ≡ 10 ∷ 11 ∷ 12 ∷ 13 ∷ []
placed_staying = refl

placed_listed : placed_by {X = ℕ} Listed 1 4 (0 ∷ 2 ∷ 3 ∷ 1 ∷ []) (10 ∷ 11 ∷ 12 ∷ 13 ∷ 14 ∷ []) ≡ 10 ∷ 12 ∷ 13 ∷ 11 ∷ 14
    ∷ []
placed_listed = refl

brought : brought_forward {X = ℕ} 1 3 2 (10 ∷ 11 ∷ 12 ∷ 13 ∷ 14 ∷ 15 ∷ []) ≡ 10 ∷ 13 ∷ 14 ∷ 11 ∷ 12 ∷ 15 ∷ []
brought = refl

-- PLACEMENTS one after another: the second moves what stands where the first has brought it
abbrev two : Placements
two = record { first = Forward 2 3 1; second = Forward 1 2 2; third = Stays }

-- the glyph at 3 comes to 2, and then it and the one at 2 before it pass the one at 1
one_after_another : placed_by_all {X = ℕ} two 1 5 [] (10 ∷ 11 ∷ 12 ∷ 13 ∷ 14 ∷ 15 ∷ []) ≡ 10 ∷ 13 ∷ 12 ∷ 11 ∷ 14 ∷ 15 ∷ []
one_after_another = refl

-- the other way round it is another order
other_way_round : placed_by_all {X = ℕ} (record { first = Forward 1 2 2; second = Forward 2 3 1; third = Stays }) 1 5 []
    (10 ∷ 11 ∷ 12 ∷ 13 ∷ 14 ∷ 15 ∷ []) ≡ 10 ∷ 12 ∷ 11 ∷ 13 ∷ 14 ∷ 15 ∷ []
other_way_round = refl

-- the list says places behind the two before it
abbrev three : Placements
three = record { first = Forward 1 2 1; second = Forward 3 4 1; third = Listed }

listed_last : placed_by_all {X = ℕ} three 1 5 (0 ∷ 4 ∷ 3 ∷ 2 ∷ 1 ∷ []) (10 ∷ 11 ∷ 12 ∷ 13 ∷ 14 ∷ 15 ∷ [])
    ≡ 10 ∷ 13 ∷ 14 ∷ 11 ∷ 12 ∷ 15 ∷ []
listed_last = refl

-- the buffer so: its list then says nothing more
abbrev numbered : List ℕ → Glyphs
numbered = map (λ n. record default_glyph { glyph_id = n })

so_arranged : arranged three 1 5 (record (new_buffer 9) {
  glyphs = numbered (10 ∷ 11 ∷ 12 ∷ 13 ∷ 14 ∷ 15 ∷ []);
  places = 0 ∷ 4 ∷ 3 ∷ 2 ∷ 1 ∷ [];
}) ≡ record (new_buffer 9) { glyphs = numbered (10 ∷ 13 ∷ 14 ∷ 11 ∷ 12 ∷ 15 ∷ []) }
so_arranged = refl

-- where a glyph comes from: before the stretch, in it, among what it passes, and behind
comes_from : map (forward_place 1 3 2) (0 ∷ 1 ∷ 2 ∷ 3 ∷ 4 ∷ 5 ∷ []) ≡ 0 ∷ 3 ∷ 4 ∷ 1 ∷ 2 ∷ 5 ∷ []
comes_from = refl

stays_where_it_is : map (old_place Stays 1 4 (9 ∷ 9 ∷ [])) (0 ∷ 1 ∷ 4 ∷ []) ≡ 0 ∷ 1 ∷ 4 ∷ []
stays_where_it_is = refl

-- as the list says from s to e, and nowhere else
listed_from : map (old_place Listed 1 4 (7 ∷ 2 ∷ 3 ∷ 1 ∷ 7 ∷ [])) (0 ∷ 1 ∷ 2 ∷ 3 ∷ 4 ∷ []) ≡ 0 ∷ 2 ∷ 3 ∷ 1 ∷ 4 ∷ []
listed_from = refl

from_all : map (old_place_by_all three 1 5 (0 ∷ 4 ∷ 3 ∷ 2 ∷ 1 ∷ [])) (0 ∷ 1 ∷ 2 ∷ 3 ∷ 4 ∷ 5 ∷ []) ≡ 0 ∷ 3 ∷ 4 ∷ 1 ∷ 2 ∷ 5
    ∷ []
from_all = refl

-- one that moves nothing is none of the others, even where these bring none
still_ones : map is_still (Stays ∷ Forward 1 1 0 ∷ Listed ∷ []) ≡ true ∷ false ∷ false ∷ []
still_ones = refl

none_moves : map moves_nothing (record { first = Stays; second = Stays; third = Stays }
    ∷ record { first = Listed; second = Stays; third = Stays }
    ∷ record { first = Stays; second = Listed; third = Stays }
    ∷ record { first = Stays; second = Stays; third = Listed } ∷ []) ≡ true ∷ false ∷ false ∷ false ∷ []
none_moves = refl
