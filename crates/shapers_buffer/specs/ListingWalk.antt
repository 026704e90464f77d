-- Words of the code's walks that list places: what is listed so far.
use Rattle.std.specs.Prelude.{ℕ, ◌+◌, List, [], ◌∷◌}
use Rattle.shapers_buffer.specs.Places.{with_place}

-- the placement list with these places written from place `at` on
abbrev pub with_listed : ℕ → List ℕ → List ℕ → List ℕ
with_listed at [] places = places
with_listed at (p ∷ ps) places = with_listed (at + 1) ps (with_place at p places)
