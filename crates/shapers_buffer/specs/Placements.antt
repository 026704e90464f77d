-- Placements of one syllable, one after another: what stands where before the syllable is written.
use Rattle.std.specs.Prelude.{ℕ, ◌+◌, ◌-◌, ◌≤◌, nat_le, nat_lt, Bool, true, false, ◌&&◌, List, [], if◌then◌else◌}
use Rattle.shapers_buffer.specs.Buffer.{Buffer}
use Rattle.shapers_buffer.specs.Places.{PlacesEachOnce, place_at, placed_by}
use Rattle.shapers_buffer.specs.declared.buffer.placement.Placement.{Placement}
use Rattle.shapers_buffer.specs.declared.buffer.placement.Placement.TheVariants.{Forward, Listed, Stays}
use Rattle.shapers_buffer.specs.declared.buffer.placements.Placements.{Placements}

-- a list with what stands from s to e moved by three placements, one after another
abbrev pub placed_by_all : {X : Type 0} → Placements → ℕ → ℕ → List ℕ → List X → List X
placed_by_all ps s e places xs =
    let first = placed_by ps.first s e places xs in
    let second = placed_by ps.second s e places first in
    placed_by ps.third s e places second

-- the buffer as it is once the syllable is written; its placement list then says nothing more
abbrev pub arranged : Placements → ℕ → ℕ → Buffer → Buffer
arranged ps s e b = record b { glyphs = placed_by_all ps s e b.places b.glyphs; places = [] }

-- each placement says each place of the syllable once
pub record MayArrange (ps : Placements) (s e n : ℕ) (places : List ℕ) : Type 0 where
  pub in_order : s ≤ e
  pub in_range : e ≤ n
  pub first : PlacesEachOnce ps.first s e places
  pub second : PlacesEachOnce ps.second s e places
  pub third : PlacesEachOnce ps.third s e places

-- in the code: whether a placement moves nothing
abbrev pub is_still : Placement → Bool
is_still Stays = true
is_still (Forward to from count) = false
is_still Listed = false

abbrev pub moves_nothing : Placements → Bool
moves_nothing ps = is_still ps.first && (is_still ps.second && is_still ps.third)

-- in the code: the place whose glyph a placement brings to place i
abbrev pub forward_place : ℕ → ℕ → ℕ → ℕ → ℕ
forward_place to from count i =
    if nat_lt i to then i
    else if nat_lt i (to + count) then from + (i - to)
    else if nat_lt i (from + count) then i - count else i

abbrev pub old_place : Placement → ℕ → ℕ → List ℕ → ℕ → ℕ
old_place Stays s e places i = i
old_place (Forward to from count) s e places i = forward_place to from count i
old_place Listed s e places i = if nat_le s i && nat_lt i e then place_at places i else i

abbrev pub old_place_by_all : Placements → ℕ → ℕ → List ℕ → ℕ → ℕ
old_place_by_all ps s e places i =
    old_place ps.first s e places (old_place ps.second s e places (old_place ps.third s e places i))
