-- A laid list as a walk of a pen, which each copy moves.
use Rattle.std.proofs.Common.{◌≡◌, ℤ, ◌+ℤ◌, Bool, true, false, List, [], ◌∷◌, ◌++◌, map, refl, arith}
use Rattle.std.proofs.lemmas.Int.{ints}
use Rattle.shapers_buffer.specs.Lists.{each_after}
use Rattle.shapers_stretch.specs.Stretch.{Copy, laid, laid_at, moves, offset}
pub use Rattle.shapers_stretch.specs.CountingWalk.{stands_at, pen_behind}
pub use Rattle.shapers_stretch.specs.LayingWalk.{laid_on}
use Rattle.shapers_stretch.proofs.Moves.{moves-append}
use Rattle.shapers_stretch.proofs.Sums.{total_cons}

-- one more copy
moves-push : (before : List Copy) (c : Copy) → moves (before ++ c ∷ []) ≡ moves before +ℤ c.move
moves-push = search (arith, moves-append)

offset_is : (right_to_left : Bool) (from : ℤ) (before : List Copy) (c : Copy) → offset right_to_left from before c
    ≡ stands_at right_to_left (pen_behind right_to_left from (moves before)) c.move
offset_is true from before c = omega (arith, ints, moves-push before c)
offset_is false from before c = refl

pen_next : (right_to_left : Bool) (from : ℤ) (before : List Copy) (c : Copy)
    → pen_behind right_to_left from (moves (before ++ c ∷ []))
    ≡ pen_behind right_to_left (pen_behind right_to_left from (moves before)) c.move
pen_next true from before c = omega (arith, ints, moves-push before c)
pen_next false from before c = omega (arith, ints, moves-push before c)

laid_after : (right_to_left : Bool) (from : ℤ) (before cs : List Copy)
    → map (λ p. laid_at (offset right_to_left from p.0 p.1) p.1.tile) (each_after before cs)
    ≡ laid_on right_to_left (pen_behind right_to_left from (moves before)) cs
laid_after right_to_left from before [] = refl
laid_after right_to_left from before (c ∷ cs) =
    search (arith, offset_is, pen_next, laid_after right_to_left from (before ++ c ∷ []) cs)

pub no_move : (right_to_left : Bool) (from : ℤ) → pen_behind right_to_left from (moves []) ≡ from
no_move true = omega (arith, ints)
no_move false = omega (arith, ints)

-- so the laid list of a sequence is laid from its start on
pub laid_is : (right_to_left : Bool) (from : ℤ) (cs : List Copy)
    → laid right_to_left from cs ≡ laid_on right_to_left from cs
laid_is = search (arith, laid_after, no_move)

pen_moved_on : (right_to_left : Bool) (pen : ℤ) (c : Copy) (xs : List Copy)
    → pen_behind right_to_left (pen_behind right_to_left pen c.move) (moves xs)
    ≡ pen_behind right_to_left pen (moves (c ∷ xs))
pen_moved_on true pen c xs = omega (arith, ints, total_cons c.move (map (λ copy. copy.move) xs))
pen_moved_on false pen c xs = omega (arith, ints, total_cons c.move (map (λ copy. copy.move) xs))

-- copies and then others
pub laid_on-append : (right_to_left : Bool) (pen : ℤ) (xs ys : List Copy) → laid_on right_to_left pen (xs ++ ys)
    ≡ laid_on right_to_left pen xs ++ laid_on right_to_left (pen_behind right_to_left pen (moves xs)) ys
laid_on-append right_to_left pen [] ys = search (arith, no_move)
laid_on-append right_to_left pen (c ∷ xs) ys =
    search (arith, pen_moved_on, laid_on-append right_to_left (pen_behind right_to_left pen c.move) xs ys)
