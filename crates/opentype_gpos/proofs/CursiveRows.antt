-- Cursive lines, computed over bytes and positions written out.
use Rattle.std.specs.Prelude.{◌≡◌, ℕ, ℤ, pos, negsuc, true, false, List, [], ◌∷◌, None, Some, refl}
use Rattle.shapers_buffer.specs.declared.buffer.glyph.GlyphPosition.{GlyphPosition}
use Rattle.shapers_buffer.specs.declared.buffer.level.Direction.TheVariants.{LeftToRight, RightToLeft}
use Rattle.opentype_face.specs.Ranges.{bisect}
use Rattle.opentype_gpos.specs.Anchors.{joint_in, joint_point}
use Rattle.opentype_gpos.specs.Finished.{let_go, target_in}
use Rattle.opentype_gpos.specs.Joined.{aligned, beginning_at, begun, between, ended, ending_at, hung, cursive_joined, line_var, cursive_linked, next_in_line, off_line, separated, reversed, reversed_on, with_across}
use Rattle.opentype_gpos.specs.Moved.{Positions}
use Rattle.opentype_gpos.specs.declared.anchors.Point.{Point}
use Rattle.opentype_gpos.specs.declared.moves.CursiveMove.{CursiveMove}

abbrev at : ℤ → ℤ → Point
at x y = record { x = x; y = y }

-- type 3: glyph 5 is left at 300, 0, and glyph 6 entered at 10, 20
abbrev line : List ℕ
line = 0 ∷ 1 ∷ 0 ∷ 26 ∷ 0 ∷ 2 ∷ 0 ∷ 0 ∷ 0 ∷ 20 ∷ 0 ∷ 14 ∷ 0 ∷ 0
    ∷ 0 ∷ 1 ∷ 0 ∷ 10 ∷ 0 ∷ 20
    ∷ 0 ∷ 1 ∷ 1 ∷ 44 ∷ 0 ∷ 0
    ∷ 0 ∷ 1 ∷ 0 ∷ 2 ∷ 0 ∷ 5 ∷ 0 ∷ 6 ∷ []

left : joint_in line 2 5 ≡ Some (at (pos 300) (pos 0))
unfolding bisect joint_in joint_point
left = refl

entered : joint_in line 0 6 ≡ Some (at (pos 10) (pos 20))
unfolding bisect joint_in joint_point
entered = refl

not_entered : joint_in line 0 5 ≡ None
unfolding bisect joint_in joint_point
not_entered = refl

not_covered : joint_in line 0 7 ≡ None
unfolding bisect joint_in joint_point
not_covered = refl

abbrev position : ℤ → ℤ → ℤ → ℕ → GlyphPosition
position x x_off y_off var =
    record { x_advance = x; y_advance = pos 0; x_offset = x_off; y_offset = y_off; var = var }

abbrev join : CursiveMove
join = record { before = 0; exit = at (pos 300) (pos 0); entry = at (pos 10) (pos 20); from_end = false }

abbrev two : Positions
two = position (pos 500) (pos 0) (pos 0) 0 ∷ position (pos 400) (pos 0) (pos 0) 0 ∷ []

-- the later glyph goes down to the one before it: 65535 is -1 in 16 bits, and 2 says that it is a line
forwards : cursive_joined LeftToRight join 1 two
    ≡ position (pos 300) (pos 0) (pos 0) 0 ∷ position (pos 390) (negsuc 9) (negsuc 19) 196607 ∷ []
unfolding aligned beginning_at begun between ended ending_at hung cursive_joined let_go line_var cursive_linked next_in_line off_line separated target_in reversed reversed_on with_across
forwards = refl

-- or the glyph before it goes up to the later one
from_end : cursive_joined LeftToRight (record join { from_end = true }) 1 two
    ≡ position (pos 300) (pos 0) (pos 20) 131073 ∷ position (pos 390) (negsuc 9) (pos 0) 0 ∷ []
unfolding aligned beginning_at begun between ended ending_at hung cursive_joined let_go line_var cursive_linked next_in_line off_line separated target_in reversed reversed_on with_across
from_end = refl

-- from right to left the glyph before stands at the right of the later one
backwards : cursive_joined RightToLeft join 1 two
    ≡ position (pos 200) (negsuc 299) (pos 0) 0 ∷ position (pos 10) (pos 0) (negsuc 19) 196607 ∷ []
unfolding aligned beginning_at begun between ended ending_at hung cursive_joined let_go line_var cursive_linked next_in_line off_line separated target_in reversed reversed_on with_across
backwards = refl

-- the first of three was attached to the second: that is attached to it then, as far off the other way
turns : cursive_linked false 0 2 (pos 5)
    (position (pos 0) (pos 0) (pos 7) 131073 ∷ position (pos 0) (pos 0) (pos 0) 0 ∷ position (pos 0) (pos 0) (pos 0) 0 ∷ [])
    ≡ position (pos 0) (pos 0) (pos 5) 131074 ∷ position (pos 0) (pos 0) (negsuc 6) 196607
    ∷ position (pos 0) (pos 0) (pos 0) 0 ∷ []
unfolding hung let_go line_var cursive_linked next_in_line off_line separated target_in reversed reversed_on with_across
turns = refl

-- a ring of two is cut
cut : cursive_linked false 1 0 (pos 5) (position (pos 0) (pos 0) (pos 7) 131073 ∷ position (pos 0) (pos 0) (pos 0) 0 ∷ [])
    ≡ position (pos 0) (pos 0) (pos 0) 131072 ∷ position (pos 0) (pos 0) (pos 5) 196607 ∷ []
unfolding hung let_go line_var cursive_linked next_in_line off_line separated target_in reversed reversed_on with_across
cut = refl
