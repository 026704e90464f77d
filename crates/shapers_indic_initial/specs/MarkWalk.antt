-- Words of the code's walk that gives marks the positions of what they go with.
use Rattle.std.specs.Prelude.{ℕ, ◌==◌, ◌&&◌, not, [], ◌∷◌, if◌then◌else◌}
use Rattle.shapers_buffer.specs.Glyphs.{Glyph, Glyphs}
use Rattle.shapers_buffer.specs.Glyph.{at_position}
use Rattle.shapers_base.specs.declared.plan.ot_category_t.TheConstants.{OT_H}
use Rattle.shapers_base.specs.declared.plan.ot_position_t.TheConstants.{POS_PRE_M}
use Rattle.shapers_indic.specs.Glyphs.{has_category}
use Rattle.shapers_indic_initial.specs.InitialPositions.{carries, draws_sign, is_attached}

-- the position of a glyph before these ones, behind a carrier of position c: an attached one has
-- the carrier's, a syllable modifier that of the matra that draws it
abbrev pub drawn_position : ℕ → Glyph → Glyphs → ℕ
drawn_position c g [] = if is_attached g then c else g.auxiliary
drawn_position c g (next ∷ gs) =
    if is_attached g then c else if draws_sign g next then next.auxiliary else g.auxiliary

-- the position of the nearest carrier before what follows the glyph
abbrev pub next_carrier : ℕ → Glyph → ℕ
next_carrier c g = if carries g then g.auxiliary else c

-- an H of position p that would go with a left matra goes with what stands behind it, of position b
abbrev pub separated_position : ℕ → ℕ → Glyph → ℕ
separated_position b p g = if has_category OT_H g && p == POS_PRE_M then b else p

-- that position, b so far, behind a glyph of position p
abbrev pub next_behind : ℕ → ℕ → ℕ
next_behind b p = if not (p == POS_PRE_M) then p else b

-- what becomes of the glyphs
abbrev pub marks_from : ℕ → ℕ → Glyphs → Glyphs
marks_from c b [] = []
marks_from c b (g ∷ gs) =
    let p = drawn_position c g gs in
    at_position (separated_position b p g) g ∷ marks_from (next_carrier c g) (next_behind b p) gs
