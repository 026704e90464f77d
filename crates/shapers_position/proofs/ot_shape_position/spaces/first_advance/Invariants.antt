-- The characters that are left tell of all.
use Rattle.std.proofs.Common.{◌≡◌, drop}
use Rattle.shapers_position.specs.Spaces.{first_advance}
use Rattle.shapers_position.proofs.ot_shape_position.spaces.first_advance.Given as goal

abbrev pub invariant-loop-c : goal.invariant-loop-c
invariant-loop-c g l =
    let first = first_advance (g.F.hb_font_t.font l.font) (g.F.MetricsFont.metrics l.font) l.is_horizontal in
    first (drop l.c-index l.characters) l.else_advance ≡ first l.characters l.else_advance
