-- A buffer without positions keeps none.
use Rattle.std.proofs.Common.{◌≡◌, List, ap, length, sym, arith}
use Rattle.std.proofs.lemmas.Bool.Decides.{nat_tests}
use Rattle.shapers_buffer.specs.Buffer.{Buffer}
use Rattle.shapers_buffer.specs.declared.buffer.glyph.GlyphPosition.{GlyphPosition}
use Rattle.shapers_position.proofs.PositionSteps.{changed_none}
use Rattle.shapers_position.proofs.ot_shape_position.positions.change_positions.Goals as goal

pub returns-else-positions_len-gt0 : goal.returns-else-positions_len-gt0
returns-else-positions_len-gt0 g c =
    let b = c.args.buffer.now in
    let none : length b.positions ≡ 0 =
    grind (arith, nat_tests, c.positions_len.ensures.length, c.if-positions_len-gt0.false) in
    ap (λ (ps : List GlyphPosition). (let r : Buffer = record b { positions = ps } in r))
    (sym (changed_none (g.C.PositionChange.changed c.args.change.now) b.glyphs b.positions none))
