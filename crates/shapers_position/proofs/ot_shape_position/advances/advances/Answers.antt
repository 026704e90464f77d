-- The position that each glyph has by itself.
use Rattle.std.proofs.Common.{◌≡◌, ◌∙◌, ap, drop, length, map, arith}
use Rattle.std.proofs.lemmas.List.{length-map, take_at}
use Rattle.shapers_position.specs.Widths.{advanced}
use Rattle.shapers_position.proofs.Untouched.{given-each}
use Rattle.shapers_position.proofs.ot_shape_position.advances.advances.Goals as goal

pub returns-clause-advances : goal.returns-clause-advances
returns-clause-advances g c =
    let f = advanced (g.F.hb_font_t.font c.args.font.now) (g.F.MetricsFont.metrics c.args.font.now)
    c.args.is_horizontal in
    let gs = c.args.glyphs.now in
    let old = c.as_mut_slice.result.now in
    let new = c.change_each_position.new.positions in
    let items = c.resize.new.self.items in
    let same : length old ≡ length gs = omega (arith, c.as_mut_slice.ensures.len, c.in_ok-resize.ensures.len) in
    let changed : new ≡ map f gs = c.change_each_position.ensures ∙ given-each f gs old same in
    let long : length new ≡ c.resize.new.self.len =
    omega (arith, ap length changed, length-map gs f, c.in_ok-resize.ensures.len) in
    take_at new (drop (length new) items) c.resize.new.self.len long ∙ changed
