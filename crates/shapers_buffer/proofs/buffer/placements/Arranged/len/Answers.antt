use Rattle.std.proofs.Common.{length, sym, ap, ◌∙◌}
use Rattle.shapers_buffer.proofs.Arranging.{all_long}
use Rattle.shapers_buffer.proofs.buffer.placements.Arranged.len.Goals as goal

pub returns : goal.returns
returns c =
    let a = c.self.inside in
    c.len.ensures.length
    ∙ sym (all_long a.placements a.start a.end a.buffer.now.places a.buffer.now.glyphs c.self.invariant)
    ∙ ap length c.self.view_is
