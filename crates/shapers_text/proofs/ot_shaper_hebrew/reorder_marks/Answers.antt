use Rattle.std.proofs.Common.{arith}
use Rattle.shapers_text.proofs.HebrewLemmas.{marks_view, mark_laws, second_within}
use Rattle.shapers_text.proofs.ot_shaper_hebrew.reorder_marks.Goals as goal

pub returns : goal.returns
returns c =
    let b = c.args.buffer.now in
    let within = second_within b.glyphs c.args.start c.args.end c.requires.in_order c.requires.in_range in
    search (
      arith,
      marks_view b.level c.args.start c.args.end b.glyphs within,
      mark_laws b.level c.args.start c.args.end b.glyphs within,
    )
