-- The walk's result in the order view, and what the laws say of it.
use Rattle.std.proofs.Common.{arith}
use Rattle.shapers_arabic.proofs.MarkLaws.{marks_take_classes, marks_view, mark_laws}
use Rattle.shapers_arabic.proofs.ot_shaper_arabic.marks.reorder_marks.Goals as goal

pub returns-clause-order : goal.returns-clause-order
returns-clause-order = search (arith, marks_view)

pub returns-clause-classes : goal.returns-clause-classes
returns-clause-classes = search (arith, marks_take_classes)

pub returns-clause-laws : goal.returns-clause-laws
returns-clause-laws c =
    let b = c.args.buffer.now in
    search (
      arith,
      c.with_glyphs_mut.ensures.changed,
      c.cluster_level-level.ensures,
      mark_laws b.level c.args.start c.args.end b.glyphs c.requires.in_order c.requires.in_range,
    )
