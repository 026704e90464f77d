-- Where no mark may modify a letter, none does, and all stay; and the classes.
use Rattle.std.proofs.Common.{arith}
use Rattle.std.proofs.Common.{sym, ◌∙◌}
use Rattle.shapers_buffer.specs.Clusters.{stretch_of}
use Rattle.shapers_arabic.proofs.MarkClasses.{no_modifier}
use Rattle.shapers_arabic.proofs.MarkLaws.{marks_take_classes}
use Rattle.shapers_arabic.proofs.MarkLists.{unmodified}
use Rattle.shapers_arabic.proofs.ot_shaper_arabic.marks.reorder_marks_in.Goals as goal

pub returns-then-not-may_have_modifier-clause-marks : goal.returns-then-not-may_have_modifier-clause-marks
returns-then-not-may_have_modifier-clause-marks = search (arith, unmodified, no_modifier)

pub returns-then-not-may_have_modifier-clause-moved : goal.returns-then-not-may_have_modifier-clause-moved
returns-then-not-may_have_modifier-clause-moved = search (arith, no_modifier)

pub returns-then-not-may_have_modifier-clause-classes : goal.returns-then-not-may_have_modifier-clause-classes
returns-then-not-may_have_modifier-clause-classes c =
    let gs = c.args.glyphs.now in
    search (
      arith,
      unmodified c.args.level c.args.start c.args.end gs c.requires.in_order
          (no_modifier (stretch_of c.args.start c.args.end gs) (sym c.may_have_modifier.ensures ∙
          c.if-not-may_have_modifier.true)),
      marks_take_classes,
    )

pub returns-clause-classes : goal.returns-clause-classes
returns-clause-classes = search (arith, marks_take_classes)
