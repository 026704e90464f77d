-- What stands behind the marks keeps its classes.
use Rattle.std.proofs.Common.{◌∙◌, ap, drop}
use Rattle.shapers_normal.specs.Sorting.{classes}
use Rattle.shapers_pipeline.proofs.ArabicAlone.{arabic_behind}
use Rattle.shapers_pipeline.proofs.HebrewAlone.{hebrew_behind}
use Rattle.shapers_pipeline.proofs.normalizing.hooks.order_marks.Goals as goal

pub returns-in-Some-Arabic-clause-behind : goal.returns-in-Some-Arabic-clause-behind
returns-in-Some-Arabic-clause-behind c =
    ap (λ gs. drop c.args.end (classes gs)) c.reorder_marks_in.ensures.marks
    ∙ arabic_behind c.args.level c.args.start c.args.end c.args.glyphs.now c.requires.in_order c.requires.in_range

pub returns-in-Some-Hebrew-clause-behind : goal.returns-in-Some-Hebrew-clause-behind
returns-in-Some-Hebrew-clause-behind c =
    ap (λ gs. drop c.args.end (classes gs)) c.reorder_marks_in-in-Some-Hebrew.ensures.step
    ∙ hebrew_behind c.args.level c.args.start c.args.end c.args.glyphs.now c.requires.in_order c.requires.in_range
