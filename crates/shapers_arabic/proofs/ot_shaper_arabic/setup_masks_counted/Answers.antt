-- What the walk leaves is the equation, and what joining left in the auxiliary bytes is cut as the forms are.
use Rattle.std.proofs.Common.{subst, arith}
use Rattle.std.proofs.Common.{ap, sym, ◌∙◌}
use Rattle.shapers_arabic.specs.Joining.{nearest}
use Rattle.shapers_arabic.specs.JoinedText.{HoldsCut, context_types, text_of}
use Rattle.shapers_arabic.proofs.BrokenGlyphs.{breaks-where_clear, none-needless}
use Rattle.shapers_arabic.proofs.FirstPieces.{first-as_flagged}
use Rattle.shapers_arabic.proofs.JoinedFlags.{joined_added}
use Rattle.shapers_arabic.proofs.JoiningLaws.{text_long, holds-cut, forms_left}
use Rattle.shapers_arabic.proofs.ot_shaper_arabic.setup_masks_counted.Goals as goal

pub returns-clause-joined : goal.returns-clause-joined
returns-clause-joined g c =
    let joining = (g.T.Tables.tables c.args.tables.now).joining in
    let general = (g.T.Tables.tables c.args.tables.now).general in
    let text = text_of joining general c.args.buffer.now in
    search (
      arith,
      c.walk_outside.ensures.walked.0 text.before text.after
          (sym (c.nearest_in-before.ensures.nearest ∙ ap (λ cs. nearest (context_types joining general cs))
          c.pre_context.ensures.chars))
          (sym (c.nearest_in-after.ensures.nearest ∙ ap (λ cs. nearest (context_types joining general cs))
          c.post_context.ensures.chars)),
      c.flags-flags.ensures,
    )

pub returns-clause-cut : goal.returns-clause-cut
returns-clause-cut g c =
    let t = g.T.Tables.tables c.args.tables.now in
    let text = text_of t.joining t.general c.args.buffer.now in subst (λ fs. HoldsCut c.args.script text fs) (sym
    (forms_left c.args.arabic_plan.now.break_flags c.args.arabic_plan.now.mask_array c.args.script t.joining t.general
    c.args.buffer.now _ (returns-clause-joined g c))) (holds-cut c.args.script text (text_long t.joining t.general
    c.args.buffer.now))

pub returns-clause-flags : goal.returns-clause-flags
returns-clause-flags g c =
    let t = g.T.Tables.tables c.args.tables.now in
    joined_added c.args.arabic_plan.now.break_flags c.args.arabic_plan.now.mask_array c.args.script t.joining t.general
    c.args.buffer.now _ (returns-clause-joined g c)

pub returns-clause-breaks : goal.returns-clause-breaks
returns-clause-breaks = search (arith, breaks-where_clear, returns-clause-joined)

pub returns-clause-needless : goal.returns-clause-needless
returns-clause-needless = search (arith, none-needless, returns-clause-joined)

pub returns-clause-first : goal.returns-clause-first
returns-clause-first = search (arith, first-as_flagged, returns-clause-joined)
