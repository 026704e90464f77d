use Rattle.std.proofs.Common.{[], ap, ◌∙◌}
use Rattle.opentype_gsub.specs.Substituted.{substituted}
use Rattle.opentype_gsub.proofs.Untouched.{ok_then}
use Rattle.opentype_font.specs.Lookups.{use_for}
use Rattle.opentype_break_laws.specs.OneContext.{one_context}
use Rattle.opentype_break_laws.specs.TwoSingles.{first_lookup}
use Rattle.opentype_break_laws.proofs.OneContext.{put_in_pieces}
use Rattle.opentype_break_laws.proofs.one_context.substitute_in_context.Goals as goal

pub returns-clause-pieces : goal.returns-clause-pieces
returns-clause-pieces c =
    let old = c.args.buffer.now in
    ok_then c.substitute.result
    (λ is. put_in_pieces c.font_contexts_law.ensures.pieces c.font_contexts_law.ensures.short old c.substitute.new.buffer
    (is ∙ ap (λ gdef. substituted gdef c.of-2.result (use_for first_lookup) c.begin_lookups.new.buffer) c.of.ensures
    ∙ ap (λ gsub. substituted [] gsub (use_for first_lookup) c.begin_lookups.new.buffer) (c.of-2.ensures ∙ c.one_context-bytes.ensures)
    ∙ ap (λ text. substituted [] one_context (use_for first_lookup) text) c.begin_lookups.ensures))
    c.substitute.ensures.ok
