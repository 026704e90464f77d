use Rattle.std.proofs.Common.{[], ap, ◌∙◌}
use Rattle.opentype_gsub.specs.Substituted.{substituted}
use Rattle.opentype_gsub.proofs.Untouched.{ok_then}
use Rattle.opentype_font.specs.Lookups.{use_for}
use Rattle.opentype_break_laws.specs.TwoSingles.{first_lookup}
use Rattle.opentype_break_laws.proofs.OneAsTwo.{made_in_pieces}
use Rattle.opentype_break_laws.proofs.one_as_two.substitute_sequence.Goals as goal

pub returns-clause-pieces : goal.returns-clause-pieces
returns-clause-pieces c =
    let old = c.args.buffer.now in
    ok_then c.substitute.result
    (λ is. made_in_pieces c.font_pieces_law.ensures.lookups old c.substitute.new.buffer
    (is ∙ ap (λ gdef. substituted gdef c.of-2.result (use_for first_lookup) old) c.of.ensures
    ∙ ap (λ gsub. substituted [] gsub (use_for first_lookup) old) (c.of-2.ensures ∙ c.one_as_two-bytes.ensures)))
    c.substitute.ensures.ok
