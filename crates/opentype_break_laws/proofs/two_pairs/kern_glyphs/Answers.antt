use Rattle.std.proofs.Common.{[], ap, ◌∙◌}
use Rattle.opentype_gpos.specs.Along.{positioned}
use Rattle.opentype_font.specs.Lookups.{application_for}
use Rattle.opentype_break_laws.specs.TwoSingles.{first_lookup}
use Rattle.opentype_break_laws.proofs.TwoPairs.{kerned_of_pieces}
use Rattle.opentype_break_laws.proofs.two_pairs.kern_glyphs.Goals as goal

pub returns-clause-pieces : goal.returns-clause-pieces
returns-clause-pieces c =
    let old = c.args.buffer.now in
    kerned_of_pieces c.font_positions_law.ensures.lookups c.font_positions_law.ensures.pairs old c.position.new.buffer
    c.requires.paired c.requires.short
    (c.position.ensures ∙ ap (λ gpos. positioned [] gpos 0 (application_for first_lookup) old)
    (c.of.ensures ∙ c.two_pairs-bytes.ensures))
