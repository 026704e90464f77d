-- One glyph more, and all.
use Rattle.std.proofs.Common.{append-nil, append_assoc, arith, refl, rules}
use Rattle.std.proofs.lemmas.List.{drop-set-lt, drop_all, drop_more, take_all, take_more_set}
use Rattle.std.proofs.lemmas.Grind.{pieces}
use Rattle.shapers_indic_initial.proofs.ot_shaper_indic_initial.font_positions.ByVirama.position_each.Goals as goal

pub loop-glyph-init : goal.loop-glyph-init
loop-glyph-init g c = record { glyphs = refl; known = search (pieces, arith) }

pub loop-glyph-preserved : goal.loop-glyph-preserved
loop-glyph-preserved = search (rules, take_more_set, drop-set-lt, drop_more, append_assoc)

pub returns : goal.returns
returns = search (rules, append-nil, drop_all, take_all)
