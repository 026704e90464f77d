-- Where the first move moves nothing.
use Rattle.std.proofs.Common.{sym, subst}
use Rattle.shapers_indic_initial.specs.InitialRules.{initial_rules}
use Rattle.shapers_indic_initial.specs.MovedWalk.{PositionsSet}
use Rattle.shapers_indic_initial.proofs.MovedLaws.{stays_unlisted}
use Rattle.shapers_indic_initial.proofs.ot_shaper_indic_initial.preparing.set_positions.Goals as goal

pub set_positions_behind-requires-clause-unlisted : goal.set_positions_behind-requires-clause-unlisted
set_positions_behind-requires-clause-unlisted g c = stays_unlisted c.args.start c.args.end

pub returns-in-Stays-clause-reordered : goal.returns-in-Stays-clause-reordered
returns-in-Stays-clause-reordered g c =
    let r = initial_rules (g.F.hb_font_t.font c.args.rules.now.font.now) c.args.rules.now.map.now
    c.args.rules.now.plan.now in
    subst (λ p. PositionsSet r p c.set_positions_behind.result c.args.start c.args.end c.args.buffer.now
    c.set_positions_behind.new.buffer) (sym c.in-Stays.is) c.set_positions_behind.ensures.reordered
