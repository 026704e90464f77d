-- What is shown, the order reads; and what is carried on behind it.
use Rattle.std.proofs.Common.{arith}
use Rattle.shapers_syllabic.proofs.CarriedSyllables.{behind_guarded, guarded_stands, numbers_by_view}
use Rattle.shapers_syllabic.proofs.ot_shaper_syllabic.reordering.reorder_guarded.Goals as goal

pub reorder-requires-clause-in_range : goal.reorder-requires-clause-in_range
reorder-requires-clause-in_range g c =
    let stands = guarded_stands c.args.first c.args.end c.guard-count.result c.args.groups.now
    c.guard-count.new.groups c.args.buffer.now c.guard-count.new.buffer c.requires.fits.fits c.guard-count.ensures.guarded
    c.guard-count.ensures.others in
    search arith

pub reorder-requires-clause-takes : goal.reorder-requires-clause-takes
reorder-requires-clause-takes g c =
    let stands = guarded_stands c.args.first c.args.end c.guard-count.result c.args.groups.now
    c.guard-count.new.groups c.args.buffer.now c.guard-count.new.buffer c.requires.fits.fits c.guard-count.ensures.guarded
    c.guard-count.ensures.others in
    search (numbers_by_view c.args.first c.args.end c.guard-count.new.buffer.glyphs c.args.buffer.now.glyphs stands.view)

pub take_back-requires : goal.take_back-requires
take_back-requires g c =
    let order = c.args.order.now in
    record {
      fits = (behind_guarded (g.R.Reorder.meaning order) (g.R.ReorderBySteps.steps order) (g.R.Reorder.relation order)
          (g.met.R.ReorderBySteps.leads order) (g.met.R.ReorderBySteps.suffices order) (g.met.R.ReorderBySteps.laws order)
          c.args.first c.args.end c.guard-count.result c.args.groups.now c.guard-count.new.groups c.args.buffer.now
          c.guard-count.new.buffer c.reorder.new.buffer c.requires.in_order c.requires.in_range c.requires.fits.fits
          c.guard-count.ensures.guarded c.guard-count.ensures.others c.in_ok-reorder.ensures.related).can;
    }

pub returns-clause-behind : goal.returns-clause-behind
returns-clause-behind g c =
    let order = c.args.order.now in
    let behind = behind_guarded (g.R.Reorder.meaning order) (g.R.ReorderBySteps.steps order) (g.R.Reorder.relation order)
    (g.met.R.ReorderBySteps.leads order) (g.met.R.ReorderBySteps.suffices order) (g.met.R.ReorderBySteps.laws order)
    c.args.first c.args.end c.guard-count.result c.args.groups.now c.guard-count.new.groups c.args.buffer.now
    c.guard-count.new.buffer c.reorder.new.buffer c.requires.in_order c.requires.in_range c.requires.fits.fits
    c.guard-count.ensures.guarded c.guard-count.ensures.others c.in_ok-reorder.ensures.related in
    let groups_settled = c.take_back.ensures.settled in
    record {
      linked = behind.linked c.take_back.new.groups c.take_back.new.buffer groups_settled c.take_back.ensures.others;
      fits = record {
        fits = groups_settled.fits;
        ends = omega arith;
      };
    }
