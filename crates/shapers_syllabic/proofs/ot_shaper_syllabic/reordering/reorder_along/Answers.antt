-- One syllable more that may change, behind those that stay; and the chain.
use Rattle.std.proofs.Common.{arith}
use Rattle.shapers_syllabic.proofs.CarriedSyllables.{carried_stands, carry_end, carry_next, takes_carried, to_carry_rest}
use Rattle.shapers_syllabic.proofs.ot_shaper_syllabic.reordering.reorder_along.Goals as goal

pub loop-first-init : goal.loop-first-init
loop-first-init g c = search to_carry_rest

pub next_changing-requires : goal.next_changing-requires
next_changing-requires g c =
    let order = c.args.order.now in
    search (
      arith,
      (carried_stands (g.R.Reorder.takes order) (g.R.Reorder.relation order) c.args.from c.args.buffer.now c.loop-first.groups
          c.loop-first.buffer c.loop-first.start c.loop-first.invariant).inside,
    )

pub reorder_guarded-requires-clause-takes : goal.reorder_guarded-requires-clause-takes
reorder_guarded-requires-clause-takes g c =
    let order = c.args.order.now in
    takes_carried (g.R.Reorder.meaning order) (g.R.Reorder.takes order) (g.R.MayChange.changes order)
    (g.R.Reorder.relation order) c.args.from c.args.buffer.now c.loop-first.groups c.loop-first.buffer c.glyphs.result.now
    c.loop-first.start c.in-Some.first c.next_syllable-after.result
    c.glyphs.ensures (g.met.R.Reorder.permutes order) (g.met.R.Reorder.orders order) (g.met.R.Reorder.stays order)
    c.in-Some.ensures c.loop-first.invariant c.next_syllable-after.ensures.end

pub reorder_guarded-requires-clause-fits : goal.reorder_guarded-requires-clause-fits
reorder_guarded-requires-clause-fits g c =
    let order = c.args.order.now in
    (carried_stands (g.R.Reorder.takes order) (g.R.Reorder.relation order) c.args.from c.args.buffer.now c.loop-first.groups
    c.loop-first.buffer c.loop-first.start c.loop-first.invariant).fits c.in-Some.first c.in-Some.ensures.in_order

pub reorder_guarded-requires-clause-without_positions : goal.reorder_guarded-requires-clause-without_positions
reorder_guarded-requires-clause-without_positions = search arith

pub loop-first-smaller : goal.loop-first-smaller
loop-first-smaller g c =
    let order = c.args.order.now in
    let next = carry_next (g.R.Reorder.meaning order) (g.R.Reorder.takes order) (g.R.MayChange.changes order)
    (g.R.Reorder.relation order) c.args.from c.args.buffer.now c.loop-first.groups c.loop-first.buffer c.glyphs.result.now
    c.loop-first.start c.in-Some.first c.next_syllable-after.result c.reorder_guarded.new.groups
    c.reorder_guarded.new.buffer c.glyphs.ensures (g.met.R.Reorder.permutes order) (g.met.R.Reorder.orders order)
    (g.met.R.Reorder.stays order) c.in-Some.ensures c.loop-first.invariant c.next_syllable-after.ensures.end
    (omega arith) c.in_ok-reorder_guarded.ensures.behind in
    search arith

pub loop-first-preserved : goal.loop-first-preserved
loop-first-preserved g c =
    let order = c.args.order.now in
    search ((carry_next (g.R.Reorder.meaning order) (g.R.Reorder.takes order) (g.R.MayChange.changes order)
    (g.R.Reorder.relation order) c.args.from c.args.buffer.now c.loop-first.groups c.loop-first.buffer
    c.glyphs.result.now c.loop-first.start c.in-Some.first c.next_syllable-after.result
    c.reorder_guarded.new.groups c.reorder_guarded.new.buffer c.glyphs.ensures (g.met.R.Reorder.permutes order)
    (g.met.R.Reorder.orders order) (g.met.R.Reorder.stays order) c.in-Some.ensures c.loop-first.invariant
    c.next_syllable-after.ensures.end (omega arith) c.in_ok-reorder_guarded.ensures.behind).state)

pub returns-clause-linked : goal.returns-clause-linked
returns-clause-linked g c =
    let order = c.args.order.now in
    carry_end (g.R.Reorder.meaning order) (g.R.Reorder.takes order) (g.R.MayChange.changes order)
    (g.R.Reorder.relation order) c.args.from c.args.buffer.now c.loop-first.groups c.loop-first.buffer c.glyphs.result.now
    c.loop-first.start c.clear_places.new.self c.glyphs.ensures (g.met.R.Reorder.permutes order)
    (g.met.R.Reorder.orders order) (g.met.R.Reorder.stays order) c.in_default.ensures c.loop-first.invariant
    (search arith)
