-- One syllable more that may change, behind those that stay; the chain, and the text order from it.
use Rattle.std.proofs.Common.{◌≡◌, arith, drop, false, subst}
use Rattle.std.specs.List.{list_any}
use Rattle.shapers_syllabic.proofs.LinkedSyllables.{linked_end, linked_passes, next_syllable, past_changing, takes_next, text_ordered, to_changing, to_link_all}
use Rattle.shapers_syllabic.proofs.Skipping.{to_end}
use Rattle.shapers_syllabic.specs.ReorderingWalk.{ToLink}
use Rattle.shapers_syllabic.proofs.ot_shaper_syllabic.reordering.reorder_syllables.Goals as goal

pub loop-first-init : goal.loop-first-init
loop-first-init g c = search to_link_all

pub reorder-requires-clause-takes : goal.reorder-requires-clause-takes
reorder-requires-clause-takes g c =
    let order = c.args.order.now in
    let old = c.args.buffer.now in
    let now = c.loop-first.buffer in
    let first = c.in-Some.first in
    let to = to_changing (g.R.Reorder.meaning order) (g.R.Reorder.takes order) (g.R.MayChange.changes order)
    (g.R.Reorder.relation order) 0 old now c.glyphs.result.now c.loop-first.start first c.glyphs.ensures
    (g.met.R.Reorder.permutes order) (g.met.R.Reorder.orders order) (g.met.R.Reorder.stays order)
    c.in-Some.ensures c.loop-first.invariant in
    takes_next (g.R.Reorder.takes order) (g.R.Reorder.relation order) 0 old now first c.next_syllable-end.result to
    (search (arith, next_syllable))

pub loop-first-smaller : goal.loop-first-smaller
loop-first-smaller g c =
    let order = c.args.order.now in
    let next = past_changing (g.R.Reorder.meaning order) (g.R.Reorder.takes order) (g.R.MayChange.changes order)
    (g.R.Reorder.relation order) 0 c.args.buffer.now c.loop-first.buffer c.reorder.new.buffer c.glyphs.result.now
    c.loop-first.start c.in-Some.first c.next_syllable-end.result c.glyphs.ensures (g.met.R.Reorder.permutes order)
    (g.met.R.Reorder.orders order) (g.met.R.Reorder.stays order) c.in-Some.ensures c.loop-first.invariant
    c.next_syllable-end.ensures.end c.in_ok-reorder.ensures.related in
    search arith

pub loop-first-preserved : goal.loop-first-preserved
loop-first-preserved g c =
    let order = c.args.order.now in
    let next = past_changing (g.R.Reorder.meaning order) (g.R.Reorder.takes order) (g.R.MayChange.changes order)
    (g.R.Reorder.relation order) 0 c.args.buffer.now c.loop-first.buffer c.reorder.new.buffer c.glyphs.result.now
    c.loop-first.start c.in-Some.first c.next_syllable-end.result c.glyphs.ensures (g.met.R.Reorder.permutes order)
    (g.met.R.Reorder.orders order) (g.met.R.Reorder.stays order) c.in-Some.ensures c.loop-first.invariant
    c.next_syllable-end.ensures.end c.in_ok-reorder.ensures.related in
    next.to

pub returns-clause-linked : goal.returns-clause-linked
returns-clause-linked g c =
    let order = c.args.order.now in
    let old = c.args.buffer.now in
    let now = c.loop-first.buffer in
    let takes = g.R.Reorder.takes order in
    let relation = g.R.Reorder.relation order in
    let changes = g.R.MayChange.changes order in
    let passes = linked_passes (g.R.Reorder.meaning order) takes changes relation 0 old now
    (g.met.R.Reorder.permutes order) (g.met.R.Reorder.orders order) (g.met.R.Reorder.stays order) in
    let start = c.loop-first.start in
    linked_end takes relation old now c.clear_places.new.self
    (to_end changes now.glyphs (ToLink takes relation 0 old now) passes start c.loop-first.invariant.inside
    (subst (λ gs. list_any changes (drop start gs) ≡ false) c.glyphs.ensures c.in_default.ensures)
    c.loop-first.invariant) c.clear_places.ensures

pub returns-clause-ordered : goal.returns-clause-ordered
returns-clause-ordered g c =
    let order = c.args.order.now in
    text_ordered (g.R.Reorder.meaning order) (g.R.Reorder.relation order) c.args.buffer.now c.clear_places.new.self
    (g.met.R.Reorder.permutes order) (g.met.R.Reorder.orders order) (returns-clause-linked g c)
