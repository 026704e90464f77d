-- One syllable more that may change, behind those that stay; and where the walk stands then.
use Rattle.std.proofs.Common.{◌≡◌, arith, drop, false, length, subst, sym}
use Rattle.std.specs.List.{list_any}
use Rattle.shapers_syllabic.proofs.LinkedSyllables.{linked_passes, next_syllable, past_changing, takes_next, to_changing, to_link_rest}
use Rattle.shapers_syllabic.proofs.Skipping.{to_end}
use Rattle.shapers_syllabic.specs.ReorderingWalk.{ToLink}
use Rattle.shapers_syllabic.proofs.ot_shaper_syllabic.reordering.reorder_some.Goals as goal

pub loop-first-init : goal.loop-first-init
loop-first-init g c =
    let order = c.args.order.now in
    let rest = to_link_rest (g.R.Reorder.takes order) (g.R.Reorder.relation order) c.args.from c.args.buffer.now
    c.requires.rest in
    search arith

pub reorder-requires-clause-takes : goal.reorder-requires-clause-takes
reorder-requires-clause-takes g c =
    let order = c.args.order.now in
    let old = c.args.buffer.now in
    let now = c.loop-first.buffer in
    let first = c.in-Some.first in
    let to = to_changing (g.R.Reorder.meaning order) (g.R.Reorder.takes order) (g.R.MayChange.changes order)
    (g.R.Reorder.relation order) c.args.from old now c.glyphs.result.now c.loop-first.start first c.glyphs.ensures
    (g.met.R.Reorder.permutes order) (g.met.R.Reorder.orders order) (g.met.R.Reorder.stays order)
    c.in-Some.ensures c.loop-first.invariant.1 in
    takes_next (g.R.Reorder.takes order) (g.R.Reorder.relation order) c.args.from old now first
    c.next_syllable-next.result to (search (arith, next_syllable))

pub loop-first-smaller : goal.loop-first-smaller
loop-first-smaller g c =
    let order = c.args.order.now in
    let next = past_changing (g.R.Reorder.meaning order) (g.R.Reorder.takes order) (g.R.MayChange.changes order)
    (g.R.Reorder.relation order) c.args.from c.args.buffer.now c.loop-first.buffer c.reorder.new.buffer c.glyphs.result.now
    c.loop-first.start c.in-Some.first c.next_syllable-next.result c.glyphs.ensures (g.met.R.Reorder.permutes order)
    (g.met.R.Reorder.orders order) (g.met.R.Reorder.stays order) c.in-Some.ensures c.loop-first.invariant.1
    c.next_syllable-next.ensures.end c.in_ok-reorder.ensures.related in
    search arith

pub loop-first-preserved : goal.loop-first-preserved
loop-first-preserved g c =
    let order = c.args.order.now in
    let next = past_changing (g.R.Reorder.meaning order) (g.R.Reorder.takes order) (g.R.MayChange.changes order)
    (g.R.Reorder.relation order) c.args.from c.args.buffer.now c.loop-first.buffer c.reorder.new.buffer c.glyphs.result.now
    c.loop-first.start c.in-Some.first c.next_syllable-next.result c.glyphs.ensures (g.met.R.Reorder.permutes order)
    (g.met.R.Reorder.orders order) (g.met.R.Reorder.stays order) c.in-Some.ensures c.loop-first.invariant.1
    c.next_syllable-next.ensures.end c.in_ok-reorder.ensures.related in
    let same = next.same_length in
    let to = next.to in
    search arith

pub returns-then-next-enough-clause-linked : goal.returns-then-next-enough-clause-linked
returns-then-next-enough-clause-linked g c =
    let order = c.args.order.now in
    let next = past_changing (g.R.Reorder.meaning order) (g.R.Reorder.takes order) (g.R.MayChange.changes order)
    (g.R.Reorder.relation order) c.args.from c.args.buffer.now c.loop-first.buffer c.reorder.new.buffer c.glyphs.result.now
    c.loop-first.start c.in-Some.first c.next_syllable-next.result c.glyphs.ensures (g.met.R.Reorder.permutes order)
    (g.met.R.Reorder.orders order) (g.met.R.Reorder.stays order) c.in-Some.ensures c.loop-first.invariant.1
    c.next_syllable-next.ensures.end c.in_ok-reorder.ensures.related in
    next.to

pub returns-then-next-enough-clause-less : goal.returns-then-next-enough-clause-less
returns-then-next-enough-clause-less g c =
    let order = c.args.order.now in
    let next = past_changing (g.R.Reorder.meaning order) (g.R.Reorder.takes order) (g.R.MayChange.changes order)
    (g.R.Reorder.relation order) c.args.from c.args.buffer.now c.loop-first.buffer c.reorder.new.buffer c.glyphs.result.now
    c.loop-first.start c.in-Some.first c.next_syllable-next.result c.glyphs.ensures (g.met.R.Reorder.permutes order)
    (g.met.R.Reorder.orders order) (g.met.R.Reorder.stays order) c.in-Some.ensures c.loop-first.invariant.1
    c.next_syllable-next.ensures.end c.in_ok-reorder.ensures.related in
    let same = next.same_length in
    let to = next.to in
    search arith

pub returns-clause-linked : goal.returns-clause-linked
returns-clause-linked g c =
    let order = c.args.order.now in
    let old = c.args.buffer.now in
    let now = c.loop-first.buffer in
    let takes = g.R.Reorder.takes order in
    let relation = g.R.Reorder.relation order in
    let changes = g.R.MayChange.changes order in
    let start = c.loop-first.start in
    let passes = linked_passes (g.R.Reorder.meaning order) takes changes relation c.args.from old now
    (g.met.R.Reorder.permutes order) (g.met.R.Reorder.orders order) (g.met.R.Reorder.stays order) in
    let all : ToLink takes relation c.args.from old now (length now.glyphs) =
    to_end changes now.glyphs (ToLink takes relation c.args.from old now) passes start c.loop-first.invariant.1.inside
    (subst (λ gs. list_any changes (drop start gs) ≡ false) c.glyphs.ensures c.in_default.ensures)
    c.loop-first.invariant.1 in
    subst (λ n. ToLink takes relation c.args.from old now n) (sym c.len.ensures.length) all

pub returns-clause-less : goal.returns-clause-less
returns-clause-less g c = search arith
