-- One place more of those that the reph passes, and the reph.
use Rattle.std.proofs.Common.{◌+◌, ◌∷◌, [], arith, refl}
use Rattle.shapers_buffer.proofs.Listing.{left_as, left_one}
use Rattle.shapers_universal.proofs.UniversalListing.{left_ends, reph_counted, reph_next, reph_split}
use Rattle.shapers_universal.proofs.ot_shaper_use.ordering.list_reph.Goals as goal

pub loop-i-init : goal.loop-i-init
loop-i-init = search (arith, reph_split)

pub set_place-requires : goal.set_place-requires
set_place-requires = search (arith, reph_counted)

pub overflow_add-at : goal.overflow_add-at
overflow_add-at = search (arith, reph_counted)

pub loop-i-preserved : goal.loop-i-preserved
loop-i-preserved = search (arith, reph_next)

pub set_place-requires-2 : goal.set_place-requires-2
set_place-requires-2 = search (arith, reph_counted)

pub overflow_add-result : goal.overflow_add-result
overflow_add-result = search (arith, reph_counted)

pub returns-clause-listed : goal.returns-clause-listed
returns-clause-listed c =
    let l = c.loop-i in
    let left = left_as _ (c.args.start ∷ []) l.at _ _ c.args.buffer.now l.buffer (search arith) l.invariant.left in
    (left_ends [] (l.at + 1) _ _ c.args.buffer.now c.set_place-2.new.self refl (left_one c.args.start
    [] l.at _ _ c.args.buffer.now l.buffer c.set_place-2.new.self left c.set_place-2.ensures)).0

pub returns-clause-behind : goal.returns-clause-behind
returns-clause-behind = search (arith, reph_counted)
