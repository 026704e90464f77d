-- One place more: it stays, or goes to the front.
use Rattle.std.proofs.Common.{◌≡◌, ◌+◌, ◌-◌, filter, not, true, ap, arith, sym, ◌∙◌}
use Rattle.std.specs.List.{range_with_len}
use Rattle.shapers_universal.specs.Universal.{goes_front}
use Rattle.shapers_universal.specs.UniversalWalk.{stays_at}
use Rattle.shapers_universal.proofs.UniversalListing.{rest_next, same_when_placed}
use Rattle.shapers_universal.specs.Proved.UniversalPlaces.{at, goes_front_is}
use Rattle.shapers_universal.proofs.ot_shaper_use.ordering.list_rest.Goals as goal

pub set_place-requires : goal.set_place-requires
set_place-requires c =
    let l = c.loop-i in
    let gs = c.args.buffer.now.glyphs in
    let t = stays_at gs in
    let stays : t l.i ≡ true = ap not (goes_front_is gs l.i ∙ sym
    (ap (λ xs. goes_front (at xs l.i)) (c.glyphs.ensures ∙ same_when_placed c.args.buffer.now l.buffer
    l.invariant.others)) ∙ sym c.goes_front.ensures ∙ c.if-not-goes_front.true) in
    let rest = filter t (range_with_len (l.i + 1) (c.args.end - (l.i + 1))) in
    search arith

pub loop-i-preserved : goal.loop-i-preserved
loop-i-preserved = search (arith, rest_next, goes_front_is)
