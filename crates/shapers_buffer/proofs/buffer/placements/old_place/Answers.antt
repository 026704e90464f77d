-- A placement that says each place once brings its stretch from within the syllable.
use Rattle.std.proofs.Common.{subst, arith}
use Rattle.shapers_buffer.specs.Places.{PlacesEachOnce}
use Rattle.shapers_buffer.proofs.Placements.{forward_inside}
use Rattle.shapers_buffer.proofs.buffer.placements.old_place.Goals as goal

pub forward_place-requires-clause-in_order : goal.forward_place-requires-clause-in_order
forward_place-requires-clause-in_order c =
    let w = c.in-Forward in
    let a = c.args in
    (forward_inside w.to w.from w.count a.start a.end a.places.now c.requires.in_order
    (subst (λ p. PlacesEachOnce p a.start a.end a.places.now) w.is c.requires.each)).1

pub forward_place-requires-clause-fits : goal.forward_place-requires-clause-fits
forward_place-requires-clause-fits c =
    let w = c.in-Forward in
    let a = c.args in
    let inside = (forward_inside w.to w.from w.count a.start a.end a.places.now c.requires.in_order
    (subst (λ p. PlacesEachOnce p a.start a.end a.places.now) w.is c.requires.each)).2 in
    omega arith
