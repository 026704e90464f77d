use Rattle.std.proofs.Common.{◌≡◌, ◌*◌, arith}
use Rattle.std.proofs.lemmas.Int.{ints, to_z-of_z}
use Rattle.shapers_stretch.specs.Measure.{copies_added, excess}
use Rattle.shapers_stretch.proofs.Numbers.{overlap_bounds, squeezed_some}
use Rattle.shapers_stretch.proofs.ot_shaper_arabic_stretch.measuring.overlap.Goals as goal

pub quotient-requires : goal.quotient-requires
quotient-requires c =
    let some = squeezed_some c.args.sequence (grind arith) in
    let many : c.args.rounds.added * c.args.sequence.repeaters ≡ copies_added c.args.sequence =
    search arith in
    omega (arith, ints)

pub returns-clause-value : goal.returns-clause-value
returns-clause-value = search (arith, to_z-of_z)

pub returns-clause-low : goal.returns-clause-low
returns-clause-low c =
    let bounds = overlap_bounds c.args.sequence (grind arith) in omega (arith, ints, returns-clause-value c)

pub returns-clause-high : goal.returns-clause-high
returns-clause-high c =
    let bounds = overlap_bounds c.args.sequence (grind arith) in
    let over : c.excess.result ≡ excess c.args.sequence = search arith in
    omega (arith, ints, returns-clause-value c)
