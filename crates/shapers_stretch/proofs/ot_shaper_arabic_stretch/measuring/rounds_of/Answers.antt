use Rattle.std.proofs.lemmas.Bool.{and_right}
use Rattle.std.proofs.Common.{◌≡◌, ◌+◌, ◌-ℤ◌, ◌<ℤ◌, ◌≤ℤ◌, pos, arith}
use Rattle.std.proofs.lemmas.Int.{ints, to_z-of_z}
use Rattle.shapers_stretch.specs.Measure.{times_added, fitting, left, tiles_reach}
use Rattle.shapers_stretch.proofs.Numbers.{added_yes, added_full, added_none, rest_at, squeezes_full}
use Rattle.shapers_stretch.proofs.ot_shaper_arabic_stretch.measuring.rounds_of.Goals as goal
use Rattle.shapers_stretch.proofs.ot_shaper_arabic_stretch.measuring.rounds_of.Goals.{then-left-tiles_reach-via-then-left-tiles_reach, then-left-tiles_reach-via-else-left-tiles_reach+then-sequence-eq0}

pub returns-then-left-tiles_reach-clause-added : goal.returns-then-left-tiles_reach-clause-added
returns-then-left-tiles_reach-clause-added c = elim c.then-left-tiles_reach.branch [
  | then-left-tiles_reach-via-then-left-tiles_reach w ↦
      let full : (left c.args.sequence -ℤ tiles_reach c.args.sequence (fitting c.args.sequence)) ≤ℤ pos 0 =
      omega (arith, ints, rest_at c.args.sequence c.fitting-fitting.result c.fitting-fitting.ensures.value) in
      cc (added_full c.args.sequence full)
  | then-left-tiles_reach-via-else-left-tiles_reach+then-sequence-eq0 w ↦ search added_none
]

pub returns-then-left-tiles_reach-clause-squeezes : goal.returns-then-left-tiles_reach-clause-squeezes
returns-then-left-tiles_reach-clause-squeezes c = elim c.then-left-tiles_reach.branch [
  | then-left-tiles_reach-via-then-left-tiles_reach w ↦
      let full : (left c.args.sequence -ℤ tiles_reach c.args.sequence (fitting c.args.sequence)) ≤ℤ pos 0 =
      omega (arith, ints, rest_at c.args.sequence c.fitting-fitting.result c.fitting-fitting.ensures.value) in
      search squeezes_full
  | then-left-tiles_reach-via-else-left-tiles_reach+then-sequence-eq0 w ↦
      search (arith, and_right)
]

pub returns-clause-added : goal.returns-clause-added
returns-clause-added c =
    let above : pos 0 <ℤ (left c.args.sequence -ℤ tiles_reach c.args.sequence (fitting c.args.sequence)) =
    omega (arith, ints, rest_at c.args.sequence c.fitting-fitting.result c.fitting-fitting.ensures.value) in
    omega (arith, added_yes c.args.sequence above (omega arith))

pub returns-clause-squeezes : goal.returns-clause-squeezes
returns-clause-squeezes c =
    let above : pos 0 <ℤ (left c.args.sequence -ℤ tiles_reach c.args.sequence (fitting c.args.sequence)) =
    omega (arith, ints, rest_at c.args.sequence c.fitting-fitting.result c.fitting-fitting.ensures.value) in
    let at : c.fitting-fitting.result + 1 ≡ times_added c.args.sequence =
    omega (arith, added_yes c.args.sequence above (omega arith)) in
    search (arith, to_z-of_z)
