use Rattle.std.proofs.Common.{arith}
use Rattle.std.proofs.Common.{◌≡◌, ◌<◌, ◌^◌, ◌*◌, pos, true, ℕ, ℤ, [], ◌∷◌, refl, rules, sym, ap, ◌∙◌}
use Rattle.std.specs.List.{list_all}
use Rattle.std.proofs.lemmas.Int.{to_z-of_z}
use mir.Syntax.{w64}
use Rattle.shapers_stretch.specs.Measure.{times_added, copies_added, fits_i32, tiles_reach}
use Rattle.shapers_stretch.proofs.Numbers.{lay_found}
use Rattle.shapers_stretch.proofs.ot_shaper_arabic_stretch.measuring.lay_of.Goals as goal

-- what the tests say of a number that is no less than 0
few : (a : ℤ) (n : ℕ) → list_all fits_i32 (a ∷ pos n ∷ []) ≡ true → n < 2 ^ 31
few = search arith

pub rounds_of-rounds-requires : goal.rounds_of-rounds-requires
rounds_of-rounds-requires c = c.if-not-sequence_fits.ensures.fits refl

pub added_fits-requires-clause-fits : goal.added_fits-requires-clause-fits
added_fits-requires-clause-fits c = c.if-not-sequence_fits.ensures.fits refl

pub added_fits-requires-clause-bound : goal.added_fits-requires-clause-bound
added_fits-requires-clause-bound c = c.rounds_of-rounds.ensures.bound

pub overlap-overlap-requires-clause-fits : goal.overlap-overlap-requires-clause-fits
overlap-overlap-requires-clause-fits c = c.if-not-sequence_fits.ensures.fits refl

pub overlap-overlap-requires-clause-bound : goal.overlap-overlap-requires-clause-bound
overlap-overlap-requires-clause-bound c = c.rounds_of-rounds.ensures.bound

pub overlap-overlap-requires-clause-added : goal.overlap-overlap-requires-clause-added
overlap-overlap-requires-clause-added c = c.rounds_of-rounds.ensures.added

pub overlap-overlap-requires-clause-squeezes : goal.overlap-overlap-requires-clause-squeezes
overlap-overlap-requires-clause-squeezes c = c.rounds_of-rounds.ensures.squeezes

pub overlap-overlap-requires-clause-tiles_reach : goal.overlap-overlap-requires-clause-tiles_reach
overlap-overlap-requires-clause-tiles_reach c = c.if-not-added_fits.ensures.tiles_reach refl

pub overlap-overlap-requires-clause-copies : goal.overlap-overlap-requires-clause-copies
overlap-overlap-requires-clause-copies = search (arith, few)

pub start-requires-clause-fits : goal.start-requires-clause-fits
start-requires-clause-fits c = c.if-not-sequence_fits.ensures.fits refl

pub start-requires-clause-added : goal.start-requires-clause-added
start-requires-clause-added c = c.rounds_of-rounds.ensures.added

pub start-requires-clause-squeezes : goal.start-requires-clause-squeezes
start-requires-clause-squeezes c = c.rounds_of-rounds.ensures.squeezes

pub start-requires-clause-bound : goal.start-requires-clause-bound
start-requires-clause-bound c = c.rounds_of-rounds.ensures.bound

pub start-requires-clause-tiles_reach : goal.start-requires-clause-tiles_reach
start-requires-clause-tiles_reach c = c.if-not-added_fits.ensures.tiles_reach refl

pub start-requires-clause-copies : goal.start-requires-clause-copies
start-requires-clause-copies = search (arith, few)

pub returns : goal.returns
returns c =
    let second : list_all fits_i32 (tiles_reach c.args.sequence (times_added c.args.sequence) ∷ pos (copies_added c.args.sequence) ∷ []) ≡
    true = ap (λ n. list_all fits_i32 (tiles_reach c.args.sequence n ∷ pos (n * c.args.sequence.repeaters) ∷ []))
    (sym c.rounds_of-rounds.ensures.added) ∙ (sym c.if-not-added_fits.ensures.value)
    in
    cc (
      to_z-of_z w64 c.overlap-overlap.result (record { sfits = c.overlap-overlap.type_inv }),
      to_z-of_z w64 c.in_ok-start.start (search rules),
      lay_found c.args.choice c.args.right_to_left c.args.sequence c.in_ok-start.start
          (sym c.if-not-sequence_fits.ensures.value) second (sym c.start.ensures ∙ c.in_ok-start.was),
    )

pub returns-then-not-sequence_fits : goal.returns-then-not-sequence_fits
returns-then-not-sequence_fits = search arith

pub returns-then-not-added_fits : goal.returns-then-not-added_fits
returns-then-not-added_fits = search arith

pub returns-in_err-start : goal.returns-in_err-start
returns-in_err-start = search arith
