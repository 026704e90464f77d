-- The bounds of the steps, each up to the greatest number.
use Rattle.std.proofs.Common.{ℕ, ◌≡◌, ◌+◌, ◌*◌, ◌∙◌, ap, arith, min}
use Rattle.std.specs.Option.{option_map_or}
use Rattle.shapers_pipeline.specs.Lengths.{preprocess_growth, stages_bound}
use Rattle.shapers_pipeline.proofs.LengthBounds.{all_bounded}
use Rattle.shapers_pipeline.proofs.lengths.length_bound.Goals as goal

pub returns : goal.returns
returns g c =
    let growth = g.L.Lookups.growth_of c.args.lookups.now in
    let plan = c.args.plan.now in
    let m : ℕ = 18446744073709551615 in
    let opened = c.saturating_add.result in
    let preprocessed = c.saturating_mul-preprocessed.result in
    let prepared = c.length_bound-prepared.result in
    let one : opened ≡ min (c.args.len + 1) 18446744073709551615 = omega (arith, c.saturating_add.ensures) in
    let times = c.preprocess_growth.ensures ∙ ap (λ s. option_map_or preprocess_growth s 1) c.shaper.ensures in
    let two : preprocessed ≡ min (opened * option_map_or preprocess_growth plan.shaper 1) 18446744073709551615 =
    c.saturating_mul-preprocessed.ensures ∙ ap (λ t. min (opened * t) m) times in
    c.stages_bound.ensures
    ∙ ap (λ list. min (stages_bound growth list c.stages.result.now prepared) m) c.lookups.ensures
    ∙ ap (λ ss. min (stages_bound growth plan.lookups ss prepared) m) c.stages.ensures
    ∙ all_bounded plan.shaper growth plan.lookups plan.stages c.args.len opened preprocessed prepared one two
    c.length_bound-prepared.ensures.bound
