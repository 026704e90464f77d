-- The features so far are set.
use Rattle.std.proofs.Common.{◌≡◌, drop, fold}
use Rattle.shapers_pipeline.specs.Masks.{with_feature}
use Rattle.shapers_pipeline.proofs.masks.set_features_of.Given as goal

abbrev pub invariant-loop-feature : goal.invariant-loop-feature
invariant-loop-feature l =
    fold with_feature l.glyph (drop l.feature-index l.features) ≡ fold with_feature l.initial.glyph l.features
