-- One more place.
use Rattle.std.proofs.Common.{◌∙◌, ap, sym, arith}
use Rattle.shapers_normal.specs.Variants.{variant_joined}
use Rattle.shapers_normal.proofs.Folds.{fold_next_place}
use Rattle.shapers_normal.proofs.ot_shape_normalize.variants.join_variants.Goals as goal

pub loop-i-preserved : goal.loop-i-preserved
loop-i-preserved g c =
    let context = g.C.NormalizeContext.context c.args.context.now in
    let level = c.args.level in
    let l = c.loop-i in
    record {
      text =
          c.join_variant.ensures
          ∙ ap (λ gs. variant_joined context level gs l.i) l.invariant.text
          ∙ sym (fold_next_place (λ gs i. variant_joined context level gs i) c.args.glyphs.now 0 l.i (omega arith));
      same_length = omega (arith, l.invariant.same_length, c.join_variant.auto.glyphs);
    }
