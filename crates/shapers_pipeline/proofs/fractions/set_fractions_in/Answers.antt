-- One more place.
use Rattle.std.proofs.Common.{◌∙◌, ap, sym}
use Rattle.std.proofs.Math.Numerals.{add-one}
use Rattle.shapers_buffer.specs.Buffer.{flags_concat, has_flag}
use Rattle.shapers_pipeline.specs.Fractions.{fraction_around, fractions_around}
use Rattle.shapers_pipeline.proofs.fractions.set_fractions_in.Goals as goal

pub loop-i-preserved : goal.loop-i-preserved
loop-i-preserved c =
    let concat = has_flag flags_concat c.args.flags in
    c.set_fraction.ensures ∙ ap (fraction_around c.args.masks concat c.loop-i.i) c.loop-i.invariant
    ∙ ap (λ n. fractions_around c.args.masks concat n c.args.glyphs.now) (sym (add-one c.loop-i.i))
