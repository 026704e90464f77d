-- A text without a fraction's slash.
use Rattle.std.proofs.Common.{◌≡◌, ◌∙◌, false, ap, sym}
use Rattle.std.specs.List.{list_any}
use Rattle.shapers_buffer.specs.Buffer.{Buffer}
use Rattle.shapers_pipeline.specs.Fractions.{is_fraction_slash}
use Rattle.shapers_pipeline.proofs.Untouched.{no_fractions_set}
use Rattle.shapers_pipeline.proofs.fractions.set_fractions.Goals as goal

pub returns-then-not-has_slash : goal.returns-then-not-has_slash
returns-then-not-has_slash c =
    let b = c.args.buffer.now in
    let none : list_any is_fraction_slash b.glyphs ≡ false =
    ap (list_any is_fraction_slash) (sym c.glyphs.ensures) ∙ sym c.has_slash.ensures ∙ c.if-not-has_slash.true in
    ap (λ gs. let r : Buffer = record b { glyphs = gs } in r) (sym (no_fractions_set c.args.masks.now b none))
