-- A text whose caller wants no features in ranges.
use Rattle.std.proofs.Common.{◌≡◌, length, ap, sym, arith}
use Rattle.std.proofs.lemmas.Bool.Decides.{nat_tests}
use Rattle.shapers_buffer.specs.Buffer.{Buffer}
use Rattle.shapers_pipeline.proofs.Untouched.{no_features}
use Rattle.shapers_pipeline.proofs.masks.set_features.Goals as goal

pub returns-then-is_empty : goal.returns-then-is_empty
returns-then-is_empty c =
    let b = c.args.buffer.now in
    let none : length c.args.features.now ≡ 0 = grind (arith, nat_tests, c.is_empty.ensures, c.if-is_empty.true) in
    ap (λ gs. let r : Buffer = record b { glyphs = gs } in r) (sym (no_features c.args.features.now b.glyphs none))
