-- One glyph more, whose cluster is its place.
use Rattle.std.proofs.Common.{◌<◌, All, ap, arith, length, rules, subst, sym}
use Rattle.shapers_buffer.specs.Buffer.{Buffer}
use Rattle.shapers_buffer.specs.Glyphs.{Glyphs}
use Rattle.rustybuzz_shapers.specs.Glyph.{clusters}
use Rattle.shapers_bench.proofs.Filled.{one_more}
use Rattle.shapers_bench.proofs.calling.buffer_of.Goals as goal

pub loop-place-preserved : goal.loop-place-preserved
loop-place-preserved c =
    let is = c.in_ok-push.ensures.ok in
    let n = length c.args.text.now in (
      ap (λ (b : Buffer). b.positions) is,
      subst (λ (gs : Glyphs). All (λ cluster. cluster < n) (clusters gs)) (sym (ap (λ (b : Buffer). b.glyphs) is))
          (one_more n c.loop-place.buffer.glyphs _ c.loop-place.invariant.1 (search (arith, rules))),
    )
