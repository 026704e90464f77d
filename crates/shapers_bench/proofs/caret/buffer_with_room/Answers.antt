-- One glyph more, whose cluster is its place.
use Rattle.std.proofs.Common.{◌∙◌, ◌+◌, ◌<◌, All, length, ap, subst, sym, arith, rules}
use Rattle.std.proofs.lemmas.List.{length-append}
use Rattle.shapers_buffer.specs.Buffer.{Buffer}
use Rattle.shapers_buffer.specs.Glyphs.{Glyphs}
use Rattle.rustybuzz_shapers.specs.Glyph.{clusters}
use Rattle.shapers_bench.proofs.Filled.{one_more}
use Rattle.shapers_bench.proofs.Letters.{one-further}
use Rattle.shapers_bench.proofs.caret.buffer_with_room.Goals as goal

pub loop-place-preserved : goal.loop-place-preserved
loop-place-preserved c =
    let is = c.in_ok-push.ensures.ok in
    let before = c.loop-place.invariant.1 in (
      one-further c.args.room c.args.text.now c.loop-place.place c.index-text-place.result c.from.result c.loop-place.buffer
          c.push.new.self (search (arith, rules)) c.index-text-place.is c.from.ensures c.loop-place.invariant.0 is,
      (
        ap (λ (b : Buffer). b.positions) is,
        (
          ap (λ (b : Buffer). b.max_len) is ∙ before.1.0,
          (
            ap (λ (b : Buffer). length b.glyphs) is ∙ length-append c.loop-place.buffer.glyphs _ ∙ ap (λ n. n + 1) before.1.1.0,
            subst (λ (gs : Glyphs). All (λ cluster. cluster < length c.args.text.now) (clusters gs))
                (sym (ap (λ (b : Buffer). b.glyphs) is))
                (one_more (length c.args.text.now) c.loop-place.buffer.glyphs _ before.1.1.1 (search arith)),
          ),
        ),
      ),
    )
