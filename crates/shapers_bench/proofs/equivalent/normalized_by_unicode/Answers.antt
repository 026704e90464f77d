use Rattle.std.proofs.Common.{◌≡◌, true, rules}
use Rattle.shapers_bench.specs.EquivalentWords.{are_low}
use Rattle.shapers_bench.proofs.EquivalentWords.{by-steps}
use Rattle.shapers_bench.proofs.equivalent.normalized_by_unicode.Goals as goal

pub returns : goal.returns
returns g c =
    let low : are_low c.args.word.now ≡ true = search rules in
    by-steps c.args.shaper c.plain_plan-plan.result (g.F.hb_font_t.font c.args.font.now)
    (g.F.NormalizeFont.variants c.args.font.now) _ c.args.word.now c.in_ok-buffer.buffer
    c.set_unicode_properties.new.buffer c.ot_shape_normalize.new.buffer low c.in_ok-buffer.ensures.word
    c.set_unicode_properties.ensures c.in_ok-ot_shape_normalize.ensures.ok
