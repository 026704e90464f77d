use Rattle.std.proofs.Common.{rules, arith, ap, length, lit<}
use Rattle.std.proofs.lemmas.List.FromFn.{length-map-range_with_len, map-range_with_len_more}
use Rattle.opentype_layout.specs.Features.{nth_lookup_in}
use Rattle.opentype_font.proofs.script_features.few_lookups.Goals as goal

pub push-requires : goal.push-requires
push-requires c =
    let len = length-map-range_with_len (nth_lookup_in c.args.feature.now) 0 c.loop-i.i in
    (lit< tt, omega (arith, ap length c.loop-i.invariant, len))

pub loop-i-preserved : goal.loop-i-preserved
loop-i-preserved c =
    let more = map-range_with_len_more (nth_lookup_in c.args.feature.now) 0 c.loop-i.i c.loop-i.i (omega arith) in
    search (rules, more, c.loop-i.invariant, c.push.ensures.items, c.nth_lookup.ensures)
