use Rattle.std.proofs.Common.{rules, arith}
use Rattle.std.proofs.lemmas.List.FromFn.{map-range_with_len_more}
use Rattle.opentype_layout.specs.Features.{nth_lookup_in}
use Rattle.opentype_font.proofs.script_features.many_lookups.Goals as goal

pub loop-i-preserved : goal.loop-i-preserved
loop-i-preserved c =
    let more = map-range_with_len_more (nth_lookup_in c.args.feature.now) 0 c.loop-i.i c.loop-i.i (omega arith) in
    search (rules, more, c.loop-i.invariant, c.push.ensures.items, c.nth_lookup.ensures)
