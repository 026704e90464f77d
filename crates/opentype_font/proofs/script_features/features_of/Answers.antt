use Rattle.std.proofs.Common.{◌+◌, ◌*◌, rules, arith}
use Rattle.std.proofs.lemmas.List.{map-append}
use Rattle.std.proofs.lemmas.List.FromFn.{map-range_with_len_more}
use Rattle.opentype_face.specs.Bytes.{u16_in}
use Rattle.opentype_font.specs.ScriptFeatures.{feature_in_list}
use Rattle.opentype_font.proofs.script_features.features_of.Goals as goal

pub loop-i-preserved : goal.loop-i-preserved
loop-i-preserved c =
    let more = map-range_with_len_more
    (λ i. feature_in_list c.args.table.now (u16_in c.args.system.now (6 + i * 2))) 0 c.loop-i.i c.loop-i.i (omega arith) in
    search (rules, more, map-append, c.loop-i.invariant, c.push.ensures.items, c.feature_at.ensures.feature)
