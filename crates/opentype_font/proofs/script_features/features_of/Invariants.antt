use Rattle.std.proofs.Common.{◌≡◌, ◌+◌, ◌*◌, map}
use Rattle.std.specs.List.{range_with_len}
use Rattle.opentype_face.specs.Bytes.{u16_in}
use Rattle.opentype_font.specs.ScriptFeatures.{feature_in_list, feature_view}
use Rattle.opentype_font.proofs.script_features.features_of.Given as goal

abbrev pub invariant-loop-i : goal.invariant-loop-i
invariant-loop-i l = map feature_view l.features.items
    ≡ map (λ i. feature_in_list l.table (u16_in l.system (6 + i * 2))) (range_with_len 0 l.i)
