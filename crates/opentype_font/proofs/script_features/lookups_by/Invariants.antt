use Rattle.std.proofs.Common.{map, length}
use Rattle.opentype_face.proofs.Foremost.{IsFirst}
use Rattle.opentype_font.specs.ScriptFeatures.{feature_view, nth_lookups}
use Rattle.opentype_font.proofs.script_features.lookups_by.Given as goal

abbrev pub invariant-loop-i : goal.invariant-loop-i
invariant-loop-i l = let views = map feature_view l.features in
    IsFirst (nth_lookups l.tag views) (length views) l.i
