use Rattle.std.proofs.Common.{◌≡◌, map}
use Rattle.std.specs.List.{range_with_len}
use Rattle.opentype_layout.specs.Features.{nth_lookup_in}
use Rattle.opentype_font.proofs.script_features.few_lookups.Given as goal

abbrev pub invariant-loop-i : goal.invariant-loop-i
invariant-loop-i l = l.lookups.items ≡ map (nth_lookup_in l.feature) (range_with_len 0 l.i)
