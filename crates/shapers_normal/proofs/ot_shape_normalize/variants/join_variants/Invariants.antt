-- The places before i are done.
use Rattle.std.proofs.Common.{◌≡◌, ◌-◌, length}
use Rattle.std.specs.List.{fold, range_with_len}
use Rattle.shapers_normal.specs.Variants.{variant_joined}
use Rattle.shapers_normal.proofs.ot_shape_normalize.variants.join_variants.Given as goal

abbrev pub invariant-loop-i : goal.invariant-loop-i
invariant-loop-i g l = record {
  text : l.glyphs ≡ fold (λ gs i. variant_joined (g.C.NormalizeContext.context l.context) l.level gs i) l.initial.glyphs
      (range_with_len 0 (l.i - 0));
  same_length : length l.glyphs ≡ length l.initial.glyphs;
}
