-- The glyphs from this place on are done.
use Rattle.std.proofs.Common.{◌≡◌, ◌++◌, take, drop}
use Rattle.shapers_indic_initial.specs.InitialMasks.{loses_half, without_half}
use Rattle.shapers_indic_initial.proofs.ot_shaper_indic_initial.masks.clear_half_each.Given as goal

abbrev pub invariant-loop-i : goal.invariant-loop-i
invariant-loop-i l = record {
  glyphs : l.glyphs ≡ take l.i l.initial.glyphs ++ without_half l.bits (drop l.i l.initial.glyphs);
  loses : l.loses ≡ loses_half (drop l.i l.initial.glyphs);
}
