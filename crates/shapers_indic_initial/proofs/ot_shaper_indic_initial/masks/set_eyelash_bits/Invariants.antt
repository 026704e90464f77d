-- The glyphs before this place are done.
use Rattle.std.proofs.Common.{◌≡◌, ◌++◌, map, take, drop, if◌then◌else◌}
use Rattle.std.specs.List.{enumerate_from}
use Rattle.shapers_buffer.specs.GlyphFlags.{with_bits}
use Rattle.shapers_indic_initial.specs.InitialMasks.{is_in_eyelash}
use Rattle.shapers_indic_initial.proofs.ot_shaper_indic_initial.masks.set_eyelash_bits.Given as goal

abbrev pub invariant-loop-i : goal.invariant-loop-i
invariant-loop-i l =
    l.glyphs ≡ map (λ t. if is_in_eyelash l.base l.initial.glyphs t.0 then with_bits l.bits t.1 else t.1)
    (enumerate_from 0 (take l.i l.initial.glyphs)) ++ drop l.i l.initial.glyphs
