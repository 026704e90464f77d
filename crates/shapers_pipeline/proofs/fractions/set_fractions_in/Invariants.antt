-- The fractions of the places so far are marked.
use Rattle.std.proofs.Common.{◌≡◌}
use Rattle.shapers_buffer.specs.Buffer.{flags_concat, has_flag}
use Rattle.shapers_pipeline.specs.Fractions.{fractions_around}
use Rattle.shapers_pipeline.proofs.fractions.set_fractions_in.Given as goal

abbrev pub invariant-loop-i : goal.invariant-loop-i
invariant-loop-i l = l.glyphs ≡ fractions_around l.masks (has_flag flags_concat l.flags) l.i l.initial.glyphs
