-- A place from the start on; those from it on are in one syllable.
use Rattle.std.proofs.Common.{ℕ, ◌≡◌, ◌<◌, ◌≤◌, get_or}
use Rattle.shapers_buffer.specs.Glyph.{default_glyph}
use Rattle.shapers_syllabic.proofs.ot_shaper_syllabic.reordering.syllable_start.Given as goal

abbrev pub invariant-loop-i : goal.invariant-loop-i
invariant-loop-i l = record {
  from : l.start ≤ l.i;
  within : l.i ≤ l.place;
  together : (k : ℕ) → l.i ≤ k → k < l.place → (get_or l.glyphs k default_glyph).syllable ≡
      (get_or l.glyphs l.place default_glyph).syllable;
}
