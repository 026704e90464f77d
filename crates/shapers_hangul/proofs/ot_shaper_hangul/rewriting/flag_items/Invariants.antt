-- What is left of the items flags the whole of what is flagged so far.
use Rattle.std.proofs.Common.{◌≡◌, drop, length}
use Rattle.shapers_buffer.specs.GlyphFlags.{unsafe_all}
use Rattle.shapers_hangul.specs.Hangul.{whole_items}
use Rattle.shapers_hangul.proofs.ot_shaper_hangul.rewriting.flag_items.Given as goal

abbrev pub invariant-loop-entry : goal.invariant-loop-entry
invariant-loop-entry l = record {
  same_length : length l.glyphs ≡ length l.initial.glyphs;
  walk : unsafe_all (whole_items (drop l.entry-index l.cut)) l.glyphs ≡ unsafe_all (whole_items l.cut) l.initial.glyphs;
}
