-- Characters and forms stay, and the calls that are left do to the glyphs what all do to the first ones.
use Rattle.std.proofs.Common.{◌≡◌, Bool, None, map, drop}
use Rattle.shapers_buffer.specs.GlyphFlags.{flags_called}
use Rattle.shapers_arabic.specs.JoiningWalk.{copied_calls, place_of}
use Rattle.shapers_arabic.proofs.ot_shaper_arabic.breaks.flag_selectors.Given as goal

abbrev pub invariant-loop-i : goal.invariant-loop-i
invariant-loop-i l = record {
  places : map place_of l.glyphs ≡ map place_of l.initial.glyphs;
  rest : (concat tatweel : Bool)
      → flags_called concat tatweel (copied_calls l.previous l.i (drop l.i (map place_of l.initial.glyphs))) l.glyphs
      ≡ flags_called concat tatweel (copied_calls None 0 (map place_of l.initial.glyphs)) l.initial.glyphs;
  first : l.i ≡ 0 → l.previous ≡ None;
}
