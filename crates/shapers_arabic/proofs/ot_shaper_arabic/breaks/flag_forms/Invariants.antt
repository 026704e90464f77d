-- The forms stay, and the calls that are left do to the glyphs what all do to the first ones.
use Rattle.std.proofs.Common.{◌≡◌, Bool, None, drop}
use Rattle.shapers_buffer.specs.GlyphFlags.{flags_called}
use Rattle.shapers_arabic.specs.JoiningWalk.{IsWithin, form_calls_along, written}
use Rattle.shapers_arabic.proofs.ot_shaper_arabic.breaks.flag_forms.Given as goal

abbrev pub invariant-loop-i : goal.invariant-loop-i
invariant-loop-i l = record {
  forms : written l.glyphs ≡ written l.initial.glyphs;
  rest : (concat tatweel : Bool)
      → flags_called concat tatweel (form_calls_along l.last l.i (drop l.i (written l.initial.glyphs))) l.glyphs
      ≡ flags_called concat tatweel (form_calls_along None 0 (written l.initial.glyphs)) l.initial.glyphs;
  within : IsWithin l.last l.i;
}
