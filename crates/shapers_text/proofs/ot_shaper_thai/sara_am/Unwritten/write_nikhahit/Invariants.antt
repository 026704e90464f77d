-- The marks that are left; what is unwritten, and what is written behind it, is the whole.
use Rattle.std.proofs.Common.{◌≤◌, ◌-◌, Some}
use Rattle.shapers_text.specs.ThaiWalk.{rewritten_whole}
use Rattle.shapers_text.proofs.ThaiSaraAm.{MarksLeft, SaraAmMarksFit}
use Rattle.shapers_text.proofs.ot_shaper_thai.sara_am.Unwritten.write_nikhahit.Given as goal

abbrev pub invariant-loop : goal.invariant-loop
invariant-loop l = record {
  walk : MarksLeft (rewritten_whole l.initial.glyphs l.initial.self.end (Some l.nikhahit) l.initial.self.place) l.glyphs
      l.self.end l.self.place (l.above - l.counter) l.nikhahit;
  fit : SaraAmMarksFit l.glyphs l.self.end l.self.place (l.above - l.counter);
  shorter : l.self.end ≤ l.initial.self.end;
}
