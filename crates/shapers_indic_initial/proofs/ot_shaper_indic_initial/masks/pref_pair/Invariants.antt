-- No pair before this place would be substituted.
use Rattle.std.proofs.Common.{◌≡◌, ◌≤◌, ◌+◌, ◌-◌, length}
use Rattle.std.specs.Prelude.{find}
use Rattle.shapers_base.specs.Questions.{would_by}
use Rattle.shapers_buffer.specs.Clusters.{stretch_of}
use Rattle.shapers_indic.specs.Glyphs.{numbers, places}
use Rattle.shapers_indic_initial.proofs.ot_shaper_indic_initial.masks.pref_pair.Given as goal

abbrev pub invariant-loop-i : goal.invariant-loop-i
invariant-loop-i g l = record {
  behind : l.base + 1 ≤ l.i;
  rest : find (λ i. would_by (g.F.hb_font_t.font l.rules.font.now).applies l.rules.map.now l.rules.plan.now.pref
      (numbers (stretch_of i (i + 2) l.glyphs))) (places l.i (length l.glyphs - 1))
      ≡ find (λ i. would_by (g.F.hb_font_t.font l.rules.font.now).applies l.rules.map.now l.rules.plan.now.pref
      (numbers (stretch_of i (i + 2) l.glyphs))) (places (l.base + 1) (length l.glyphs - 1));
}
