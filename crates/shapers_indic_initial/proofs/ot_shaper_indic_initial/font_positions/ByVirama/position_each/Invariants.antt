-- The glyphs that are done, what becomes of the rest, and what is kept is true.
use Rattle.std.proofs.Common.{◌≡◌, ◌++◌, map, take, drop}
use Rattle.shapers_indic_initial.specs.InitialFont.{by_virama}
use Rattle.shapers_indic_initial.specs.KnownWalk.{AllKnown}
use Rattle.shapers_indic_initial.proofs.ot_shaper_indic_initial.font_positions.ByVirama.position_each.Given as goal

abbrev pub invariant-loop-glyph : goal.invariant-loop-glyph
invariant-loop-glyph g l =
    let font = g.F.hb_font_t.font l.self.rules.now.font.now in
    let f = by_virama font l.self.rules.now.map.now l.self.rules.now.plan.now l.self.virama in
    record {
      glyphs : take l.glyph-index l.glyphs ++ map f (drop l.glyph-index l.glyphs) ≡ map f l.initial.glyphs;
      known : AllKnown font l.self.rules.now.map.now l.self.rules.now.plan.now l.self.virama l.known;
    }
