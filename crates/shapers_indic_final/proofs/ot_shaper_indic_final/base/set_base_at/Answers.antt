-- One glyph is a stretch of one.
use Rattle.std.proofs.Common.{ℕ, ◌≡◌, ◌+◌, ◌<◌, ◌∷◌, [], arith, get_or, length, map, zero, suc}
use Rattle.std.proofs.Math.ListN.{set}
use Rattle.std.proofs.lemmas.Grind.{common_steps}
use Rattle.shapers_buffer.specs.Clusters.{with_stretch}
use Rattle.shapers_buffer.specs.Glyph.{at_position, default_glyph}
use Rattle.shapers_buffer.specs.Glyphs.{Glyph, Glyphs}
use Rattle.shapers_indic_final.proofs.ot_shaper_indic_final.base.set_base_at.Goals as goal

one_changed : (f : Glyph → Glyph) (gs : Glyphs) (i : ℕ) (d : Glyph) → i < length gs
    → set gs i (f (get_or gs i d)) ≡ with_stretch i (i + 1) (map f) gs
one_changed f [] i d h = absurd (omega arith)
one_changed f (g ∷ gs) zero d h = grind (arith, common_steps)
one_changed f (g ∷ gs) (suc i) d h = grind (arith, common_steps, one_changed f gs i d (omega arith))

pub returns-then-index-glyphs-clause-glyphs : goal.returns-then-index-glyphs-clause-glyphs
returns-then-index-glyphs-clause-glyphs c = search (arith, one_changed (at_position 4) c.args.glyphs.now c.args.index default_glyph)
