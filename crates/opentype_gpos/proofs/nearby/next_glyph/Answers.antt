use Rattle.std.proofs.Common.{refl, sym}
use Rattle.opentype_layout.proofs.Sights.{sought_hit, sought_out}
use Rattle.opentype_gpos.proofs.nearby.next_glyph.Goals as goal

pub returns-then-from-glyphs-clause-value : goal.returns-then-from-glyphs-clause-value
returns-then-from-glyphs-clause-value c = sym (sought_out _ _ _ _ (record { rest = refl }) c.if-from-glyphs.true)

pub returns-then-sees_plainly-clause-value : goal.returns-then-sees_plainly-clause-value
returns-then-sees_plainly-clause-value c = sym (sought_hit _ _ _ _ (record { rest = refl }) c.if-from-glyphs.false
    (c.sees_plainly.ensures c.args.gdef.now c.if-sees_plainly.true))
