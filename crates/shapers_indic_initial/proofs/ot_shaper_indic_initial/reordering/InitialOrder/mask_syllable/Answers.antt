-- The masks of a syllable.
use Rattle.std.proofs.Common.{arith}
use Rattle.shapers_indic_initial.specs.InitialRules.{initial_rules}
use Rattle.shapers_indic_initial.proofs.MaskViews.{syllable_masked}
use Rattle.shapers_indic_initial.proofs.ot_shaper_indic_initial.reordering.InitialOrder.mask_syllable.Goals as goal

pub returns : goal.returns
returns g c =
    let b = c.args.buffer.now in
    syllable_masked
    (initial_rules (g.F.hb_font_t.font c.args.self.now.rules.now.font.now) c.args.self.now.rules.now.map.now
    c.args.self.now.rules.now.plan.now) b.script c.args.start c.args.end b c.walk.new.self c.requires.in_order
    (omega arith) (search arith) (search arith)
