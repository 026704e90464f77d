-- All masks.
use Rattle.std.proofs.Common.{arith}
use Rattle.shapers_indic_initial.specs.InitialRules.{initial_rules}
use Rattle.shapers_indic_initial.proofs.MaskWalks.{all_masks}
use Rattle.shapers_indic_initial.proofs.ot_shaper_indic_initial.masks.set_masks.Goals as goal

pub returns-clause-masks : goal.returns-clause-masks
returns-clause-masks g c =
    let font = g.F.hb_font_t.font c.args.rules.now.font.now in
    let m = c.args.rules.now.map.now in
    all_masks (initial_rules font m c.args.rules.now.plan.now) c.args.script c.args.base c.args.glyphs.now _ _ _ _ _ _ _
    _ _ c.bits_of.ensures c.set_reph_bits.ensures (c.bits_before_base.ensures font m)
    (c.bits_after_base.ensures font m) c.set_bits_around.ensures (c.set_eyelash_mask.ensures font m)
    c.set_pref_mask.ensures c.bits_of-2.ensures c.clear_half.ensures

pub returns-clause-fits : goal.returns-clause-fits
returns-clause-fits = search arith
