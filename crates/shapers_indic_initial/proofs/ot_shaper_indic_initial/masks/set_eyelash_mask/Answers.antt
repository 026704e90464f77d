-- With an eyelash, and without.
use Rattle.std.proofs.Common.{arith}
use Rattle.std.proofs.Common.{sym, ◌∙◌, true, false}
use Rattle.shapers_indic.specs.declared.ot_shaper_indic.indic_feature.TheConstants.{BLWF}
use Rattle.shapers_indic_initial.specs.InitialMasks.{bits_of, is_in_eyelash}
use Rattle.shapers_indic_initial.specs.InitialRules.{initial_rules}
use Rattle.shapers_indic_initial.proofs.MaskWalks.{eyelash_is, no_eyelash}
use Rattle.shapers_indic_initial.proofs.ot_shaper_indic_initial.masks.set_eyelash_mask.Goals as goal

pub returns-then-has_eyelash : goal.returns-then-has_eyelash
returns-then-has_eyelash c = λ font m.
    search (
      arith,
      eyelash_is (initial_rules font m c.args.plan.now) c.args.script c.args.base c.args.glyphs.now true
          (sym c.if-has_eyelash.true ∙ c.has_eyelash.ensures font m),
    )

pub returns-else-has_eyelash : goal.returns-else-has_eyelash
returns-else-has_eyelash c = λ font m.
    let r = initial_rules font m c.args.plan.now in
    let gs = c.args.glyphs.now in
    sym (no_eyelash (bits_of r BLWF) (is_in_eyelash c.args.base gs) gs)
    ∙ eyelash_is r c.args.script c.args.base gs false (sym c.if-has_eyelash.false ∙ c.has_eyelash.ensures font m)
