-- Flags are only added, by what each shaper does.
use Rattle.std.proofs.Common.{arith}
use Rattle.rustybuzz_shapers.specs.declared.shaper.hb_ot_shaper_t.TheVariants.{Indic, Khmer, Myanmar, Universal}
use Rattle.rustybuzz_shapers.proofs.FlagLaws.{masks_added, unchanged_added}
use Rattle.rustybuzz_shapers.proofs.shaper.hb_ot_shaper_t.setup_masks.Goals as goal

pub returns-in-Indic-clause-flags : goal.returns-in-Indic-clause-flags
returns-in-Indic-clause-flags g c =
    masks_added Indic c.args.plan.now (g.T.Tables.tables c.args.tables.now) c.args.buffer.now
    c.setup_masks-in-Indic.new.buffer c.setup_masks-in-Indic.ensures

pub returns-in-Khmer-clause-flags : goal.returns-in-Khmer-clause-flags
returns-in-Khmer-clause-flags g c =
    masks_added Khmer c.args.plan.now (g.T.Tables.tables c.args.tables.now) c.args.buffer.now
    c.setup_masks-in-Khmer.new.buffer c.setup_masks-in-Khmer.ensures

pub returns-in-Myanmar-clause-flags : goal.returns-in-Myanmar-clause-flags
returns-in-Myanmar-clause-flags g c =
    masks_added Myanmar c.args.plan.now (g.T.Tables.tables c.args.tables.now) c.args.buffer.now
    c.setup_masks-in-Myanmar.new.buffer c.setup_masks-in-Myanmar.ensures

pub returns-in-Universal-clause-flags : goal.returns-in-Universal-clause-flags
returns-in-Universal-clause-flags g c =
    masks_added Universal c.args.plan.now (g.T.Tables.tables c.args.tables.now) c.args.buffer.now
    c.setup_masks-in-Universal.new.buffer c.setup_masks-in-Universal.ensures.masks

pub returns-in-Hebrew-clause-flags : goal.returns-in-Hebrew-clause-flags
returns-in-Hebrew-clause-flags = search (arith, unchanged_added)
