-- Flags are only added.
use Rattle.std.proofs.Common.{rules, ◌≡◌, sym, subst}
use Rattle.shapers_base.specs.declared.plan.breaks.BreakFlags.TheVariants.{AsCode, Sound}
use Rattle.shapers_clusters.specs.FlagLaw.{OnlyFlagsAdded}
use Rattle.shapers_prepare.specs.JoinerFlags.{zwnj_flagged}
use Rattle.shapers_prepare.proofs.JoinerFlagProofs.{zwnj_flags_added}
use Rattle.shapers_prepare.proofs.ot_shape_prepare.joiners.flag_zwnj_graphemes.Goals as goal

pub returns-in-AsCode-clause-flags : goal.returns-in-AsCode-clause-flags
returns-in-AsCode-clause-flags c = zwnj_flags_added AsCode c.args.buffer.now.glyphs

pub returns-in-Sound-clause-flags : goal.returns-in-Sound-clause-flags
returns-in-Sound-clause-flags c =
    let old = c.args.buffer.now.glyphs in
    let flagged : c.with_glyphs_mut.new.self.glyphs ≡ zwnj_flagged Sound old =
    search (rules, c.with_glyphs_mut.ensures.changed) in
    subst (OnlyFlagsAdded old) (sym flagged) (zwnj_flags_added Sound old)
