use Rattle.std.proofs.Common.{arith}
use Rattle.std.specs.Prelude.{None}
use Rattle.shapers_clusters.proofs.FlagLaw.{all_added_on}
use Rattle.shapers_universal.specs.UniversalSyllables.{forms_flagged}
use Rattle.shapers_universal.proofs.TornPairs.{forms_flagged_added}
use Rattle.shapers_universal.proofs.ot_shaper_use.setup.set_masks.Goals as goal

pub returns-then-is_none-clause-flags : goal.returns-then-is_none-clause-flags
returns-then-is_none-clause-flags c =
    let mid = c.set_rphf.new.buffer in
    let formed = c.set_forms.new.buffer in
    let breaks = c.args.plan.now.break_flags in
    let m = c.args.plan.now.ot_map in
    let flagged = forms_flagged None breaks m formed.glyphs in
    search (
      arith,
      all_added_on c.args.buffer.now.glyphs mid.glyphs flagged c.set_rphf.ensures.flags
          (all_added_on mid.glyphs formed.glyphs flagged c.set_forms.ensures.flags (forms_flagged_added None breaks m
          formed.glyphs)),
    )
