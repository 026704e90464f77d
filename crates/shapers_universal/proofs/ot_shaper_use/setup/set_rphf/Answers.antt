use Rattle.std.proofs.Common.{arith}
use Rattle.shapers_syllabic.proofs.SetupFlags.{same_added}
use Rattle.shapers_universal.proofs.NoMask.{no_mask}
use Rattle.shapers_universal.proofs.UniversalFlags.{rphf_mask_added}
use Rattle.shapers_universal.proofs.ot_shaper_use.setup.set_rphf.Goals as goal

pub returns-then-mask-eq0-clause-masks : goal.returns-then-mask-eq0-clause-masks
returns-then-mask-eq0-clause-masks = search (arith, no_mask)

pub returns-then-mask-eq0-clause-flags : goal.returns-then-mask-eq0-clause-flags
returns-then-mask-eq0-clause-flags = search same_added

pub returns-clause-flags : goal.returns-clause-flags
returns-clause-flags c = search (arith, rphf_mask_added c.args.mask c.args.buffer.now.glyphs)
