-- A mask adds flags alone.
use Rattle.std.proofs.Common.{arith}
use Rattle.shapers_clusters.proofs.FlagLaw.{changed_added}
use Rattle.shapers_base.specs.Masks.{with_numbered_mask}
use Rattle.shapers_hangul.proofs.HangulFlags.{jamo_mask_added}
use Rattle.shapers_hangul.proofs.ot_shaper_hangul.setup_masks.Goals as goal

pub returns-clause-flags : goal.returns-clause-flags
returns-clause-flags c =
    let masks = c.in-Hangul.data.mask_array in
    search (arith, changed_added (with_numbered_mask masks) (jamo_mask_added masks) c.args.buffer.now.glyphs)
