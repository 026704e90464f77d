-- The insides of syllables only get flags, and the masks add no others.
use Rattle.std.proofs.Common.{arith}
use Rattle.shapers_clusters.proofs.FlagLaw.{all_added_on}
use Rattle.shapers_universal.proofs.UniversalFlags.{syllables_added}
use Rattle.shapers_universal.proofs.ot_shaper_use.setup.setup_syllables_use_by_bytes.Goals as goal

pub returns-clause-flags : goal.returns-clause-flags
returns-clause-flags c =
    all_added_on c.args.buffer.now.glyphs c.setup_by_bytes.new.buffer.glyphs c.set_masks.new.buffer.glyphs
    (search (arith, syllables_added)) c.set_masks.ensures.flags
