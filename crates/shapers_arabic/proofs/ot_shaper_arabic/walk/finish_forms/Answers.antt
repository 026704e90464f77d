-- Copied forms have masks.
use Rattle.std.proofs.Common.{arith}
use Rattle.shapers_arabic.proofs.JoinedGlyphs.{masks-copied}
use Rattle.shapers_arabic.proofs.ot_shaper_arabic.walk.finish_forms.Goals as goal

pub add_masks-requires : goal.add_masks-requires
add_masks-requires = search (arith, masks-copied)
