use Rattle.std.proofs.Common.{arith}
use Rattle.shapers_stretch.proofs.LaidText.{grows}
use Rattle.shapers_stretch.proofs.StretchFlags.{on_copies, on_widths}
use Rattle.shapers_stretch.proofs.ot_shaper_arabic_stretch.postprocessing.postprocess_glyphs.Goals as goal

pub returns-clause-longer : goal.returns-clause-longer
returns-clause-longer = search (arith, grows)

pub returns-clause-copies : goal.returns-clause-copies
returns-clause-copies = search (arith, on_copies)

pub returns-clause-widths : goal.returns-clause-widths
returns-clause-widths = search (arith, on_widths)
