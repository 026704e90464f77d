use Rattle.std.proofs.lemmas.Slice.Zip.{seconds-zip, firsts-zip}
use Rattle.std.proofs.Common.{arith}
use Rattle.shapers_stretch.proofs.PartLaying.{all_left}
use Rattle.shapers_stretch.proofs.ot_shaper_arabic_stretch.tiles.TileLaying.lay_all.Goals as goal

pub loop-unlaid-init : goal.loop-unlaid-init
loop-unlaid-init = search (arith, all_left)

pub returns-clause-glyphs : goal.returns-clause-glyphs
returns-clause-glyphs = search (arith, firsts-zip)

pub returns-clause-positions : goal.returns-clause-positions
returns-clause-positions = search (arith, seconds-zip)
