use Rattle.std.proofs.Common.{arith}
use Rattle.shapers_stretch.proofs.LaidText.{stretch_is_as_wide}
use Rattle.rustybuzz_shapers.proofs.LineAdvances.{line_advances}
use Rattle.rustybuzz_shapers.proofs.shaper.laws.stretches_cover_law.Goals as goal

pub returns-clause-cover : goal.returns-clause-cover
returns-clause-cover = search (arith, stretch_is_as_wide)

pub returns-clause-line : goal.returns-clause-line
returns-clause-line c = line_advances
