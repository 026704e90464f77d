-- The laws of clusters and of spelling, from the equation.
use Rattle.std.proofs.Common.{arith}
use Rattle.shapers_hangul.proofs.HangulClusters.{on_rewritten}
use Rattle.shapers_hangul.proofs.HangulFlags.{on_flags}
use Rattle.shapers_hangul.proofs.HangulSpelling.{on_spelled, on_units}
use Rattle.shapers_hangul.proofs.ot_shaper_hangul.preprocess_text_changes.Goals as goal

pub returns-clause-clusters : goal.returns-clause-clusters
returns-clause-clusters = search (arith, on_rewritten)

pub returns-clause-spelling : goal.returns-clause-spelling
returns-clause-spelling = search (arith, on_spelled)

pub returns-clause-flags : goal.returns-clause-flags
returns-clause-flags = search (arith, on_flags)

pub returns-clause-units : goal.returns-clause-units
returns-clause-units = search (arith, on_units)
