use Rattle.std.proofs.Common.{◌∙◌, Some, sym, arith}
use Rattle.shapers_clusters.proofs.Swaps.{run-swap_step, run-still_step}
use Rattle.shapers_text.proofs.ot_shaper_hebrew.reorder_marks_in.Goals as goal

pub returns-clause-step : goal.returns-clause-step
returns-clause-step = search (arith, run-swap_step, Some)

pub returns-in_default-clause-step : goal.returns-in_default-clause-step
returns-in_default-clause-step c = let gs = c.args.glyphs.now in sym (run-still_step c.args.level gs) ∙ (search arith)
