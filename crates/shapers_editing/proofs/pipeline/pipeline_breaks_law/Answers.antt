use Rattle.shapers_editing.proofs.PiecesAlike.{singles_leave}
use Rattle.shapers_editing.proofs.PipelineBreaks.{masks_in_pieces, pipeline_breaks, shaper_stages, shaping_breaks, stages_leave}
use Rattle.shapers_editing.proofs.pipeline.pipeline_breaks_law.Goals as goal

pub returns-clause-stages : goal.returns-clause-stages
returns-clause-stages c = stages_leave c.shapers_break_law.ensures.by_glyph

pub returns-clause-singles : goal.returns-clause-singles
returns-clause-singles c = singles_leave

pub returns-clause-masks : goal.returns-clause-masks
returns-clause-masks c = masks_in_pieces c.shapers_break_law.ensures.masks

pub returns-clause-texts : goal.returns-clause-texts
returns-clause-texts c = pipeline_breaks c.shapers_break_law.ensures.by_glyph

pub returns-clause-shaping : goal.returns-clause-shaping
returns-clause-shaping c = shaping_breaks c.shapers_break_law.ensures.by_glyph

pub returns-clause-syllables : goal.returns-clause-syllables
returns-clause-syllables c = shaper_stages c.shapers_break_law.ensures.by_glyph c.shapers_break_law.ensures.laws
