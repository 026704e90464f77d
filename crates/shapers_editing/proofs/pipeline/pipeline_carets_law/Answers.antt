use Rattle.shapers_editing.proofs.ShapedCarets.{shaped-carets}
use Rattle.shapers_editing.proofs.pipeline.pipeline_carets_law.Goals as goal

pub returns : goal.returns
returns c = shaped-carets c.pipeline_clusters_law.ensures.whole
