-- The laws of the steps give that of the whole.
use Rattle.shapers_pipeline.proofs.PositionClusters.{finish_keeps, shaping_keeps}
use Rattle.shapers_pipeline.proofs.PreparedClusters.{preparation_keeps}
use Rattle.shapers_pipeline.proofs.StageClusters.{stages_keep}
use Rattle.shapers_pipeline.proofs.laws.pipeline_clusters_law.Goals as goal

prepared : goal.returns-clause-preparation
prepared c = preparation_keeps (record {
  thai = c.monotone_law.ensures.thai;
  hangul = c.monotone_law.ensures.hangul;
  none = c.clusters_law.ensures;
  monotone = c.monotone_law-2.ensures;
  alone = c.orders_alone_law.ensures;
  ordered = c.orders_monotone_law.ensures;
  cover = c.graphemes_law.ensures.cover;
  whole = c.graphemes_law.ensures.whole;
})

staged : goal.returns-clause-stages
staged c = stages_keep (record {
  none = c.apart_law.ensures.pauses;
  sorted = c.monotone_law.ensures.pauses;
  circles = c.monotone_law.ensures.circles;
})

finished : goal.returns-clause-finish
finished c = finish_keeps (record {
  removal = c.hiding_law.ensures.removed;
  flags = c.flags_law.ensures.shared;
  hooks = c.apart_law.ensures.hooks;
  stretch = c.monotone_law.ensures.stretch;
})

pub returns-clause-preparation : goal.returns-clause-preparation
returns-clause-preparation c = prepared c

pub returns-clause-stages : goal.returns-clause-stages
returns-clause-stages c = staged c

pub returns-clause-finish : goal.returns-clause-finish
returns-clause-finish c = finished c

pub returns-clause-whole : goal.returns-clause-whole
returns-clause-whole c = shaping_keeps (prepared c) (staged c) (finished c)
