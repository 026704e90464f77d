-- The laws of the steps give that of the whole.
use Rattle.shapers_pipeline.proofs.PositionClusters.{finish_grows}
use Rattle.shapers_pipeline.proofs.StageLengths.{shaping_grows, stages_grow}
use Rattle.shapers_pipeline.proofs.TextLengths.{preparation_grows, preparation_has_room}
use Rattle.shapers_pipeline.proofs.lengths.pipeline_lengths_law.Goals as goal

prepared : goal.returns-clause-preparation
prepared c = preparation_grows (record {
  grows = c.lengths_law.ensures.preprocessing;
  alone = c.orders_alone_law.ensures;
  cover = c.graphemes_law.ensures.cover;
})

staged : goal.returns-clause-stages
staged c = stages_grow

finished : goal.returns-clause-finish
finished c = finish_grows c.hiding_law.ensures.removed c.flags_law.ensures.shared

pub returns-clause-preparation : goal.returns-clause-preparation
returns-clause-preparation c = prepared c

pub returns-clause-room : goal.returns-clause-room
returns-clause-room c = preparation_has_room (record {
  grows = c.lengths_law.ensures.preprocessing;
  alone = c.orders_alone_law.ensures;
  cover = c.graphemes_law.ensures.cover;
})

pub returns-clause-stages : goal.returns-clause-stages
returns-clause-stages c = staged c

pub returns-clause-finish : goal.returns-clause-finish
returns-clause-finish c = finished c

pub returns-clause-whole : goal.returns-clause-whole
returns-clause-whole c = shaping_grows (prepared c) (staged c) (finished c)
