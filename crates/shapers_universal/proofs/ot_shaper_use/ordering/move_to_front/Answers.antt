-- The merge and the move.
use Rattle.std.proofs.lemmas.Grind.{common_steps}
use Rattle.shapers_buffer.specs.Clusters.{merge}
use Rattle.shapers_clusters.proofs.Merging.{length-merge}
use Rattle.std.proofs.Common.{◌-◌, arith}
use Rattle.shapers_buffer.proofs.Placements.{rotated_stretch, placed_forward, forward_permutes}
use Rattle.shapers_universal.proofs.OneFront.{turned_is}
use Rattle.shapers_universal.proofs.ot_shaper_use.ordering.move_to_front.Goals as goal

pub apply-requires-clause-permutes : goal.apply-requires-clause-permutes
apply-requires-clause-permutes c =
    forward_permutes c.args.front (c.args.behind - 1) 1 c.args.start c.args.end c.merge_clusters.new.self.places c.requires.from
    (omega arith) (search arith)

pub returns : goal.returns
returns c =
    let ms = merge c.args.buffer.now.level c.args.front c.args.behind c.args.buffer.now.glyphs in
    let long = length-merge c.args.buffer.now.level c.args.front c.args.behind c.args.buffer.now.glyphs (omega arith) in
    search (
      arith,
      placed_forward c.args.front (c.args.behind - 1) 1 c.args.start c.args.end c.merge_clusters.new.self.places ms
          c.requires.from (omega arith) (omega arith) (omega (arith, long)),
      rotated_stretch c.args.front (c.args.behind - 1) 1 ms (omega arith) (omega (arith, long)),
      turned_is c.args.front c.args.behind ms c.requires.some (omega (arith, long)),
    )

pub apply-requires-clause-in_range : goal.apply-requires-clause-in_range
apply-requires-clause-in_range c = grind (arith, common_steps)
