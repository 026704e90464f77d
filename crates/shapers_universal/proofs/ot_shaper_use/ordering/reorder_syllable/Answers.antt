-- The places listed, the merges, and the syllable written.
use Rattle.std.proofs.lemmas.Grind.{common_steps}
use Rattle.std.proofs.Common.{◌≡◌, ◌+◌, arith}
use Rattle.shapers_buffer.specs.Clusters.{stretch_of}
use Rattle.shapers_universal.specs.Universal.{leading_reph_len}
use Rattle.shapers_universal.specs.Proved.Reordered.{Parts, parts_make, parts_permute, parts_reordered}
use Rattle.shapers_universal.proofs.ot_shaper_use.ordering.reorder_syllable.Goals as goal

pub apply-requires-clause-in_range : goal.apply-requires-clause-in_range
apply-requires-clause-in_range c =
    let s = c.args.start in
    let e = c.args.end in
    let behind = s + c.leading_reph_len.result in
    let parts : Parts s e behind c.args.buffer.now c.list_order.new.buffer c.merge_clusters.new.self
    c.merge_fronts.new.buffer =
    record {
      in_order = c.requires.in_order;
      in_range = c.requires.in_range;
      listed = c.list_order.ensures;
      joined = c.merge_clusters.ensures;
      merged = c.merge_fronts.ensures;
    } in
    let made = parts_make s e behind c.args.buffer.now c.list_order.new.buffer c.merge_clusters.new.self
    c.merge_fronts.new.buffer parts in
    search arith

pub apply-requires-clause-permutes : goal.apply-requires-clause-permutes
apply-requires-clause-permutes c =
    let s = c.args.start in
    let parts : Parts s c.args.end
    (s + c.leading_reph_len.result) c.args.buffer.now c.list_order.new.buffer c.merge_clusters.new.self
    c.merge_fronts.new.buffer =
    record {
      in_order = c.requires.in_order;
      in_range = c.requires.in_range;
      listed = c.list_order.ensures;
      joined = c.merge_clusters.ensures;
      merged = c.merge_fronts.ensures;
    } in
    search (parts_permute, parts_make)

pub returns : goal.returns
returns c =
    let s = c.args.start in
    let e = c.args.end in
    let behind = s + c.leading_reph_len.result in
    let parts : Parts s e behind c.args.buffer.now c.list_order.new.buffer c.merge_clusters.new.self
    c.merge_fronts.new.buffer =
    record {
      in_order = c.requires.in_order;
      in_range = c.requires.in_range;
      listed = c.list_order.ensures;
      joined = c.merge_clusters.ensures;
      merged = c.merge_fronts.ensures;
    } in
    let made = parts_make s e behind c.args.buffer.now c.list_order.new.buffer c.merge_clusters.new.self
    c.merge_fronts.new.buffer parts in
    let run : behind ≡ s + leading_reph_len (stretch_of s e c.args.buffer.now.glyphs) =
    search arith in
    search parts_reordered

pub merge_fronts-requires-clause-in_range : goal.merge_fronts-requires-clause-in_range
merge_fronts-requires-clause-in_range c = grind (arith, common_steps)
