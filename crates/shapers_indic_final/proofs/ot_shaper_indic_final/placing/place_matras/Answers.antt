-- Nothing moves where they stay.
use Rattle.std.proofs.Common.{◌≡◌, true, false, if◌then◌else◌, List, [], length, map, sym, ap, ◌∙◌, arith}
use Rattle.std.proofs.lemmas.Bool.Decides.{nat_tests}
use Rattle.shapers_buffer.specs.Clusters.{stretch_of}
use Rattle.shapers_clusters.specs.Steps.{Step, after_steps, widened}
use Rattle.shapers_indic_final.specs.FinalMatras.{end_of_base, has_room, matra_steps, matra_target, takes_matras, partition_steps, staying_steps, steps_before}
use Rattle.shapers_buffer.specs.Buffer.{Buffer}
use Rattle.shapers_buffer.proofs.ClusterLemmas.{length-stretch}
use Rattle.shapers_indic_final.proofs.FinalArranged.{stay_all, stay_stepped}
use Rattle.shapers_indic_final.proofs.ot_shaper_indic_final.placing.place_matras.Goals as goal

pub returns-then-base-eq0-clause-glyphs : goal.returns-then-base-eq0-clause-glyphs
returns-then-base-eq0-clause-glyphs c =
    let a = c.args in
    let b = a.buffer.now in
    let still = stay_all a.start a.end b.places b.glyphs c.requires.in_order c.requires.in_range in
    let n = length-stretch a.start a.end b.glyphs c.requires.in_range in
    search arith

pub returns-else-takes_matras-clause-glyphs : goal.returns-else-takes_matras-clause-glyphs
returns-else-takes_matras-clause-glyphs c =
    let a = c.args in
    let b = c.merge_matras.new.buffer in
    let old = a.buffer.now in
    let part = stretch_of a.start a.end old.glyphs in
    let n = length-stretch a.start a.end old.glyphs c.requires.in_range in
    let go : takes_matras (matra_target a.script a.base part) part ≡ false = search arith in
    let room : has_room a.base part ≡ true = grind (arith, nat_tests) in
    let steps : matra_steps a.script a.base part ≡ staying_steps a.base part =
    ap (λ t. if t then steps_before a.script a.base part else []) room
    ∙ ap (λ t. if t then partition_steps (matra_target a.script a.base part) (end_of_base a.base part) part
    else staying_steps a.base part) go in
    stay_stepped a.start a.end old b _ c.requires.in_order (omega (arith, c.merge_matras.ensures.same_length))
    c.merge_matras.ensures.glyphs
    ∙ ap (λ (sts : List Step). let y : Buffer = record old {
      glyphs = after_steps old.level (map (widened a.start a.end (length old.glyphs)) sts) old.glyphs;
      places = [];
    } in y) (sym steps)
