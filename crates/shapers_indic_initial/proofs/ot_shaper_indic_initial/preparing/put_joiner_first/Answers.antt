-- With the joiner, and without.
use Rattle.std.proofs.Common.{◌≡◌, ◌≤◌, ◌+◌, ◌-◌, [], refl, sym, ap, subst, ◌∙◌, length, arith}
use Rattle.shapers_buffer.specs.Buffer.{Buffer}
use Rattle.shapers_buffer.specs.Glyphs.{Glyphs}
use Rattle.shapers_buffer.specs.Places.{placed_by}
use Rattle.shapers_buffer.specs.declared.buffer.placement.Placement.TheVariants.{Stays}
use Rattle.shapers_buffer.proofs.ClusterLemmas.{length-stretch}
use Rattle.shapers_buffer.proofs.Placements.{placed_stays}
use Rattle.shapers_clusters.proofs.Merging.{length-merge}
use Rattle.shapers_indic_initial.specs.InitialReordering.{joiner_steps, with_joiner_first}
use Rattle.shapers_indic_initial.specs.MovedWalk.{moved_buffer, moved_first_by}
use Rattle.shapers_indic_initial.specs.Proved.InitialSteps.{joiner_long}
use Rattle.shapers_indic_initial.proofs.MovedLaws.{behind_others, behind_unlisted, first_moved, stays_unlisted}
use Rattle.shapers_indic_initial.proofs.Prepared.{joiner_moves, joiner_stays_put}
use Rattle.shapers_syllabic.specs.Reordering.{SyllableReordered}
use Rattle.shapers_indic_initial.proofs.ot_shaper_indic_initial.preparing.put_joiner_first.Goals as goal

pub returns-then-joiner_comes_first-clause-unlisted : goal.returns-then-joiner_comes_first-clause-unlisted
returns-then-joiner_comes_first-clause-unlisted c =
    let l : c.args.start + 3 ≤ c.args.end = search (arith, joiner_long, length-stretch) in
    behind_unlisted c.to_end.result (c.args.start + 1) (c.args.start + 3) c.args.start c.args.end c.to_end.ensures
    (omega arith) (omega arith) l

pub returns-then-joiner_comes_first-clause-reordered : goal.returns-then-joiner_comes_first-clause-reordered
returns-then-joiner_comes_first-clause-reordered c =
    let s = c.args.start in
    let e = c.args.end in
    let mid = c.merge_clusters.new.self in
    let l : c.args.start + 3 ≤ c.args.end = search (arith, joiner_long, length-stretch) in
    let n : length mid.glyphs ≡ length c.args.buffer.now.glyphs =
    ap (λ (x : Buffer). length x.glyphs) c.merge_clusters.ensures
    ∙ length-merge c.args.buffer.now.level (s + 1) (s + 3) c.args.buffer.now.glyphs (omega arith) in
    joiner_moves c.args.script s e c.args.buffer.now mid (moved_buffer (moved_first_by c.to_end.result s e) mid)
    c.requires.in_order c.requires.in_range (search arith) c.merge_clusters.ensures refl
    (first_moved c.to_end.result s e mid.glyphs (behind_unlisted c.to_end.result (s + 1) (s + 3) s e c.to_end.ensures (omega arith) (omega arith) l)
    c.requires.in_order (omega (arith, n, c.requires.in_range))
    ∙ ap (λ p. placed_by p s e [] mid.glyphs) c.to_end.ensures
    ∙ behind_others (s + 1) (s + 3) s e [] mid.glyphs (omega arith) (omega arith) l (omega (arith, n, c.requires.in_range)))

pub returns-clause-unlisted : goal.returns-clause-unlisted
returns-clause-unlisted c = stays_unlisted c.args.start c.args.end

pub returns-clause-reordered : goal.returns-clause-reordered
returns-clause-reordered c =
    let s = c.args.start in
    let e = c.args.end in
    let b = c.args.buffer.now in
    let h = c.requires.in_order in
    let l = c.requires.in_range in
    let same : moved_buffer (moved_first_by Stays s e) b ≡ b =
    ap (λ (gs : Glyphs). let x : Buffer = record b { glyphs = gs } in x)
    (first_moved Stays s e b.glyphs (stays_unlisted s e) h l ∙ placed_stays s e [] b.glyphs h l) in
    subst (λ (x : Buffer). SyllableReordered (with_joiner_first c.args.script) (joiner_steps c.args.script) s e b x)
    (sym same) (joiner_stays_put c.args.script s e b h l (search arith))
