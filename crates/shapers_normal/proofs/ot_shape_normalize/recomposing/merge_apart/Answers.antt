-- The glyph behind the gap is written in front of it; then both sides merge, and it goes.
use Rattle.std.proofs.Common.{◌≡◌, ◌∙◌, ◌+◌, ◌++◌, length, take, drop, get_or, set, ap, arith, append_assoc}
use Rattle.std.proofs.lemmas.List.{length-drop, length-take-le}
use Rattle.shapers_buffer.specs.Clusters.{merge}
use Rattle.shapers_buffer.specs.Glyph.{default_glyph}
use Rattle.shapers_normal.specs.Recomposition.{without_place}
use Rattle.shapers_normal.specs.RecompositionWalk.{over_gap}
use Rattle.shapers_normal.proofs.Gaps.{front_written, gap_wider}
use Rattle.shapers_normal.proofs.ot_shape_normalize.recomposing.merge_apart.Goals as goal

pub returns : goal.returns
returns c =
    let p = c.args.place in
    let gs = c.args.glyphs.now in
    let front = c.split_at_mut-front.result.0.now in
    let xs = c.merge_joined.new.front in
    let ys = c.merge_joined.new.behind in
    let gap = drop (p.to + 1) front in
    let wide : length front ≡ p.from + 1 = omega (arith, c.split_at_mut-front.ensures.front_len) in
    let long : length xs ≡ p.to + 1 =
    omega (arith, c.merge_joined.auto.front, length-take-le (p.to + 1) front (omega arith)) in
    let top : length (take (p.to + 1) front) ≡ p.to + 1 = length-take-le (p.to + 1) front (omega arith) in
    ap (over_gap p.to (p.from + 1)) (append_assoc xs gap ys)
    ∙ gap_wider p.to p.from xs gap ys c.requires.gap long (omega (arith, length-drop (p.to + 1) front))
    ∙ ap (without_place p.to) (c.merge_joined.ensures
    ∙ ap (λ n. merge c.args.level p.starter n (take (p.to + 1) front ++ c.split_at_mut-front.result.1.now)) top
    ∙ ap (merge c.args.level p.starter (p.to + 1))
    (ap (λ f. take (p.to + 1) f ++ c.split_at_mut-front.result.1.now) c.split_at_mut-front.ensures.front
    ∙ ap (λ b. take (p.to + 1) (take (p.from + 1) (set gs p.to (get_or gs p.from default_glyph))) ++ b)
    c.split_at_mut-front.ensures.back
    ∙ front_written p.to p.from gs c.requires.gap c.requires.inside))
