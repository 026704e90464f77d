-- The last left matra moves, and then those before it.
use Rattle.std.proofs.Common.{◌≡◌, ◌+◌, List, ℕ, [], map, get_or, length, ◌-◌, sym, ap, ◌∙◌, arith}
use Rattle.shapers_buffer.specs.Buffer.{Buffer}
use Rattle.shapers_buffer.specs.Clusters.{stretch_of}
use Rattle.shapers_buffer.specs.Glyph.{default_glyph}
use Rattle.shapers_buffer.specs.Placements.{arranged}
use Rattle.shapers_indic_final.proofs.FinalArranged.{stay_buffer}
use Rattle.shapers_buffer.proofs.ClusterLemmas.{length-stretch}
use Rattle.shapers_indic_final.specs.FinalMatras.{is_left, left_places, matra_step}
use Rattle.std.specs.List.{enumerate_from, list_any}
use Rattle.shapers_clusters.specs.Steps.{Step, after_step, after_steps, widened}
use Rattle.shapers_indic_final.proofs.FinalPlacing.{lefts_from}
use Rattle.shapers_indic_final.proofs.LeftMatrasAtOnce.{alone_stepped, both_moved, first_moved, one_in}
use Rattle.shapers_indic_final.proofs.ot_shaper_indic_final.left_matras.gather_matras.Goals as goal
use Rattle.shapers_indic.proofs.PlaceSearch.{passes_there}

pub bring_matras_on-requires-clause-one : goal.bring_matras_on-requires-clause-one
bring_matras_on-requires-clause-one c =
    let a = c.args in
    let r = c.requires in
    let l = c.loop-i in
    let k = l.i - 1 in
    let old = a.buffer.now in
    let mid = arranged c.move_matra-moves.result a.start a.end c.move_matra-moves.new.buffer in
    let is = first_moved old l.buffer mid a.start a.end a.base_end k a.target l.invariant.1.0 c.move_matra-moves.ensures.glyphs in
    one_in old mid a.start a.end a.base_end k a.target (omega arith) r.before r.base_in_order r.in_range is

pub returns-then-is_left-clause-glyphs : goal.returns-then-is_left-clause-glyphs
returns-then-is_left-clause-glyphs c =
    let a = c.args in
    let r = c.requires in
    let l = c.loop-i in
    let k = l.i - 1 in
    let old = a.buffer.now in
    let mid = arranged c.move_matra-moves.result a.start a.end c.move_matra-moves.new.buffer in
    let new = arranged c.bring_matras_on.result a.start a.end c.bring_matras_on.new.buffer in
    let is = first_moved old l.buffer mid a.start a.end a.base_end k a.target l.invariant.1.0 c.move_matra-moves.ensures.glyphs in
    let part = stretch_of a.start a.end old.glyphs in
    let seen = ap (λ (x : Buffer). is_left (get_or (stretch_of a.start a.end x.glyphs) k default_glyph)) (sym l.invariant.1.0)
    ∙ ap (λ gs. is_left (get_or (stretch_of a.start a.end gs) k default_glyph)) (sym c.glyphs.ensures)
    ∙ sym c.is_left.ensures ∙ c.if-is_left.true in
    let holds = passes_there is_left part k default_glyph
    (omega (arith, length-stretch a.start a.end old.glyphs r.in_range)) ∙ seen in
    let none = ap (λ j. lefts_from j a.target part) (omega arith) ∙ l.invariant.1.1 in
    both_moved old mid new a.start a.end a.base_end k a.target (omega arith)
    r.before r.base_in_order r.in_range holds none is c.bring_matras_on.ensures.glyphs

pub returns-then-moves_alone-clause-glyphs : goal.returns-then-moves_alone-clause-glyphs
returns-then-moves_alone-clause-glyphs c =
    let a = c.args in
    let r = c.requires in
    let l = c.loop-i in
    let k = l.i - 1 in
    let old = a.buffer.now in
    let new = c.write_matra.new.buffer in
    let part = stretch_of a.start a.end old.glyphs in
    let same = ap (λ (x : Buffer). x.glyphs) l.invariant.1.0 in
    let seen = ap (λ (x : Buffer). is_left (get_or (stretch_of a.start a.end x.glyphs) k default_glyph)) (sym l.invariant.1.0)
    ∙ ap (λ gs. is_left (get_or (stretch_of a.start a.end gs) k default_glyph)) (sym c.glyphs.ensures)
    ∙ sym c.is_left.ensures ∙ c.if-is_left.true in
    let holds = passes_there is_left part k default_glyph
    (omega (arith, length-stretch a.start a.end old.glyphs r.in_range)) ∙ seen in
    let none = ap (λ j. lefts_from j a.target part) (omega arith) ∙ l.invariant.1.1 in
    let few = ap (λ gs. list_any is_left (stretch_of a.start (a.start + k) gs)) (sym (c.glyphs-then-not-others.ensures ∙ same))
    ∙ c.moves_alone.ensures c.if-moves_alone.true in
    let steps = alone_stepped a.start a.end a.base_end k a.target old.glyphs (omega arith) (omega (arith, r.before, r.base_in_order))
    r.in_range holds none few in
    let step = matra_step (a.end - a.start) a.base_end k a.target in
    let moved = c.write_matra.ensures.glyphs ∙ ap (λ (x : Buffer). let y : Buffer = record x {
      glyphs = after_step x.level (widened a.start a.end (length x.glyphs) step) x.glyphs;
    } in y) l.invariant.1.0 in
    let long = c.write_matra.ensures.same_length ∙ ap length same in
    stay_buffer a.start a.end new (omega arith) (omega (arith, r.in_range))
    ∙ ap (λ (x : Buffer). let y : Buffer = record x { places = [] } in y) moved
    ∙ ap (λ (sts : List Step). let y : Buffer = record old {
      glyphs = after_steps old.level (map (widened a.start a.end (length old.glyphs)) sts) old.glyphs;
      places = [];
    } in y) (sym steps)

pub returns-clause-glyphs : goal.returns-clause-glyphs
returns-clause-glyphs c =
    let a = c.args in
    let v = c.loop-i.invariant in
    let b = c.loop-i.buffer in
    let old = a.buffer.now in
    let none : left_places a.target (stretch_of a.start a.end old.glyphs) ≡ [] =
    ap (λ i. lefts_from i a.target (stretch_of a.start a.end old.glyphs)) (sym (omega arith)) ∙ v.1.1 in
    let n = ap (λ (x : Buffer). length x.glyphs) v.1.0 in
    let wide = λ (qs : List ℕ). map (widened a.start a.end (length old.glyphs))
    (map (λ t. matra_step (length (stretch_of a.start a.end old.glyphs)) a.base_end t.1 (a.target - t.0)) (enumerate_from 0 qs)) in
    stay_buffer a.start a.end b (omega arith) (omega (arith, c.requires.in_range))
    ∙ ap (λ (x : Buffer). let y : Buffer = record x { places = [] } in y) v.1.0
    ∙ ap (λ qs. let y : Buffer = record old { glyphs = after_steps old.level (wide qs) old.glyphs; places = [] } in y)
    (sym none)

pub loop-i-preserved : goal.loop-i-preserved
loop-i-preserved = search (arith, passes_there)
