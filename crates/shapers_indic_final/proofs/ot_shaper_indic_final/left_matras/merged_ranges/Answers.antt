-- One place back: a left matra goes, anything else stays.
use Rattle.std.proofs.Common.{◌+◌, ◌-◌, refl, sym, ap, ◌∙◌, arith}
use Rattle.shapers_buffer.specs.Glyphs.{Glyph}
use Rattle.shapers_indic_final.specs.FinalMatras.{is_left}
use Rattle.shapers_indic_final.proofs.LeftMatraSteps.{lies_on}
use Rattle.shapers_indic_final.proofs.LeftMatraWalks.{walk_end, walk_no, walk_start, walk_yes}
use Rattle.shapers_indic_final.proofs.ot_shaper_indic_final.left_matras.merged_ranges.Goals as goal

pub loop-i-init : goal.loop-i-init
loop-i-init c =
    let a = c.args in
    let r = c.requires in (
      omega arith,
      walk_start a.start a.top a.target a.base_end _ a.glyphs.now r.behind r.before r.in_range refl
          (ap (λ (g : Glyph). g.cluster) c.get.ensures) refl (ap (λ (g : Glyph). g.cluster) c.get-2.ensures),
    )

pub loop-i-preserved-then-is_left : goal.loop-i-preserved-then-is_left
loop-i-preserved-then-is_left c =
    let a = c.args in
    let l = c.loop-i in
    let r = c.requires in
    let w = c.with_matra-ranges in
    let lies = lies_on (a.start + (l.i - 1)) (a.start + a.top) (a.start + a.target) (a.start + a.base_end) l.ranges w.result a.glyphs.now
    w.ensures.merged w.ensures.end l.invariant.1.lies in (
      omega arith,
      walk_yes a.start l.i (l.i - 1) a.top a.target a.base_end l.ranges w.result a.glyphs.now
          (omega arith) l.invariant.0 r.behind r.before r.in_range (ap is_left (sym c.get-in-loop-i.ensures) ∙ sym c.is_left.ensures
          ∙ c.if-is_left.true) w.ensures.merged w.ensures.end lies l.invariant.1,
    )

pub loop-i-preserved : goal.loop-i-preserved
loop-i-preserved c =
    let a = c.args in
    let l = c.loop-i in
    let r = c.requires in (
      omega arith,
      walk_no a.start l.i (l.i - 1) a.top a.target a.base_end l.ranges a.glyphs.now
          (omega arith) l.invariant.0 r.behind r.before r.in_range (ap is_left (sym c.get-in-loop-i.ensures) ∙ sym c.is_left.ensures
          ∙ c.if-is_left.false) l.invariant.1,
    )

pub returns-clause-partitioned : goal.returns-clause-partitioned
returns-clause-partitioned c =
    let a = c.args in
    let l = c.loop-i in
    walk_end a.start l.i a.top a.target a.base_end l.ranges a.glyphs.now (omega arith) l.invariant.1
