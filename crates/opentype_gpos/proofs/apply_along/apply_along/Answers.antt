use Rattle.std.proofs.Common.{ap, arith, inl, inr, ◌∙◌}
use Rattle.opentype_gpos.specs.Coming.{setting_of, sights_in}
use Rattle.opentype_gpos.proofs.Passing.{left_end, left_first, left_next, left_none, left_on, left_unbegun}
use Rattle.opentype_gpos.proofs.apply_along.apply_along.Goals.{then-place-glyphs-via-then-place-glyphs, then-place-glyphs-via-else-place-glyphs+then-place-at}
use Rattle.opentype_gpos.proofs.apply_along.apply_along.Goals as goal

pub returns-then-first-glyphs : goal.returns-then-first-glyphs
returns-then-first-glyphs c =
    let end = left_unbegun (setting_of c.args.pass.now) c.args.lookup.now _ _ c.first_place-first.result c.requires
    c.first_place-first.ensures.passed (omega arith) in
    record { glyphs = end.glyphs; positions = end.positions }

pub loop-steps-init : goal.loop-steps-init
loop-steps-init c = left_first (setting_of c.args.pass.now) c.args.lookup.now _ _ c.first_place-first.result c.requires
    c.first_place-first.ensures.passed (omega arith)

pub returns-then-place-glyphs : goal.returns-then-place-glyphs
returns-then-place-glyphs c =
    let next = left_next _ _ _ _ _ _ _ _ c.sights-sights.result c.step-at.new.glyphs c.step-at.new.positions c.step-at.result
    c.loop-steps.invariant (omega arith) (cc)
    (c.sights-sights.ensures ∙ ap (sights_in (setting_of c.args.pass.now)) c.bytes.ensures) c.step-at.ensures in
    let end = left_end _ _ _ _ _ _ _ _ c.next_place_in-place.result next c.next_place_in-place.ensures.passed
    (elim c.then-place-glyphs.branch [
      | then-place-glyphs-via-then-place-glyphs w ↦ inl (omega (arith, w.if-place-glyphs.true))
      | then-place-glyphs-via-else-place-glyphs+then-place-at w ↦
          inr (omega (arith, c.next_place_in-place.ensures.behind, w.if-place-glyphs.false, w.if-place-at.true))
    ]) in
    record { glyphs = end.glyphs; positions = end.positions }

pub loop-steps-preserved : goal.loop-steps-preserved
loop-steps-preserved c =
    let next = left_next _ _ _ _ _ _ _ _ c.sights-sights.result c.step-at.new.glyphs c.step-at.new.positions c.step-at.result
    c.loop-steps.invariant (omega arith) (cc)
    (c.sights-sights.ensures ∙ ap (sights_in (setting_of c.args.pass.now)) c.bytes.ensures) c.step-at.ensures in
    left_on _ _ _ _ _ _ _ _ c.next_place_in-place.result next c.next_place_in-place.ensures.passed
    (omega arith) (omega arith) (omega arith)

pub returns : goal.returns
returns c =
    let end = left_none _ _ _ _ _ _ _ _ c.loop-steps.invariant (omega arith) in
    record { glyphs = end.glyphs; positions = end.positions }
