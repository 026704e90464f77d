-- One more place: it is spent, or its cycle merges.
use Rattle.std.proofs.Common.{◌≡◌, ◌+◌, ap, sym, ◌∙◌, subst, arith}
use Rattle.shapers_buffer.specs.Buffer.{Buffer}
use Rattle.shapers_buffer.specs.Clusters.{merge}
use Rattle.shapers_indic_initial.proofs.CycleSteps.{length-places_from, Merging, merging_next, merging_stays}
use Rattle.shapers_indic_initial.proofs.ot_shaper_indic_initial.cycles.merge_cycles.Goals.{then-old_place-place, else-old_place-place}
use Rattle.shapers_indic_initial.proofs.ot_shaper_indic_initial.cycles.merge_cycles.Goals as goal

pub loop-place-init : goal.loop-place-init
loop-place-init = search (arith, length-places_from)

pub loop-place-preserved : goal.loop-place-preserved
loop-place-preserved c =
    let l = c.loop-place in
    let s = c.args.start in
    let e = c.args.end in
    let b0 = c.args.buffer.now in
    elim c.if-old_place-place.branch [
      | then-old_place-place w ↦
          let b1 = w.spend_cycle-least.new.buffer in
          let b2 = w.merge_clusters.new.self in
          let least = w.spend_cycle-least.result.0 in
          let greatest = w.spend_cycle-least.result.1 in
          let is2 = w.merge_clusters.ensures
          ∙ ap (λ m. ((record b1 { glyphs = merge b1.level (s + m) (s + greatest + 1) b1.glyphs }))) w.max.ensures in
          record {
            from = omega arith;
            others = subst
                (λ b. b ≡ (let r : Buffer = record b0 { glyphs = b.glyphs; places = b.places } in r)) (sym w.buffer-is)
                (search arith);
            merging = subst (Merging s e c.args.base (l.place + 1) b0) (sym w.buffer-is)
                (merging_next s e c.args.base l.place b0 l.buffer b1 b2 least greatest c.requires.in_order
                c.requires.in_range l.invariant.from c.loop-place-test.true l.invariant.others
                w.spend_cycle-least.ensures.others w.spend_cycle-least.ensures.spent w.spend_cycle-least.ensures.least
                w.spend_cycle-least.ensures.greatest is2 l.invariant.merging);
          }
      | else-old_place-place w ↦
          record {
            from = omega arith;
            others = search arith;
            merging = search (arith, merging_stays);
          }
    ]
