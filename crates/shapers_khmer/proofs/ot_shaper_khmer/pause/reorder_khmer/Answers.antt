use Rattle.std.proofs.Common.{arith}
use Rattle.std.proofs.lemmas.Result.{on_ok_weaker}
use Rattle.shapers_khmer.specs.Khmer.{khmer_circles}
use Rattle.shapers_khmer.proofs.KhmerPauseMovers.{pause_by_movers}
use Rattle.shapers_khmer.specs.Proved.KhmerLaws.{khmer_moves_merged}
use Rattle.shapers_syllabic.specs.Reordering.{script_circles}
use Rattle.shapers_syllabic.proofs.LinkedSyllables.{takes_any}
use Rattle.shapers_khmer.proofs.ot_shaper_khmer.pause.reorder_khmer.Goals as goal

pub reorder_pause-requires-clause-takes : goal.reorder_pause-requires-clause-takes
reorder_pause-requires-clause-takes = search (arith, takes_any)

pub returns-clause-ok : goal.returns-clause-ok
returns-clause-ok = search arith

pub returns-clause-linked : goal.returns-clause-linked
returns-clause-linked = search arith

pub returns-clause-movers : goal.returns-clause-movers
returns-clause-movers g c = search (
  arith,
  on_ok_weaker c.reorder_pause.result
      (λ ok. pause_by_movers c.order_of-order.result (script_circles khmer_circles (g.F.hb_font_t.font
      c.args.face.now) c.args.buffer.now) c.args.buffer.now c.reorder_pause.new.buffer ok) c.reorder_pause.ensures.ok,
)

pub returns-clause-cut : goal.returns-clause-cut
returns-clause-cut g c = rw c.order_of-order.ensures at c.reorder_pause.ensures.cut

pub returns-clause-laws : goal.returns-clause-laws
returns-clause-laws g c = on_ok_weaker c.reorder_pause.result (λ laws. laws.merged (λ gs. (khmer_moves_merged gs, tt)))
    c.reorder_pause.ensures.laws
