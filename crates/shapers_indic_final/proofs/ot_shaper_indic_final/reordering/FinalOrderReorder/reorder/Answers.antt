-- The calls, one after another, and the syllable written.
use Rattle.std.proofs.Common.{ap, arith}
use Rattle.std.proofs.lemmas.Grind.{common_steps}
use Rattle.shapers_buffer.specs.Buffer.{but_places}
use Rattle.shapers_buffer.specs.Placements.{arranged}
use Rattle.shapers_indic_final.proofs.FinalSyllable.{Calls, final_syllable, last_part, viewed_in, written_at_last}
use Rattle.shapers_indic_final.proofs.ot_shaper_indic_final.reordering.FinalOrderReorder.reorder.Goals as goal

pub returns-clause-related : goal.returns-clause-related
returns-clause-related c =
    let a = c.args in
    let rules = a.self.now.rules.now in
    let script = a.self.now.script in
    let viewed = viewed_in rules script c.requires.takes in
    let b3 = arranged c.place_matras-moves.result a.start a.end c.place_matras-moves.new.buffer in
    let b4 = arranged c.place_reph-base.new.moves a.start a.end c.place_reph-base.new.buffer in
    let b5 = arranged c.place_pref.new.moves a.start a.end c.place_pref.new.buffer in
    let calls : Calls rules script a.start a.end c.search_base-based.result.base c.place_reph-base.result
    c.search_base-based.result.tries_pref a.buffer.now c.recover_viramas.new.buffer c.search_base-based.new.buffer b3 b4 =
    search arith in
    written_at_last _ _ a.start a.end a.buffer.now b5 c.apply_all.new.self
    (final_syllable _ _ _ _ _ _ _ _ _ _ _ _ _ viewed calls
    (last_part rules script a.start a.end c.place_reph-base.result c.search_base-based.result.tries_pref b4 b5 viewed
    c.requires.in_order c.place_pref.ensures.glyphs)) (ap but_places c.apply_all.ensures)

pub search_base-based-requires-clause-in_range : goal.search_base-based-requires-clause-in_range
search_base-based-requires-clause-in_range = grind (arith, common_steps)

pub place_matras-moves-requires-clause-in_range : goal.place_matras-moves-requires-clause-in_range
place_matras-moves-requires-clause-in_range = grind (arith, common_steps)
