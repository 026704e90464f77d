use Rattle.opentype_layout.proofs.SubtableStarts.{set_of_chained, set_of_context}
use Rattle.opentype_gpos.proofs.coming.come_by.Goals.{then-it-eq7-via-then-it-eq7, then-it-eq7-via-else-it-eq7+then-it-eq8}
use Rattle.opentype_gpos.proofs.coming.come_by.Goals as goal

pub find_rule-requires-clause-set : goal.find_rule-requires-clause-set
find_rule-requires-clause-set c =
    let it = c.position-it.result in
    elim c.then-it-eq7.branch [
      | then-it-eq7-via-then-it-eq7 w ↦ set_of_context _ _ it.kind it.bytes.now w.if-it-eq7.true it.first_fits
      | then-it-eq7-via-else-it-eq7+then-it-eq8 w ↦ set_of_chained _ _ it.kind it.bytes.now w.if-it-eq8.true it.first_fits
    ]
