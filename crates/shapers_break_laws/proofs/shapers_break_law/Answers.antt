use Rattle.shapers_break_laws.proofs.HookPieces.{masks_leave}
use Rattle.shapers_break_laws.proofs.PausePieces.{pauses_leave, pauses_listed}
use Rattle.shapers_break_laws.proofs.Pieces.{in_turn}
use Rattle.shapers_break_laws.proofs.ShaperBreaks.{shapers_break}
use Rattle.shapers_break_laws.proofs.shapers_break_law.Goals as goal

pub returns-clause-laws : goal.returns-clause-laws
returns-clause-laws c = shapers_break (record {
  khmer = c.khmer_reorder_laws.ensures.laws;
  khmer_merged = c.khmer_reorder_laws.ensures.merged;
  khmer_reads = c.khmer_reads_no_serials.ensures;
  myanmar = c.myanmar_reorder_laws.ensures.laws;
  myanmar_merged = c.myanmar_reorder_laws.ensures.merged;
  myanmar_reads = c.myanmar_reads_no_serials.ensures;
  initial = c.initial_reorder_laws.ensures.by_font;
  initial_reads = c.order_by_font_reads_no_serials.ensures;
  indic_chain = c.indic_breaks_law.ensures.chain;
  indic_pauses = c.indic_breaks_law.ensures.pauses;
  universal = c.script_breaks_law.ensures.universal;
  universal_chain = c.universal_chain_breaks_law.ensures.chain;
  universal_sound = c.universal_chain_breaks_law.ensures.sound;
  universal_sound_chain = c.universal_chain_breaks_law.ensures.sound_chain;
})

pub returns-clause-pauses : goal.returns-clause-pauses
returns-clause-pauses c = pauses_listed

pub returns-clause-masks : goal.returns-clause-masks
returns-clause-masks c = masks_leave

pub returns-clause-by_glyph : goal.returns-clause-by_glyph
returns-clause-by_glyph c = pauses_leave

pub returns-clause-in_turn : goal.returns-clause-in_turn
returns-clause-in_turn c = in_turn
