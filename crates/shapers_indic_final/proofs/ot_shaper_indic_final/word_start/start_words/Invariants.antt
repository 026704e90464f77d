use Rattle.shapers_indic_final.proofs.FinalWordStartWalk.{Opening}
use Rattle.shapers_indic_final.proofs.ot_shaper_indic_final.word_start.start_words.Given as goal

abbrev pub invariant-loop-place : goal.invariant-loop-place
invariant-loop-place l = Opening l.init l.fn.buffer l.buffer l.place
