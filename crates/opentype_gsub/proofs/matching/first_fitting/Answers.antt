use Rattle.opentype_gsub.proofs.matching.first_fitting.Goals as goal

pub first_apart-requires-clause-key : goal.first_apart-requires-clause-key
first_apart-requires-clause-key c = rw c.after.ensures at c.key_behind-key.ensures
