use Rattle.shapers_equivalence_laws.proofs.PlainProved.{prepared_equivalent, prepared_plain, short_equivalent}
use Rattle.shapers_equivalence_laws.proofs.UnturnedTexts.{handed_over}
use Rattle.shapers_equivalence_laws.proofs.laws.prepared_law.Goals as goal

pub returns : goal.returns
returns c = record {
  handed_over = handed_over;
  plain = prepared_plain;
  equivalent = prepared_equivalent;
  short = short_equivalent;
}
