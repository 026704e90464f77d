-- The insides of syllables only get flags.
use Rattle.std.proofs.Common.{arith}
use Rattle.shapers_syllabic.proofs.SetupFlags.{same_added}
use Rattle.shapers_universal.proofs.UniversalFlags.{syllables_added}
use Rattle.rustybuzz_shapers.proofs.shaper.syllables.setup_syllables_written.Goals as goal

pub returns-in-SetupSyllablesIndic-clause-flags : goal.returns-in-SetupSyllablesIndic-clause-flags
returns-in-SetupSyllablesIndic-clause-flags = search (arith, syllables_added)

pub returns-in-SetupSyllablesKhmer-clause-flags : goal.returns-in-SetupSyllablesKhmer-clause-flags
returns-in-SetupSyllablesKhmer-clause-flags = search (arith, syllables_added)

pub returns-in-SetupSyllablesMyanmar-clause-flags : goal.returns-in-SetupSyllablesMyanmar-clause-flags
returns-in-SetupSyllablesMyanmar-clause-flags = search (arith, syllables_added)

pub returns-in_default-clause-flags : goal.returns-in_default-clause-flags
returns-in_default-clause-flags = search (arith, same_added)
