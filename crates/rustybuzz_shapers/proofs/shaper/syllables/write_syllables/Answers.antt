-- A pause that sets up no syllables writes none.
use Rattle.rustybuzz_shapers.proofs.FoundSyllables.{nothing_written}
use Rattle.rustybuzz_shapers.proofs.shaper.syllables.write_syllables.Goals as goal

pub returns-in_default : goal.returns-in_default
returns-in_default c =
    let n = c.in_default in
    nothing_written c.args.pause c.args.buffer.now n.not-SetupSyllablesIndic n.not-SetupSyllablesKhmer
    n.not-SetupSyllablesMyanmar n.not-SetupSyllablesUse
