-- What is written and set up is what the pause makes of the spans.
use Rattle.std.proofs.Common.{◌∙◌, sym}
use Rattle.rustybuzz_shapers.proofs.FoundSyllables.{found_run, none_setup}
use Rattle.rustybuzz_shapers.proofs.shaper.syllables.setup_syllables_found.Goals as goal

pub returns-clause-setup : goal.returns-clause-setup
returns-clause-setup c sets font =
    let setup = c.setup_syllables_written.ensures in
    found_run c.args.pause c.args.plan.now c.args.buffer.now c.write_syllables.new.buffer
    c.setup_syllables_written.new.buffer c.write_syllables.ensures setup.setup setup.flags
    (sym setup.answer ∙ sets) font

pub returns-clause-others : goal.returns-clause-others
returns-clause-others c none =
    let setup = c.setup_syllables_written.ensures in
    none_setup c.args.pause c.args.plan.now c.args.buffer.now c.write_syllables.new.buffer
    c.setup_syllables_written.new.buffer c.write_syllables.ensures setup.setup (sym setup.answer ∙ none)
