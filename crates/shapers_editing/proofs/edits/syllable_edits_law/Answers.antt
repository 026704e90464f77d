use Rattle.shapers_base.specs.declared.plan.pause.Pause.TheVariants.{SetupSyllablesIndic, SetupSyllablesKhmer, SetupSyllablesMyanmar, InitialReordering, ReorderKhmer, ReorderMyanmar}
use Rattle.rustybuzz_shapers.specs.Pauses.{by_initial, by_khmer, by_myanmar}
use Rattle.shapers_editing.proofs.EditedSyllables.{indic-outside, outside, pauses-outside, universal-outside}
use Rattle.shapers_editing.proofs.edits.syllable_edits_law.Goals as goal

pub returns-clause-any : goal.returns-clause-any
returns-clause-any c = outside

pub returns-clause-khmer : goal.returns-clause-khmer
returns-clause-khmer c = pauses-outside SetupSyllablesKhmer ReorderKhmer by_khmer c.cuts_at_borders_law.ensures.khmer

pub returns-clause-myanmar : goal.returns-clause-myanmar
returns-clause-myanmar c = pauses-outside SetupSyllablesMyanmar ReorderMyanmar
    (λ plan. by_myanmar) c.cuts_at_borders_law.ensures.myanmar

pub returns-clause-universal : goal.returns-clause-universal
returns-clause-universal c = universal-outside c.cuts_at_borders_law.ensures.universal

pub returns-clause-initial : goal.returns-clause-initial
returns-clause-initial c = pauses-outside SetupSyllablesIndic InitialReordering by_initial
    c.cuts_at_borders_law.ensures.initial

pub returns-clause-both : goal.returns-clause-both
returns-clause-both c = indic-outside c.cuts_at_borders_law.ensures.both
