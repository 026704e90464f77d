use Rattle.std.proofs.Common.{arith, lit<, ◌∙◌, sym, ap, subst}
use Rattle.ucd_table.specs.Groups.{HasGroup, group_at}
use Rattle.shapers_unicode.specs.declared.tables.composition.TheConstants.{COMPOSITION_OFFSETS, COMPOSITION_CHARS}
use Rattle.shapers_unicode.proofs.CompositionTable.{IsTable-COMPOSITION, groups-COMPOSITION}
use Rattle.shapers_unicode.proofs.pairs.compositions_of.Goals as goal

pub number_of-number-requires : goal.number_of-number-requires
number_of-number-requires c = (lit< tt, IsTable-COMPOSITION)

pub string_of-requires : goal.string_of-requires
string_of-requires c =
    subst (HasGroup COMPOSITION_OFFSETS COMPOSITION_CHARS) (sym c.number_of-number.ensures)
    (groups-COMPOSITION.has c.args.c (omega arith))

pub returns : goal.returns
returns c =
    c.string_of.ensures ∙ ap (group_at COMPOSITION_OFFSETS COMPOSITION_CHARS) c.number_of-number.ensures
    ∙ groups-COMPOSITION.gives c.args.c (omega arith)
