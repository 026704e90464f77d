use Rattle.std.proofs.Common.{arith, lit<, ◌∙◌, sym, ap, subst}
use Rattle.ucd_table.specs.Groups.{HasGroup, group_at}
use Rattle.shapers_unicode.specs.declared.tables.mirrored.TheConstants.{MIRRORED_OFFSETS, MIRRORED_CHARS}
use Rattle.shapers_unicode.proofs.MirroredTable.{IsTable-MIRRORED, groups-MIRRORED}
use Rattle.shapers_unicode.proofs.pairs.mirrored_string_of.Goals as goal

pub number_of-number-requires : goal.number_of-number-requires
number_of-number-requires c = (lit< tt, IsTable-MIRRORED)

pub string_of-requires : goal.string_of-requires
string_of-requires c =
    subst (HasGroup MIRRORED_OFFSETS MIRRORED_CHARS) (sym c.number_of-number.ensures)
    (groups-MIRRORED.has c.args.c (omega arith))

pub returns : goal.returns
returns c =
    c.string_of.ensures ∙ ap (group_at MIRRORED_OFFSETS MIRRORED_CHARS) c.number_of-number.ensures
    ∙ groups-MIRRORED.gives c.args.c (omega arith)

pub returns-then-number-eq0 : goal.returns-then-number-eq0
returns-then-number-eq0 c =
    ap (group_at MIRRORED_OFFSETS MIRRORED_CHARS) (sym c.if-number-eq0.true ∙ c.number_of-number.ensures)
    ∙ groups-MIRRORED.gives c.args.c (omega arith)
