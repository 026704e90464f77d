-- The table has the values of the definition. Written by unicode/generate.
use Rattle.std.proofs.Common.{◌≡◌, ℕ, ◌<◌, true, refl}
use Rattle.ucd_table.proofs.Computing.{tables}
use Rattle.ucd_table.proofs.Stepped.{runs_of}
use Rattle.shapers_unicode.specs.declared.tables.mirrored.TheConstants.{MIRRORED_INDEX, MIRRORED_BLOCKS, MIRRORED_TAIL}
use Rattle.shapers_unicode.specs.Table.{IsTable, table_value}
use Rattle.shapers_unicode.proofs.TableCheck.{table_cells, table_ok, table_ok-IsTable, table_value-Stepped}
use Rattle.shapers_unicode.specs.Pairs.{mirrored_string}
use Rattle.shapers_unicode.proofs.PairSteps.{mirrored_stepped}
use Rattle.ucd_table.proofs.GroupsCheck.{IsGroupsOf-Stepped, number_of, number_stepped}
use Rattle.ucd_table.specs.Groups.{IsGroupsOf}
use Rattle.shapers_unicode.specs.declared.tables.mirrored.TheConstants.{MIRRORED_OFFSETS, MIRRORED_CHARS}

MIRRORED-ok : table_ok 32 MIRRORED_INDEX MIRRORED_BLOCKS MIRRORED_TAIL
    (runs_of (λ c. number_of mirrored_string mirrored_stepped c) (number_stepped mirrored_string mirrored_stepped))
    ≡ true
unfolding tables table_cells mirrored_stepped
MIRRORED-ok = refl

pub IsTable-MIRRORED : IsTable 32 MIRRORED_INDEX MIRRORED_BLOCKS
IsTable-MIRRORED = table_ok-IsTable 32 MIRRORED_INDEX MIRRORED_BLOCKS MIRRORED_TAIL _ MIRRORED-ok

pub table_value-MIRRORED : (c : ℕ) → c < 0x11_0000 → table_value 32 MIRRORED_INDEX MIRRORED_BLOCKS MIRRORED_TAIL c
    ≡ number_of mirrored_string mirrored_stepped c
table_value-MIRRORED =
    table_value-Stepped 32 MIRRORED_INDEX MIRRORED_BLOCKS MIRRORED_TAIL
    (λ c. number_of mirrored_string mirrored_stepped c) (number_stepped mirrored_string mirrored_stepped) MIRRORED-ok

pub groups-MIRRORED : IsGroupsOf MIRRORED_OFFSETS MIRRORED_CHARS
    (table_value 32 MIRRORED_INDEX MIRRORED_BLOCKS MIRRORED_TAIL) mirrored_string
unfolding tables mirrored_stepped
groups-MIRRORED = IsGroupsOf-Stepped _ _ _ mirrored_string mirrored_stepped table_value-MIRRORED refl
