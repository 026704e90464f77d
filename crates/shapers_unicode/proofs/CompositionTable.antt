-- The table has the values of the definition. Written by unicode/generate.
use Rattle.std.proofs.Common.{◌≡◌, ℕ, ◌<◌, true, refl}
use Rattle.ucd_table.proofs.Computing.{tables}
use Rattle.ucd_table.proofs.Stepped.{runs_of}
use Rattle.shapers_unicode.specs.declared.tables.composition.TheConstants.{COMPOSITION_INDEX, COMPOSITION_BLOCKS, COMPOSITION_TAIL}
use Rattle.shapers_unicode.specs.Table.{IsTable, table_value}
use Rattle.shapers_unicode.proofs.TableCheck.{table_cells, table_ok, table_ok-IsTable, table_value-Stepped}
use Rattle.shapers_unicode.specs.Pairs.{compositions}
use Rattle.shapers_unicode.proofs.PairSteps.{composition_stepped}
use Rattle.ucd_table.proofs.GroupsCheck.{IsGroupsOf-Stepped, number_of, number_stepped}
use Rattle.ucd_table.specs.Groups.{IsGroupsOf}
use Rattle.shapers_unicode.specs.declared.tables.composition.TheConstants.{COMPOSITION_OFFSETS, COMPOSITION_CHARS}

COMPOSITION-ok : table_ok 32 COMPOSITION_INDEX COMPOSITION_BLOCKS COMPOSITION_TAIL
    (runs_of (λ c. number_of compositions composition_stepped c) (number_stepped compositions composition_stepped))
    ≡ true
unfolding tables table_cells composition_stepped
COMPOSITION-ok = refl

pub IsTable-COMPOSITION : IsTable 32 COMPOSITION_INDEX COMPOSITION_BLOCKS
IsTable-COMPOSITION = table_ok-IsTable 32 COMPOSITION_INDEX COMPOSITION_BLOCKS COMPOSITION_TAIL _ COMPOSITION-ok

pub table_value-COMPOSITION : (c : ℕ) → c < 0x11_0000
    → table_value 32 COMPOSITION_INDEX COMPOSITION_BLOCKS COMPOSITION_TAIL c
    ≡ number_of compositions composition_stepped c
table_value-COMPOSITION =
    table_value-Stepped 32 COMPOSITION_INDEX COMPOSITION_BLOCKS COMPOSITION_TAIL
    (λ c. number_of compositions composition_stepped c) (number_stepped compositions composition_stepped) COMPOSITION-ok

pub groups-COMPOSITION : IsGroupsOf COMPOSITION_OFFSETS COMPOSITION_CHARS
    (table_value 32 COMPOSITION_INDEX COMPOSITION_BLOCKS COMPOSITION_TAIL) compositions
unfolding tables composition_stepped
groups-COMPOSITION = IsGroupsOf-Stepped _ _ _ compositions composition_stepped table_value-COMPOSITION refl
