-- The table has the values of the definition. Written by unicode/generate.
use Rattle.std.proofs.Common.{◌≡◌, ℕ, ◌<◌, true, refl}
use Rattle.ucd_table.proofs.Computing.{tables}
use Rattle.ucd_table.proofs.Stepped.{runs_of}
use Rattle.shapers_unicode.specs.declared.tables.mapping.TheConstants.{MAPPING_INDEX, MAPPING_BLOCKS, MAPPING_TAIL}
use Rattle.shapers_unicode.specs.Table.{IsTable, table_value}
use Rattle.shapers_unicode.proofs.TableCheck.{table_cells, table_ok, table_ok-IsTable, table_value-Stepped}
use Rattle.shapers_unicode.specs.Pairs.{canonical_mapping}
use Rattle.shapers_unicode.proofs.PairSteps.{mapping_stepped}
use Rattle.ucd_table.proofs.GroupsCheck.{IsGroupsOf-Stepped, number_of, number_stepped}
use Rattle.ucd_table.specs.Groups.{IsGroupsOf}
use Rattle.shapers_unicode.specs.declared.tables.mapping.TheConstants.{MAPPING_OFFSETS, MAPPING_CHARS}

MAPPING-ok : table_ok 32 MAPPING_INDEX MAPPING_BLOCKS MAPPING_TAIL
    (runs_of (λ c. number_of canonical_mapping mapping_stepped c) (number_stepped canonical_mapping mapping_stepped))
    ≡ true
unfolding tables table_cells mapping_stepped
MAPPING-ok = refl

pub IsTable-MAPPING : IsTable 32 MAPPING_INDEX MAPPING_BLOCKS
IsTable-MAPPING = table_ok-IsTable 32 MAPPING_INDEX MAPPING_BLOCKS MAPPING_TAIL _ MAPPING-ok

pub table_value-MAPPING : (c : ℕ) → c < 0x11_0000 → table_value 32 MAPPING_INDEX MAPPING_BLOCKS MAPPING_TAIL c
    ≡ number_of canonical_mapping mapping_stepped c
table_value-MAPPING =
    table_value-Stepped 32 MAPPING_INDEX MAPPING_BLOCKS MAPPING_TAIL
    (λ c. number_of canonical_mapping mapping_stepped c) (number_stepped canonical_mapping mapping_stepped) MAPPING-ok

pub groups-MAPPING : IsGroupsOf MAPPING_OFFSETS MAPPING_CHARS (table_value 32 MAPPING_INDEX MAPPING_BLOCKS MAPPING_TAIL)
    canonical_mapping
unfolding tables mapping_stepped
groups-MAPPING = IsGroupsOf-Stepped _ _ _ canonical_mapping mapping_stepped table_value-MAPPING refl
