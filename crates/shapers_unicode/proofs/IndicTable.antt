-- The table has the values of the definition. Written by unicode/generate.
use Rattle.std.proofs.Common.{◌≡◌, ℕ, true, [], ◌∷◌, refl}
use Rattle.ucd_table.proofs.Computing.{tables}
use Rattle.ucd_table.proofs.Stepped.{runs_of}
use Rattle.shapers_unicode.specs.declared.tables.indic.TheConstants.{INDIC_INDEX, INDIC_BLOCKS, INDIC_TAIL}
use Rattle.shapers_unicode.specs.Table.{IsTable, table_value}
use Rattle.shapers_unicode.proofs.TableCheck.{cells_hold, table_cells, table_ok, table_ok-IsTable, table_value-everywhere}
use Rattle.shapers_unicode.proofs.IndicSteps.{indic_stepped, pair_place, pair_place_in, place_stepped}
use Rattle.shapers_unicode.proofs.UniversalSteps.{syllabic_stepped, positional_stepped}

INDIC-ok : table_ok 64 INDIC_INDEX INDIC_BLOCKS INDIC_TAIL (runs_of pair_place place_stepped) ≡ true
unfolding tables table_cells indic_stepped pair_place_in syllabic_stepped positional_stepped
INDIC-ok = refl

pub IsTable-INDIC : IsTable 64 INDIC_INDEX INDIC_BLOCKS
IsTable-INDIC = table_ok-IsTable 64 INDIC_INDEX INDIC_BLOCKS INDIC_TAIL _ INDIC-ok

pub table_value-INDIC : (c : ℕ) → table_value 64 INDIC_INDEX INDIC_BLOCKS INDIC_TAIL c ≡ pair_place c
unfolding tables indic_stepped pair_place_in syllabic_stepped positional_stepped
table_value-INDIC = table_value-everywhere 64 INDIC_INDEX INDIC_BLOCKS INDIC_TAIL pair_place place_stepped INDIC-ok refl
    refl refl

-- the first and the last cell of each block, and of each range above
INDIC-cells : cells_hold (
    (0x0000, 0) ∷ (0x003F, 0) ∷ (0x0040, 0) ∷ (0x007F, 0) ∷ (0x0080, 0) ∷ (0x00BF, 0)
    ∷ (0x00C0, 0) ∷ (0x00FF, 0) ∷ (0x0900, 3) ∷ (0x093F, 10) ∷ (0x0940, 7) ∷ (0x097F, 5)
    ∷ (0x0980, 1) ∷ (0x09BF, 10) ∷ (0x09C0, 13) ∷ (0x09FF, 0) ∷ (0x0A00, 0) ∷ (0x0A3F, 10)
    ∷ (0x0A40, 14) ∷ (0x0A7F, 0) ∷ (0x0A80, 0) ∷ (0x0ABF, 10) ∷ (0x0AC0, 13) ∷ (0x0AFF, 8)
    ∷ (0x0B00, 0) ∷ (0x0B3F, 18) ∷ (0x0B40, 13) ∷ (0x0B7F, 0) ∷ (0x0B80, 0) ∷ (0x0BBF, 13)
    ∷ (0x0BC0, 7) ∷ (0x0BFF, 0) ∷ (0x0C00, 3) ∷ (0x0C3F, 20) ∷ (0x0C40, 20) ∷ (0x0C7F, 0)
    ∷ (0x0C80, 1) ∷ (0x0CBF, 20) ∷ (0x0CC0, 20) ∷ (0x0CFF, 0) ∷ (0x0D00, 3) ∷ (0x0D3F, 13)
    ∷ (0x0D40, 13) ∷ (0x0D7F, 5) ∷ (0x1000, 5) ∷ (0x103F, 5) ∷ (0x1040, 1) ∷ (0x107F, 5)
    ∷ (0x1080, 5) ∷ (0x10BF, 0) ∷ (0x1780, 5) ∷ (0x17BF, 23) ∷ (0x17C0, 23) ∷ (0x17FF, 0)
    ∷ (0x1CC0, 0) ∷ (0x1CFF, 0) ∷ (0x2000, 0) ∷ (0x203F, 0) ∷ (0x2040, 0) ∷ (0x207F, 0)
    ∷ (0x2080, 0) ∷ (0x20BF, 0) ∷ (0x25C0, 0) ∷ (0x25FF, 0) ∷ (0xA8C0, 0) ∷ (0xA8FF, 7)
    ∷ (0xA9C0, 0) ∷ (0xA9FF, 0) ∷ (0xAA40, 0) ∷ (0xAA7F, 5) ∷ (0xFE00, 41) ∷ (0xFE3F, 0)
    ∷ (0x11300, 0) ∷ (0x1133F, 0) ∷ (0x116C0, 0) ∷ (0x116FF, 0) ∷ (0x20000, 0) ∷ (0x10FFFF, 0) ∷ [])
    (runs_of pair_place place_stepped) ≡ true
unfolding tables table_cells indic_stepped pair_place_in syllabic_stepped positional_stepped
INDIC-cells = refl
