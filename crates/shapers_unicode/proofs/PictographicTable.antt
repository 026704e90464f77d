-- The table has the values of the definition. Written by unicode/generate.
use Rattle.std.proofs.Common.{◌≡◌, ℕ, ◌<◌, true, [], ◌∷◌, refl}
use Rattle.ucd_table.proofs.Computing.{tables}
use Rattle.ucd_table.proofs.Stepped.{runs_of}
use Rattle.shapers_unicode.specs.declared.tables.pictographic.TheConstants.{PICTOGRAPHIC_INDEX, PICTOGRAPHIC_BLOCKS, PICTOGRAPHIC_TAIL}
use Rattle.shapers_unicode.specs.Table.{IsTable, table_value}
use Rattle.shapers_unicode.proofs.TableCheck.{cells_hold, table_cells, table_ok, table_ok-IsTable, table_value-Stepped}
use Rattle.ucd_table.proofs.RunsLemmas.{one_if}
use Rattle.shapers_unicode.specs.Pictographic.{extended_pictographic}
use Rattle.shapers_unicode.proofs.PictographicSteps.{number_stepped, pictographic_stepped}

PICTOGRAPHIC-ok : table_ok 64 PICTOGRAPHIC_INDEX PICTOGRAPHIC_BLOCKS PICTOGRAPHIC_TAIL
    (runs_of (λ c. one_if (extended_pictographic c)) number_stepped) ≡ true
unfolding tables table_cells pictographic_stepped
PICTOGRAPHIC-ok = refl

pub IsTable-PICTOGRAPHIC : IsTable 64 PICTOGRAPHIC_INDEX PICTOGRAPHIC_BLOCKS
IsTable-PICTOGRAPHIC = table_ok-IsTable 64 PICTOGRAPHIC_INDEX PICTOGRAPHIC_BLOCKS PICTOGRAPHIC_TAIL _ PICTOGRAPHIC-ok

pub table_value-PICTOGRAPHIC : (c : ℕ) → c < 0x11_0000
    → table_value 64 PICTOGRAPHIC_INDEX PICTOGRAPHIC_BLOCKS PICTOGRAPHIC_TAIL c ≡ one_if (extended_pictographic c)
table_value-PICTOGRAPHIC =
    table_value-Stepped 64 PICTOGRAPHIC_INDEX PICTOGRAPHIC_BLOCKS PICTOGRAPHIC_TAIL
    (λ c. one_if (extended_pictographic c)) number_stepped PICTOGRAPHIC-ok

-- the first and the last cell of each block, and of each range above
PICTOGRAPHIC-cells : cells_hold (
    (0x0000, 0) ∷ (0x003F, 0) ∷ (0x0080, 0) ∷ (0x00BF, 0) ∷ (0x2000, 0) ∷ (0x203F, 0)
    ∷ (0x2040, 0) ∷ (0x207F, 0) ∷ (0x2100, 0) ∷ (0x213F, 0) ∷ (0x2180, 0) ∷ (0x21BF, 0)
    ∷ (0x2300, 0) ∷ (0x233F, 0) ∷ (0x23C0, 0) ∷ (0x23FF, 0) ∷ (0x24C0, 0) ∷ (0x24FF, 0)
    ∷ (0x2580, 0) ∷ (0x25BF, 0) ∷ (0x25C0, 1) ∷ (0x25FF, 0) ∷ (0x2600, 1) ∷ (0x263F, 0)
    ∷ (0x2640, 1) ∷ (0x267F, 1) ∷ (0x2680, 0) ∷ (0x26BF, 0) ∷ (0x26C0, 0) ∷ (0x26FF, 0)
    ∷ (0x2700, 0) ∷ (0x273F, 0) ∷ (0x2740, 0) ∷ (0x277F, 0) ∷ (0x2780, 0) ∷ (0x27BF, 1)
    ∷ (0x2900, 0) ∷ (0x293F, 0) ∷ (0x2B00, 0) ∷ (0x2B3F, 0) ∷ (0x2B40, 0) ∷ (0x2B7F, 0)
    ∷ (0x3000, 0) ∷ (0x303F, 0) ∷ (0x3280, 0) ∷ (0x32BF, 0) ∷ (0x1F000, 0) ∷ (0x1F03F, 0)
    ∷ (0x1F080, 0) ∷ (0x1F0BF, 0) ∷ (0x1F0C0, 1) ∷ (0x1F0FF, 1) ∷ (0x1F140, 0) ∷ (0x1F17F, 1)
    ∷ (0x1F180, 0) ∷ (0x1F1BF, 1) ∷ (0x1F1C0, 1) ∷ (0x1F1FF, 0) ∷ (0x1F200, 0) ∷ (0x1F23F, 1)
    ∷ (0x1F240, 0) ∷ (0x1F27F, 1) ∷ (0x1F280, 1) ∷ (0x1F2BF, 1) ∷ (0x1F300, 1) ∷ (0x1F33F, 1)
    ∷ (0x1F380, 1) ∷ (0x1F3BF, 1) ∷ (0x1F3C0, 1) ∷ (0x1F3FF, 0) ∷ (0x1F4C0, 1) ∷ (0x1F4FF, 1)
    ∷ (0x1F500, 1) ∷ (0x1F53F, 0) ∷ (0x1F540, 0) ∷ (0x1F57F, 0) ∷ (0x1F580, 0) ∷ (0x1F5BF, 0)
    ∷ (0x1F5C0, 0) ∷ (0x1F5FF, 1) ∷ (0x1F640, 1) ∷ (0x1F67F, 0) ∷ (0x1F6C0, 1) ∷ (0x1F6FF, 1)
    ∷ (0x1F7C0, 0) ∷ (0x1F7FF, 1) ∷ (0x1F800, 0) ∷ (0x1F83F, 0) ∷ (0x1F840, 0) ∷ (0x1F87F, 0)
    ∷ (0x1F880, 0) ∷ (0x1F8BF, 1) ∷ (0x1F8C0, 0) ∷ (0x1F8FF, 1) ∷ (0x1F900, 0) ∷ (0x1F93F, 1)
    ∷ (0x1F940, 1) ∷ (0x1F97F, 1) ∷ (0x1FA40, 0) ∷ (0x1FA7F, 1) ∷ (0x20000, 0) ∷ (0x10FFFF, 0) ∷ [])
    (runs_of (λ c. one_if (extended_pictographic c)) number_stepped) ≡ true
unfolding tables table_cells pictographic_stepped
PICTOGRAPHIC-cells = refl
