-- The table has the values of the definition. Written by unicode/generate.
use Rattle.std.proofs.Common.{◌≡◌, ℕ, true, [], ◌∷◌, refl}
use Rattle.ucd_table.proofs.Computing.{tables}
use Rattle.ucd_table.proofs.Stepped.{runs_of}
use Rattle.shapers_unicode.specs.declared.tables.universal.TheConstants.{UNIVERSAL_INDEX, UNIVERSAL_BLOCKS, UNIVERSAL_TAIL}
use Rattle.shapers_unicode.specs.Table.{IsTable, table_value}
use Rattle.shapers_unicode.proofs.TableCheck.{cells_hold, table_cells, table_ok, table_ok-IsTable, table_value-everywhere}
use Rattle.shapers_unicode.specs.Universal.{universal_category}
use Rattle.shapers_unicode.proofs.GeneralSteps.{general_stepped}
use Rattle.shapers_unicode.proofs.IgnorableSteps.{ignorable_stepped, property_stepped}
use Rattle.shapers_unicode.proofs.JoiningSteps.{joining_stepped}
use Rattle.shapers_unicode.proofs.UniversalSteps.{universal_stepped, syllabic_stepped, positional_stepped, use_syllabic_stepped, use_positional_stepped}

UNIVERSAL-ok : table_ok 64 UNIVERSAL_INDEX UNIVERSAL_BLOCKS UNIVERSAL_TAIL
    (runs_of universal_category universal_stepped) ≡ true
unfolding tables table_cells universal_stepped syllabic_stepped positional_stepped use_syllabic_stepped
    use_positional_stepped general_stepped joining_stepped ignorable_stepped property_stepped
UNIVERSAL-ok = refl

pub IsTable-UNIVERSAL : IsTable 64 UNIVERSAL_INDEX UNIVERSAL_BLOCKS
IsTable-UNIVERSAL = table_ok-IsTable 64 UNIVERSAL_INDEX UNIVERSAL_BLOCKS UNIVERSAL_TAIL _ UNIVERSAL-ok

pub table_value-UNIVERSAL : (c : ℕ) → table_value 64 UNIVERSAL_INDEX UNIVERSAL_BLOCKS UNIVERSAL_TAIL c
    ≡ universal_category c
unfolding tables universal_stepped syllabic_stepped positional_stepped use_syllabic_stepped use_positional_stepped
    general_stepped joining_stepped ignorable_stepped property_stepped
table_value-UNIVERSAL = table_value-everywhere 64 UNIVERSAL_INDEX UNIVERSAL_BLOCKS UNIVERSAL_TAIL universal_category
    universal_stepped UNIVERSAL-ok refl refl refl

-- the first and the last cell of each block, and of each range above
UNIVERSAL-cells : cells_hold (
    (0x0000, 0) ∷ (0x003F, 0) ∷ (0x0040, 0) ∷ (0x007F, 0) ∷ (0x0080, 0) ∷ (0x00BF, 0)
    ∷ (0x00C0, 0) ∷ (0x00FF, 0) ∷ (0x0100, 0) ∷ (0x013F, 0) ∷ (0x0340, 0) ∷ (0x037F, 0)
    ∷ (0x0640, 1) ∷ (0x067F, 0) ∷ (0x07C0, 0) ∷ (0x07FF, 0) ∷ (0x0840, 1) ∷ (0x087F, 0)
    ∷ (0x0900, 37) ∷ (0x093F, 22) ∷ (0x0940, 35) ∷ (0x097F, 1) ∷ (0x0980, 5) ∷ (0x09BF, 22)
    ∷ (0x09C0, 35) ∷ (0x09FF, 0) ∷ (0x0A00, 0) ∷ (0x0A3F, 22) ∷ (0x0A40, 35) ∷ (0x0A7F, 0)
    ∷ (0x0A80, 0) ∷ (0x0ABF, 22) ∷ (0x0AC0, 35) ∷ (0x0AFF, 31) ∷ (0x0B00, 0) ∷ (0x0B3F, 33)
    ∷ (0x0B40, 35) ∷ (0x0B7F, 0) ∷ (0x0B80, 0) ∷ (0x0BBF, 35) ∷ (0x0BC0, 33) ∷ (0x0BFF, 0)
    ∷ (0x0C00, 37) ∷ (0x0C3F, 33) ∷ (0x0C40, 33) ∷ (0x0C7F, 0) ∷ (0x0C80, 1) ∷ (0x0CBF, 33)
    ∷ (0x0CC0, 33) ∷ (0x0CFF, 0) ∷ (0x0D00, 37) ∷ (0x0D3F, 35) ∷ (0x0D40, 35) ∷ (0x0D7F, 0)
    ∷ (0x0D80, 0) ∷ (0x0DBF, 0) ∷ (0x0DC0, 1) ∷ (0x0DFF, 0) ∷ (0x0F00, 1) ∷ (0x0F3F, 22)
    ∷ (0x0F40, 1) ∷ (0x0F7F, 0) ∷ (0x0F80, 34) ∷ (0x0FBF, 0) ∷ (0x0FC0, 0) ∷ (0x0FFF, 0)
    ∷ (0x1000, 1) ∷ (0x103F, 1) ∷ (0x1040, 1) ∷ (0x107F, 1) ∷ (0x1080, 1) ∷ (0x10BF, 0)
    ∷ (0x1700, 1) ∷ (0x173F, 0) ∷ (0x1740, 1) ∷ (0x177F, 0) ∷ (0x1780, 1) ∷ (0x17BF, 22)
    ∷ (0x17C0, 22) ∷ (0x17FF, 0) ∷ (0x1800, 1) ∷ (0x183F, 1) ∷ (0x1840, 1) ∷ (0x187F, 0)
    ∷ (0x1880, 5) ∷ (0x18BF, 0) ∷ (0x1900, 1) ∷ (0x193F, 0) ∷ (0x1940, 0) ∷ (0x197F, 0)
    ∷ (0x1980, 1) ∷ (0x19BF, 1) ∷ (0x19C0, 1) ∷ (0x19FF, 0) ∷ (0x1A00, 1) ∷ (0x1A3F, 1)
    ∷ (0x1A40, 1) ∷ (0x1A7F, 38) ∷ (0x1A80, 1) ∷ (0x1ABF, 0) ∷ (0x1B00, 37) ∷ (0x1B3F, 22)
    ∷ (0x1B40, 22) ∷ (0x1B7F, 0) ∷ (0x1B80, 37) ∷ (0x1BBF, 1) ∷ (0x1BC0, 1) ∷ (0x1BFF, 0)
    ∷ (0x1C00, 1) ∷ (0x1C3F, 0) ∷ (0x1C40, 1) ∷ (0x1C7F, 0) ∷ (0x1CC0, 0) ∷ (0x1CFF, 0)
    ∷ (0x1DC0, 0) ∷ (0x1DFF, 0) ∷ (0x2000, 0) ∷ (0x203F, 0) ∷ (0x2040, 0) ∷ (0x207F, 0)
    ∷ (0x2080, 0) ∷ (0x20BF, 0) ∷ (0x20C0, 0) ∷ (0x20FF, 0) ∷ (0x25C0, 0) ∷ (0x25FF, 0)
    ∷ (0x27C0, 0) ∷ (0x27FF, 0) ∷ (0x2D00, 0) ∷ (0x2D3F, 1) ∷ (0x2D40, 1) ∷ (0x2D7F, 12)
    ∷ (0x2E00, 0) ∷ (0x2E3F, 0) ∷ (0xA800, 1) ∷ (0xA83F, 0) ∷ (0xA840, 1) ∷ (0xA87F, 0)
    ∷ (0xA880, 39) ∷ (0xA8BF, 35) ∷ (0xA8C0, 35) ∷ (0xA8FF, 33) ∷ (0xA900, 1) ∷ (0xA93F, 1)
    ∷ (0xA940, 1) ∷ (0xA97F, 0) ∷ (0xA980, 37) ∷ (0xA9BF, 28) ∷ (0xA9C0, 12) ∷ (0xA9FF, 0)
    ∷ (0xAA00, 1) ∷ (0xAA3F, 0) ∷ (0xAA40, 1) ∷ (0xAA7F, 1) ∷ (0xAA80, 1) ∷ (0xAABF, 37)
    ∷ (0xAAC0, 1) ∷ (0xAAFF, 0) ∷ (0xABC0, 1) ∷ (0xABFF, 0) ∷ (0xFE00, 6) ∷ (0xFE3F, 0)
    ∷ (0xFEC0, 0) ∷ (0xFEFF, 16) ∷ (0xFFC0, 0) ∷ (0xFFFF, 0) ∷ (0x10540, 0) ∷ (0x1057F, 1)
    ∷ (0x10580, 1) ∷ (0x105BF, 0) ∷ (0x10A00, 1) ∷ (0x10A3F, 44) ∷ (0x10A40, 1) ∷ (0x10A7F, 0)
    ∷ (0x10AC0, 1) ∷ (0x10AFF, 0) ∷ (0x10B80, 1) ∷ (0x10BBF, 0) ∷ (0x10D00, 1) ∷ (0x10D3F, 0)
    ∷ (0x10D40, 0) ∷ (0x10D7F, 1) ∷ (0x10D80, 1) ∷ (0x10DBF, 0) ∷ (0x10E80, 1) ∷ (0x10EBF, 0)
    ∷ (0x10F40, 1) ∷ (0x10F7F, 1) ∷ (0x10F80, 1) ∷ (0x10FBF, 1) ∷ (0x10FC0, 0) ∷ (0x10FFF, 0)
    ∷ (0x11000, 39) ∷ (0x1103F, 34) ∷ (0x11040, 34) ∷ (0x1107F, 13) ∷ (0x11080, 37) ∷ (0x110BF, 0)
    ∷ (0x110C0, 0) ∷ (0x110FF, 0) ∷ (0x11100, 37) ∷ (0x1113F, 1) ∷ (0x11140, 0) ∷ (0x1117F, 0)
    ∷ (0x11180, 37) ∷ (0x111BF, 33) ∷ (0x111C0, 12) ∷ (0x111FF, 0) ∷ (0x11200, 1) ∷ (0x1123F, 1)
    ∷ (0x11240, 1) ∷ (0x1127F, 0) ∷ (0x11280, 1) ∷ (0x112BF, 1) ∷ (0x112C0, 1) ∷ (0x112FF, 0)
    ∷ (0x11300, 37) ∷ (0x1133F, 35) ∷ (0x11340, 33) ∷ (0x1137F, 0) ∷ (0x11380, 1) ∷ (0x113BF, 34)
    ∷ (0x113C0, 34) ∷ (0x113FF, 0) ∷ (0x11400, 1) ∷ (0x1143F, 33) ∷ (0x11440, 35) ∷ (0x1147F, 0)
    ∷ (0x11480, 0) ∷ (0x114BF, 37) ∷ (0x114C0, 37) ∷ (0x114FF, 0) ∷ (0x11580, 1) ∷ (0x115BF, 12)
    ∷ (0x115C0, 32) ∷ (0x115FF, 0) ∷ (0x11600, 1) ∷ (0x1163F, 12) ∷ (0x11640, 33) ∷ (0x1167F, 0)
    ∷ (0x11680, 1) ∷ (0x116BF, 0) ∷ (0x116C0, 1) ∷ (0x116FF, 0) ∷ (0x11700, 1) ∷ (0x1173F, 0)
    ∷ (0x11740, 1) ∷ (0x1177F, 0) ∷ (0x11800, 1) ∷ (0x1183F, 0) ∷ (0x11900, 1) ∷ (0x1193F, 18)
    ∷ (0x11940, 29) ∷ (0x1197F, 0) ∷ (0x11980, 0) ∷ (0x119BF, 1) ∷ (0x119C0, 1) ∷ (0x119FF, 0)
    ∷ (0x11A00, 1) ∷ (0x11A3F, 5) ∷ (0x11A40, 0) ∷ (0x11A7F, 1) ∷ (0x11A80, 1) ∷ (0x11ABF, 0)
    ∷ (0x11B40, 0) ∷ (0x11B7F, 0) ∷ (0x11C00, 1) ∷ (0x11C3F, 12) ∷ (0x11C40, 1) ∷ (0x11C7F, 1)
    ∷ (0x11C80, 1) ∷ (0x11CBF, 0) ∷ (0x11D00, 1) ∷ (0x11D3F, 33) ∷ (0x11D40, 37) ∷ (0x11D7F, 1)
    ∷ (0x11D80, 1) ∷ (0x11DBF, 0) ∷ (0x11EC0, 0) ∷ (0x11EFF, 0) ∷ (0x11F00, 37) ∷ (0x11F3F, 22)
    ∷ (0x11F40, 33) ∷ (0x11F7F, 0) ∷ (0x13000, 49) ∷ (0x1303F, 49) ∷ (0x13400, 49) ∷ (0x1343F, 49)
    ∷ (0x13440, 55) ∷ (0x1347F, 49) ∷ (0x143C0, 49) ∷ (0x143FF, 0) ∷ (0x16100, 1) ∷ (0x1613F, 0)
    ∷ (0x16AC0, 1) ∷ (0x16AFF, 0) ∷ (0x16B00, 1) ∷ (0x16B3F, 0) ∷ (0x16D40, 39) ∷ (0x16D7F, 0)
    ∷ (0x16F00, 1) ∷ (0x16F3F, 1) ∷ (0x16F40, 1) ∷ (0x16F7F, 34) ∷ (0x16F80, 34) ∷ (0x16FBF, 0)
    ∷ (0x16FC0, 0) ∷ (0x16FFF, 0) ∷ (0x18CC0, 1) ∷ (0x18CFF, 1) ∷ (0x1BC40, 1) ∷ (0x1BC7F, 0)
    ∷ (0x1BC80, 1) ∷ (0x1BCBF, 0) ∷ (0x1D140, 0) ∷ (0x1D17F, 0) ∷ (0x1E100, 1) ∷ (0x1E13F, 0)
    ∷ (0x1E140, 1) ∷ (0x1E17F, 0) ∷ (0x1E280, 0) ∷ (0x1E2BF, 0) ∷ (0x1E2C0, 1) ∷ (0x1E2FF, 0)
    ∷ (0x1E4C0, 0) ∷ (0x1E4FF, 0) ∷ (0x1E5C0, 0) ∷ (0x1E5FF, 0) ∷ (0x1E940, 1) ∷ (0x1E97F, 0)
    ∷ (0x20000, 0) ∷ (0xDFFFF, 0) ∷ (0xE0000, 16) ∷ (0xE00FF, 16) ∷ (0xE0100, 6) ∷ (0xE01EF, 6)
    ∷ (0xE01F0, 16) ∷ (0xE0FFF, 16) ∷ (0xE1000, 0) ∷ (0x10FFFF, 0) ∷ []) (runs_of universal_category universal_stepped)
    ≡ true
unfolding tables table_cells universal_stepped syllabic_stepped positional_stepped use_syllabic_stepped
    use_positional_stepped general_stepped joining_stepped ignorable_stepped property_stepped
UNIVERSAL-cells = refl
