-- The blocks that the Indic table covers, by Blocks.txt. Written by unicode/generate.
use Rattle.std.specs.Prelude.{List, [], ◌∷◌}
use Rattle.ucd_table.specs.Rows.{Row}
use Rattle.shapers_unicode.specs.Values.{Block, Block as values}

unfoldable pub block_rows : List (Row Block)
block_rows =
    (0x0000, 0x007F, values.Basic_Latin)
    ∷ (0x0080, 0x00FF, values.Latin_1_Supplement)
    ∷ (0x0900, 0x097F, values.Devanagari)
    ∷ (0x0980, 0x09FF, values.Bengali)
    ∷ (0x0A00, 0x0A7F, values.Gurmukhi)
    ∷ (0x0A80, 0x0AFF, values.Gujarati)
    ∷ (0x0B00, 0x0B7F, values.Oriya)
    ∷ (0x0B80, 0x0BFF, values.Tamil)
    ∷ (0x0C00, 0x0C7F, values.Telugu)
    ∷ (0x0C80, 0x0CFF, values.Kannada)
    ∷ (0x0D00, 0x0D7F, values.Malayalam)
    ∷ (0x1000, 0x109F, values.Myanmar)
    ∷ (0x1780, 0x17FF, values.Khmer)
    ∷ (0x1CD0, 0x1CFF, values.Vedic_Extensions)
    ∷ (0x2000, 0x206F, values.General_Punctuation)
    ∷ (0x2070, 0x209F, values.Superscripts_and_Subscripts)
    ∷ (0xA8E0, 0xA8FF, values.Devanagari_Extended)
    ∷ (0xA9E0, 0xA9FF, values.Myanmar_Extended_B)
    ∷ (0xAA60, 0xAA7F, values.Myanmar_Extended_A)
    ∷ (0x116D0, 0x116FF, values.Myanmar_Extended_C)
    ∷ []
