-- The class by which marks are ordered.
use Rattle.std.specs.Prelude.{ℕ, List, [], ◌∷◌, Option, Some, None}
use Rattle.ucd_table.specs.Rows.{Row, value_in}
use Rattle.shapers_unicode.specs.ClassRows.{class_rows}
use Rattle.shapers_unicode.specs.Values.{over}

-- Unicode's Canonical_Combining_Class
abbrev pub combining_class : ℕ → ℕ
combining_class = value_in 0 class_rows

-- The classes that HarfBuzz changes (hb-unicode.hh). Hebrew's points go into the order of the SBL
-- Hebrew manual; a shadda before Arabic's other marks; Telugu's length marks get none; Thai's
-- SARA U and UU go before PHINTHU; Tibetan's vowel sign U before I.
unfoldable pub changed_classes : List (Row ℕ)
changed_classes =
    (10, 10, 22) ∷ (11, 11, 15) ∷ (12, 12, 16) ∷ (13, 13, 17) ∷ (14, 14, 23) ∷ (15, 15, 18)
    ∷ (16, 16, 19) ∷ (17, 17, 20) ∷ (18, 18, 21) ∷ (19, 19, 14) ∷ (20, 20, 24) ∷ (21, 21, 12)
    ∷ (22, 22, 25) ∷ (23, 23, 13) ∷ (24, 24, 10) ∷ (25, 25, 11) ∷ (27, 27, 28) ∷ (28, 28, 29)
    ∷ (29, 29, 30) ∷ (30, 30, 31) ∷ (31, 31, 32) ∷ (32, 32, 33) ∷ (33, 33, 27) ∷ (84, 84, 0)
    ∷ (91, 91, 0) ∷ (103, 103, 3) ∷ (130, 130, 132) ∷ (132, 132, 131) ∷ []

-- The characters whose class it changes: Tibetan's TSA -PHRU goes before its vowel signs U, its
-- PADMA and Tai Tham's SAKOT behind all marks.
unfoldable pub class_exceptions : List (Row (Option ℕ))
class_exceptions =
    (0x0F39, 0x0F39, Some 127) ∷ (0x0FC6, 0x0FC6, Some 254) ∷ (0x1A60, 0x1A60, Some 254) ∷ []

unfoldable pub modified_class : ℕ → ℕ
modified_class c =
    over (value_in None class_exceptions c)
    (value_in (combining_class c) changed_classes (combining_class c))
