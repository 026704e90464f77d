-- Words of the code's walk, which counts the circles first.
use Rattle.std.specs.Prelude.{ℕ, suc, ◌==◌, Bool, ◌&&◌, nat_le, [], ◌∷◌, if◌then◌else◌}
use Rattle.shapers_buffer.specs.Glyphs.{Glyph, Glyphs}
use Rattle.shapers_prepare.specs.declared.ot_shape_prepare.vowels.VowelScript.{VowelScript}
use Rattle.shapers_prepare.specs.declared.ot_shape_prepare.vowels.VowelScript.TheVariants as scripts
use Rattle.shapers_prepare.specs.Vowels.{left_behind}

-- how many circles a text gets, where so many glyphs in front are left of a pair or triple
abbrev pub vowel_circles : VowelScript → ℕ → Glyphs → ℕ
vowel_circles s n [] = 0
vowel_circles s n (g ∷ gs) =
    if n == 1 then suc (vowel_circles s (left_behind s n g gs) gs)
    else vowel_circles s (left_behind s n g gs) gs

-- between which characters those are that open a pair of a script's, and the last one of
-- Devanagari's triple
abbrev pub opening_range : VowelScript → ℕ × ℕ
opening_range scripts.Devanagari = (0x0905, 0x090F)
opening_range scripts.Bengali = (0x0985, 0x098C)
opening_range scripts.Gurmukhi = (0x0A05, 0x0A73)
opening_range scripts.Gujarati = (0x0A85, 0x0AC5)
opening_range scripts.Oriya = (0x0B05, 0x0B13)
opening_range scripts.Tamil = (0x0B85, 0x0B85)
opening_range scripts.Telugu = (0x0C12, 0x0C4A)
opening_range scripts.Kannada = (0x0C89, 0x0C92)
opening_range scripts.Malayalam = (0x0D07, 0x0D12)
opening_range scripts.Sinhala = (0x0D85, 0x0D94)
opening_range scripts.Brahmi = (0x11005, 0x1100F)
opening_range scripts.Khojki = (0x11200, 0x11240)
opening_range scripts.Khudawadi = (0x112B0, 0x112B0)
opening_range scripts.Tirhuta = (0x11481, 0x114AA)
opening_range scripts.Modi = (0x11600, 0x11601)
opening_range scripts.Takri = (0x11680, 0x11686)

-- whether a glyph's character is between these
abbrev pub opens_between : ℕ × ℕ → Glyph → Bool
opens_between range g = nat_le range.0 g.glyph_id && nat_le g.glyph_id range.1
