-- Vowels that look like another one together, of the Indic and the universal shaper: a circle parts
-- them (Microsoft's Indic_Shaping_Invalid_Cluster).
use Rattle.std.specs.Prelude.{ℕ, ◌==◌, ◌-◌, Bool, false, ◌&&◌, List, [], ◌∷◌, ◌++◌, Option, None, Some, codes, if◌then◌else◌}
use Rattle.std.specs.List.{list_any}
use Rattle.shapers_base.specs.Font.{dotted_circle}
use Rattle.shapers_buffer.specs.Glyphs.{Glyph, Glyphs}
use Rattle.shapers_buffer.specs.declared.buffer.tag.Script.{Script}
use Rattle.shapers_buffer.specs.Buffer.{Buffer, asks, no_dotted_circle}
use Rattle.shapers_buffer.specs.Properties.{CONTINUATION, without_property}
use Rattle.shapers_choice.specs.Choice.{is_code}
use Rattle.shapers_prepare.specs.declared.ot_shape_prepare.vowels.VowelScript.{VowelScript}
use Rattle.shapers_prepare.specs.declared.ot_shape_prepare.vowels.VowelScript.TheVariants as scripts
use Rattle.shapers_prepare.specs.VowelRows as rows

-- the scripts that have such vowels, by their codes in ISO 15924: of the universal shaper, and of
-- both
abbrev pub universal_vowel_script : Script → Option VowelScript
universal_vowel_script s =
    if is_code (codes "Sinh") s then Some scripts.Sinhala
    else if is_code (codes "Brah") s then Some scripts.Brahmi
    else if is_code (codes "Khoj") s then Some scripts.Khojki
    else if is_code (codes "Sind") s then Some scripts.Khudawadi
    else if is_code (codes "Tirh") s then Some scripts.Tirhuta
    else if is_code (codes "Modi") s then Some scripts.Modi
    else if is_code (codes "Takr") s then Some scripts.Takri
    else None

abbrev pub vowel_script : Script → Option VowelScript
vowel_script s =
    if is_code (codes "Deva") s then Some scripts.Devanagari
    else if is_code (codes "Beng") s then Some scripts.Bengali
    else if is_code (codes "Guru") s then Some scripts.Gurmukhi
    else if is_code (codes "Gujr") s then Some scripts.Gujarati
    else if is_code (codes "Orya") s then Some scripts.Oriya
    else if is_code (codes "Taml") s then Some scripts.Tamil
    else if is_code (codes "Telu") s then Some scripts.Telugu
    else if is_code (codes "Knda") s then Some scripts.Kannada
    else if is_code (codes "Mlym") s then Some scripts.Malayalam
    else universal_vowel_script s

-- whether two characters are one of these pairs
abbrev pub is_among_pairs : List (ℕ × ℕ) → ℕ → ℕ → Bool
is_among_pairs pairs a b = list_any (λ pair. pair.0 == a && pair.1 == b) pairs

abbrev pub is_vowel_pair : VowelScript → ℕ → ℕ → Bool
is_vowel_pair scripts.Devanagari a b = is_among_pairs rows.devanagari_pairs a b
is_vowel_pair scripts.Bengali a b = is_among_pairs rows.bengali_pairs a b
is_vowel_pair scripts.Gurmukhi a b = is_among_pairs rows.gurmukhi_pairs a b
is_vowel_pair scripts.Gujarati a b = is_among_pairs rows.gujarati_pairs a b
is_vowel_pair scripts.Oriya a b = is_among_pairs rows.oriya_pairs a b
is_vowel_pair scripts.Tamil a b = is_among_pairs rows.tamil_pairs a b
is_vowel_pair scripts.Telugu a b = is_among_pairs rows.telugu_pairs a b
is_vowel_pair scripts.Kannada a b = is_among_pairs rows.kannada_pairs a b
is_vowel_pair scripts.Malayalam a b = is_among_pairs rows.malayalam_pairs a b
is_vowel_pair scripts.Sinhala a b = is_among_pairs rows.sinhala_pairs a b
is_vowel_pair scripts.Brahmi a b = is_among_pairs rows.brahmi_pairs a b
is_vowel_pair scripts.Khojki a b = is_among_pairs rows.khojki_pairs a b
is_vowel_pair scripts.Khudawadi a b = is_among_pairs rows.khudawadi_pairs a b
is_vowel_pair scripts.Tirhuta a b = is_among_pairs rows.tirhuta_pairs a b
is_vowel_pair scripts.Modi a b = is_among_pairs rows.modi_pairs a b
is_vowel_pair scripts.Takri a b = is_among_pairs rows.takri_pairs a b

-- Devanagari's RA, virama and I look like II
abbrev pub is_vowel_triple : VowelScript → ℕ → ℕ → ℕ → Bool
is_vowel_triple scripts.Devanagari a b c = a == 0x0930 && b == 0x094D && c == 0x0907
is_vowel_triple _ a b c = false

-- how many glyphs behind the first one are of a pair or a triple that begins the text, 0 where none
-- does
abbrev pub triple_behind : VowelScript → ℕ → ℕ → Glyphs → ℕ
triple_behind s a b [] = 0
triple_behind s a b (g ∷ gs) = if is_vowel_triple s a b g.glyph_id then 2 else 0

abbrev pub pair_behind : VowelScript → ℕ → Glyphs → ℕ
pair_behind s a [] = 0
pair_behind s a (g ∷ gs) =
    if is_vowel_pair s a g.glyph_id then 1 else triple_behind s a g.glyph_id gs

-- how many glyphs behind this one are left of a pair or triple, if so many were left of one with it
abbrev pub left_behind : VowelScript → ℕ → Glyph → Glyphs → ℕ
left_behind s n g gs = if n == 0 then pair_behind s g.glyph_id gs else n - 1

-- the circle before the last one of a pair or triple: a copy of that, which begins a grapheme
abbrev pub vowel_circle : Glyph → Glyph
vowel_circle g =
    let begun = without_property CONTINUATION g.unicode_props in
    record g { glyph_id = dotted_circle; unicode_props = begun }

abbrev pub circle_before_last : ℕ → Glyph → Glyphs
circle_before_last n g = if n == 1 then vowel_circle g ∷ [] else []

-- a text with its circles, where so many glyphs in front are left of a pair or triple; the search
-- for the next one goes on behind it
abbrev pub vowels_circled_from : VowelScript → ℕ → Glyphs → Glyphs
vowels_circled_from s n [] = []
vowels_circled_from s n (g ∷ gs) =
    circle_before_last n g ++ g ∷ vowels_circled_from s (left_behind s n g gs) gs

abbrev pub vowels_circled_in : Option VowelScript → Glyphs → Glyphs
vowels_circled_in None gs = gs
vowels_circled_in (Some s) gs = vowels_circled_from s 0 gs

-- the script of a buffer's text, if it has such vowels and circles are allowed
abbrev pub script_if_known : Option Script → Option VowelScript
script_if_known None = None
script_if_known (Some s) = vowel_script s

abbrev pub vowel_script_of : Buffer → Option VowelScript
vowel_script_of b = if asks no_dotted_circle b then None else script_if_known b.script

-- the text with its circles, where the caller allows them
abbrev pub vowels_circled : Buffer → Glyphs
vowels_circled b = vowels_circled_in (vowel_script_of b) b.glyphs
