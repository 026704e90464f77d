-- Vowels parted on small texts.
use Rattle.std.specs.Prelude.{◌≡◌, ℕ, true, false, [], ◌∷◌, List, None, Some, codes, length, map, refl}
use Rattle.shapers_buffer.specs.Glyphs.{Glyph}
use Rattle.shapers_buffer.specs.declared.buffer.tag.Script.{Script}
use Rattle.shapers_buffer.specs.Buffer.{Buffer, new_buffer}
use Rattle.shapers_buffer.specs.Glyph.{characters, default_glyph}
use Rattle.shapers_prepare.specs.declared.ot_shape_prepare.vowels.VowelScript.{VowelScript}
use Rattle.shapers_prepare.specs.declared.ot_shape_prepare.vowels.VowelScript.TheVariants as scripts
use Rattle.shapers_prepare.specs.VowelRows.{devanagari_pairs, bengali_pairs, gurmukhi_pairs, gujarati_pairs, oriya_pairs, tamil_pairs, telugu_pairs, kannada_pairs, malayalam_pairs, sinhala_pairs, brahmi_pairs, khojki_pairs, khudawadi_pairs, tirhuta_pairs, modi_pairs, takri_pairs}
use Rattle.shapers_prepare.specs.Vowels.{is_vowel_pair, vowel_circle, vowel_script, vowels_circled}

-- the scripts, and two without such vowels
of_script : map (λ name. vowel_script (record { 0 = codes name })) ("Deva" ∷ "Beng" ∷ "Guru" ∷ "Gujr" ∷ "Orya" ∷ "Taml"
    ∷ "Telu" ∷ "Knda" ∷ "Mlym" ∷ "Sinh" ∷ "Brah" ∷ "Khoj" ∷ "Sind" ∷ "Tirh" ∷ "Modi" ∷ "Takr" ∷ "Bali" ∷ "Latn" ∷ [])
    ≡ Some scripts.Devanagari ∷ Some scripts.Bengali ∷ Some scripts.Gurmukhi ∷ Some scripts.Gujarati
    ∷ Some scripts.Oriya ∷ Some scripts.Tamil ∷ Some scripts.Telugu ∷ Some scripts.Kannada ∷ Some scripts.Malayalam
    ∷ Some scripts.Sinhala
    ∷ Some scripts.Brahmi ∷ Some scripts.Khojki ∷ Some scripts.Khudawadi ∷ Some scripts.Tirhuta ∷ Some scripts.Modi
    ∷ Some scripts.Takri ∷ None ∷ None ∷ []
of_script = refl

-- how many pairs each script has: 99, and with the triple and the three lines of the file that begin
-- with a shorter one its 103 lines
counts : map length (devanagari_pairs ∷ bengali_pairs ∷ gurmukhi_pairs ∷ gujarati_pairs ∷ oriya_pairs ∷ tamil_pairs
    ∷ telugu_pairs ∷ kannada_pairs ∷ malayalam_pairs ∷ sinhala_pairs ∷ brahmi_pairs ∷ khojki_pairs ∷ khudawadi_pairs
    ∷ tirhuta_pairs ∷ modi_pairs ∷ takri_pairs ∷ [])
    ≡ 21 ∷ 3 ∷ 9 ∷ 8 ∷ 3 ∷ 1 ∷ 5 ∷ 3 ∷ 5 ∷ 13 ∷ 3 ∷ 7 ∷ 5 ∷ 5 ∷ 4 ∷ 4 ∷ []
unfolding devanagari_pairs bengali_pairs gurmukhi_pairs gujarati_pairs oriya_pairs tamil_pairs telugu_pairs
    kannada_pairs malayalam_pairs sinhala_pairs brahmi_pairs khojki_pairs khudawadi_pairs tirhuta_pairs modi_pairs
    takri_pairs
counts = refl

-- a pair of each script, as the file has it, and one of another script
pairs : map (λ (p : VowelScript × (ℕ × ℕ)). is_vowel_pair p.0 p.1.0 p.1.1) (
    (scripts.Devanagari, (0x0905, 0x0946)) ∷ (scripts.Bengali, (0x0985, 0x09BE)) ∷ (scripts.Gurmukhi, (0x0A73, 0x0A4B))
    ∷ (scripts.Gujarati, (0x0AC5, 0x0ABE))
    ∷ (scripts.Oriya, (0x0B13, 0x0B57)) ∷ (scripts.Tamil, (0x0B85, 0x0BC2)) ∷ (scripts.Telugu, (0x0C4A, 0x0C55))
    ∷ (scripts.Kannada, (0x0C8B, 0x0CBE))
    ∷ (scripts.Malayalam, (0x0D12, 0x0D57)) ∷ (scripts.Sinhala, (0x0D91, 0x0DDE)) ∷ (scripts.Brahmi, (0x1100F, 0x11042))
    ∷ (scripts.Khojki, (0x1122C, 0x11231))
    ∷ (scripts.Khudawadi, (0x112B0, 0x112E8)) ∷ (scripts.Tirhuta, (0x114AA, 0x114B6))
    ∷ (scripts.Modi, (0x11601, 0x1163A)) ∷ (scripts.Takri, (0x11686, 0x116B2))
    ∷ (scripts.Bengali, (0x0905, 0x0946)) ∷ (scripts.Devanagari, (0x0904, 0x0946))
    ∷ (scripts.Devanagari, (0x0905, 0x0947)) ∷ [])
    ≡ true ∷ true ∷ true ∷ true ∷ true ∷ true ∷ true ∷ true ∷ true ∷ true ∷ true ∷ true ∷ true ∷ true ∷ true ∷ true
    ∷ false ∷ false ∷ false ∷ []
unfolding devanagari_pairs bengali_pairs gurmukhi_pairs gujarati_pairs oriya_pairs tamil_pairs telugu_pairs
    kannada_pairs malayalam_pairs sinhala_pairs brahmi_pairs khojki_pairs khudawadi_pairs tirhuta_pairs modi_pairs
    takri_pairs
pairs = refl

-- a text of a script
abbrev buffer : List ℕ → ℕ → List ℕ → Buffer
buffer code flags cs =
    let s : Script = record { 0 = code } in
    let b : Buffer =
    record (new_buffer 9) {
      glyphs = map (λ c. let g : Glyph = record default_glyph { glyph_id = c } in g) cs;
      script = Some
          s;
      flags = record { 0 = flags };
    } in
    b

abbrev parted : List ℕ → List ℕ → List ℕ
parted code cs = characters (vowels_circled (buffer code 0 cs))

-- A and short E, with letters around them; one after another
between : parted (codes "Deva") (0x0915 ∷ 0x0905 ∷ 0x0946 ∷ 0x0915 ∷ 0x0905 ∷ 0x0946 ∷ [])
    ≡ 0x0915 ∷ 0x0905 ∷ 0x25CC ∷ 0x0946 ∷ 0x0915 ∷ 0x0905 ∷ 0x25CC ∷ 0x0946 ∷ []
unfolding devanagari_pairs
between = refl

-- RA, virama, I; without the I; with another letter; and behind it what follows
triple : parted (codes "Deva") (0x0930 ∷ 0x094D ∷ 0x0907 ∷ 0x0930 ∷ 0x094D ∷ 0x0908 ∷ 0x0930 ∷ 0x094D ∷ [])
    ≡ 0x0930 ∷ 0x094D ∷ 0x25CC ∷ 0x0907 ∷ 0x0930 ∷ 0x094D ∷ 0x0908 ∷ 0x0930 ∷ 0x094D ∷ []
unfolding devanagari_pairs
triple = refl

-- the search goes on behind a pair: the second sign of one begins none
behind : parted (codes "Gujr") (0x0A85 ∷ 0x0AC5 ∷ 0x0ABE ∷ 0x0AC5 ∷ 0x0ABE ∷ [])
    ≡ 0x0A85 ∷ 0x25CC ∷ 0x0AC5 ∷ 0x0ABE ∷ 0x0AC5 ∷ 0x25CC ∷ 0x0ABE ∷ []
unfolding gujarati_pairs
behind = refl

longer : parted (codes "Khoj") (0x11200 ∷ 0x1122C ∷ 0x11231 ∷ []) ≡ 0x11200 ∷ 0x25CC ∷ 0x1122C ∷ 0x11231 ∷ []
unfolding khojki_pairs
longer = refl

-- another script's text, one letter, none, and the caller's flag
others : map characters (vowels_circled (buffer (codes "Beng") 0 (0x0905 ∷ 0x0946 ∷ []))
    ∷ vowels_circled (buffer (codes "Latn") 0 (0x0905 ∷ 0x0946 ∷ []))
    ∷ vowels_circled (buffer (codes "Deva") 0 (0x0905 ∷ [])) ∷ vowels_circled (buffer (codes "Deva") 0 [])
    ∷ vowels_circled (buffer (codes "Deva") 0x20 (0x0905 ∷ 0x0946 ∷ [])) ∷ [])
    ≡ (0x0905 ∷ 0x0946 ∷ []) ∷ (0x0905 ∷ 0x0946 ∷ []) ∷ (0x0905 ∷ []) ∷ [] ∷ (0x0905 ∷ 0x0946 ∷ []) ∷ []
unfolding devanagari_pairs bengali_pairs
others = refl

-- the circle has all fields of the glyph behind it but its character, and begins a grapheme
circle : vowel_circle (record {
  glyph_id = 0x93E;
  mask = 7;
  cluster = 5;
  glyph_props = record { 0 = 0x70 };
  lig_props = record { 0 = 0x2E };
  syllable = 13;
  unicode_props = record { 0 = 0x17EA };
  category = 17;
  auxiliary = 19;
}) ≡ record {
  glyph_id = 0x25CC;
  mask = 7;
  cluster = 5;
  glyph_props = record { 0 = 0x70 };
  lig_props = record { 0 = 0x2E };
  syllable = 13;
  unicode_props = record { 0 = 0x176A };
  category = 17;
  auxiliary = 19;
}
circle = refl
