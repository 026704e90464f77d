-- Worked rows of what a lookup of GSUB sees.
use Rattle.std.specs.Prelude.{◌≡◌, ℕ, true, false, Bool, List, [], ◌∷◌, refl}
use Rattle.shapers_buffer.specs.Glyph.{default_glyph}
use Rattle.shapers_buffer.specs.Glyphs.{Glyph}
use Rattle.opentype_layout.specs.Sight.{flag_in, sight_of_context, sight_of_input}
use Rattle.opentype_gsub.specs.Setting.{sights_within, syllable_from}
use Rattle.opentype_gsub.specs.declared.pass.LookupUse.{LookupUse}

abbrev use_of : Bool → LookupUse
use_of per_syllable = record { index = 4; mask = 512; auto_zwnj = true; auto_zwj = false; random = false; per_syllable = per_syllable }

abbrev third : Glyph
third = record default_glyph { syllable = 3 }

-- within the glyph's syllable, if the lookup stays in syllables
staying : syllable_from (use_of true) third ≡ 3
staying = refl

not_staying : syllable_from (use_of false) third ≡ 0
not_staying = refl

-- type 1, flag 2 (bases are ignored), no subtables
abbrev table : List ℕ
table = 0 ∷ 1 ∷ 0 ∷ 2 ∷ 0 ∷ 0 ∷ []

within_third : sights_within [] (use_of true) table 3 ≡ record {
  input = record { flag = 2; set = 0; mask = 512; syllable = 3; over_zwnj = false; over_zwj = false; of_gpos = false };
  context = record { flag = 2; set = 0; mask = 0xFFFFFFFF; syllable = 3; over_zwnj = true; over_zwj = true; of_gpos = false };
}
unfolding sights_within sight_of_input sight_of_context flag_in
within_third = refl

-- anywhere: by 0, and of a lookup that doesn't stay in syllables
anywhere : sights_within [] (use_of true) table 0 ≡ record {
  input = record { flag = 2; set = 0; mask = 512; syllable = 0; over_zwnj = false; over_zwj = false; of_gpos = false };
  context = record { flag = 2; set = 0; mask = 0xFFFFFFFF; syllable = 0; over_zwnj = true; over_zwj = true; of_gpos = false };
}
unfolding sights_within sight_of_input sight_of_context flag_in
anywhere = refl

across : sights_within [] (use_of false) table 3 ≡ sights_within [] (use_of false) table 0
unfolding sights_within sight_of_input sight_of_context flag_in
across = refl
