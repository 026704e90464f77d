-- Worked rows: how far rules look that don't fit.
use Rattle.std.specs.Prelude.{◌≡◌, ℕ, true, false, List, [], ◌∷◌, map, refl}
use Rattle.shapers_buffer.specs.Glyph.{default_glyph}
use Rattle.shapers_buffer.specs.Glyphs.{Glyphs}
use Rattle.shapers_buffer.specs.declared.buffer.level.BufferClusterLevel.TheVariants.{MonotoneGraphemes}
use Rattle.opentype_face.specs.Firsts.{first_from}
use Rattle.opentype_face.specs.Ranges.{bisect}
use Rattle.opentype_layout.specs.Ligatures.{input_in, is_apart}
use Rattle.opentype_layout.specs.Pattern.{places_from, seen_by}
use Rattle.opentype_layout.specs.Rules.{around, end_in, found_at, reach_before, reach_behind, reach_from}
use Rattle.opentype_layout.specs.Sight.{flag_in, ignores, may_pass, next_from, seen_as, sight_of_context, sight_of_input}
use Rattle.opentype_gsub.specs.Applied.{ligated_put, one_put}
use Rattle.opentype_gsub.specs.Came.{nth_came}
use Rattle.opentype_layout.specs.Looking.{all_looked, around_looked, counted, is_short, rule_looked, set_looked, stop_from, swept_from, unjoined}
use Rattle.opentype_gsub.specs.Ligatures.{ligature_of}
use Rattle.opentype_gsub.specs.Looked.{lookup_looked, rules_in, subtable_looked, tried}
use Rattle.opentype_gsub.specs.Reversed.{all_looked_back, around_in, glyphs_at, nth_looked_back, nth_reversed, reverse_looked, reversed_in, tried_back}
use Rattle.opentype_gsub.specs.Setting.{Setting, sights_of}

abbrev text : List ℕ → Glyphs
text numbers = map (λ number. record default_glyph { glyph_id = number; mask = 8 }) numbers

-- ---- by bytes: glyph 5 and glyph 6 ligate
abbrev ligature : List ℕ
ligature = 0 ∷ 4 ∷ 0 ∷ 0 ∷ 0 ∷ 1 ∷ 0 ∷ 8
    ∷ 0 ∷ 1 ∷ 0 ∷ 18 ∷ 0 ∷ 1 ∷ 0 ∷ 8 ∷ 0 ∷ 1 ∷ 0 ∷ 4 ∷ 0 ∷ 30 ∷ 0 ∷ 2 ∷ 0 ∷ 6 ∷ 0 ∷ 1 ∷ 0 ∷ 1 ∷ 0 ∷ 5 ∷ []

abbrev setting : Setting
setting = record {
  gdef = [];
  gsub = [];
  level = MonotoneGraphemes;
  concat = true;
  len = 3;
  limit = 9;
  lookup = record { index = 0; mask = 8; auto_zwnj = true; auto_zwj = true; random = false; per_syllable = false };
}

abbrev masks : Glyphs → List ℕ
masks gs = map (λ g. g.mask) gs

-- glyph 7 instead of glyph 6: both are flagged, and so is glyph 5 at the end of a text
not_ligated : masks (tried setting ligature (text (5 ∷ 7 ∷ 8 ∷ [])) 0) ≡ 10 ∷ 10 ∷ 8 ∷ []
unfolding tried lookup_looked all_looked subtable_looked set_looked rules_in unjoined rule_looked around_looked swept_from stop_from counted is_short input_in is_apart places_from next_from seen_by seen_as ignores may_pass bisect first_from sights_of sight_of_input sight_of_context flag_in nth_came one_put ligated_put ligature_of found_at around reach_behind reach_before reach_from end_in
not_ligated = refl

at_the_end : masks (tried setting ligature (text (7 ∷ 5 ∷ [])) 1) ≡ 8 ∷ 10 ∷ []
unfolding tried lookup_looked all_looked subtable_looked set_looked rules_in unjoined rule_looked around_looked swept_from stop_from counted is_short input_in is_apart places_from next_from seen_by seen_as ignores may_pass bisect first_from sights_of sight_of_input sight_of_context flag_in nth_came one_put ligated_put ligature_of found_at around reach_behind reach_before reach_from end_in
at_the_end = refl

-- none where they ligate, nor at a glyph that no ligature begins with, nor where no such flag is wanted
they_ligate : masks (tried setting ligature (text (5 ∷ 6 ∷ 8 ∷ [])) 0) ≡ 8 ∷ 8 ∷ 8 ∷ []
unfolding tried lookup_looked all_looked subtable_looked set_looked rules_in unjoined rule_looked around_looked swept_from stop_from counted is_short input_in is_apart places_from next_from seen_by seen_as ignores may_pass bisect first_from sights_of sight_of_input sight_of_context flag_in nth_came one_put ligated_put ligature_of found_at around reach_behind reach_before reach_from end_in
they_ligate = refl

not_begun : masks (tried setting ligature (text (7 ∷ 6 ∷ 8 ∷ [])) 0) ≡ 8 ∷ 8 ∷ 8 ∷ []
unfolding tried lookup_looked all_looked subtable_looked set_looked rules_in unjoined rule_looked around_looked swept_from stop_from counted is_short input_in is_apart places_from next_from seen_by seen_as ignores may_pass bisect first_from sights_of sight_of_input sight_of_context flag_in nth_came one_put ligated_put ligature_of found_at around reach_behind reach_before reach_from end_in
not_begun = refl

not_wanted : masks (tried (record setting { concat = false }) ligature (text (5 ∷ 7 ∷ 8 ∷ [])) 0) ≡ 8 ∷ 8 ∷ 8 ∷ []
unfolding tried
not_wanted = refl

-- type 8: glyph 5 becomes 6 before glyph 9. Before glyph 8 both are flagged, none where it fits, and
-- none at another glyph
abbrev reverse : List ℕ
reverse = 0 ∷ 8 ∷ 0 ∷ 0 ∷ 0 ∷ 1 ∷ 0 ∷ 8
    ∷ 0 ∷ 1 ∷ 0 ∷ 14 ∷ 0 ∷ 0 ∷ 0 ∷ 1 ∷ 0 ∷ 20 ∷ 0 ∷ 1 ∷ 0 ∷ 6 ∷ 0 ∷ 1 ∷ 0 ∷ 1 ∷ 0 ∷ 5 ∷ 0 ∷ 1 ∷ 0 ∷ 1 ∷ 0 ∷ 9 ∷ []

back_before : map (λ numbers. masks (tried_back setting reverse (text numbers) 0))
    ((5 ∷ 8 ∷ 7 ∷ []) ∷ (5 ∷ 9 ∷ 7 ∷ []) ∷ (4 ∷ 8 ∷ 7 ∷ []) ∷ [])
    ≡ (10 ∷ 10 ∷ 8 ∷ []) ∷ (8 ∷ 8 ∷ 8 ∷ []) ∷ (8 ∷ 8 ∷ 8 ∷ []) ∷ []
unfolding tried_back all_looked_back all_looked nth_looked_back reverse_looked unjoined swept_from stop_from counted is_short around_in glyphs_at nth_reversed reversed_in found_at around reach_behind reach_before reach_from end_in input_in is_apart places_from next_from seen_by seen_as ignores may_pass bisect first_from sights_of sight_of_input sight_of_context flag_in
back_before = refl
