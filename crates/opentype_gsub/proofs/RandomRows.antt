-- Worked rows of alternates that are picked at random.
use Rattle.std.specs.Prelude.{◌≡◌, ℕ, ◌+◌, ◌%◌, true, false, Bool, None, Some, List, [], ◌∷◌, ◌++◌, map, refl}
use Rattle.shapers_buffer.specs.Glyph.{default_glyph}
use Rattle.shapers_buffer.specs.Glyphs.{Glyph, Glyphs}
use Rattle.shapers_buffer.specs.declared.buffer.level.BufferClusterLevel.TheVariants.{MonotoneGraphemes}
use Rattle.shapers_buffer.specs.declared.buffer.lookup_record.LookupRecord.{LookupRecord}
use Rattle.opentype_face.specs.Ranges.{bisect}
use Rattle.opentype_layout.specs.declared.sight.Sight.{Sight}
use Rattle.opentype_gsub.specs.Applied.{PlaceChange, alternate_put, chosen_put, is_random, next_state, random_put}
use Rattle.opentype_gsub.specs.Edits.{new_props, replaced}
use Rattle.opentype_gsub.specs.Setting.{Setting}

-- eight states behind the first one; the third product has more than 32 bits
states : map next_state (1 ∷ 48271 ∷ 182605794 ∷ 1291390782 ∷ 1716587427 ∷ 735130638 ∷ 471227346 ∷ 468419150 ∷ [])
    ≡ 48271 ∷ 182605794 ∷ 1291390782 ∷ 1716587427 ∷ 735130638 ∷ 471227346 ∷ 468419150 ∷ 205459859 ∷ []
states = refl

-- which of 100 alternates hb-shape 6.0.0 takes for eight glyphs, one after another
picks : map (λ state. state % 100 + 1)
    (48271 ∷ 182605794 ∷ 1291390782 ∷ 1716587427 ∷ 735130638 ∷ 471227346 ∷ 468419150 ∷ 205459859 ∷ [])
    ≡ 72 ∷ 95 ∷ 83 ∷ 28 ∷ 39 ∷ 47 ∷ 51 ∷ 60 ∷ []
picks = refl

-- a feature of the bits 8 to 15, and glyphs by its value
abbrev by_eight_bits : Sight
by_eight_bits = record {
  flag = 0;
  set = 0;
  mask = 65280;
  syllable = 0;
  over_zwnj = false;
  over_zwj = false;
  of_gpos = false;
}

abbrev valued : ℕ → ℕ → ℕ → Glyph
valued number cluster mask = record default_glyph { glyph_id = number; mask = mask; cluster = cluster }

-- the value 255 asks for one at random, where the plan allows it
asking : map (λ mask. is_random true by_eight_bits (valued 5 1 mask)) (65280 ∷ 65024 ∷ 256 ∷ 65283 ∷ [])
    ≡ true ∷ false ∷ false ∷ true ∷ []
asking = refl

not_asking : is_random false by_eight_bits (valued 5 1 65280) ≡ false
not_asking = refl

-- type 3: glyph 5 has the alternates 20, 21 and 22, and glyph 9 has none
abbrev sets : List ℕ
sets = (0 ∷ 1 ∷ 0 ∷ 10 ∷ 0 ∷ 2 ∷ 0 ∷ 18 ∷ 0 ∷ 26 ∷ []) ++ ((0 ∷ 1 ∷ 0 ∷ 2 ∷ 0 ∷ 5 ∷ 0 ∷ 9 ∷ [])
    ++ (0 ∷ 3 ∷ 0 ∷ 20 ∷ 0 ∷ 21 ∷ 0 ∷ 22 ∷ 0 ∷ 0 ∷ []))

abbrev setting : Bool → Setting
setting random = record {
  gdef = [];
  gsub = [];
  level = MonotoneGraphemes;
  concat = false;
  len = 2;
  limit = 9;
  lookup = record { index = 0; mask = 65280; auto_zwnj = true; auto_zwj = true; random = random; per_syllable = false };
}

abbrev with_state : ℕ → LookupRecord
with_state state = record {
  ligature_serial = 5;
  random_state = state;
  operations_left = 100;
  is_complete = true;
}

abbrev text_of : ℕ → ℕ → Glyphs
text_of number mask = valued number 1 mask ∷ valued 8 2 0 ∷ []

abbrev changed : ℕ → ℕ → ℕ → PlaceChange
changed number flags state = record {
  text = record (valued number 1 65280) { glyph_props = record { 0 = 16 } } ∷ valued 8 2 flags ∷ [];
  next = 1;
  lookups = with_state state;
}

-- 48271 leaves 1 by 3, so that the second alternate is taken; no break is in the text
from_one : chosen_put (setting true) by_eight_bits sets (text_of 5 65280) 0 (with_state 1) ≡ Some (changed 21 3 48271)
unfolding chosen_put random_put bisect replaced new_props
from_one = refl

-- and 182605794 leaves 0
from_second : chosen_put (setting true) by_eight_bits sets (text_of 5 65280) 0 (with_state 48271) ≡ Some (changed 20 3 182605794)
unfolding chosen_put random_put bisect replaced new_props
from_second = refl

-- a set without alternates, and a glyph without a set
from_none : map (λ number. chosen_put (setting true) by_eight_bits sets (text_of number 65280) 0 (with_state 1)) (9 ∷ 7 ∷ [])
    ≡ None ∷ None ∷ []
unfolding chosen_put random_put bisect
from_none = refl

-- another value chooses, and the state stays; so does 255 where the plan allows no chance
by_value : chosen_put (setting true) by_eight_bits sets (text_of 5 768) 0 (with_state 1) ≡ Some (record {
  text = record (valued 22 1 768) { glyph_props = record { 0 = 16 } } ∷ valued 8 2 0 ∷ [];
  next = 1;
  lookups = with_state 1;
})
unfolding chosen_put alternate_put bisect replaced new_props
by_value = refl

too_high : chosen_put (setting false) by_eight_bits sets (text_of 5 65280) 0 (with_state 1) ≡ None
unfolding chosen_put alternate_put bisect
too_high = refl
