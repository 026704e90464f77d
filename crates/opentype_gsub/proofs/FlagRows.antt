-- Worked rows of the flags that lookups of GSUB set.
use Rattle.std.specs.Prelude.{◌≡◌, ℕ, true, false, None, Some, List, [], ◌∷◌, map, refl}
use Rattle.shapers_buffer.specs.Glyphs.{Glyph, Glyphs}
use Rattle.shapers_buffer.specs.Glyph.{default_glyph}
use Rattle.shapers_buffer.specs.declared.buffer.level.BufferClusterLevel.TheVariants.{MonotoneGraphemes}
use Rattle.opentype_layout.specs.Rules.{Found}
use Rattle.opentype_gsub.specs.Edits.{replaced}
use Rattle.opentype_layout.specs.Looking.{is_short}
use Rattle.opentype_gsub.specs.Flagged.{unbroken}
use Rattle.opentype_gsub.specs.Came.{begun}
use Rattle.opentype_gsub.specs.Reversed.{with_glyph}
use Rattle.opentype_gsub.specs.Setting.{Setting}

abbrev glyph : ℕ → ℕ → Glyph
glyph cluster mask = record default_glyph { glyph_id = 9; mask = mask; cluster = cluster }

abbrev masks : Glyphs → List ℕ
masks gs = map (λ g. g.mask) gs

abbrev text : Glyphs
text = glyph 1 8 ∷ glyph 2 8 ∷ glyph 2 9 ∷ glyph 4 8 ∷ glyph 5 8 ∷ []

-- those between two places whose cluster isn't the least one there, bits 1 and 2; the second place is
-- behind the last one
three_of_five : masks (unbroken 5 1 4 text) ≡ 8 ∷ 8 ∷ 9 ∷ 11 ∷ 8 ∷ []
unfolding unbroken is_short
three_of_five = refl

-- from the first one on, up to the last one, and up to a place behind the text
from_the_start : masks (unbroken 5 0 2 text) ≡ 8 ∷ 11 ∷ 9 ∷ 8 ∷ 8 ∷ []
unfolding unbroken is_short
from_the_start = refl

up_to_the_end : masks (unbroken 5 3 5 text) ≡ 8 ∷ 8 ∷ 9 ∷ 8 ∷ 11 ∷ []
unfolding unbroken is_short
up_to_the_end = refl

behind_the_end : masks (unbroken 5 3 9 text) ≡ 8 ∷ 8 ∷ 9 ∷ 8 ∷ 11 ∷ []
unfolding unbroken is_short
behind_the_end = refl

-- one glyph, none, and a stretch whose places are the wrong way round
one_alone : masks (unbroken 5 3 4 text) ≡ 8 ∷ 8 ∷ 9 ∷ 8 ∷ 8 ∷ []
unfolding unbroken is_short
one_alone = refl

none_at_all : masks (unbroken 5 3 3 text) ≡ 8 ∷ 8 ∷ 9 ∷ 8 ∷ 8 ∷ []
unfolding unbroken is_short
none_at_all = refl

the_wrong_way : masks (unbroken 5 4 3 text) ≡ 8 ∷ 8 ∷ 9 ∷ 8 ∷ 8 ∷ []
unfolding unbroken is_short
the_wrong_way = refl

-- clusters that fall: the least one is the last
falling : masks (unbroken 3 0 3 (glyph 5 8 ∷ glyph 4 8 ∷ glyph 2 8 ∷ [])) ≡ 11 ∷ 11 ∷ 8 ∷ []
unfolding unbroken is_short
falling = refl

-- at most 255 glyphs are flagged in a text of 300
up_to_255 : map (λ span. is_short span 300 300) (0 ∷ 255 ∷ 256 ∷ []) ≡ true ∷ true ∷ false ∷ []
unfolding is_short
up_to_255 = refl

-- three that were added don't count, and there have to be as many; three that were removed count
without_added : map (λ span. is_short span 297 300) (2 ∷ 3 ∷ 258 ∷ 259 ∷ []) ≡ false ∷ true ∷ true ∷ false ∷ []
unfolding is_short
without_added = refl

with_removed : map (λ span. is_short span 303 300) (0 ∷ 252 ∷ 253 ∷ []) ≡ true ∷ true ∷ false ∷ []
unfolding is_short
with_removed = refl

-- a text to which two were added, and four
two_added : masks (unbroken 3 1 4 text) ≡ 8 ∷ 8 ∷ 9 ∷ 11 ∷ 8 ∷ []
unfolding unbroken is_short
two_added = refl

four_added : masks (unbroken 1 1 4 text) ≡ 8 ∷ 8 ∷ 9 ∷ 8 ∷ 8 ∷ []
unfolding unbroken is_short
four_added = refl

-- a rule that looked from place 1 up to place 4, in a text of five glyphs that had one: in a chained
-- context the added ones count, in a context they don't
abbrev setting : Setting
setting = record {
  gdef = [];
  gsub = [];
  level = MonotoneGraphemes;
  concat = false;
  len = 1;
  limit = 9;
  lookup = record { index = 0; mask = 8; auto_zwnj = true; auto_zwj = true; random = false; per_syllable = false };
}

abbrev rule : Found
rule = record { records = []; count = 0; places = 2 ∷ []; end = 3; start = 1; stop = 4 }

in_context : begun setting false text rule ≡ record {
  text = glyph 1 8 ∷ glyph 2 8 ∷ glyph 2 9 ∷ glyph 4 11 ∷ glyph 5 8 ∷ [];
  frame = record { records = []; count = 0; next = 0; places = 2 ∷ []; end = 3; sequence = 0; before = 5 };
}
unfolding begun unbroken is_short
in_context = refl

in_chained_context : (begun setting true text rule).text ≡ text
unfolding begun unbroken is_short
in_chained_context = refl

-- one glyph for another by type 8: the stretch is flagged, and the glyph at the place keeps its flags
reversed : with_glyph [] text 3 (Some (record { glyph = 7; start = 1; stop = 5 }))
    ≡ glyph 1 8 ∷ glyph 2 8 ∷ glyph 2 9 ∷ replaced [] 7 0 (glyph 4 11) ∷ glyph 5 11 ∷ []
unfolding unbroken is_short
reversed = refl

not_reversed : with_glyph [] text 3 None ≡ text
not_reversed = refl
