-- A text in parts: each ends with a longest sequence of tiles, before which stands its word. A cell
-- is a glyph with its position.
use Rattle.std.specs.Prelude.{◌==◌, Bool, false, not, ◌&&◌, ◌||◌, List, [], ◌∷◌, map, if◌then◌else◌}
use Rattle.std.specs.List.{onto_first}
use Rattle.shapers_buffer.specs.declared.buffer.category.hb_unicode_general_category_t.{hb_unicode_general_category_t}
use Rattle.shapers_buffer.specs.declared.buffer.category.hb_unicode_general_category_t.TheVariants.{Cn, Co, Lm, Lo, Mc, Me, Mn, Nd, Nl, No, Sc, Sk, Sm, So}
use Rattle.shapers_buffer.specs.declared.buffer.glyph.GlyphPosition.{GlyphPosition}
use Rattle.shapers_buffer.specs.Glyphs.{Glyph, Glyphs}
use Rattle.shapers_buffer.specs.Lists.{last_stretch, before_last_stretch}
use Rattle.shapers_buffer.specs.Properties.{general_category, is_ignorable, is_substituted}
use Rattle.shapers_arabic.specs.declared.ot_shaper_arabic.arabic_action_t.TheConstants.{STRETCHING_FIXED, STRETCHING_REPEATING}
use Rattle.std.specs.Prelude.{true}

-- a glyph with its position
abbrev pub Cell : Type 0
Cell = Glyph × GlyphPosition

-- the glyphs and the positions of cells
abbrev pub glyphs_of : List Cell → Glyphs
glyphs_of cs = map (λ c. c.0) cs

abbrev pub positions_of : List Cell → List GlyphPosition
positions_of cs = map (λ c. c.1) cs

-- whether a glyph is a tile, and whether it is one that repeats
abbrev pub is_tile : Glyph → Bool
is_tile g = g.auxiliary == STRETCHING_FIXED || g.auxiliary == STRETCHING_REPEATING

abbrev pub repeats : Glyph → Bool
repeats g = g.auxiliary == STRETCHING_REPEATING

-- the general categories of words, without the cased letters
abbrev pub is_word_category : hb_unicode_general_category_t → Bool
is_word_category Cn = true
is_word_category Co = true
is_word_category Lm = true
is_word_category Lo = true
is_word_category Mc = true
is_word_category Me = true
is_word_category Mn = true
is_word_category Nd = true
is_word_category Nl = true
is_word_category No = true
is_word_category Sc = true
is_word_category Sk = true
is_word_category Sm = true
is_word_category So = true
is_word_category _ = false

-- whether a glyph can be of the word before a sequence: no tile, undrawn by nature or of such a
-- category
abbrev pub in_word : Glyph → Bool
in_word g = not (is_tile g)
    && (is_ignorable g.unicode_props && not (is_substituted g.glyph_props)
    || is_word_category (general_category g.unicode_props))

-- the list cut wherever two neighbours stand so
abbrev pub cut_here : {X : Type 0} → (X → X → Bool) → X → List X → Bool
cut_here apart x [] = false
cut_here apart x (y ∷ ys) = apart x y

abbrev pub cut_between : {X : Type 0} → (X → X → Bool) → List X → List (List X)
cut_between apart [] = []
cut_between apart (x ∷ xs) =
    if cut_here apart x xs then (x ∷ []) ∷ cut_between apart xs
    else onto_first x (cut_between apart xs)

-- whether a sequence of tiles ends between two cells
abbrev pub sequence_ends : Cell → Cell → Bool
sequence_ends a b = is_tile a.0 && not (is_tile b.0)

-- the parts of a text: cut behind each longest sequence of tiles
abbrev pub parts_of_text : List Cell → List (List Cell)
parts_of_text cs = cut_between sequence_ends cs

-- the tiles at the end of a part, the word directly before them, and what stands before that
abbrev pub tiles_of : List Cell → List Cell
tiles_of part = last_stretch (λ c. is_tile c.0) part

abbrev pub before_tiles : List Cell → List Cell
before_tiles part = before_last_stretch (λ c. is_tile c.0) part

abbrev pub word_of : List Cell → List Cell
word_of part = last_stretch (λ c. in_word c.0) (before_tiles part)

abbrev pub before_word : List Cell → List Cell
before_word part = before_last_stretch (λ c. in_word c.0) (before_tiles part)
