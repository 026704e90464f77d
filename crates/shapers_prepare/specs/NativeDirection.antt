-- The direction that a text is shaped in: its script's own.
use Rattle.std.specs.Prelude.{Bool, true, false, not, ◌&&◌, ◌||◌, List, [], ◌∷◌, flat_map, map, reverse, Option, None, Some, codes, if◌then◌else◌}
use Rattle.std.specs.List.{list_any}
use Rattle.shapers_buffer.specs.declared.buffer.category.hb_unicode_general_category_t.{hb_unicode_general_category_t}
use Rattle.shapers_buffer.specs.declared.buffer.category.hb_unicode_general_category_t.TheVariants.{Ll, Lm, Lo, Lt, Lu, Nd}
use Rattle.shapers_buffer.specs.Glyphs.{Glyph, Glyphs}
use Rattle.shapers_buffer.specs.declared.buffer.level.BufferClusterLevel.{BufferClusterLevel}
use Rattle.shapers_buffer.specs.declared.buffer.level.BufferClusterLevel.TheVariants.{MonotoneCharacters}
use Rattle.shapers_buffer.specs.declared.buffer.level.Direction.{Direction}
use Rattle.shapers_buffer.specs.declared.buffer.level.Direction.TheVariants.{Invalid, LeftToRight, RightToLeft, TopToBottom, BottomToTop}
use Rattle.shapers_buffer.specs.declared.buffer.tag.Script.{Script}
use Rattle.shapers_buffer.specs.Buffer.{Buffer}
use Rattle.shapers_buffer.specs.Clusters.{merge_all, stretch_of}
use Rattle.shapers_buffer.specs.Properties.{general_category}
use Rattle.shapers_choice.specs.Choice.{is_among}
use Rattle.shapers_prepare.specs.GlyphProperties.{is_regional_indicator}
use Rattle.shapers_prepare.specs.Graphemes.{graphemes}

-- the scripts that go from right to left, by their codes in ISO 15924, and those that run either
-- way
abbrev pub right_to_left_scripts : List Script
right_to_left_scripts = map (λ code. record { 0 = codes code }) (
    "Adlm" ∷ "Arab" ∷ "Armi" ∷ "Avst" ∷ "Chrs" ∷ "Cprt" ∷ "Elym" ∷ "Gara" ∷ "Hatr" ∷ "Hebr" ∷
    "Khar" ∷ "Lydi" ∷ "Mand" ∷ "Mani" ∷ "Mend" ∷ "Merc" ∷ "Mero" ∷ "Narb" ∷ "Nbat" ∷ "Nkoo" ∷
    "Orkh" ∷ "Ougr" ∷ "Palm" ∷ "Phli" ∷ "Phlp" ∷ "Phnx" ∷ "Prti" ∷ "Rohg" ∷ "Samr" ∷ "Sarb" ∷
    "Sidt" ∷ "Sogd" ∷ "Sogo" ∷ "Syrc" ∷ "Thaa" ∷ "Yezi" ∷ [])

abbrev pub either_way_scripts : List Script
either_way_scripts =
    map (λ code. record { 0 = codes code }) ("Hung" ∷ "Ital" ∷ "Runr" ∷ "Tfng" ∷ [])

-- the horizontal direction of a script, if it has one of its own
abbrev pub script_direction : Script → Direction
script_direction s =
    if is_among right_to_left_scripts s then RightToLeft
    else if is_among either_way_scripts s then Invalid else LeftToRight

abbrev pub native_direction : Option Script → Direction
native_direction None = Invalid
native_direction (Some s) = script_direction s

-- letters, and what goes from left to right in any script: decimal numbers and flags
abbrev pub is_letter_category : hb_unicode_general_category_t → Bool
is_letter_category Ll = true
is_letter_category Lm = true
is_letter_category Lo = true
is_letter_category Lt = true
is_letter_category Lu = true
is_letter_category _ = false

abbrev pub is_decimal_number : hb_unicode_general_category_t → Bool
is_decimal_number Nd = true
is_decimal_number _ = false

abbrev pub is_letter_glyph : Glyph → Bool
is_letter_glyph g = is_letter_category (general_category g.unicode_props)

abbrev pub is_number_or_flag : Glyph → Bool
is_number_or_flag g =
    is_decimal_number (general_category g.unicode_props) || is_regional_indicator g.glyph_id

-- numbers or flags, and no letter beside them
abbrev pub are_numbers_or_flags : Glyphs → Bool
are_numbers_or_flags gs = list_any is_number_or_flag gs && not (list_any is_letter_glyph gs)

-- the direction of a text's own, whose script has one: numbers and flags in a text from left to
-- right stay so
abbrev pub text_direction : Direction → Direction → Glyphs → Direction
text_direction LeftToRight RightToLeft gs =
    if are_numbers_or_flags gs then LeftToRight else RightToLeft
text_direction _ native gs = native

-- whether a text is shaped in the other direction: where its own is the other one, and from bottom
-- to top always
abbrev pub is_reversed : Direction → Direction → Bool
is_reversed LeftToRight RightToLeft = true
is_reversed RightToLeft LeftToRight = true
is_reversed BottomToTop _ = true
is_reversed _ _ = false

abbrev pub opposite_direction : Direction → Direction
opposite_direction Invalid = Invalid
opposite_direction LeftToRight = RightToLeft
opposite_direction RightToLeft = LeftToRight
opposite_direction TopToBottom = BottomToTop
opposite_direction BottomToTop = TopToBottom

-- at the level of characters each grapheme comes into one cluster before it is reversed with
-- others; at that of graphemes it is in one
abbrev pub graphemes_whole : BufferClusterLevel → Glyphs → Glyphs
graphemes_whole MonotoneCharacters gs = merge_all MonotoneCharacters (graphemes gs) gs
graphemes_whole _ gs = gs

-- the graphemes from the last to the first, each as it is
abbrev pub graphemes_reversed : Glyphs → Glyphs
graphemes_reversed gs = flat_map (λ st. stretch_of st.0 st.1 gs) (reverse (graphemes gs))

-- the buffer in its text's own direction
abbrev pub in_native_direction : Buffer → Buffer
in_native_direction b =
    let own = text_direction b.direction (native_direction b.script) b.glyphs in
    let turned : Buffer = record b {
      direction = opposite_direction b.direction;
      glyphs = graphemes_reversed (graphemes_whole b.level b.glyphs);
    } in
    if is_reversed b.direction own then turned else b
