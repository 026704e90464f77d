-- Directions on small texts.
use Rattle.std.specs.Prelude.{◌≡◌, ℕ, Bool, true, false, [], ◌∷◌, List, None, Some, codes, map, replicate, refl}
use Rattle.shapers_buffer.specs.declared.buffer.category.hb_unicode_general_category_t.{hb_unicode_general_category_t}
use Rattle.shapers_buffer.specs.declared.buffer.category.hb_unicode_general_category_t.TheVariants.{Ll, Lm, Lo, Lt, Lu, Mn, Nd, Nl, No, So, Zs}
use Rattle.shapers_buffer.specs.Glyphs.{Glyph, Glyphs}
use Rattle.shapers_buffer.specs.declared.buffer.level.BufferClusterLevel.{BufferClusterLevel}
use Rattle.shapers_buffer.specs.declared.buffer.level.BufferClusterLevel.TheVariants.{MonotoneGraphemes, MonotoneCharacters, Characters}
use Rattle.shapers_buffer.specs.declared.buffer.level.Direction.{Direction}
use Rattle.shapers_buffer.specs.declared.buffer.level.Direction.TheVariants.{Invalid, LeftToRight, RightToLeft, TopToBottom, BottomToTop}
use Rattle.shapers_buffer.specs.declared.buffer.tag.Script.{Script}
use Rattle.shapers_buffer.specs.Buffer.{Buffer, new_buffer}
use Rattle.shapers_buffer.specs.Glyph.{default_glyph}
use Rattle.shapers_buffer.specs.Properties.{CONTINUATION, general_category, properties, set_property}
use Rattle.shapers_prepare.specs.NativeDirection.{are_numbers_or_flags, graphemes_reversed, in_native_direction, is_reversed, native_direction, opposite_direction, script_direction, text_direction}

abbrev direction_of : List ℕ → Direction
direction_of code = let s : Script = record { 0 = code } in script_direction s

-- Unicode's scripts of right to left, in the order of the versions that brought them
to_left : map (λ name. direction_of (codes name)) (
    "Arab" ∷ "Hebr" ∷ "Syrc" ∷ "Thaa" ∷ "Cprt" ∷ "Khar" ∷ "Phnx" ∷ "Nkoo" ∷ "Lydi" ∷ "Avst" ∷ "Armi" ∷ "Phli" ∷
    "Prti" ∷ "Sarb" ∷ "Orkh" ∷ "Samr" ∷ "Mand" ∷ "Merc" ∷ "Mero" ∷ "Mani" ∷ "Mend" ∷ "Nbat" ∷ "Narb" ∷ "Palm" ∷
    "Phlp" ∷ "Hatr" ∷ "Adlm" ∷ "Rohg" ∷ "Sogo" ∷ "Sogd" ∷ "Elym" ∷ "Chrs" ∷ "Yezi" ∷ "Ougr" ∷ "Gara" ∷ "Sidt" ∷ [])
    ≡ replicate 36 RightToLeft
to_left = refl

either_way : map (λ name. direction_of (codes name)) ("Hung" ∷ "Ital" ∷ "Runr" ∷ "Tfng" ∷ []) ≡ replicate 4 Invalid
either_way = refl

to_right : map (λ name. direction_of (codes name)) ("Latn" ∷ "Deva" ∷ "Mong" ∷ "Ogam" ∷ "Zyyy" ∷ [])
    ≡ replicate 5 LeftToRight
to_right = refl

no_script : native_direction None ≡ Invalid
no_script = refl

-- a glyph of a category, of a regional indicator, and one that goes on
abbrev of_category : hb_unicode_general_category_t → Glyph
of_category c = record default_glyph { unicode_props = properties c 0 }

abbrev indicator : ℕ → Glyph
indicator c = record default_glyph { glyph_id = c; unicode_props = properties So 0 }

-- numbers alone, flags alone (the first, the last, and their neighbours), with a space; each kind of
-- letter beside them; other numbers; nothing
numbers : map are_numbers_or_flags (
    (of_category Nd ∷ []) ∷ (of_category Zs ∷ of_category Nd ∷ []) ∷ (indicator 0x1F1E6 ∷ []) ∷ (indicator 0x1F1FF ∷ [])
    ∷ (indicator 0x1F1E5 ∷ []) ∷ (indicator 0x1F200 ∷ []) ∷ (of_category Nl ∷ of_category No ∷ []) ∷ [] ∷ [])
    ≡ true ∷ true ∷ true ∷ true ∷ false ∷ false ∷ false ∷ false ∷ []
unfolding general_category
numbers = refl

beside_letters : map (λ c. are_numbers_or_flags (of_category Nd ∷ of_category c ∷ [])) (Ll ∷ Lm ∷ Lo ∷ Lt ∷ Lu ∷ Mn ∷ So
    ∷ []) ≡ false ∷ false ∷ false ∷ false ∷ false ∷ true ∷ true ∷ []
unfolding general_category
beside_letters = refl

letters_first : are_numbers_or_flags (of_category Lo ∷ of_category Nd ∷ []) ≡ false
unfolding general_category
letters_first = refl

-- only a text from left to right whose script goes the other way keeps its direction by its numbers
own : map (λ d. text_direction d RightToLeft (of_category Nd ∷ [])) (Invalid ∷ LeftToRight ∷ RightToLeft ∷ TopToBottom
    ∷ BottomToTop ∷ []) ≡ RightToLeft ∷ LeftToRight ∷ RightToLeft ∷ RightToLeft ∷ RightToLeft ∷ []
unfolding general_category
own = refl

own_letters : map (λ d. text_direction LeftToRight d (of_category Lo ∷ [])) (Invalid ∷ LeftToRight ∷ RightToLeft ∷ [])
    ≡ Invalid ∷ LeftToRight ∷ RightToLeft ∷ []
unfolding general_category
own_letters = refl

-- the other direction, for each direction of a text and of its script
abbrev turned_for : Direction → List Bool
turned_for native = map (λ d. is_reversed d native) (Invalid ∷ LeftToRight ∷ RightToLeft ∷ TopToBottom ∷ BottomToTop ∷ [])

turned_by : map turned_for (Invalid ∷ LeftToRight ∷ RightToLeft ∷ []) ≡ (false ∷ false ∷ false ∷ false ∷ true ∷ [])
    ∷ (false ∷ false ∷ true ∷ false ∷ true ∷ []) ∷ (false ∷ true ∷ false ∷ false ∷ true ∷ []) ∷ []
turned_by = refl

opposites : map opposite_direction (Invalid ∷ LeftToRight ∷ RightToLeft ∷ TopToBottom ∷ BottomToTop ∷ [])
    ≡ Invalid ∷ RightToLeft ∷ LeftToRight ∷ BottomToTop ∷ TopToBottom ∷ []
opposites = refl

-- a text: of each glyph its number and cluster, and whether it goes on
abbrev text : List (ℕ × Bool) → Glyphs
text ps = map
    (λ p. let g : Glyph = record default_glyph {
      glyph_id = p.0;
      cluster = p.0;
      unicode_props = set_property CONTINUATION p.1 (properties Lo 0);
    } in g) ps

abbrev six : Glyphs
six = text ((0, false) ∷ (1, true) ∷ (2, true) ∷ (3, false) ∷ (4, false) ∷ (5, true) ∷ [])

abbrev seen : Glyphs → List (ℕ × ℕ)
seen gs = map (λ g. (g.glyph_id, g.cluster)) gs

graphemes_stay : seen (graphemes_reversed six) ≡ (4, 4) ∷ (5, 5) ∷ (3, 3) ∷ (0, 0) ∷ (1, 1) ∷ (2, 2) ∷ []
graphemes_stay = refl

begins_within : seen (graphemes_reversed (text ((0, true) ∷ (1, true) ∷ (2, false) ∷ []))) ≡ (2, 2) ∷ (0, 0) ∷ (1, 1) ∷ []
begins_within = refl

nothing : graphemes_reversed [] ≡ []
nothing = refl

-- a text of Hebrew's from left to right at each level
abbrev prepared : BufferClusterLevel → Direction → Glyphs → Buffer
prepared level direction gs =
    let hebrew : Script = record { 0 = codes "Hebr" } in
    let b : Buffer =
    record (new_buffer 9) { glyphs = gs; direction = direction; level = level; script = Some hebrew } in
    in_native_direction b

-- at the level of graphemes their clusters are formed before
at_graphemes : seen (prepared MonotoneGraphemes LeftToRight six).glyphs ≡ (4, 4) ∷ (5, 5) ∷ (3, 3) ∷ (0, 0) ∷ (1, 1)
    ∷ (2, 2) ∷ []
unfolding general_category
at_graphemes = refl

at_characters : seen (prepared MonotoneCharacters LeftToRight six).glyphs ≡ (4, 4) ∷ (5, 4) ∷ (3, 3) ∷ (0, 0) ∷ (1, 0)
    ∷ (2, 0) ∷ []
unfolding general_category
at_characters = refl

apart : seen (prepared Characters LeftToRight six).glyphs ≡ (4, 4) ∷ (5, 5) ∷ (3, 3) ∷ (0, 0) ∷ (1, 1) ∷ (2, 2) ∷ []
unfolding general_category
apart = refl

directions : map (λ d. (prepared MonotoneCharacters d six).direction) (LeftToRight ∷ RightToLeft ∷ TopToBottom
    ∷ BottomToTop ∷ []) ≡ RightToLeft ∷ RightToLeft ∷ TopToBottom ∷ TopToBottom ∷ []
unfolding general_category
directions = refl

-- a text in its own direction stays, and its clusters, and so do numbers
stays : seen (prepared MonotoneCharacters RightToLeft six).glyphs ≡ seen six
stays = refl

numbers_stay : (prepared MonotoneCharacters LeftToRight (of_category Nd ∷ of_category Mn ∷ [])).direction ≡ LeftToRight
unfolding general_category
numbers_stay = refl
