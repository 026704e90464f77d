-- Stretched marks, computed on small texts.
use Rattle.std.specs.Prelude.{◌≡◌, ℕ, ◌==◌, ℤ, pos, negsuc, true, false, List, [], ◌∷◌, ◌++◌, map, Option, None, Some, refl, if◌then◌else◌}
use Rattle.shapers_buffer.specs.declared.buffer.category.hb_unicode_general_category_t.{hb_unicode_general_category_t}
use Rattle.shapers_buffer.specs.declared.buffer.category.hb_unicode_general_category_t.TheVariants.{Cc, Cf, Cn, Co, Cs, Ll, Lm, Lo, Lt, Lu, Mc, Me, Mn, Nd, Nl, No, Pc, Pd, Pe, Pf, Pi, Po, Ps, Sc, Sk, Sm, So, Zl, Zp, Zs}
use Rattle.shapers_buffer.specs.declared.buffer.glyph.GlyphPosition.{GlyphPosition}
use Rattle.shapers_buffer.specs.Glyphs.{Glyph}
use Rattle.shapers_buffer.specs.declared.buffer.level.Direction.{Direction}
use Rattle.shapers_buffer.specs.declared.buffer.level.Direction.TheVariants.{BottomToTop, Invalid, LeftToRight, RightToLeft, TopToBottom}
use Rattle.shapers_buffer.specs.declared.buffer.refusal.ShaperError.{ShaperError}
use Rattle.shapers_buffer.specs.declared.buffer.refusal.ShaperError.TheVariants.{StretchOverflow}
use Rattle.shapers_buffer.specs.Buffer.{Buffer, new_buffer}
use Rattle.shapers_buffer.specs.Glyph.{default_glyph, default_position}
use Rattle.shapers_buffer.specs.Properties.{general_category, properties}
use Rattle.shapers_base.specs.declared.plan.arabic.StretchStart.{StretchStart}
use Rattle.shapers_base.specs.declared.plan.arabic.StretchStart.TheVariants.{AsCode, Centred}
use Rattle.shapers_base.specs.Font.{Font}
use Rattle.shapers_stretch.specs.Cells.{Cell, parts_of_text, tiles_of, word_of, before_word, is_word_category}
use Rattle.shapers_stretch.specs.Stretch.{cells, marks_stretched, stretch_refusal}

-- a font by the advances of its glyphs
abbrev pub font : (ℕ → ℤ) → Font
font widths =
    record { nominal = λ c. None; advance = λ g. widths g.0; applies = λ lookup gs zero. false; offers = λ tag. false }

-- glyph 2 is a fixed tile of 100, glyph 3 a repeating one of 200, glyph 4 a repeating one of 1
abbrev pub widths : ℕ → ℤ
widths n = if n == 2 then pos 100 else if n == 3 then pos 200 else if n == 4 then pos 1 else pos 999

-- a cell by its glyph, its cluster, its category, its action and its advance; other fields are set, to be kept
abbrev cell : ℕ → ℕ → hb_unicode_general_category_t → ℕ → ℤ → Cell
cell n cluster category action advance =
    let g : Glyph =
    record {
      glyph_id = n;
      cluster = cluster;
      mask = 16;
      syllable = 8;
      category = 9;
      auxiliary = action;
      glyph_props = record { 0 = 0x70 };
      lig_props = record { 0 = 5 };
      unicode_props = properties category 11;
    } in
    let p : GlyphPosition =
    record { x_advance = advance; y_advance = pos 12; x_offset = pos 13; y_offset = negsuc 13; var = 0xFFFFFFFF } in
    (g, p)

abbrev pub letter : ℕ → ℤ → Cell
letter cluster advance = cell 1 cluster Lo 7 advance

abbrev pub space : Cell
space = cell 5 0 Zs 7 (pos 55)

abbrev pub fixed_tile : Cell
fixed_tile = cell 2 0 Lo 8 (pos 100)

abbrev pub repeating_tile : Cell
repeating_tile = cell 3 0 Lo 9 (pos 200)

-- the same cell, with these mask bits, and laid at this offset
abbrev flags : ℕ → Cell → Cell
flags mask c = let g : Glyph = record c.0 { mask = mask } in (g, c.1)

abbrev at : ℤ → Cell → Cell
at x c = let p : GlyphPosition = record c.1 { x_advance = pos 0; x_offset = x } in (c.0, p)

abbrev pub text : Direction → List Cell → Buffer
text direction cs = record (new_buffer 99) {
  glyphs = map (λ c. c.0) cs;
  positions = map (λ c. c.1) cs;
  direction = direction;
  stch =
      true;
}

abbrev after : StretchStart → Buffer → List Cell
after choice b = cells (marks_stretched (font widths) choice b)

-- a word of 1000, a fixed tile of 100, a repeating one of 200
seven : after AsCode (text RightToLeft (letter 0 (pos 1000) ∷ fixed_tile ∷ repeating_tile ∷ [])) ≡ letter 0 (pos 1000)
    ∷ at (negsuc 999) fixed_tile ∷ at (negsuc 899) repeating_tile ∷ at (negsuc 724) repeating_tile
    ∷ at (negsuc 549) repeating_tile ∷ at (negsuc 374) repeating_tile ∷ at (negsuc 199) repeating_tile ∷ []
unfolding general_category
seven = refl

abbrev seven_backwards : List Cell
seven_backwards = at (pos 0) repeating_tile ∷ at (pos 200) repeating_tile ∷ at (pos 375) repeating_tile
    ∷ at (pos 550) repeating_tile ∷ at (pos 725) repeating_tile ∷ at (pos 900) fixed_tile ∷ letter 0 (pos 1000) ∷ []

seven_leftward : after AsCode (text LeftToRight (repeating_tile ∷ fixed_tile ∷ letter 0 (pos 1000) ∷ []))
    ≡ seven_backwards
unfolding general_category
seven_leftward = refl

seven_centred : after Centred (text RightToLeft (letter 0 (pos 1000) ∷ fixed_tile ∷ repeating_tile ∷ []))
    ≡ after AsCode (text RightToLeft (letter 0 (pos 1000) ∷ fixed_tile ∷ repeating_tile ∷ []))
unfolding general_category
seven_centred = refl

-- any direction but right to left is in order backwards, also upward and none
upward : map (λ d. after AsCode (text d (repeating_tile ∷ fixed_tile ∷ letter 0 (pos 1000) ∷ [])))
    (BottomToTop ∷ Invalid ∷ TopToBottom ∷ []) ≡ seven_backwards ∷ seven_backwards ∷ seven_backwards ∷ []
unfolding general_category
upward = refl

upward_centred : map (λ d. after Centred (text d (fixed_tile ∷ letter 0 (pos 160) ∷ [])))
    (BottomToTop ∷ Invalid ∷ RightToLeft ∷ []) ≡ (at (pos 30) fixed_tile ∷ letter 0 (pos 160) ∷ [])
    ∷ (at (pos 30) fixed_tile ∷ letter 0 (pos 160) ∷ []) ∷ (at (negsuc 49) fixed_tile ∷ letter 0 (pos 160) ∷ []) ∷ []
unfolding general_category
upward_centred = refl

downward : after AsCode (text TopToBottom (repeating_tile ∷ letter 0 (pos 200) ∷ [])) ≡ at (pos 100) repeating_tile
    ∷ letter 0 (pos 200) ∷ []
unfolding general_category
downward = refl

-- a fixed tile alone, both starts, both directions
alone : after AsCode (text RightToLeft (letter 0 (pos 140) ∷ fixed_tile ∷ [])) ≡ letter 0 (pos 140)
    ∷ at (negsuc 79) fixed_tile ∷ []
unfolding general_category
alone = refl

alone_centred : after Centred (text RightToLeft (letter 0 (pos 160) ∷ fixed_tile ∷ [])) ≡ letter 0 (pos 160)
    ∷ at (negsuc 129) fixed_tile ∷ []
unfolding general_category
alone_centred = refl

alone_leftward : after Centred (text LeftToRight (fixed_tile ∷ letter 0 (pos 160) ∷ [])) ≡ at (pos 30) fixed_tile
    ∷ letter 0 (pos 160) ∷ []
unfolding general_category
alone_leftward = refl

-- two tiles that repeat: each is laid as often as it repeats before the next one is
abbrev pub second_tile : Cell
second_tile = cell 2 0 Lo 9 (pos 100)

two_repeat : after AsCode (text LeftToRight (second_tile ∷ repeating_tile ∷ letter 0 (pos 600) ∷ []))
    ≡ at (pos 300) second_tile ∷ at (pos 400) second_tile ∷ at (pos 500) repeating_tile ∷ at (pos 700) repeating_tile
    ∷ letter 0 (pos 600) ∷ []
unfolding general_category
two_repeat = refl

-- word and sequence have no break, their clusters 0, 1 and 2; what stands before the word and behind the sequence is left alone
flagged_word : after AsCode
    (text RightToLeft (cell 5 0 Zs 7 (pos 55) ∷ letter 0 (pos 200) ∷ letter 1 (pos 200) ∷ cell 3 2 Lo 9 (pos 200)
    ∷ cell 5 3 Zs 7 (pos 55) ∷ [])) ≡ cell 5 0 Zs 7 (pos 55) ∷ letter 0 (pos 200) ∷ flags 19 (letter 1 (pos 200))
    ∷ flags 19 (at (negsuc 199) (cell 3 2 Lo 9 (pos 200))) ∷ flags 19 (at (pos 0) (cell 3 2 Lo 9 (pos 200)))
    ∷ cell 5 3 Zs 7 (pos 55) ∷ []
unfolding general_category
flagged_word = refl

-- two tiles of different clusters: each copy has that of its own tile, and in both directions the
-- least cluster has no flags
two_clusters : after AsCode
    (text RightToLeft (letter 0 (pos 400) ∷ cell 2 1 Lo 9 (pos 100) ∷ cell 3 2 Lo 9 (pos 200) ∷ []))
    ≡ letter 0 (pos 400) ∷ flags 19 (at (negsuc 399) (cell 2 1 Lo 9 (pos 100)))
    ∷ flags 19 (at (negsuc 399) (cell 2 1 Lo 9 (pos 100))) ∷ flags 19 (at (negsuc 299) (cell 3 2 Lo 9 (pos 200)))
    ∷ flags 19 (at (negsuc 199) (cell 3 2 Lo 9 (pos 200))) ∷ []
unfolding general_category
two_clusters = refl

two_clusters_backwards : after AsCode
    (text LeftToRight (cell 3 0 Lo 9 (pos 200) ∷ cell 2 1 Lo 9 (pos 100) ∷ letter 2 (pos 400) ∷ []))
    ≡ at (pos 0) (cell 3 0 Lo 9 (pos 200)) ∷ at (pos 200) (cell 3 0 Lo 9 (pos 200))
    ∷ flags 19 (at (pos 300) (cell 2 1 Lo 9 (pos 100))) ∷ flags 19 (at (pos 400) (cell 2 1 Lo 9 (pos 100)))
    ∷ flags 19 (letter 2 (pos 400)) ∷ []
unfolding general_category
two_clusters_backwards = refl

-- two sequences, each with its own word; a sequence directly behind another has no word
two_runs : after AsCode
    (text RightToLeft (letter 0 (pos 300) ∷ repeating_tile ∷ letter 0 (pos 200) ∷ repeating_tile ∷ []))
    ≡ letter 0 (pos 300) ∷ at (negsuc 299) repeating_tile ∷ at (negsuc 199) repeating_tile ∷ letter 0 (pos 200)
    ∷ at (negsuc 99) repeating_tile ∷ []
unfolding general_category
two_runs = refl

-- a sequence without a word
no_word : after AsCode (text RightToLeft (letter 0 (pos 300) ∷ space ∷ repeating_tile ∷ [])) ≡ letter 0 (pos 300)
    ∷ space ∷ at (negsuc 199) repeating_tile ∷ []
unfolding general_category
no_word = refl

-- no sequence, and no mark "has stch"
no_run : after AsCode (text LeftToRight (letter 0 (pos 300) ∷ letter 1 (pos 300) ∷ [])) ≡ letter 0 (pos 300)
    ∷ letter 1 (pos 300) ∷ []
no_run = refl

abbrev unmarked : Buffer
unmarked = record (text RightToLeft (letter 0 (pos 1000) ∷ fixed_tile ∷ repeating_tile ∷ [])) { stch = false }

not_marked : marks_stretched (font widths) AsCode unmarked ≡ unmarked
not_marked = refl

-- the parts of a text: cut behind each sequence
text_parts : parts_of_text (letter 0 (pos 1) ∷ fixed_tile ∷ repeating_tile ∷ space ∷ letter 0 (pos 2) ∷ fixed_tile
    ∷ letter 0 (pos 3) ∷ []) ≡ (letter 0 (pos 1) ∷ fixed_tile ∷ repeating_tile ∷ [])
    ∷ (space ∷ letter 0 (pos 2) ∷ fixed_tile ∷ []) ∷ (letter 0 (pos 3) ∷ []) ∷ []
text_parts = refl

tiles_first : parts_of_text (fixed_tile ∷ letter 0 (pos 1) ∷ []) ≡ (fixed_tile ∷ []) ∷ (letter 0 (pos 1) ∷ []) ∷ []
tiles_first = refl

-- a part: its sequence, its word, what stands before
abbrev part : List Cell
part = letter 0 (pos 1) ∷ space ∷ letter 0 (pos 2) ∷ letter 0 (pos 3) ∷ fixed_tile ∷ repeating_tile ∷ []

its_tiles : tiles_of part ≡ fixed_tile ∷ repeating_tile ∷ []
its_tiles = refl

its_word : word_of part ≡ letter 0 (pos 2) ∷ letter 0 (pos 3) ∷ []
unfolding general_category
its_word = refl

its_rest : before_word part ≡ letter 0 (pos 1) ∷ space ∷ []
unfolding general_category
its_rest = refl

-- an undrawn space is of the word unless a lookup put it in; 0x0021 is ignorable, and 0x10 substituted
abbrev undrawn : ℕ → ℕ → Cell
undrawn unicode_props glyph_props =
    let g : Glyph =
    record default_glyph {
      unicode_props = record { 0 = unicode_props };
      glyph_props = record { 0 = glyph_props };
    } in (g, default_position)

abbrev undrawn_words : List Cell → List (List Cell)
undrawn_words gs = map (λ g. word_of (g ∷ fixed_tile ∷ [])) gs

undrawn_word : undrawn_words (undrawn 0x0021 0 ∷ undrawn 0x0021 0x10 ∷ undrawn 0x0001 0 ∷ undrawn 0xFFE1 0xFFEF
    ∷ undrawn 0xFFC1 0 ∷ undrawn 0x0021 0x20 ∷ []) ≡ (undrawn 0x0021 0 ∷ []) ∷ [] ∷ [] ∷ (undrawn 0xFFE1 0xFFEF ∷ [])
    ∷ [] ∷ (undrawn 0x0021 0x20 ∷ []) ∷ []
unfolding general_category
undrawn_word = refl

-- each category
categories : map is_word_category (Cc ∷ Cf ∷ Cn ∷ Co ∷ Cs ∷ Ll ∷ Lm ∷ Lo ∷ Lt ∷ Lu ∷ Mc ∷ Me ∷ Mn ∷ Nd ∷ Nl ∷ No ∷ Pc
    ∷ Pd ∷ Pe ∷ Pf ∷ Pi ∷ Po ∷ Ps ∷ Sc ∷ Sk ∷ Sm ∷ So ∷ Zl ∷ Zp ∷ Zs ∷ []) ≡ false ∷ false ∷ true ∷ true ∷ false ∷ false
    ∷ true ∷ true ∷ false ∷ false ∷ true ∷ true ∷ true ∷ true ∷ true ∷ true ∷ false ∷ false ∷ false ∷ false ∷ false
    ∷ false ∷ false ∷ true ∷ true ∷ true ∷ true ∷ false ∷ false ∷ false ∷ []
categories = refl

-- refusals: the sum of a word, an offset, and none
abbrev refusal : StretchStart → Direction → List Cell → Option ShaperError
refusal choice direction cs = stretch_refusal (font widths) choice (text direction cs)

too_wide : refusal AsCode RightToLeft (letter 0 (pos 2147483647) ∷ letter 1 (pos 2147483647) ∷ cell 4 2 Lo 9 (pos 1)
    ∷ []) ≡ Some StretchOverflow
unfolding general_category
too_wide = refl

wide : refusal AsCode RightToLeft (letter 0 (pos 2147483647) ∷ fixed_tile ∷ []) ≡ None
unfolding general_category
wide = refl

-- the rest of a word of -2147483648 beside a fixed tile of 100
too_low : refusal AsCode RightToLeft (letter 0 (negsuc 2147483647) ∷ fixed_tile ∷ []) ≡ Some StretchOverflow
unfolding general_category
too_low = refl

-- an offset: right to left the first copy of a tile of 100 goes below a start that is nearly the least
offset_too_low : map (λ b. stretch_refusal (font (λ n. if n == 2 then pos 1500000000 else negsuc 1499999999)) AsCode b)
    (text RightToLeft (letter 0 (pos 0) ∷ cell 3 0 Lo 8 (pos 0) ∷ fixed_tile ∷ fixed_tile ∷ cell 3 0 Lo 8 (pos 0) ∷ [])
    ∷ text RightToLeft (letter 0 (pos 0) ∷ cell 3 0 Lo 8 (pos 0) ∷ fixed_tile ∷ cell 3 0 Lo 8 (pos 0) ∷ fixed_tile ∷ [])
    ∷ []) ≡ None ∷ None ∷ []
unfolding general_category
offset_too_low = refl

two_before_two : map (λ d. stretch_refusal (font (λ n. if n == 2 then pos 1500000000 else negsuc 1499999999)) AsCode
    (text d (cell 3 0 Lo 8 (pos 0) ∷ cell 3 0 Lo 8 (pos 0) ∷ fixed_tile ∷ fixed_tile ∷ [])))
    (RightToLeft ∷ LeftToRight ∷ []) ≡ Some StretchOverflow ∷ Some StretchOverflow ∷ []
two_before_two = refl

-- of several sequences one that overflows is enough, be it the first or the last
abbrev wide_run : List Cell
wide_run = letter 0 (pos 2147483647) ∷ letter 1 (pos 2147483647) ∷ fixed_tile ∷ []

abbrev narrow_run : List Cell
narrow_run = letter 0 (pos 140) ∷ fixed_tile ∷ []

one_of_several : map (refusal AsCode RightToLeft) ((narrow_run ++ wide_run) ∷ (wide_run ++ narrow_run)
    ∷ (wide_run ++ space ∷ []) ∷ (narrow_run ++ narrow_run) ∷ []) ≡ Some StretchOverflow ∷ Some StretchOverflow
    ∷ Some StretchOverflow ∷ None ∷ []
unfolding general_category
one_of_several = refl

-- a word that isn't before a sequence is never summed
no_run_to_measure : refusal AsCode RightToLeft (letter 0 (pos 2147483647) ∷ letter 1 (pos 2147483647) ∷ []) ≡ None
no_run_to_measure = refl

refusal_unmarked : stretch_refusal (font widths) AsCode
    (record (text RightToLeft (letter 0 (pos 2147483647) ∷ letter 1 (pos 2147483647) ∷ fixed_tile ∷ []))
    { stch = false }) ≡ None
refusal_unmarked = refl
