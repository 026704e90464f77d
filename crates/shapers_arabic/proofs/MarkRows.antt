-- The order of marks, computed on values written out from the rule.
use Rattle.std.specs.Prelude.{◌≡◌, ℕ, ◌+◌, ◌-◌, ◌*◌, List, [], ◌∷◌, ◌++◌, map, length, replicate, true, false, refl}
use Rattle.std.specs.List.{range_with_len}
use Rattle.shapers_buffer.specs.Glyph.{default_glyph, clusters}
use Rattle.shapers_buffer.specs.Properties.{general_category, modified_combining_class, properties}
use Rattle.shapers_buffer.specs.declared.buffer.category.hb_unicode_general_category_t.TheVariants.{Lo, Mn}
use Rattle.shapers_buffer.specs.Glyphs.{Glyph, Glyphs}
use Rattle.shapers_buffer.specs.declared.buffer.level.BufferClusterLevel.{BufferClusterLevel}
use Rattle.shapers_buffer.specs.declared.buffer.level.BufferClusterLevel.TheVariants.{MonotoneGraphemes, MonotoneCharacters, Characters}
use Rattle.shapers_buffer.specs.declared.buffer.modified_combining_class.TheConstants.{CCC22, CCC26}
use Rattle.shapers_clusters.specs.Steps.{after_step}
use Rattle.shapers_arabic.specs.declared.ot_shaper_arabic.marks.TheConstants.{ABOVE}
use Rattle.shapers_arabic.specs.MarkParts.{is_among_modifiers, lengths_of, may_modify, passed_by, last_marks_first}
use Rattle.shapers_arabic.specs.Marks.{ModifiersTakeClasses, classes_moved, combining_classes, modifiers, has_lower_class, is_modifier_of, split_marks, with_modifiers_first, marks_reordered, marks_merged, merged_for, passed, places_moved, arabic_mark_step, text_step, without_class}

abbrev mark : ℕ × ℕ × ℕ → Glyph
mark p = record default_glyph { glyph_id = p.0; unicode_props = properties Mn p.1; cluster = p.2 }

abbrev letter : ℕ → ℕ → Glyph
letter c cluster = record default_glyph { glyph_id = c; unicode_props = properties Lo 0; cluster = cluster }

abbrev view : Glyphs → List (ℕ × ℕ)
view gs = map (λ g. (g.glyph_id, modified_combining_class g.unicode_props)) gs

classes_of_modifiers : CCC22 ∷ CCC26 ∷ [] ≡ 25 ∷ 26 ∷ []
classes_of_modifiers = refl

fourteen : length modifiers ≡ 14
fourteen = refl

abbrev two : Glyphs
two = map mark ((0x064E, 31, 0) ∷ (0x0654, 230, 1) ∷ [])

hamza_above : view (with_modifiers_first (split_marks two)) ≡ (0x0654, 26) ∷ (0x064E, 31) ∷ []
unfolding modified_combining_class general_category
hamza_above = refl

abbrev five : Glyphs
five = map mark ((0x064E, 31, 0) ∷ (0x0655, 220, 1) ∷ (0x065C, 220, 2) ∷ (0x0654, 230, 3) ∷ (0x0653, 230, 4) ∷ [])

both_hamzas : view (with_modifiers_first (split_marks five)) ≡ (0x0655, 25) ∷ (0x0654, 26) ∷ (0x064E, 31)
    ∷ (0x065C, 220) ∷ (0x0653, 230) ∷ []
unfolding modified_combining_class general_category
both_hamzas = refl

their_clusters : clusters (after_step MonotoneGraphemes (arabic_mark_step (split_marks five)) five) ≡ 0 ∷ 0 ∷ 0 ∷ 0 ∷ 4
    ∷ []
unfolding modified_combining_class general_category
their_clusters = refl

their_places : map (λ g. g.glyph_id) (after_step MonotoneGraphemes (arabic_mark_step (split_marks five)) five)
    ≡ 0x0655 ∷ 0x0654 ∷ 0x064E ∷ 0x065C ∷ 0x0653 ∷ []
unfolding modified_combining_class general_category
their_places = refl

clusters_at_characters : clusters (after_step Characters (arabic_mark_step (split_marks five)) five) ≡ 1 ∷ 3 ∷ 0 ∷ 2 ∷ 4
    ∷ []
unfolding modified_combining_class general_category
clusters_at_characters = refl

-- the class decides, and the list
of_another_class : map (is_modifier_of 220)
    (map mark ((0x0655, 220, 0) ∷ (0x0655, 230, 0) ∷ (0x0656, 220, 0) ∷ (0x08F3, 220, 0) ∷ [])) ≡ true ∷ false ∷ false
    ∷ true ∷ []
unfolding modified_combining_class general_category
of_another_class = refl

-- the list, mark by mark
the_modifiers : modifiers ≡ 1620 ∷ 1621 ∷ 1624 ∷ 1756 ∷ 1763 ∷ 1767 ∷ 1768 ∷ 2250 ∷ 2251 ∷ 2253 ∷ 2254 ∷ 2255 ∷ 2259
    ∷ 2291 ∷ []
the_modifiers = refl

above : ABOVE ≡ 230
above = refl

-- a bound is no class below it
bounds : map (has_lower_class 220) (map mark ((0x064E, 219, 0) ∷ (0x064E, 220, 0) ∷ (0x064E, 0, 0) ∷ []))
    ≡ true ∷ false ∷ true ∷ []
unfolding modified_combining_class general_category
bounds = refl

-- the five parts
abbrev parts : Glyphs → List (List (ℕ × ℕ))
parts gs = let s = split_marks gs in view s.low ∷ view s.modifiers_below ∷ view s.middle ∷ view s.modifiers_above
    ∷ view s.rest ∷ []

parts_of_five : parts five ≡ ((0x064E, 31) ∷ []) ∷ ((0x0655, 220) ∷ []) ∷ ((0x065C, 220) ∷ []) ∷ ((0x0654, 230) ∷ [])
    ∷ ((0x0653, 230) ∷ []) ∷ []
unfolding modified_combining_class general_category
parts_of_five = refl

-- modifiers behind another mark of 220 are in no part of theirs, nor those of 230 behind another of 230
hidden : Glyphs
hidden = map mark ((0x065C, 220, 0) ∷ (0x0655, 220, 1) ∷ (0x0653, 230, 2) ∷ (0x0654, 230, 3) ∷ (0x0655, 220, 4) ∷ [])

none_comes_forward : view (with_modifiers_first (split_marks hidden)) ≡ view hidden
unfolding hidden modified_combining_class general_category
none_comes_forward = refl

no_parts : parts hidden ≡ [] ∷ [] ∷ ((0x065C, 220) ∷ (0x0655, 220) ∷ []) ∷ []
    ∷ ((0x0653, 230) ∷ (0x0654, 230) ∷ (0x0655, 220) ∷ []) ∷ []
unfolding hidden modified_combining_class general_category
no_parts = refl

-- a class above 230 ends all parts but the last
ended : parts (map mark ((0x0654, 232, 0) ∷ (0x0654, 230, 1) ∷ [])) ≡ [] ∷ [] ∷ [] ∷ []
    ∷ ((0x0654, 232) ∷ (0x0654, 230) ∷ []) ∷ []
unfolding modified_combining_class general_category
ended = refl

-- what merges: nothing for modifiers that aren't there
passed_rows : passed 1 2 3 4 ∷ passed 1 0 3 4 ∷ passed 1 2 3 0 ∷ passed 1 0 3 0 ∷ [] ≡ ((0, 3) ∷ (2, 10) ∷ [])
    ∷ ((0, 8) ∷ []) ∷ ((0, 3) ∷ []) ∷ [] ∷ []
passed_rows = refl

merged_for_rows : merged_for 0 3 5 ∷ merged_for 1 3 5 ∷ merged_for 2 3 5 ∷ [] ≡ [] ∷ ((3, 5) ∷ []) ∷ ((3, 5) ∷ []) ∷ []
merged_for_rows = refl

places_row : places_moved 1 2 3 1 2 ≡ 1 ∷ 2 ∷ 6 ∷ 0 ∷ 3 ∷ 4 ∷ 5 ∷ 7 ∷ 8 ∷ []
places_row = refl

step_row : arabic_mark_step (split_marks five)
    ≡ record { merged_first = (0, 2) ∷ (1, 4) ∷ []; places = 1 ∷ 3 ∷ 0 ∷ 2 ∷ 4 ∷ []; merged_then = [] }
unfolding modified_combining_class general_category
step_row = refl

-- with a base before and a letter behind: the step over all places, and the whole text
abbrev text : List ℕ → Glyphs
text (a ∷ (b ∷ (c ∷ (d ∷ (e ∷ (f ∷ (g ∷ []))))))) =
    let marks = map mark ((0x064E, 31, b) ∷ (0x0655, 220, c) ∷ (0x065C, 220, d) ∷ (0x0654, 230, e) ∷ (0x0653, 230, f)
    ∷ []) in letter 0x0628 a ∷ marks ++ letter 0x0628 g ∷ []
text _ = []

abbrev rising : Glyphs
rising = text (0 ∷ 1 ∷ 2 ∷ 3 ∷ 4 ∷ 5 ∷ 6 ∷ [])

abbrev reordered : BufferClusterLevel → List ℕ → Glyphs
reordered level cs = marks_reordered 1 6 (marks_merged level 1 6 (text cs))

text_step_row : text_step 1 6 rising
    ≡ record { merged_first = (1, 3) ∷ (2, 5) ∷ []; places = 0 ∷ 2 ∷ 4 ∷ 1 ∷ 3 ∷ 5 ∷ 6 ∷ []; merged_then = [] }
unfolding modified_combining_class general_category
text_step_row = refl

text_row : view (reordered MonotoneGraphemes (0 ∷ 1 ∷ 2 ∷ 3 ∷ 4 ∷ 5 ∷ 6 ∷ [])) ≡ (0x0628, 0) ∷ (0x0655, 25)
    ∷ (0x0654, 26) ∷ (0x064E, 31) ∷ (0x065C, 220) ∷ (0x0653, 230) ∷ (0x0628, 0) ∷ []
unfolding modified_combining_class general_category
text_row = refl

-- its clusters at each level, rising, falling and repeated
graphemes_rising : clusters (reordered MonotoneGraphemes (0 ∷ 1 ∷ 2 ∷ 3 ∷ 4 ∷ 5 ∷ 6 ∷ [])) ≡ 0 ∷ 1 ∷ 1 ∷ 1 ∷ 1 ∷ 5 ∷ 6
    ∷ []
unfolding modified_combining_class general_category
graphemes_rising = refl

characters_rising : clusters (reordered MonotoneCharacters (0 ∷ 1 ∷ 2 ∷ 3 ∷ 4 ∷ 5 ∷ 6 ∷ [])) ≡ 0 ∷ 1 ∷ 1 ∷ 1 ∷ 1 ∷ 5 ∷ 6
    ∷ []
unfolding modified_combining_class general_category
characters_rising = refl

unmerged_rising : clusters (reordered Characters (0 ∷ 1 ∷ 2 ∷ 3 ∷ 4 ∷ 5 ∷ 6 ∷ [])) ≡ 0 ∷ 2 ∷ 4 ∷ 1 ∷ 3 ∷ 5 ∷ 6 ∷ []
unfolding modified_combining_class general_category
unmerged_rising = refl

graphemes_falling : clusters (reordered MonotoneGraphemes (6 ∷ 5 ∷ 4 ∷ 3 ∷ 2 ∷ 1 ∷ 0 ∷ [])) ≡ 6 ∷ 2 ∷ 2 ∷ 2 ∷ 2 ∷ 1 ∷ 0
    ∷ []
unfolding modified_combining_class general_category
graphemes_falling = refl

characters_falling : clusters (reordered MonotoneCharacters (6 ∷ 5 ∷ 4 ∷ 3 ∷ 2 ∷ 1 ∷ 0 ∷ [])) ≡ 6 ∷ 2 ∷ 2 ∷ 2 ∷ 2 ∷ 1
    ∷ 0 ∷ []
unfolding modified_combining_class general_category
characters_falling = refl

unmerged_falling : clusters (reordered Characters (6 ∷ 5 ∷ 4 ∷ 3 ∷ 2 ∷ 1 ∷ 0 ∷ [])) ≡ 6 ∷ 4 ∷ 2 ∷ 5 ∷ 3 ∷ 1 ∷ 0 ∷ []
unfolding modified_combining_class general_category
unmerged_falling = refl

-- a merge reaches back and on over the clusters of its ends
graphemes_repeated : clusters (reordered MonotoneGraphemes (3 ∷ 3 ∷ 2 ∷ 2 ∷ 1 ∷ 1 ∷ 1 ∷ [])) ≡ 1 ∷ 1 ∷ 1 ∷ 1 ∷ 1 ∷ 1 ∷ 1
    ∷ []
unfolding modified_combining_class general_category
graphemes_repeated = refl

unmerged_repeated : clusters (reordered Characters (3 ∷ 3 ∷ 2 ∷ 2 ∷ 1 ∷ 1 ∷ 1 ∷ [])) ≡ 3 ∷ 2 ∷ 1 ∷ 3 ∷ 2 ∷ 1 ∷ 1 ∷ []
unfolding modified_combining_class general_category
unmerged_repeated = refl

-- with modifiers of one class alone one stretch merges
one_merge : clusters (marks_reordered 0 3
    (marks_merged MonotoneGraphemes 0 3 (map mark ((0x064E, 31, 0) ∷ (0x0655, 220, 1) ∷ (0x0653, 230, 2) ∷ []))))
    ≡ 0 ∷ 0 ∷ 2 ∷ []
unfolding modified_combining_class general_category
one_merge = refl

hamza_above_merged : clusters (marks_reordered 0 2 (marks_merged MonotoneGraphemes 0 2 two)) ≡ 0 ∷ 0 ∷ []
unfolding modified_combining_class general_category
hamza_above_merged = refl

-- glyph flags go where the cluster falls, and other fields of a moved mark stay
abbrev full : Glyph
full = record {
  glyph_id = 0x0655;
  cluster = 7;
  mask = 23;
  syllable = 33;
  category = 5;
  auxiliary = 6;
  glyph_props = record { 0 = 0x70 };
  lig_props = record { 0 = 3 };
  unicode_props = record { 0 = 0xDCAC };
}

kept_fields : marks_reordered 0 2 (marks_merged MonotoneGraphemes 0 2 (mark (0x064E, 31, 5) ∷ full ∷ []))
    ≡ record full { mask = 16; cluster = 5; unicode_props = record { 0 = 0x19AC } } ∷ mark (0x064E, 31, 5) ∷ []
unfolding modified_combining_class general_category
kept_fields = refl

-- a format character with a high byte of 220 or 230 has no class: it stays where it is, and its high byte too
abbrev unclassed : ℕ → Glyph
unclassed byte = record full { unicode_props = record { 0 = 0xA1 + 256 * byte } }

no_class : map (λ g. modified_combining_class g.unicode_props) (unclassed 220 ∷ unclassed 230 ∷ []) ≡ 0 ∷ 0 ∷ []
unfolding modified_combining_class general_category
no_class = refl

no_modifier : map (is_modifier_of 220) (unclassed 220 ∷ unclassed 230 ∷ full ∷ []) ≡ false ∷ false ∷ true ∷ []
unfolding modified_combining_class general_category
no_modifier = refl

unclassed_stays : marks_reordered 0 3
    (marks_merged MonotoneGraphemes 0 3 (mark (0x064E, 31, 5) ∷ unclassed 220 ∷ unclassed 230 ∷ []))
    ≡ mark (0x064E, 31, 5) ∷ unclassed 220 ∷ unclassed 230 ∷ []
unfolding modified_combining_class general_category
unclassed_stays = refl

passed_unclassed : marks_reordered 0 2 (marks_merged Characters 0 2 (unclassed 220 ∷ full ∷ []))
    ≡ record full { unicode_props = record { 0 = 0x19AC } } ∷ unclassed 220 ∷ []
unfolding modified_combining_class general_category
passed_unclassed = refl

-- nor does it take a class where the code gives one
unclassed_in_class : last_marks_first 2 25 (full ∷ unclassed 220 ∷ [])
    ≡ record full { unicode_props = record { 0 = 0x19AC } } ∷ unclassed 220 ∷ []
unfolding modified_combining_class general_category
unclassed_in_class = refl

-- a class counts with any other category: a letter and a control character move as marks do
abbrev as_letter : Glyph → Glyph
as_letter g = record g { unicode_props = record { 0 = g.unicode_props.0 - 5 } }

abbrev as_control : Glyph → Glyph
as_control g = record g { unicode_props = record { 0 = g.unicode_props.0 - 12 } }

letters_in_class : view (marks_reordered 0 5 (map as_letter five)) ≡ (0x0655, 25) ∷ (0x0654, 26) ∷ (0x064E, 31)
    ∷ (0x065C, 220) ∷ (0x0653, 230) ∷ []
unfolding modified_combining_class general_category
letters_in_class = refl

fields_of_letters : map (λ to. marks_reordered 0 2 (mark (0x064E, 31, 5) ∷ to full ∷ [])) (as_letter ∷ as_control ∷ [])
    ≡ (record full { unicode_props = record { 0 = 0x19A7 } } ∷ mark (0x064E, 31, 5) ∷ [])
    ∷ (record full { unicode_props = record { 0 = 0x19A0 } } ∷ mark (0x064E, 31, 5) ∷ []) ∷ []
unfolding modified_combining_class general_category
fields_of_letters = refl

-- an empty stretch, and one of 32 modifiers
empty_stretch : marks_reordered 3 3 (marks_merged MonotoneGraphemes 3 3 rising) ≡ rising
empty_stretch = refl

abbrev many : Glyphs
many = map (λ i. mark (0x0655, 220, i)) (range_with_len 0 32)

many_split : lengths_of (split_marks many) ≡ record { low = 0; modifiers_below = 32; middle = 0; modifiers_above = 0 }
unfolding modified_combining_class general_category
many_split = refl

many_classes : view (marks_reordered 0 32 (marks_merged MonotoneGraphemes 0 32 many)) ≡ replicate 32 (0x0655, 25)
unfolding modified_combining_class general_category
many_classes = refl

many_clusters : clusters (marks_reordered 0 32 (marks_merged MonotoneGraphemes 0 32 many)) ≡ replicate 32 0
unfolding modified_combining_class general_category
many_clusters = refl

many_unmerged : clusters (marks_reordered 0 32 (marks_merged Characters 0 32 many)) ≡ range_with_len 0 32
unfolding modified_combining_class general_category
many_unmerged = refl

-- words of the code
passed_by_row : passed_by (record { low = 1; modifiers_below = 2; middle = 3; modifiers_above = 4 }) ≡ (0, 3) ∷ (2, 10)
    ∷ []
passed_by_row = refl

last_first_row : view (last_marks_first 2 25 five) ≡ (0x0654, 25) ∷ (0x0653, 25) ∷ (0x064E, 31) ∷ (0x0655, 220)
    ∷ (0x065C, 220) ∷ []
unfolding modified_combining_class general_category
last_first_row = refl

-- the three ranges, and what may modify: by the high byte of any glyph, and its character
among : map is_among_modifiers (0x0653 ∷ 0x0654 ∷ 0x0656 ∷ 0x0658 ∷ 0x0659 ∷ 0x06DB ∷ 0x06DC ∷ 0x06E8 ∷ 0x06E9
    ∷ 0x08C9 ∷ 0x08CA ∷ 0x08F3 ∷ 0x08F4 ∷ []) ≡ false ∷ true ∷ true ∷ true ∷ false ∷ false ∷ true ∷ true ∷ false
    ∷ false ∷ true ∷ true ∷ false ∷ []
among = refl

may : map may_modify (full ∷ unclassed 220 ∷ unclassed 230 ∷ unclassed 219 ∷ [] ++ map mark ((0x0656, 230, 0)
    ∷ (0x0653, 230, 0) ∷ (0x0655, 231, 0) ∷ [])) ≡ true ∷ true ∷ true ∷ false ∷ true ∷ false ∷ false ∷ []
may = refl

-- the view hides a class, and no other high byte
hidden_class : map without_class (full ∷ unclassed 220 ∷ []) ≡ record full { unicode_props = record { 0 = 0x00AC } }
    ∷ unclassed 220 ∷ []
unfolding modified_combining_class general_category
hidden_class = refl

-- the classes after the reordering: of the five parts, and of a text in which what has no class has a high byte
five_classes : classes_moved (split_marks five) ≡ 25 ∷ 26 ∷ 31 ∷ 220 ∷ 230 ∷ []
unfolding modified_combining_class general_category
five_classes = refl

old_classes : combining_classes (unclassed 220 ∷ five ++ unclassed 230 ∷ full ∷ [])
    ≡ 0 ∷ 31 ∷ 220 ∷ 220 ∷ 230 ∷ 230 ∷ 0 ∷ 220 ∷ []
unfolding modified_combining_class general_category
old_classes = refl

classes_taken : ModifiersTakeClasses 1 6 (unclassed 220 ∷ five ++ unclassed 230 ∷ full ∷ [])
    (marks_reordered 1 6 (unclassed 220 ∷ five ++ unclassed 230 ∷ full ∷ []))
unfolding modified_combining_class general_category
classes_taken = refl

new_classes : combining_classes (marks_reordered 1 6 (unclassed 220 ∷ five ++ unclassed 230 ∷ full ∷ []))
    ≡ 0 ∷ 25 ∷ 26 ∷ 31 ∷ 220 ∷ 230 ∷ 0 ∷ 220 ∷ []
unfolding modified_combining_class general_category
new_classes = refl
