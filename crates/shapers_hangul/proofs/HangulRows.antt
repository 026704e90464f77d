-- Worked rows of Hangul, computed: ranges, syllable characters, units with their tones, masks.
use Rattle.std.specs.Prelude.{codes, ◌≡◌, ℕ, ℤ, ◌==◌, true, false, pos, negsuc, Some, None, List, [], ◌∷◌, map, refl, if◌then◌else◌}
use Rattle.std.specs.List.{list_any, enumerate_from}
use Rattle.shapers_buffer.specs.Glyphs.{Glyph, Glyphs}
use Rattle.shapers_buffer.specs.declared.buffer.level.BufferClusterLevel.{BufferClusterLevel}
use Rattle.shapers_buffer.specs.declared.buffer.level.BufferClusterLevel.TheVariants.{MonotoneGraphemes, MonotoneCharacters, Characters}
use Rattle.shapers_base.specs.Font.{Font}
use Rattle.shapers_base.specs.declared.plan.breaks.BreakFlags.TheVariants.{AsCode, Sound}
use Rattle.shapers_buffer.specs.Glyph.{default_glyph}
use Rattle.shapers_hangul.specs.Hangul.{is_l, is_v, is_t, combines_l, combines_v, combines_t, is_s, is_lv, is_tone, with_v, with_t, lead, vowel, trail, preprocessed, items, items_flagged, stretches, text_rewritten, whole_items}
use Rattle.shapers_hangul.specs.HangulLaws.{hangul_sources, full, spelled}
use Rattle.shapers_hangul.specs.declared.ot_shaper_hangul.item.Item.{Item}
use Rattle.shapers_hangul.specs.RewritingWalk.{cluster_before, flooding_len}
use Rattle.shapers_hangul.specs.Masks.{jamo_masks}
use Rattle.shapers_base.specs.Masks.{with_numbered_mask}

-- RANGES: both ends, and what stands beside them
leading : map is_l (0x10FF ∷ 0x1100 ∷ 0x115F ∷ 0x1160 ∷ 0xA95F ∷ 0xA960 ∷ 0xA97C ∷ 0xA97D ∷ []) ≡ false ∷ true ∷ true
    ∷ false ∷ false ∷ true ∷ true ∷ false ∷ []
leading = refl

vowels : map is_v (0x115F ∷ 0x1160 ∷ 0x11A7 ∷ 0x11A8 ∷ 0xD7AF ∷ 0xD7B0 ∷ 0xD7C6 ∷ 0xD7C7 ∷ []) ≡ false ∷ true ∷ true
    ∷ false ∷ false ∷ true ∷ true ∷ false ∷ []
vowels = refl

trailing : map is_t (0x11A7 ∷ 0x11A8 ∷ 0x11FF ∷ 0x1200 ∷ 0xD7CA ∷ 0xD7CB ∷ 0xD7FB ∷ 0xD7FC ∷ []) ≡ false ∷ true ∷ true
    ∷ false ∷ false ∷ true ∷ true ∷ false ∷ []
trailing = refl

combining_leading : map combines_l (0x10FF ∷ 0x1100 ∷ 0x1112 ∷ 0x1113 ∷ []) ≡ false ∷ true ∷ true ∷ false ∷ []
combining_leading = refl

combining_vowels : map combines_v (0x1160 ∷ 0x1161 ∷ 0x1175 ∷ 0x1176 ∷ []) ≡ false ∷ true ∷ true ∷ false ∷ []
combining_vowels = refl

combining_trailing : map combines_t (0x11A7 ∷ 0x11A8 ∷ 0x11C2 ∷ 0x11C3 ∷ []) ≡ false ∷ true ∷ true ∷ false ∷ []
combining_trailing = refl

syllables : map is_s (0xABFF ∷ 0xAC00 ∷ 0xD7A3 ∷ 0xD7A4 ∷ []) ≡ false ∷ true ∷ true ∷ false ∷ []
syllables = refl

without_trailing : map is_lv (0xABE4 ∷ 0xAC00 ∷ 0xAC01 ∷ 0xAC1B ∷ 0xAC1C ∷ 0xD788 ∷ 0xD7A3 ∷ 0xD7A4 ∷ [])
    ≡ false ∷ true ∷ false ∷ false ∷ true ∷ true ∷ false ∷ false ∷ []
without_trailing = refl

tones : map is_tone (0x302D ∷ 0x302E ∷ 0x302F ∷ 0x3030 ∷ []) ≡ false ∷ true ∷ true ∷ false ∷ []
tones = refl

-- SYLLABLE CHARACTERS, both ways
first : with_v 0x1100 0x1161 ≡ 0xAC00
first = refl

first_with_t : with_t 0xAC00 0x11A8 ≡ 0xAC01
first_with_t = refl

next_vowel : with_v 0x1100 0x1162 ≡ 0xAC1C
next_vowel = refl

next_leading : with_v 0x1101 0x1161 ≡ 0xAE4C
next_leading = refl

last : with_t (with_v 0x1112 0x1175) 0x11C2 ≡ 0xD7A3
last = refl

leads : map lead (0xAC00 ∷ 0xAE4B ∷ 0xAE4C ∷ 0xD7A3 ∷ []) ≡ 0x1100 ∷ 0x1100 ∷ 0x1101 ∷ 0x1112 ∷ []
leads = refl

vowels_of : map vowel (0xAC00 ∷ 0xAC1B ∷ 0xAC1C ∷ 0xAE4B ∷ 0xAE4C ∷ 0xD7A3 ∷ []) ≡ 0x1161 ∷ 0x1161 ∷ 0x1162 ∷ 0x1175
    ∷ 0x1161 ∷ 0x1175 ∷ []
vowels_of = refl

trails : map trail (0xAC01 ∷ 0xAC1B ∷ 0xD7A3 ∷ []) ≡ 0x11A8 ∷ 0x11C2 ∷ 0x11C2 ∷ []
trails = refl

-- TEXTS. A font with these characters, all 500 wide; one whose glyphs have advance 0
abbrev of_characters : (ℕ → ℤ) → List ℕ → Font
of_characters width us = record {
  nominal = λ c. if list_any (λ u. u == c) us then Some (record { 0 = c }) else None;
  advance = λ glyph. width glyph.0;
  applies = λ lookup glyphs zero. false;
  offers = λ tag. false;
}

abbrev wide : List ℕ → Font
wide us = of_characters (λ g. pos 500) us

abbrev narrow : List ℕ → Font
narrow us = of_characters (λ g. pos 0) us

-- the characters in clusters 0, 1, ..; of the result each character, its feature and its cluster
abbrev text : List ℕ → Glyphs
text us = map (λ p. let g : Glyph = record default_glyph { glyph_id = p.1; cluster = p.0 } in g) (enumerate_from 0 us)

abbrev shown : Font → BufferClusterLevel → List ℕ → List (ℕ × ℕ × ℕ)
shown font level us = map (λ g. (g.glyph_id, g.auxiliary, g.cluster)) (preprocessed font true level (text us))

-- case 1: L V and L V T in one, at all levels, or marked, which merges at level MonotoneGraphemes alone
composed : shown (wide (0xAC01 ∷ [])) MonotoneGraphemes (0x1100 ∷ 0x1161 ∷ 0x11A8 ∷ []) ≡ (0xAC01, 0, 0) ∷ []
composed = refl

composed_1 : shown (wide (0xAC01 ∷ [])) MonotoneCharacters (0x1100 ∷ 0x1161 ∷ 0x11A8 ∷ []) ≡ (0xAC01, 0, 0) ∷ []
composed_1 = refl

composed_2 : shown (wide (0xAC01 ∷ [])) Characters (0x1100 ∷ 0x1161 ∷ 0x11A8 ∷ 0x41 ∷ []) ≡ (0xAC01, 0, 0)
    ∷ (0x41, 0, 3) ∷ []
composed_2 = refl

composed_two : shown (wide (0xAC00 ∷ [])) MonotoneGraphemes (0x1100 ∷ 0x1161 ∷ 0x41 ∷ []) ≡ (0xAC00, 0, 0)
    ∷ (0x41, 0, 2) ∷ []
composed_two = refl

-- the font has the LV, but not the whole
whole_or_jamo : shown (wide (0xAC00 ∷ [])) MonotoneGraphemes (0x1100 ∷ 0x1161 ∷ 0x11A8 ∷ []) ≡ (0x1100, 1, 0)
    ∷ (0x1161, 2, 0) ∷ (0x11A8, 3, 0) ∷ []
whole_or_jamo = refl

old_hangul : shown (wide []) MonotoneGraphemes (0x115F ∷ 0x1160 ∷ []) ≡ (0x115F, 1, 0) ∷ (0x1160, 2, 0) ∷ []
old_hangul = refl

old_hangul_1 : shown (wide []) MonotoneCharacters (0x115F ∷ 0x1160 ∷ []) ≡ (0x115F, 1, 0) ∷ (0x1160, 2, 1) ∷ []
old_hangul_1 = refl

old_hangul_2 : shown (wide []) Characters (0xA960 ∷ 0xD7B0 ∷ 0xD7CB ∷ []) ≡ (0xA960, 1, 0) ∷ (0xD7B0, 2, 1)
    ∷ (0xD7CB, 3, 2) ∷ []
old_hangul_2 = refl

-- case 2: LV and T in one
joined : shown (wide (0xAC00 ∷ 0xAC01 ∷ 0x1100 ∷ 0x1161 ∷ [])) MonotoneCharacters (0xAC00 ∷ 0x11A8 ∷ [])
    ≡ (0xAC01, 0, 0) ∷ []
joined = refl

-- the whole alone, of an LV that the font lacks
whole_of_lv : shown (wide (0xAC01 ∷ [])) MonotoneGraphemes (0xAC00 ∷ 0x11A8 ∷ []) ≡ (0xAC01, 0, 0) ∷ []
whole_of_lv = refl

whole_before_parts : shown (wide (0xAC01 ∷ 0x1100 ∷ 0x1161 ∷ 0x11A8 ∷ [])) Characters (0xAC00 ∷ 0x11A8 ∷ [])
    ≡ (0xAC01, 0, 0) ∷ []
whole_before_parts = refl

-- case 3: a syllable character by its jamo; an LV with the T behind it, only if the font has the LV
parted : shown (wide (0x1100 ∷ 0x1161 ∷ 0x11A8 ∷ [])) MonotoneGraphemes (0xAC01 ∷ []) ≡ (0x1100, 1, 0) ∷ (0x1161, 2, 0)
    ∷ (0x11A8, 3, 0) ∷ []
parted = refl

parted_1 : shown (wide (0x1100 ∷ 0x1161 ∷ 0x11A8 ∷ [])) MonotoneCharacters (0xAC01 ∷ []) ≡ (0x1100, 1, 0)
    ∷ (0x1161, 2, 0) ∷ (0x11A8, 3, 0) ∷ []
parted_1 = refl

parted_2 : shown (wide (0x1100 ∷ 0x1161 ∷ 0x11A8 ∷ [])) Characters (0x41 ∷ 0xAC01 ∷ []) ≡ (0x41, 0, 0) ∷ (0x1100, 1, 1)
    ∷ (0x1161, 2, 1) ∷ (0x11A8, 3, 1) ∷ []
parted_2 = refl

a_part_lacks : shown (wide (0x1100 ∷ 0x1161 ∷ [])) MonotoneGraphemes (0xAC01 ∷ []) ≡ (0xAC01, 0, 0) ∷ []
a_part_lacks = refl

with_old_t : shown (wide (0x1100 ∷ 0x1161 ∷ 0xAC00 ∷ [])) MonotoneGraphemes (0xAC00 ∷ 0x11C3 ∷ []) ≡ (0x1100, 1, 0)
    ∷ (0x1161, 2, 0) ∷ (0x11C3, 3, 0) ∷ []
with_old_t = refl

with_old_t_1 : shown (wide (0x1100 ∷ 0x1161 ∷ 0xAC00 ∷ [])) MonotoneCharacters (0xAC00 ∷ 0x11C3 ∷ []) ≡ (0x1100, 1, 0)
    ∷ (0x1161, 2, 0) ∷ (0x11C3, 3, 1) ∷ []
with_old_t_1 = refl

lv_lacks : shown (wide (0x1100 ∷ 0x1161 ∷ [])) MonotoneGraphemes (0xAC00 ∷ 0x11C3 ∷ []) ≡ (0x1100, 1, 0)
    ∷ (0x1161, 2, 0) ∷ (0x11C3, 0, 1) ∷ []
lv_lacks = refl

-- case 4 and 5: a syllable that the font has, jamo alone, other characters
alone : shown (wide (0xAC00 ∷ 0xAC01 ∷ 0x1100 ∷ 0x1161 ∷ [])) MonotoneGraphemes (0xAC01 ∷ 0x11A8 ∷ 0x1100 ∷ 0x41
    ∷ 0x1161 ∷ []) ≡ (0xAC01, 0, 0) ∷ (0x11A8, 0, 1) ∷ (0x1100, 0, 2) ∷ (0x41, 0, 3) ∷ (0x1161, 0, 4) ∷ []
alone = refl

-- TONES: before the syllable, which merges with it, or behind it with advance 0
tone_first : shown (wide (0xAC00 ∷ 0x302E ∷ [])) MonotoneGraphemes (0xAC00 ∷ 0x302E ∷ []) ≡ (0x302E, 0, 0)
    ∷ (0xAC00, 0, 0) ∷ []
tone_first = refl

tone_first_1 : shown (wide (0xAC00 ∷ 0x302E ∷ [])) MonotoneCharacters (0xAC00 ∷ 0x302E ∷ []) ≡ (0x302E, 0, 0)
    ∷ (0xAC00, 0, 0) ∷ []
tone_first_1 = refl

tone_first_2 : shown (wide (0xAC00 ∷ 0x302E ∷ [])) Characters (0xAC00 ∷ 0x302E ∷ []) ≡ (0x302E, 0, 1) ∷ (0xAC00, 0, 0)
    ∷ []
tone_first_2 = refl

tone_composed : shown (wide (0xAC01 ∷ 0x302E ∷ [])) MonotoneGraphemes (0x1100 ∷ 0x1161 ∷ 0x11A8 ∷ 0x302E ∷ [])
    ≡ (0x302E, 0, 0) ∷ (0xAC01, 0, 0) ∷ []
tone_composed = refl

tone_narrow : shown (narrow (0xAC01 ∷ 0x302E ∷ [])) MonotoneGraphemes (0x1100 ∷ 0x1161 ∷ 0x11A8 ∷ 0x302E ∷ [])
    ≡ (0xAC01, 0, 0) ∷ (0x302E, 0, 3) ∷ []
tone_narrow = refl

-- an advance below 0 is none of 0
abbrev backward : List ℕ → Font
backward us = of_characters (λ g. negsuc 0) us

tone_backward : shown (backward (0xAC00 ∷ 0x302E ∷ [])) MonotoneGraphemes (0xAC00 ∷ 0x302E ∷ []) ≡ (0x302E, 0, 0)
    ∷ (0xAC00, 0, 0) ∷ []
tone_backward = refl

tone_alone_backward : shown (backward (0x25CC ∷ 0x302E ∷ [])) MonotoneGraphemes (0x302E ∷ []) ≡ (0x302E, 0, 0)
    ∷ (0x25CC, 0, 0) ∷ []
tone_alone_backward = refl

-- a tone that the font lacks has no advance, and moves
tone_lacks : shown (wide (0xAC00 ∷ [])) MonotoneGraphemes (0xAC00 ∷ 0x302F ∷ []) ≡ (0x302F, 0, 0) ∷ (0xAC00, 0, 0) ∷ []
tone_lacks = refl

tone_before_jamo : shown (wide (0x302E ∷ [])) MonotoneCharacters (0x115F ∷ 0x1160 ∷ 0x302E ∷ []) ≡ (0x302E, 0, 0)
    ∷ (0x115F, 1, 0) ∷ (0x1160, 2, 0) ∷ []
tone_before_jamo = refl

two_tones : shown (wide (0xAC00 ∷ 0x25CC ∷ [])) MonotoneGraphemes (0xAC00 ∷ 0x302E ∷ 0x302F ∷ []) ≡ (0x302E, 0, 0)
    ∷ (0xAC00, 0, 0) ∷ (0x302F, 0, 2) ∷ (0x25CC, 0, 2) ∷ []
two_tones = refl

-- without a syllable before it, with a circle where the font has one and the caller wants it
tone_alone : shown (wide (0x25CC ∷ 0x302E ∷ [])) MonotoneGraphemes (0x302E ∷ []) ≡ (0x302E, 0, 0) ∷ (0x25CC, 0, 0) ∷ []
tone_alone = refl

tone_alone_narrow : shown (narrow (0x25CC ∷ 0x302E ∷ [])) MonotoneGraphemes (0x302E ∷ []) ≡ (0x25CC, 0, 0)
    ∷ (0x302E, 0, 0) ∷ []
tone_alone_narrow = refl

no_circle_glyph : shown (wide (0x302E ∷ [])) MonotoneGraphemes (0x41 ∷ 0x302E ∷ []) ≡ (0x41, 0, 0) ∷ (0x302E, 0, 1) ∷ []
no_circle_glyph = refl

no_circle_wanted : preprocessed (wide (0x25CC ∷ 0x302E ∷ [])) false MonotoneGraphemes (text (0x302E ∷ []))
    ≡ text (0x302E ∷ [])
no_circle_wanted = refl

tone_then_jamo : shown (wide (0xAC00 ∷ 0x25CC ∷ 0x302E ∷ [])) MonotoneGraphemes (0x302E ∷ 0x1100 ∷ 0x1161 ∷ [])
    ≡ (0x302E, 0, 0) ∷ (0x25CC, 0, 0) ∷ (0xAC00, 0, 1) ∷ []
tone_then_jamo = refl

-- the whole glyph: a new one copies the first replaced one; what is merged into another cluster loses its glyph flags
abbrev full_glyph : ℕ → ℕ → Glyph
full_glyph u cluster = record {
  glyph_id = u;
  cluster = cluster;
  mask = 0x1F;
  syllable = 7;
  category = 8;
  auxiliary = 9;
  glyph_props = record { 0 = 0x70 };
  lig_props = record { 0 = 11 };
  unicode_props = record { 0 = 0x0AAC };
}

copied_whole : preprocessed (wide (0xAC00 ∷ [])) true MonotoneGraphemes (full_glyph 0x1100 4 ∷ full_glyph 0x1161 3 ∷ [])
    ≡ (let g : Glyph = record (full_glyph 0xAC00 3) { mask = 0x18 } in g) ∷ []
copied_whole = refl

marked_whole : preprocessed (wide []) true Characters (full_glyph 0x1100 4 ∷ full_glyph 0x1161 3 ∷ [])
    ≡ (let g : Glyph = record (full_glyph 0x1100 4) { auxiliary = 1 } in g)
    ∷ (let g : Glyph = record (full_glyph 0x1161 3) { auxiliary = 2 } in g) ∷ []
marked_whole = refl

-- FLAGS. The glyph flags of each glyph of the result, at the three levels; none is left inside what merges
abbrev flags_at : Font → List ℕ → BufferClusterLevel → List ℕ
flags_at font us level = map (λ g. g.mask) (preprocessed font true level (text us))

abbrev flags : Font → List ℕ → List (List ℕ)
flags font us = map (flags_at font us) (MonotoneGraphemes ∷ MonotoneCharacters ∷ Characters ∷ [])

-- jamo of one syllable
flags_of_jamo : flags (wide []) (0x115F ∷ 0x1160 ∷ 0x11A8 ∷ []) ≡ (0 ∷ 0 ∷ 0 ∷ []) ∷ (0 ∷ 3 ∷ 3 ∷ []) ∷ (0 ∷ 3 ∷ 3 ∷ [])
    ∷ []
flags_of_jamo = refl

flags_of_two_syllables : flags (wide []) (0x115F ∷ 0x1160 ∷ 0x1100 ∷ 0x1161 ∷ 0x41 ∷ []) ≡ (0 ∷ 0 ∷ 0 ∷ 0 ∷ 0 ∷ [])
    ∷ (0 ∷ 3 ∷ 0 ∷ 3 ∷ 0 ∷ []) ∷ (0 ∷ 3 ∷ 0 ∷ 3 ∷ 0 ∷ []) ∷ []
flags_of_two_syllables = refl

-- in one: the syllable character copies the first jamo, which is flagged where its cluster isn't the least
flags_of_composed : map (λ level. map (λ g. g.mask)
    (preprocessed (wide (0xAC00 ∷ [])) true level (full_glyph 0x1100 4 ∷ full_glyph 0x1161 3 ∷ [])))
    (MonotoneGraphemes ∷ MonotoneCharacters ∷ Characters ∷ []) ≡ (0x18 ∷ []) ∷ (0x18 ∷ []) ∷ (0x1F ∷ []) ∷ []
flags_of_composed = refl

flags_of_composed_falling : map (λ level. map (λ g. g.mask)
    (preprocessed (wide (0xAC00 ∷ [])) true level (record default_glyph { glyph_id = 0x1100; cluster = 1 }
    ∷ record default_glyph { glyph_id = 0x1161 } ∷ []))) (MonotoneGraphemes ∷ MonotoneCharacters ∷ Characters ∷ [])
    ≡ (0 ∷ []) ∷ (0 ∷ []) ∷ (3 ∷ []) ∷ []
flags_of_composed_falling = refl

flags_of_joined : flags (wide (0xAC00 ∷ 0xAC01 ∷ [])) (0xAC00 ∷ 0x11A8 ∷ []) ≡ (0 ∷ []) ∷ (0 ∷ []) ∷ (0 ∷ []) ∷ []
flags_of_joined = refl

-- LV and a T that combines, where the font lacks the whole: marked jamo, LV alone marked, or neither
flags_of_split : flags (wide (0x1100 ∷ 0x1161 ∷ 0xAC00 ∷ [])) (0xAC00 ∷ 0x11A8 ∷ []) ≡ (0 ∷ 0 ∷ 0 ∷ [])
    ∷ (0 ∷ 0 ∷ 3 ∷ []) ∷ (0 ∷ 0 ∷ 3 ∷ []) ∷ []
flags_of_split = refl

flags_of_split_lv_lacks : flags (wide (0x1100 ∷ 0x1161 ∷ [])) (0xAC00 ∷ 0x11A8 ∷ []) ≡ (0 ∷ 0 ∷ 3 ∷ [])
    ∷ (0 ∷ 0 ∷ 3 ∷ []) ∷ (0 ∷ 0 ∷ 3 ∷ []) ∷ []
flags_of_split_lv_lacks = refl

flags_of_split_jamo_lack : flags (wide (0xAC00 ∷ [])) (0xAC00 ∷ 0x11A8 ∷ []) ≡ (0 ∷ 3 ∷ []) ∷ (0 ∷ 3 ∷ [])
    ∷ (0 ∷ 3 ∷ []) ∷ []
flags_of_split_jamo_lack = refl

-- LV and a T that doesn't combine: where the font lacks the jamo of LV; with them, only if a tone follows
flags_of_old_t_jamo_lack : flags (wide []) (0xAC00 ∷ 0x11C3 ∷ []) ≡ (0 ∷ 3 ∷ []) ∷ (0 ∷ 3 ∷ []) ∷ (0 ∷ 3 ∷ []) ∷ []
flags_of_old_t_jamo_lack = refl

flags_of_old_t : flags (wide (0x1100 ∷ 0x1161 ∷ 0xAC00 ∷ [])) (0xAC00 ∷ 0x11C3 ∷ []) ≡ (0 ∷ 0 ∷ 0 ∷ [])
    ∷ (0 ∷ 0 ∷ 0 ∷ []) ∷ (0 ∷ 0 ∷ 0 ∷ []) ∷ []
flags_of_old_t = refl

flags_of_old_t_narrow_tone : flags (narrow (0x1100 ∷ 0x1161 ∷ 0xAC00 ∷ 0x302E ∷ [])) (0xAC00 ∷ 0x11C3 ∷ 0x302E ∷ [])
    ≡ (0 ∷ 0 ∷ 0 ∷ 0 ∷ []) ∷ (0 ∷ 0 ∷ 3 ∷ 0 ∷ []) ∷ (0 ∷ 0 ∷ 3 ∷ 0 ∷ []) ∷ []
flags_of_old_t_narrow_tone = refl

flags_of_old_t_tone : flags (wide (0x1100 ∷ 0x1161 ∷ 0xAC00 ∷ [])) (0xAC00 ∷ 0x11C3 ∷ 0x302E ∷ [])
    ≡ (0 ∷ 0 ∷ 0 ∷ 0 ∷ []) ∷ (0 ∷ 0 ∷ 0 ∷ 0 ∷ []) ∷ (0 ∷ 0 ∷ 0 ∷ 3 ∷ []) ∷ []
flags_of_old_t_tone = refl

-- no other: a whole syllable before T, parts of one, a tone behind a syllable, one alone
flags_of_others : flags (wide (0xAC01 ∷ 0x1100 ∷ 0x1161 ∷ 0x11A9 ∷ 0x25CC ∷ [])) (0xAC01 ∷ 0x11A8 ∷ 0xAC02 ∷ 0xAC01
    ∷ 0x302E ∷ 0x302F ∷ [])
    ≡ map (λ level. 0 ∷ 0 ∷ 0 ∷ 0 ∷ 0 ∷ 0 ∷ 0 ∷ 0 ∷ 0 ∷ []) (MonotoneGraphemes ∷ MonotoneCharacters ∷ Characters ∷ [])
flags_of_others = refl

-- with Sound each item is flagged, its tone with it: from its first character on
whole : whole_items (items (narrow (0x1100 ∷ 0x1161 ∷ 0xAC00 ∷ 0x302E ∷ [])) true (0x41 ∷ 0xAC00 ∷ 0x302E ∷ 0xAC00
    ∷ 0x11C3 ∷ [])) ≡ (0, 1) ∷ (1, 3) ∷ (3, 5) ∷ []
whole = refl

abbrev sound_flags_at : Font → List ℕ → BufferClusterLevel → List ℕ
sound_flags_at font us level = map (λ g. g.mask) (text_rewritten Sound font true level (text us))

abbrev sound_flags : Font → List ℕ → List (List ℕ)
sound_flags font us = map (sound_flags_at font us) (MonotoneGraphemes ∷ MonotoneCharacters ∷ Characters ∷ [])

sound_old_t : sound_flags (wide (0x1100 ∷ 0x1161 ∷ 0xAC00 ∷ [])) (0xAC00 ∷ 0x11C3 ∷ []) ≡ (0 ∷ 0 ∷ 0 ∷ [])
    ∷ (0 ∷ 0 ∷ 3 ∷ []) ∷ (0 ∷ 0 ∷ 3 ∷ []) ∷ []
sound_old_t = refl

-- a tone that stays: no flag of the code's, and with Sound one
narrow_tone : flags (narrow (0xAC00 ∷ 0x302E ∷ [])) (0xAC00 ∷ 0x302E ∷ []) ≡ (0 ∷ 0 ∷ []) ∷ (0 ∷ 0 ∷ [])
    ∷ (0 ∷ 0 ∷ []) ∷ []
narrow_tone = refl

sound_narrow_tone : sound_flags (narrow (0xAC00 ∷ 0x302E ∷ [])) (0xAC00 ∷ 0x302E ∷ []) ≡ (0 ∷ 3 ∷ []) ∷ (0 ∷ 3 ∷ [])
    ∷ (0 ∷ 3 ∷ []) ∷ []
sound_narrow_tone = refl

sound_old_t_narrow_tone : sound_flags (narrow (0x1100 ∷ 0x1161 ∷ 0xAC00 ∷ 0x302E ∷ [])) (0xAC00 ∷ 0x11C3 ∷ 0x302E ∷ [])
    ≡ (0 ∷ 0 ∷ 0 ∷ 3 ∷ []) ∷ (0 ∷ 0 ∷ 3 ∷ 3 ∷ []) ∷ (0 ∷ 0 ∷ 3 ∷ 3 ∷ []) ∷ []
sound_old_t_narrow_tone = refl

-- a tone that moves merges with its syllable, and keeps its flag where nothing merges
sound_moved_tone : sound_flags (wide (0xAC00 ∷ [])) (0xAC00 ∷ 0x302E ∷ []) ≡ (0 ∷ 0 ∷ []) ∷ (0 ∷ 0 ∷ []) ∷ (3 ∷ 0 ∷ [])
    ∷ []
sound_moved_tone = refl

-- where clusters fall, the syllable in one keeps its flag: its merge comes first
abbrev falling : Glyphs
falling = record default_glyph { glyph_id = 0x1100; cluster = 2 }
    ∷ record default_glyph { glyph_id = 0x1161; cluster = 1 } ∷ record default_glyph { glyph_id = 0x302E } ∷ []

sound_falling : text_rewritten Sound (narrow (0xAC00 ∷ 0x302E ∷ [])) true MonotoneCharacters falling
    ≡ record default_glyph { glyph_id = 0xAC00; cluster = 1; mask = 3 }
    ∷ record default_glyph { glyph_id = 0x302E } ∷ []
sound_falling = refl

-- between items nothing is flagged
sound_apart : sound_flags (wide (0xAC00 ∷ [])) (0xAC00 ∷ 0x41 ∷ 0xAC00 ∷ []) ≡ map (λ level. 0 ∷ 0 ∷ 0 ∷ [])
    (MonotoneGraphemes ∷ MonotoneCharacters ∷ Characters ∷ [])
sound_apart = refl

-- the code's choice flags nothing before
as_code : items_flagged AsCode (items (narrow (0xAC00 ∷ 0x302E ∷ [])) true (0xAC00 ∷ 0x302E ∷ [])) (text (0xAC00
    ∷ 0x302E ∷ [])) ≡ text (0xAC00 ∷ 0x302E ∷ [])
as_code = refl

-- MASKS, by the auxiliary byte, which stays with all else
abbrev masked : (n : ℕ) → Glyph
masked n = record default_glyph { mask = 3; auxiliary = n }

masks : map (λ g. g.mask)
    (map (with_numbered_mask (0 ∷ 0x10 ∷ 0x20 ∷ 0x40 ∷ [])) (masked 0 ∷ masked 1 ∷ masked 2 ∷ masked 3 ∷ masked 4 ∷ []))
    ≡ 3 ∷ 0x13 ∷ 0x23 ∷ 0x43 ∷ 3 ∷ []
masks = refl

masked_whole : with_numbered_mask (0 ∷ 0x10 ∷ 0x20 ∷ []) (record (full_glyph 0x1161 3) { auxiliary = 2 })
    ≡ record (full_glyph 0x1161 3) { mask = 0x3F; auxiliary = 2 }
masked_whole = refl

jamo_tags : jamo_masks
    (record {
      features = record { tag = record { 0 = codes "tjmo" }; mask = 0x40; stage = 0 }
          ∷ record { tag = record { 0 = codes "ljmo" }; mask = 0x10; stage = 0 }
          ∷ record { tag = record { 0 = codes "vjmo" }; mask = 0x20; stage = 0 } ∷ [];
      stages = [];
      lookups = [];
      global =
          0;
      chosen = None;
      found = true;
    }) ≡ 0 ∷ 0x10 ∷ 0x20 ∷ 0x40 ∷ []
jamo_tags = refl

-- SOURCES, MERGES and SPELLING of a text with two syllables and a tone
abbrev mixed : List ℕ
mixed = 0x1100 ∷ 0x1161 ∷ 0x11A8 ∷ 0x302E ∷ 0xAC01 ∷ 0x302F ∷ 0x302F ∷ []

mixed_sources : hangul_sources (items (wide (0xAC01 ∷ 0x25CC ∷ [])) true mixed) 7 ≡ 3 ∷ 0 ∷ 5 ∷ 4 ∷ 6 ∷ 6 ∷ []
mixed_sources = refl

mixed_merges : stretches MonotoneCharacters (items (wide (0xAC01 ∷ 0x25CC ∷ [])) true mixed) ≡ (0, 3) ∷ (0, 4) ∷ (4, 5)
    ∷ (4, 6) ∷ (6, 7) ∷ []
mixed_merges = refl

marked_merges : map (λ level. stretches level (items (wide []) true (0x115F ∷ 0x1160 ∷ 0x302E ∷ [])))
    (MonotoneGraphemes ∷ MonotoneCharacters ∷ Characters ∷ []) ≡ ((0, 2) ∷ (0, 3) ∷ []) ∷ ((0, 3) ∷ []) ∷ ((0, 3) ∷ [])
    ∷ []
marked_merges = refl

mixed_full : full mixed ≡ 0x1100 ∷ 0x1161 ∷ 0x11A8 ∷ 0x302E ∷ 0x1100 ∷ 0x1161 ∷ 0x11A8 ∷ 0x302F ∷ 0x302F ∷ []
mixed_full = refl

full_lv : full (0xAC1C ∷ 0x41 ∷ 0xD7A4 ∷ []) ≡ 0x1100 ∷ 0x1162 ∷ 0x41 ∷ 0xD7A4 ∷ []
full_lv = refl

spelled_apart : spelled (0x25CC ∷ 0x302E ∷ 0xD7A3 ∷ 0x302F ∷ 0x41 ∷ []) ≡ 0x1112 ∷ 0x1175 ∷ 0x11C2 ∷ 0x41 ∷ []
spelled_apart = refl

-- FLOODS: three syllables, of which the second floods the first one, or none floods
abbrev numbered : List ℕ → Glyphs
numbered cs = map (λ c. record default_glyph { cluster = c }) cs

abbrev three : List (ℕ × Item)
three = items (wide []) true (0x1100 ∷ 0x1161 ∷ 0x11A8 ∷ 0x1100 ∷ 0x1161 ∷ 0x11A8 ∷ 0x1100 ∷ 0x1161 ∷ 0x11A8 ∷ [])

floods : map (λ cs. flooding_len MonotoneGraphemes three (numbered cs))
    ((5 ∷ 5 ∷ 5 ∷ 5 ∷ 4 ∷ 4 ∷ 4 ∷ 4 ∷ 4 ∷ []) ∷ (5 ∷ 5 ∷ 5 ∷ 4 ∷ 4 ∷ 4 ∷ 4 ∷ 4 ∷ 3 ∷ [])
    ∷ (5 ∷ 5 ∷ 5 ∷ 4 ∷ 4 ∷ 4 ∷ 3 ∷ 3 ∷ 3 ∷ []) ∷ []) ≡ 2 ∷ 3 ∷ 3 ∷ []
floods = refl

before_places : map (λ place. cluster_before place (numbered (7 ∷ 8 ∷ []))) (0 ∷ 1 ∷ 2 ∷ []) ≡ 0 ∷ 7 ∷ 8 ∷ []
before_places = refl
