-- Texts that hooks made anew, whole and in halves, written out from the rules.
use Rattle.std.proofs.Common.{ℕ, ◌≡◌, ◌==◌, ◌||◌, true, false, List, [], ◌∷◌, ◌++◌, ℤ, pos, negsuc, map, refl, sym, arith}
use Rattle.std.specs.Prelude.{None, Some, if◌then◌else◌}
use Rattle.std.specs.List.{list_any}
use Rattle.std.proofs.lemmas.Bool.{false≢true}
use Rattle.shapers_base.specs.Font.{Font}
use Rattle.shapers_base.specs.declared.plan.arabic.StretchStart.TheVariants.{AsCode}
use Rattle.shapers_base.specs.declared.plan.breaks.BreakFlags.TheVariants as BreakFlags
use Rattle.shapers_base.specs.declared.plan.breaks.BreakFlags.TheVariants.{Sound}
use Rattle.shapers_buffer.specs.declared.buffer.category.hb_unicode_general_category_t.{hb_unicode_general_category_t}
use Rattle.shapers_buffer.specs.declared.buffer.category.hb_unicode_general_category_t.TheVariants.{Lo, Zs}
use Rattle.shapers_buffer.specs.declared.buffer.level.Direction.TheVariants.{RightToLeft}
use Rattle.shapers_buffer.specs.declared.buffer.glyph.GlyphPosition.{GlyphPosition}
use Rattle.shapers_buffer.specs.Glyphs.{Glyph, Glyphs}
use Rattle.shapers_buffer.specs.declared.buffer.level.BufferClusterLevel.TheVariants.{Characters, MonotoneCharacters, MonotoneGraphemes}
use Rattle.shapers_buffer.specs.Buffer.{Buffer, new_buffer}
use Rattle.shapers_buffer.specs.Glyph.{characters, clusters, default_glyph, default_position}
use Rattle.shapers_buffer.specs.Properties.{general_category, properties}
use Rattle.shapers_clusters.specs.Breaks.{IsClear}
use Rattle.shapers_hangul.specs.Hangul.{preprocessed, text_rewritten}
use Rattle.shapers_stretch.specs.Stretch.{marks_stretched}
use Rattle.shapers_text.specs.ThaiForms.{preprocessed_flagged, preprocessed_text}
use Rattle.shapers_break_laws.specs.HangulBreaks.{NarrowTonesJoin}
use Rattle.shapers_break_laws.specs.TextBreaks.{IsClusterBorder, back_half, front_half}
use Rattle.shapers_break_laws.specs.ThaiBreaks.{ThaiMarksJoin, sara_ams_taken}

abbrev glyph : ℕ → ℕ → Glyph
glyph u c = record default_glyph { glyph_id = u; cluster = c }

-- THAI. 0E14 0E34 0E48 0E33: NIKHAHIT goes before both marks, and with them all is one cluster; the border before them
-- stays
abbrev marked : Glyphs
marked = sara_ams_taken MonotoneCharacters (glyph 0x0E14 0 ∷ glyph 0x0E34 1 ∷ glyph 0x0E48 2 ∷ glyph 0x0E33 3 ∷ [])

row_marked : characters marked ≡ 0x0E14 ∷ 0x0E4D ∷ 0x0E34 ∷ 0x0E48 ∷ 0x0E32 ∷ []
row_marked = refl

row_marked_clusters : clusters marked ≡ 0 ∷ 1 ∷ 1 ∷ 1 ∷ 1 ∷ []
row_marked_clusters = refl

row_border : IsClusterBorder marked 1
row_border e = absurd (omega (arith, e))

row_marked_halves : marked ≡ sara_ams_taken MonotoneCharacters (glyph 0x0E14 0 ∷ [])
    ++ sara_ams_taken MonotoneCharacters (glyph 0x0E34 1 ∷ glyph 0x0E48 2 ∷ glyph 0x0E33 3 ∷ [])
row_marked_halves = refl

-- without a mark, by characters: a border before SARA AM; by graphemes there is none
abbrev bare : Glyphs
bare = glyph 0x0E19 0 ∷ glyph 0x0E33 1 ∷ []

row_bare : clusters (sara_ams_taken MonotoneCharacters bare) ≡ 0 ∷ 1 ∷ 1 ∷ []
row_bare = refl

row_bare_halves : sara_ams_taken MonotoneCharacters bare ≡ sara_ams_taken MonotoneCharacters (glyph 0x0E19 0 ∷ [])
    ++ sara_ams_taken MonotoneCharacters (glyph 0x0E33 1 ∷ [])
row_bare_halves = refl

row_bare_graphemes : clusters (sara_ams_taken MonotoneGraphemes bare) ≡ 0 ∷ 0 ∷ 0 ∷ []
row_bare_graphemes = refl

-- where nothing merges a border may fall between NIKHAHIT and the mark that it passed
abbrev unmerged : Glyphs
unmerged = sara_ams_taken Characters (glyph 0x0E49 0 ∷ glyph 0x0E33 1 ∷ [])

row_unmerged : clusters unmerged ≡ 1 ∷ 0 ∷ 1 ∷ []
row_unmerged = refl

row_unmerged_halves : characters (sara_ams_taken Characters (glyph 0x0E49 0 ∷ [])
    ++ sara_ams_taken Characters (glyph 0x0E33 1 ∷ [])) ≡ 0x0E49 ∷ 0x0E4D ∷ 0x0E32 ∷ []
row_unmerged_halves = refl

row_unmerged_whole : characters unmerged ≡ 0x0E4D ∷ 0x0E49 ∷ 0x0E32 ∷ []
row_unmerged_whole = refl

-- private use forms: a mark in a cluster of its own
abbrev formed : Glyphs → Glyphs
formed gs = preprocessed_text true (λ u. u == 0xF710 || u == 0xF711) MonotoneCharacters gs

row_form : characters (formed (glyph 0x0E1B 0 ∷ glyph 0x0E31 1 ∷ [])) ≡ 0x0E1B ∷ 0xF710 ∷ []
row_form = refl

row_form_halves : characters (formed (glyph 0x0E1B 0 ∷ []) ++ formed (glyph 0x0E31 1 ∷ [])) ≡ 0x0E1B ∷ 0x0E31 ∷ []
row_form_halves = refl

-- no glyph of it is flagged
row_form_masks : map (λ (g : Glyph). g.mask) (formed (glyph 0x0E1B 0 ∷ glyph 0x0E31 1 ∷ [])) ≡ 0 ∷ 0 ∷ []
row_form_masks = refl

row_form_apart : ThaiMarksJoin (sara_ams_taken MonotoneCharacters (glyph 0x0E1B 0 ∷ glyph 0x0E31 1 ∷ [])) → ⊥
row_form_apart join = absurd (omega (arith, join 1 (omega arith) (omega arith) refl))

-- and a NIKHAHIT, which is such a mark
row_nikhahit : characters (formed (glyph 0x0E1B 0 ∷ glyph 0x0E33 1 ∷ [])) ≡ 0x0E1B ∷ 0xF711 ∷ 0x0E32 ∷ []
row_nikhahit = refl

row_nikhahit_halves : characters (formed (glyph 0x0E1B 0 ∷ []) ++ formed (glyph 0x0E33 1 ∷ [])) ≡ 0x0E1B ∷ 0x0E4D
    ∷ 0x0E32 ∷ []
row_nikhahit_halves = refl

-- with Sound the glyph of the greater cluster is flagged, so the place before the mark isn't clear
abbrev soundly : Glyphs → Glyphs
soundly gs = preprocessed_flagged Sound true (λ u. u == 0xF710 || u == 0xF711) MonotoneCharacters gs

abbrev masks : Glyphs → List ℕ
masks gs = map (λ g. g.mask) gs

row_clear_as_code : IsClear (formed (glyph 0x0E1B 0 ∷ glyph 0x0E31 1 ∷ [])) 1
row_clear_as_code = record { differ = λ e. absurd (omega (arith, e)); unflagged = refl }

row_unclear : IsClear (soundly (glyph 0x0E1B 0 ∷ glyph 0x0E31 1 ∷ [])) 1 → ⊥
row_unclear clear = absurd (let e : true ≡ false = clear.unflagged in cc)

row_sound_rising : masks (soundly (glyph 0x0E1B 0 ∷ glyph 0x0E31 1 ∷ [])) ≡ 0 ∷ 3 ∷ []
row_sound_rising = refl

row_sound_falling : masks (soundly (glyph 0x0E1B 1 ∷ glyph 0x0E31 0 ∷ [])) ≡ 3 ∷ 0 ∷ []
row_sound_falling = refl

-- nor is it before a NIKHAHIT, whose cluster has an unflagged glyph besides
row_sound_nikhahit : masks (soundly (glyph 0x0E1B 0 ∷ glyph 0x0E33 1 ∷ [])) ≡ 0 ∷ 3 ∷ 0 ∷ []
row_sound_nikhahit = refl

row_unclear_nikhahit : IsClear (soundly (glyph 0x0E1B 0 ∷ glyph 0x0E33 1 ∷ [])) 1 → ⊥
row_unclear_nikhahit clear = absurd (let e : true ≡ false = clear.unflagged in cc)

-- marks that begin a text have no base, and are flagged from its start
row_sound_no_base : masks (soundly (glyph 0x0E31 0 ∷ glyph 0x0E31 1 ∷ [])) ≡ 0 ∷ 3 ∷ []
row_sound_no_base = refl

-- before the next letter the place stays clear, and the halves are the whole
abbrev two_letters : Glyphs
two_letters = glyph 0x0E1B 0 ∷ glyph 0x0E31 1 ∷ glyph 0x0E1B 2 ∷ []

row_clear_soundly : IsClear (soundly two_letters) 2
row_clear_soundly = record { differ = λ e. absurd (omega (arith, e)); unflagged = refl }

row_sound_whole : soundly two_letters ≡ soundly (glyph 0x0E1B 0 ∷ glyph 0x0E31 1 ∷ []) ++ soundly (glyph 0x0E1B 2 ∷ [])
row_sound_whole = refl

-- HANGUL. LV and an old T, by characters: LV comes apart before it alone
abbrev font_of : List ℕ → ℤ → Font
font_of us advance = record {
  nominal = λ c. if list_any (λ u. u == c) us then Some (record { 0 = c }) else None;
  advance = λ g. advance;
  applies = λ lookup gs zero. false;
  offers = λ tag. false;
}

abbrev old_font : Font
old_font = font_of (0xAC00 ∷ 0x1100 ∷ 0x1161 ∷ []) (pos 500)

abbrev old_t : Glyphs
old_t = glyph 0xAC00 0 ∷ glyph 0x11C3 1 ∷ []

row_old_t : characters (preprocessed old_font true MonotoneCharacters old_t) ≡ 0x1100 ∷ 0x1161 ∷ 0x11C3 ∷ []
row_old_t = refl

row_old_t_clusters : clusters (preprocessed old_font true MonotoneCharacters old_t) ≡ 0 ∷ 0 ∷ 1 ∷ []
row_old_t_clusters = refl

row_old_t_halves : characters (preprocessed old_font true MonotoneCharacters (glyph 0xAC00 0 ∷ [])
    ++ preprocessed old_font true MonotoneCharacters (glyph 0x11C3 1 ∷ [])) ≡ 0xAC00 ∷ 0x11C3 ∷ []
row_old_t_halves = refl

row_old_t_graphemes : clusters (preprocessed old_font true MonotoneGraphemes old_t) ≡ 0 ∷ 0 ∷ 0 ∷ []
row_old_t_graphemes = refl

-- a tone without width in a cluster of its own: alone it takes a circle
abbrev narrow_font : Font
narrow_font = font_of (0xAC00 ∷ 0x302E ∷ 0x25CC ∷ []) (pos 0)

row_tone : characters (preprocessed narrow_font true MonotoneGraphemes (glyph 0xAC00 0 ∷ glyph 0x302E 1 ∷ []))
    ≡ 0xAC00 ∷ 0x302E ∷ []
row_tone = refl

row_tone_clusters : clusters (preprocessed narrow_font true MonotoneGraphemes (glyph 0xAC00 0 ∷ glyph 0x302E 1 ∷ []))
    ≡ 0 ∷ 1 ∷ []
row_tone_clusters = refl

row_tone_halves : characters (preprocessed narrow_font true MonotoneGraphemes (glyph 0xAC00 0 ∷ [])
    ++ preprocessed narrow_font true MonotoneGraphemes (glyph 0x302E 1 ∷ [])) ≡ 0xAC00 ∷ 0x25CC ∷ 0x302E ∷ []
row_tone_halves = refl

row_tone_apart : NarrowTonesJoin narrow_font (glyph 0xAC00 0 ∷ glyph 0x302E 1 ∷ []) → ⊥
row_tone_apart join = absurd (omega (arith, join 1 (omega arith) (omega arith) refl refl))

-- with a width it goes before its syllable, in one cluster
abbrev wide_font : Font
wide_font = font_of (0xAC00 ∷ 0x302E ∷ 0x25CC ∷ []) (pos 500)

row_wide : clusters (preprocessed wide_font true MonotoneGraphemes (glyph 0xAC00 0 ∷ glyph 0x302E 1 ∷ [])) ≡ 0 ∷ 0 ∷ []
row_wide = refl

-- with all flags of `Sound` neither place is clear, by characters: the greater cluster is flagged
abbrev sounded : Font → Glyphs → Glyphs
sounded font gs = text_rewritten Sound font true MonotoneCharacters gs

row_old_t_flags : map (λ (g : Glyph). g.mask) (sounded old_font old_t) ≡ 0 ∷ 0 ∷ 3 ∷ []
row_old_t_flags = refl

row_old_t_flags_as_code : map (λ (g : Glyph). g.mask)
    (text_rewritten BreakFlags.AsCode old_font true MonotoneCharacters old_t) ≡ 0 ∷ 0 ∷ 0 ∷ []
row_old_t_flags_as_code = refl

row_old_t_unclear : IsClear (sounded old_font old_t) 2 → ⊥
row_old_t_unclear clear = absurd (false≢true (sym clear.unflagged))

row_tone_flags : map (λ (g : Glyph). g.mask) (sounded narrow_font (glyph 0xAC00 0 ∷ glyph 0x302E 1 ∷ []))
    ≡ 0 ∷ 3 ∷ []
row_tone_flags = refl

row_tone_flags_falling : map (λ (g : Glyph). g.mask)
    (sounded narrow_font (glyph 0xAC00 1 ∷ glyph 0x302E 0 ∷ [])) ≡ 3 ∷ 0 ∷ []
row_tone_flags_falling = refl

row_tone_unclear : IsClear (sounded narrow_font (glyph 0xAC00 0 ∷ glyph 0x302E 1 ∷ [])) 1 → ⊥
row_tone_unclear clear = absurd (false≢true (sym clear.unflagged))

-- between two syllables one is
row_syllables_clear : IsClear (sounded narrow_font (glyph 0xAC00 0 ∷ glyph 0xAC00 1 ∷ [])) 1
row_syllables_clear = record { differ = λ e. absurd (omega (arith, e)); unflagged = refl }

-- STRETCH. A space, a letter of 140 and a fixed tile of 100
abbrev drawn : ℕ → ℕ → hb_unicode_general_category_t → ℕ → Glyph
drawn n c category action =
    record default_glyph { glyph_id = n; cluster = c; unicode_props = properties category 0; auxiliary = action }

abbrev wide : ℤ → GlyphPosition
wide advance = record default_position { x_advance = advance }

abbrev line : ℕ → ℕ → Buffer
line letter tile = record (new_buffer 99) {
  glyphs = drawn 5 0 Zs 7 ∷ drawn 1 letter Lo 7 ∷ drawn 2 tile Lo 8 ∷ [];
  positions = wide (pos 55) ∷ wide (pos 140) ∷ wide (pos 100) ∷ [];
  direction = RightToLeft;
  stch = true;
}

abbrev tiles_font : Font
tiles_font = font_of [] (pos 100)

abbrev stretched_line : Buffer → Buffer
stretched_line b = marks_stretched tiles_font AsCode b

-- the tile begins behind half of the 40 that it leaves, and stands 100 before that
abbrev laid_at_80 : GlyphPosition
laid_at_80 = record default_position { x_offset = negsuc 79 }

row_line : (stretched_line (line 1 1)).positions ≡ wide (pos 55) ∷ wide (pos 140) ∷ laid_at_80 ∷ []
unfolding general_category
row_line = refl

row_line_halves : (stretched_line (front_half 1 (line 1 1))).positions
    ++ (stretched_line (back_half 1 (line 1 1))).positions ≡ wide (pos 55) ∷ wide (pos 140) ∷ laid_at_80 ∷ []
unfolding general_category
row_line_halves = refl

-- between letter and tile the greater cluster is flagged, and a break there would move the tile
row_rising : map (λ (g : Glyph). g.mask) (stretched_line (line 1 2)).glyphs ≡ 0 ∷ 0 ∷ 3 ∷ []
unfolding general_category
row_rising = refl

row_falling : map (λ (g : Glyph). g.mask) (stretched_line (line 2 1)).glyphs ≡ 0 ∷ 3 ∷ 0 ∷ []
unfolding general_category
row_falling = refl

row_moved : map (λ (p : GlyphPosition). p.x_offset) (stretched_line (back_half 2 (line 1 2))).positions ≡ negsuc 149 ∷ []
unfolding general_category
row_moved = refl

-- halves keep all else
row_front : (front_half 2 (line 1 2)).positions ≡ wide (pos 55) ∷ wide (pos 140) ∷ []
row_front = refl

row_back : clusters (back_half 1 (line 1 2)).glyphs ≡ 1 ∷ 2 ∷ []
row_back = refl
