-- How long a text gets, computed: each bound is attained.
use Rattle.std.specs.Prelude.{◌≡◌, ℕ, ◌==◌, false, true, pos, Some, None, [], ◌∷◌, length, map, refl, if◌then◌else◌}
use Rattle.std.specs.List.{list_any}
use Rattle.shapers_base.specs.Font.{Font}
use Rattle.shapers_base.specs.declared.plan.pause.Pause.TheVariants.{FinalReordering, InitialReordering, RecordStch, ReorderKhmer, ReorderMyanmar, ReorderUse}
use Rattle.shapers_buffer.specs.Glyphs.{Glyph, Glyphs}
use Rattle.shapers_buffer.specs.declared.buffer.level.BufferClusterLevel.TheVariants.{MonotoneGraphemes}
use Rattle.shapers_buffer.specs.Glyph.{default_glyph}
use Rattle.shapers_hangul.specs.Hangul.{preprocessed}
use Rattle.shapers_syllabic.specs.Circles.{circled}
use Rattle.shapers_syllabic.specs.declared.ot_shaper_syllabic.circles.DottedCircles.{DottedCircles}
use Rattle.shapers_text.specs.ThaiForms.{preprocessed_text}
use Rattle.rustybuzz_shapers.specs.Lengths.{broken_in, growth, pause_growth}
use Rattle.rustybuzz_shapers.specs.declared.shaper.hb_ot_shaper_t.TheVariants.{Arabic, Hangul, Hebrew, Indic, Khmer, Myanmar, MyanmarZawgyi, Thai, Universal}

abbrev character : ℕ → Glyph
character u = record default_glyph { glyph_id = u }

-- a font that has the jamo of AC01, and not that
abbrev jamo_font : Font
jamo_font = record {
  nominal = λ c. if list_any (λ u. u == c) (0x1100 ∷ 0x1161 ∷ 0x11A8 ∷ []) then Some (record { 0 = c }) else None;
  advance = λ glyph. pos 500;
  applies = λ lookup glyphs zero. false;
  offers = λ tag. false;
}

growths : map growth (Arabic ∷ Hangul ∷ Hebrew ∷ Indic ∷ Khmer ∷ Myanmar ∷ MyanmarZawgyi ∷ Thai ∷ Universal ∷ [])
    ≡ 1 ∷ 3 ∷ 1 ∷ 2 ∷ 2 ∷ 2 ∷ 1 ∷ 2 ∷ 2 ∷ []
growths = refl

pause_growths : map pause_growth (InitialReordering ∷ FinalReordering ∷ ReorderKhmer ∷ ReorderMyanmar ∷ ReorderUse
    ∷ RecordStch ∷ []) ≡ 2 ∷ 1 ∷ 2 ∷ 2 ∷ 2 ∷ 1 ∷ []
pause_growths = refl

-- one syllable character, three jamo
three_jamo : length (preprocessed jamo_font true MonotoneGraphemes (character 0xAC01 ∷ [])) ≡ 3
three_jamo = refl

-- a consonant with a mark and SARA AM: one longer; SARA AM alone: twice as long
one_am : length
    (preprocessed_text false (λ u. false) MonotoneGraphemes (character 0x0E19 ∷ character 0x0E49 ∷ character 0x0E33
    ∷ [])) ≡ 4
one_am = refl

am_alone : length (preprocessed_text false (λ u. false) MonotoneGraphemes (character 0x0E33 ∷ [])) ≡ 2
am_alone = refl

-- two broken syllables of one glyph each, of kind 4, get two circles; without circles none
abbrev two_broken : Glyphs
two_broken = record default_glyph { syllable = 0x14 } ∷ record default_glyph { syllable = 0x24 } ∷ []

abbrev rule : DottedCircles
rule = record { broken_kind = 4; circle = default_glyph; repha = None }

two_circles : length (circled (Some rule) two_broken) ≡ 4
two_circles = refl

counted : broken_in (Some rule) two_broken ≡ 2
counted = refl

none_wanted : broken_in None two_broken ≡ 0
none_wanted = refl
