-- Texts cut elsewhere than the laws say: the smallest whose halves, one after the other, give something else.
use Rattle.std.specs.Prelude.{◌≡◌, ℕ, ◌==◌, false, true, pos, Some, None, [], ◌∷◌, ◌++◌, refl, if◌then◌else◌}
use Rattle.std.specs.List.{list_any}
use Rattle.shapers_base.specs.Font.{Font}
use Rattle.shapers_buffer.specs.Glyphs.{Glyph, Glyphs}
use Rattle.shapers_buffer.specs.declared.buffer.level.BufferClusterLevel.TheVariants.{MonotoneGraphemes}
use Rattle.shapers_buffer.specs.Glyph.{characters, clusters, default_glyph}
use Rattle.shapers_hangul.specs.Hangul.{preprocessed}
use Rattle.shapers_text.specs.ThaiForms.{preprocessed_text}

abbrev glyph : ℕ → ℕ → Glyph
glyph u c = record default_glyph { glyph_id = u; cluster = c }

abbrev plainly : Glyphs → Glyphs
plainly gs = preprocessed_text false (λ u. true) MonotoneGraphemes gs

abbrev with_forms : Glyphs → Glyphs
with_forms gs = preprocessed_text true (λ u. true) MonotoneGraphemes gs

-- between two above-base marks: NIKHAHIT goes before both
between_marks : characters (plainly (glyph 0x0E49 0 ∷ glyph 0x0E49 1 ∷ glyph 0x0E33 2 ∷ [])) ≡ 0x0E4D ∷ 0x0E49 ∷ 0x0E49
    ∷ 0x0E32 ∷ []
between_marks = refl

between_marks_halves : characters (plainly (glyph 0x0E49 0 ∷ []) ++ plainly (glyph 0x0E49 1 ∷ glyph 0x0E33 2 ∷ []))
    ≡ 0x0E49 ∷ 0x0E4D ∷ 0x0E49 ∷ 0x0E32 ∷ []
between_marks_halves = refl

-- before SARA AM: that shares the cluster of the letter before it
before_sara_am : clusters (plainly (glyph 0x0E19 0 ∷ glyph 0x0E33 1 ∷ [])) ≡ 0 ∷ 0 ∷ 0 ∷ []
before_sara_am = refl

before_sara_am_halves : clusters (plainly (glyph 0x0E19 0 ∷ []) ++ plainly (glyph 0x0E33 1 ∷ [])) ≡ 0 ∷ 1 ∷ 1 ∷ []
before_sara_am_halves = refl

-- with private use forms before a vowel below: the letter keeps its descender, and the vowel has no letter
before_mark : characters (with_forms (glyph 0x0E0D 0 ∷ glyph 0x0E38 1 ∷ [])) ≡ 0xF70F ∷ 0x0E38 ∷ []
before_mark = refl

before_mark_halves : characters (with_forms (glyph 0x0E0D 0 ∷ []) ++ with_forms (glyph 0x0E38 1 ∷ [])) ≡ 0x0E0D ∷ 0xF718
    ∷ []
before_mark_halves = refl

-- inside a Hangul syllable
abbrev whole_font : Font
whole_font = record {
  nominal = λ c. if list_any (λ u. u == c) (0xAC00 ∷ []) then Some (record { 0 = c }) else None;
  advance = λ glyph. pos 500;
  applies = λ lookup glyphs zero. false;
  offers = λ tag. false;
}

abbrev hangul : Glyphs → Glyphs
hangul gs = preprocessed whole_font true MonotoneGraphemes gs

inside_item : characters (hangul (glyph 0x1100 0 ∷ glyph 0x1161 1 ∷ [])) ≡ 0xAC00 ∷ []
inside_item = refl

inside_item_halves : characters (hangul (glyph 0x1100 0 ∷ []) ++ hangul (glyph 0x1161 1 ∷ [])) ≡ 0x1100 ∷ 0x1161 ∷ []
inside_item_halves = refl
