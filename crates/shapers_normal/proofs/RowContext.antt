-- A shaper, a font and a few characters of Unicode, over which the rounds are computed.
use Rattle.std.specs.Prelude.{ℕ, ◌==◌, false, ◌&&◌, ◌||◌, List, [], ◌∷◌, find, map, Option, None, Some, option_map, if◌then◌else◌}
use Rattle.std.specs.List.{enumerate_from, list_any}
use Rattle.std.specs.Option.{option_map_or}
use Rattle.shapers_base.specs.declared.font.GlyphId.{GlyphId}
use Rattle.shapers_base.specs.declared.plan.record.NormalizationMode.{NormalizationMode}
use Rattle.shapers_buffer.specs.declared.buffer.category.hb_unicode_general_category_t.{hb_unicode_general_category_t}
use Rattle.shapers_buffer.specs.declared.buffer.category.hb_unicode_general_category_t.TheVariants.{Cf, Ll, Mn, Zs}
use Rattle.shapers_buffer.specs.Glyphs.{Glyph, Glyphs}
use Rattle.shapers_buffer.specs.Glyph.{default_glyph}
use Rattle.shapers_normal.specs.Context.{Context}
use Rattle.shapers_normal.specs.Properties.{as_character}

-- Unicode's pairs of some characters; angstrom comes apart into one, and a chain of nine in private use
abbrev pairs : List (ℕ × ℕ × ℕ)
pairs =
    (0xE9, 0x65, 0x301) ∷ (0xEA, 0x65, 0x302) ∷ (0x1EBF, 0xEA, 0x301) ∷ (0xC5, 0x41, 0x30A)
    ∷ (0x212B, 0xC5, 0) ∷ (0x0344, 0x308, 0x301) ∷ (0x9CB, 0x9C7, 0x9BE)
    ∷ (0xE001, 0xE000, 0x301) ∷ (0xE002, 0xE001, 0x301) ∷ (0xE003, 0xE002, 0x301) ∷ (0xE004, 0xE003, 0x301)
    ∷ (0xE005, 0xE004, 0x301)
    ∷ (0xE006, 0xE005, 0x301) ∷ (0xE007, 0xE006, 0x301) ∷ (0xE008, 0xE007, 0x301) ∷ (0xE009, 0xE008, 0x301) ∷ []

abbrev parts_of : ℕ → Option (ℕ × ℕ)
parts_of c = option_map (λ p. (p.1, p.2)) (find (λ p. p.0 == c) pairs)

abbrev whole_of : ℕ → ℕ → Option ℕ
whole_of a b = option_map (λ p. p.0) (find (λ p. p.1 == a && p.2 == b) pairs)

-- their classes, as the shapers have them; the grapheme joiner is a mark of class 0
abbrev mark_classes : List (ℕ × ℕ)
mark_classes =
    (0x301, 230) ∷ (0x302, 230) ∷ (0x308, 230) ∷ (0x30A, 230) ∷ (0x323, 220) ∷ (0x344, 230) ∷ (0x327, 202)
    ∷ (0x34F, 0) ∷ (0xFE00, 0) ∷ (0xFE01, 0) ∷ (0x9BE, 0) ∷ []

abbrev category_of : ℕ → hb_unicode_general_category_t
category_of c =
    if list_any (λ p. p.0 == c) mark_classes then Mn
    else if c == 0x20 || c == 0x2003 then Zs else if c == 0x200C || c == 0x200D then Cf else Ll

-- the context with a font that has these characters; each glyph is numbered by its character, and 1
-- stands for what isn't drawn
abbrev pub with_font : NormalizationMode → List ℕ → Context
with_font mode font = record {
  mode = mode;
  decomposed = parts_of;
  composed = whole_of;
  reordered = λ level s e gs. gs;
  nominal = λ c. option_map (λ d. let glyph : GlyphId = record { 0 = d } in glyph) (find (λ d. d == c) font);
  variant = λ c selector. if (c == 0x65 || c == 0xFE00) && selector == 0xFE01 then Some (record { 0 = 7 }) else None;
  general = category_of;
  class = λ c. option_map_or (λ p. p.1) (find (λ p. p.0 == c) mark_classes) 0;
  ignorable = λ c. c == 0xFE00 || c == 0x34F || c == 0x200C || c == 0x200D || c == 0x180B || c == 0xAD || c == 0x41;
  invisible = Some (record { 0 = 1 });
  draws_selectors = false;
}

-- a text of these characters, each in a cluster of its own
abbrev pub text : Context → List ℕ → Glyphs
text context cs =
    map (λ p. let g : Glyph = record (as_character context p.1 0 default_glyph) { cluster = p.0 } in g)
    (enumerate_from 0 cs)
