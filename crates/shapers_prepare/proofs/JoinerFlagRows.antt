-- Flags of graphemes that begin with ZWNJ on small texts.
use Rattle.std.specs.Prelude.{◌≡◌, ℕ, Bool, true, false, [], ◌∷◌, List, map, refl}
use Rattle.shapers_base.specs.declared.plan.breaks.BreakFlags.TheVariants.{AsCode, Sound}
use Rattle.shapers_buffer.specs.Glyphs.{Glyph, Glyphs}
use Rattle.shapers_buffer.specs.Glyph.{default_glyph}
use Rattle.shapers_buffer.specs.Properties.{CONTINUATION, set_property}
use Rattle.shapers_prepare.specs.JoinerFlags.{zwnj_flagged}

-- a text: of each glyph its character, and whether it goes on
abbrev text : List (ℕ × Bool) → Glyphs
text ps = map
    (λ p. let g : Glyph = record default_glyph
    { glyph_id = p.0; mask = 8; unicode_props = set_property CONTINUATION p.1 default_glyph.unicode_props } in g) ps

-- the masks of a text with its flags
abbrev seen : List (ℕ × Bool) → List ℕ
seen ps = map (λ g. g.mask) (zwnj_flagged Sound (text ps))

-- ZWNJ alone, with one mark and with two, with ZWJ
with_marks : map seen
    (((0x200C, false) ∷ [])
    ∷ ((0x200C, false) ∷ (0x093E, true) ∷ [])
    ∷ ((0x200C, false) ∷ (0x093E, true) ∷ (0x0902, true) ∷ [])
    ∷ ((0x200C, false) ∷ (0x200D, true) ∷ [])
    ∷ []) ≡ (11 ∷ []) ∷ (11 ∷ 11 ∷ []) ∷ (11 ∷ 11 ∷ 11 ∷ []) ∷ (11 ∷ 11 ∷ []) ∷ []
with_marks = refl

-- a mark before it; a base behind it, with a mark; two of them; a text that begins with a mark
beside_others : map seen
    (((0x0915, false) ∷ (0x093F, true) ∷ (0x0902, true) ∷ (0x200C, false) ∷ (0x093E, true) ∷ [])
    ∷ ((0x200C, false) ∷ (0x093E, true) ∷ (0x0915, false) ∷ (0x093E, true) ∷ [])
    ∷ ((0x200C, false) ∷ (0x200C, false) ∷ (0x093E, true) ∷ (0x0915, false) ∷ [])
    ∷ ((0x093E, true) ∷ (0x093E, true) ∷ (0x200C, false) ∷ [])
    ∷ []) ≡ (8 ∷ 8 ∷ 8 ∷ 11 ∷ 11 ∷ []) ∷ (11 ∷ 11 ∷ 8 ∷ 8 ∷ []) ∷ (11 ∷ 11 ∷ 11 ∷ 8 ∷ []) ∷ (8 ∷ 8 ∷ 11 ∷ []) ∷ []
beside_others = refl

-- one that carries on a grapheme doesn't begin it
carried_on : seen ((0x0915, false) ∷ (0x200C, true) ∷ (0x093E, true) ∷ []) ≡ 8 ∷ 8 ∷ 8 ∷ []
carried_on = refl

-- the characters beside it, ZWJ among them, and one more whose number ends as its own
other_characters : map (λ c. seen ((c, false) ∷ (0x093E, true) ∷ []))
    (0x200B ∷ 0x200D ∷ 0x200E ∷ 0x1200C ∷ [])
    ≡ (8 ∷ 8 ∷ []) ∷ (8 ∷ 8 ∷ []) ∷ (8 ∷ 8 ∷ []) ∷ (8 ∷ 8 ∷ []) ∷ []
other_characters = refl

nothing : zwnj_flagged Sound [] ≡ []
nothing = refl

-- a glyph with all fields set
abbrev glyph : ℕ → Glyph
glyph mask = record {
  glyph_id = 0x200C;
  mask = mask;
  cluster = 5;
  glyph_props = record { 0 = 0x70 };
  lig_props = record { 0 = 0x2E };
  syllable = 13;
  unicode_props = record { 0 = 0x1776 };
  category = 17;
  auxiliary = 19;
}

-- two bits of its mask are set, and all else stays; with AsCode nothing changes
two_bits : zwnj_flagged Sound (glyph 0x8000000C ∷ []) ≡ glyph 0x8000000F ∷ []
two_bits = refl

as_code : zwnj_flagged AsCode (glyph 0x8000000C ∷ glyph 0x8000000F ∷ [])
    ≡ glyph 0x8000000C ∷ glyph 0x8000000F ∷ []
as_code = refl
