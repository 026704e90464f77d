-- Flags of the graphemes that begin with ZWNJ, which the choice Sound adds in Indic texts.
use Rattle.std.specs.Prelude.{ℕ, ◌==◌, Bool, false, [], ◌∷◌, if◌then◌else◌}
use Rattle.shapers_base.specs.declared.plan.breaks.BreakFlags.{BreakFlags}
use Rattle.shapers_base.specs.declared.plan.breaks.BreakFlags.TheVariants.{AsCode, Sound}
use Rattle.shapers_buffer.specs.Glyphs.{Glyph, Glyphs}
use Rattle.shapers_buffer.specs.GlyphFlags.{with_bits}
use Rattle.shapers_buffer.specs.Properties.{is_continuation}

-- the character ZWNJ, which begins a grapheme
abbrev pub zero_width_non_joiner : ℕ
zero_width_non_joiner = 0x200C

-- whether the grapheme of a glyph begins with ZWNJ: the glyph begins it and is one, or carries on
-- the grapheme before it, and that one begins so
abbrev pub begins_with_zwnj : Bool → Glyph → Bool
begins_with_zwnj before g =
    if is_continuation g.unicode_props then before else g.glyph_id == zero_width_non_joiner

-- a glyph, unsafe to break and to concatenate if its grapheme begins with ZWNJ
abbrev pub flagged_if_zwnj : Bool → Glyph → Glyph
flagged_if_zwnj begins g = if begins then with_bits 3 g else g

-- glyphs behind others, whose last grapheme begins with ZWNJ or doesn't, each so flagged
abbrev pub zwnj_flagged_behind : Bool → Glyphs → Glyphs
zwnj_flagged_behind before [] = []
zwnj_flagged_behind before (g ∷ gs) =
    let begins = begins_with_zwnj before g in
    flagged_if_zwnj begins g ∷ zwnj_flagged_behind begins gs

-- a text whose graphemes that begin with ZWNJ are flagged, each glyph of them, with Sound alone
abbrev pub zwnj_flagged : BreakFlags → Glyphs → Glyphs
zwnj_flagged AsCode gs = gs
zwnj_flagged Sound gs = zwnj_flagged_behind false gs
