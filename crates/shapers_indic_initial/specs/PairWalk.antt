-- The syllables that the code sees to have their positions: one consonant and a sign.
use Rattle.std.specs.Prelude.{◌==◌, Bool, ◌&&◌, false, [], ◌∷◌}
use Rattle.std.specs.List.{list_any}
use Rattle.shapers_buffer.specs.Glyphs.{Glyph, Glyphs}
use Rattle.shapers_base.specs.declared.plan.ot_category_t.TheConstants.{OT_M, OT_MPst, OT_SM}
use Rattle.shapers_indic.specs.Glyphs.{is_plain_consonant}

-- whether a glyph is a vowel sign or a modifier
abbrev pub is_sign : Glyph → Bool
is_sign g = list_any (λ c. c == g.category) (OT_M ∷ OT_MPst ∷ OT_SM ∷ [])

-- whether a syllable is a plain consonant with a sign behind it, and no more
abbrev pub is_consonant_with_sign : Glyphs → Bool
is_consonant_with_sign (g ∷ (h ∷ [])) = is_plain_consonant (g ∷ []) && is_sign h
is_consonant_with_sign _ = false
