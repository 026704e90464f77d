-- The words on glyphs and places that both reorderings use.
use Rattle.std.specs.Prelude.{ℕ, ◌-◌, ◌==◌, Bool, ◌&&◌, false, not, List, [], ◌∷◌, map, find, min, reverse, Option}
use Rattle.std.specs.List.{list_any, range_with_len, slice_get}
use Rattle.std.specs.Option.{option_map_or}
use Rattle.shapers_buffer.specs.declared.buffer.glyph.hb_glyph_info_t.{hb_glyph_info_t}
use Rattle.shapers_buffer.specs.Glyphs.{Glyphs}
use Rattle.shapers_buffer.specs.Properties.{is_ligated}
use Rattle.shapers_base.specs.declared.font.GlyphId.{GlyphId}
use Rattle.shapers_base.specs.declared.plan.ot_category_t.TheConstants.{OT_C, OT_M, OT_MPst, OT_ZWJ, OT_ZWNJ}
use Rattle.shapers_base.specs.declared.plan.ot_position_t.TheConstants.{POS_BASE_C}

-- Glyphs as fonts take them: every number above 65535, which no font has, is queried as that one.
abbrev pub number : hb_glyph_info_t → GlyphId
number g = record { 0 = min g.glyph_id 65535 }

abbrev pub numbers : Glyphs → List GlyphId
numbers gs = map number gs

-- whether a glyph is of a category; whether it is of one of these, and not put in for several
abbrev pub has_category : ℕ → hb_glyph_info_t → Bool
has_category c g = g.category == c

abbrev pub is_one_of : List ℕ → hb_glyph_info_t → Bool
is_one_of cs g = not (is_ligated g.glyph_props) && list_any (λ c. c == g.category) cs

abbrev pub is_joiner : hb_glyph_info_t → Bool
is_joiner = is_one_of (OT_ZWJ ∷ OT_ZWNJ ∷ [])

abbrev pub is_matra : hb_glyph_info_t → Bool
is_matra g = list_any (λ c. c == g.category) (OT_M ∷ OT_MPst ∷ [])

-- whether a glyph has this position in its syllable
abbrev pub has_position : ℕ → hb_glyph_info_t → Bool
has_position p g = g.auxiliary == p

-- whether the glyph at place i passes a test
abbrev pub passes : (hb_glyph_info_t → Bool) → Glyphs → ℕ → Bool
passes test gs i = option_map_or test (slice_get gs i) false

-- the places from s on and before e; whether one has a property; the least that has, the greatest
abbrev pub places : ℕ → ℕ → List ℕ
places s e = range_with_len s (e - s)

abbrev pub some_place : (ℕ → Bool) → ℕ → ℕ → Bool
some_place property s e = list_any property (places s e)

abbrev pub least_place : (ℕ → Bool) → ℕ → ℕ → Option ℕ
least_place property s e = find property (places s e)

abbrev pub greatest_place : (ℕ → Bool) → ℕ → ℕ → Option ℕ
greatest_place property s e = find property (reverse (places s e))

-- whether a syllable is one consonant at the base, which no lookup put in for several
abbrev pub is_plain_consonant : Glyphs → Bool
is_plain_consonant [] = false
is_plain_consonant (g ∷ []) =
    has_category OT_C g && has_position POS_BASE_C g && not (is_ligated g.glyph_props)
is_plain_consonant (g ∷ (h ∷ gs)) = false
