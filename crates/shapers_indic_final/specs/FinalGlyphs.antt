-- What the final reordering reads of a glyph, and the two moves of a list.
use Rattle.std.specs.Prelude.{◌==◌, Bool, ◌&&◌, false, not, List, [], ◌∷◌, reverse, Option, None, Some, if◌then◌else◌}
use Rattle.shapers_buffer.specs.Glyphs.{Glyph}
use Rattle.shapers_buffer.specs.Properties.{LIGATED, MULTIPLIED, is_ligated, is_multiplied, without_mark}
use Rattle.shapers_buffer.specs.Lists.{first_last}
use Rattle.shapers_base.specs.declared.font.GlyphId.{GlyphId}
use Rattle.shapers_base.specs.declared.plan.ot_category_t.TheConstants.{OT_H, OT_M, OT_MPst}
use Rattle.shapers_indic.specs.Glyphs.{is_one_of}

abbrev pub is_indic_halant : Glyph → Bool
is_indic_halant = is_one_of (OT_H ∷ [])

-- a vowel sign or halant that no lookup put in for several glyphs
abbrev pub is_matra_or_halant : Glyph → Bool
is_matra_or_halant = is_one_of (OT_M ∷ OT_MPst ∷ OT_H ∷ [])

-- whether lookups formed one glyph of several, and did not take it apart again
abbrev pub is_formed : Glyph → Bool
is_formed g = is_ligated g.glyph_props && not (is_multiplied g.glyph_props)

-- a halant that lookups put in for several and took apart: a halant again, without these marks
abbrev pub is_lost_virama : Option GlyphId → Glyph → Bool
is_lost_virama None g = false
is_lost_virama (Some virama) g =
    g.glyph_id == virama.0 && is_ligated g.glyph_props && is_multiplied g.glyph_props

abbrev pub recovered : Option GlyphId → Glyph → Glyph
recovered virama g =
    if is_lost_virama virama g then record g {
      category = OT_H;
      glyph_props = without_mark MULTIPLIED (without_mark LIGATED g.glyph_props);
    }
    else g

-- a list with its last element as the first
abbrev pub last_goes_first : {X : Type 0} → List X → List X
last_goes_first xs = reverse (first_last (reverse xs))
