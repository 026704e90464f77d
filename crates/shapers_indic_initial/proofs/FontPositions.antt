-- Positions by the font: what shows of them, of a syllable and of a text.
use Rattle.std.proofs.Common.{◌≡◌, ◌==◌, ℕ, arith, not, Bool, false, if◌then◌else◌, inl, inr, find, List, [], ◌∷◌, length, map, refl, sym, ap, ◌∙◌, Option, Some, None}
use Rattle.std.proofs.lemmas.Bool.{cases_Bool}
use Rattle.std.proofs.lemmas.List.{length-map}
use Rattle.shapers_buffer.specs.Glyphs.{Glyph, Glyphs}
use Rattle.shapers_buffer.specs.Glyph.{order_view}
use Rattle.shapers_base.specs.declared.font.GlyphId.{GlyphId}
use Rattle.shapers_base.specs.declared.plan.indic.indic_shape_plan_t.{indic_shape_plan_t}
use Rattle.shapers_base.specs.declared.plan.ot_position_t.TheConstants.{POS_BASE_C}
use Rattle.shapers_base.specs.Font.{Font}
use Rattle.shapers_base.specs.Map.{Map}
use Rattle.shapers_indic.specs.Glyphs.{has_position}
use Rattle.shapers_indic_initial.specs.InitialFont.{all_by_virama, by_virama}
use Rattle.shapers_indic_initial.specs.KnownWalk.{has_forms}
use Rattle.shapers_buffer.specs.declared.buffer.tag.Script.{Script}
use Rattle.shapers_buffer.proofs.MappedLists.{map-hidden, map-seen}
use Rattle.shapers_clusters.specs.Flags.{seen}
use Rattle.shapers_clusters.proofs.Picks.{pick-all}
use Rattle.shapers_indic_initial.specs.InitialLaws.{OrderByFontLaws}
use Rattle.shapers_indic_initial.specs.InitialReordering.{initial_order, initial_steps}
use Rattle.shapers_indic_initial.specs.InitialRules.{initial_rules}
use Rattle.shapers_indic_initial.specs.Proved.InitialLaws.{initial_laws}
use Rattle.shapers_syllabic.specs.Reordering.{carried}
use Rattle.shapers_syllabic.specs.ReorderingLaws.{ReorderLaws}
use Rattle.shapers_syllabic.proofs.LawsThen.{laws_then}

length_none : (xs : List ℕ) → not (length xs == 0) ≡ false → xs ≡ []
length_none [] h = refl
length_none (x ∷ xs) h = search arith

-- no consonant of position BASE_C, no change
none_here : (font : Font) (m : Map) (p : indic_shape_plan_t) (v : GlyphId) (g : Glyph)
    → has_position POS_BASE_C g ≡ false → by_virama font m p v g ≡ g
none_here font m p v g none = cc

pub none_at_base : (font : Font) (m : Map) (p : indic_shape_plan_t) (v : GlyphId) (gs : Glyphs)
    → find (has_position POS_BASE_C) gs ≡ None → map (by_virama font m p v) gs ≡ gs
none_at_base font m p v [] none = refl
none_at_base font m p v (g ∷ gs) none = elim (cases_Bool _) [
  | inl here ↦ absurd
      (let found = sym (ap (λ (b : Bool). if b then Some g else find (has_position POS_BASE_C) gs) here) ∙ none in
      cc)
  | inr other ↦
      search (
        arith,
        none_at_base font m p v gs
            (sym (ap (λ (b : Bool). if b then Some g else find (has_position POS_BASE_C) gs) other) ∙ none),
      )
]

-- where no feature has lookups, each consonant keeps its position
pub without_forms : (font : Font) (m : Map) (p : indic_shape_plan_t) (v : GlyphId) (gs : Glyphs)
    → has_forms m p ≡ false → map (by_virama font m p v) gs ≡ gs
without_forms font m p v [] none = refl
without_forms font m p v (g ∷ gs) none = search (arith, length_none, without_forms font m p v gs none)

pub without_any : (font : Font) (m : Map) (p : indic_shape_plan_t) (v : Option GlyphId) (gs : Glyphs)
    → has_forms m p ≡ false → all_by_virama font m p v gs ≡ gs
without_any font m p None gs none = refl
without_any font m p (Some v) gs none = without_forms font m p v gs none

-- a glyph, in the order view, and what is carried along
by_virama-carried : (font : Font) (m : Map) (p : indic_shape_plan_t) (v : GlyphId) (g : Glyph)
    → carried (by_virama font m p v g) ≡ carried g
by_virama-carried = search arith

pub by_virama-syllable : (font : Font) (m : Map) (p : indic_shape_plan_t) (v : GlyphId) (g : Glyph)
    → (by_virama font m p v g).syllable ≡ g.syllable
by_virama-syllable = search arith

-- of glyphs
pub font_positions-viewed : (font : Font) (m : Map) (p : indic_shape_plan_t) (v : Option GlyphId)
    (gs : Glyphs) → order_view (all_by_virama font m p v gs) ≡ all_by_virama font m p v (order_view gs)
font_positions-viewed font m p None gs = refl
font_positions-viewed font m p (Some v) gs = search (arith, map-seen)

pub font_positions-carried : (font : Font) (m : Map) (p : indic_shape_plan_t) (v : Option GlyphId)
    (gs : Glyphs) → map carried (all_by_virama font m p v gs) ≡ map carried gs
font_positions-carried font m p None gs = refl
font_positions-carried font m p (Some v) gs = search (arith, map-hidden)

pub length-font_positions : (font : Font) (m : Map) (p : indic_shape_plan_t) (v : Option GlyphId)
    (gs : Glyphs) → length (all_by_virama font m p v gs) ≡ length gs
length-font_positions font m p None gs = refl
length-font_positions font m p (Some v) gs = length-map gs _

-- the laws of an order behind positions by the font
font_positions-seen : (font : Font) (m : Map) (p : indic_shape_plan_t) (v : Option GlyphId) (gs : Glyphs)
    → seen carried (all_by_virama font m p v gs) ≡ seen carried gs
font_positions-seen font m p None gs = refl
font_positions-seen font m p (Some v) gs = search (arith, map-hidden)

font_laws : (font : Font) (m : Map) (p : indic_shape_plan_t) (v : Option GlyphId)
    → ReorderLaws (all_by_virama font m p v) (λ _. [])
font_laws = search (font_positions-seen, pick-all, length-map)

pub laws_by_font : (font : Font) (m : Map) (p : indic_shape_plan_t) (v : Option GlyphId) (script : Option Script)
    → ReorderLaws (λ gs. initial_order (initial_rules font m p) script (all_by_virama font m p v gs))
    (λ gs. initial_steps (initial_rules font m p) script (all_by_virama font m p v gs))
laws_by_font font m p v script =
    laws_then _ _ _ _ (font_laws font m p v) (initial_laws (initial_rules font m p) script)

pub order_by_font_laws : OrderByFontLaws
order_by_font_laws font m p script = laws_by_font font m p _ script
