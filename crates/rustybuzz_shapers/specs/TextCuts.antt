-- Preprocessing of a text cut in two: what the whole becomes is what its halves become, one after
-- the other.
use Rattle.std.specs.Prelude.{ℕ, ◌+◌, ◌≤◌, ◌≡◌, ◌⊎◌, ◌++◌, ◌∷◌, [], Bool, true, false, List, length}
use Rattle.std.specs.List.{AllByRecursion}
use Rattle.shapers_base.specs.declared.plan.hb_ot_shape_plan_t.{hb_ot_shape_plan_t}
use Rattle.shapers_base.specs.Font.{Font}
use Rattle.shapers_buffer.specs.Buffer.{Buffer}
use Rattle.shapers_buffer.specs.Glyphs.{Glyphs}
use Rattle.shapers_buffer.specs.Glyph.{characters, clusters, order_view}
use Rattle.shapers_clusters.specs.Cuts.{ShareNone}
use Rattle.shapers_hangul.specs.Hangul.{allows_circles, item_len, items}
use Rattle.shapers_text.specs.Thai.{is_above_base, is_sara_am}
use Rattle.shapers_text.specs.ThaiForms.{asks_for_forms, is_thai_mark}
use Rattle.rustybuzz_shapers.specs.Hooks.{Preprocessed}
use Rattle.rustybuzz_shapers.specs.declared.shaper.hb_ot_shaper_t.TheVariants.{Hangul, Thai}

-- A Thai text opens freely with no above-base mark or SARA AM; where forms follow, with no mark.
abbrev pub BeginsFreely : Bool → Glyphs → Type 0
BeginsFreely forms [] = Unit {0}
BeginsFreely forms (g ∷ gs) =
    (is_above_base g.glyph_id ≡ false)
    × ((is_sara_am g.glyph_id ≡ false) × (forms ≡ true → is_thai_mark g.glyph_id ≡ false))

-- What the whole became: the halves' glyphs in order; where they share no cluster, their clusters.
pub record PreprocessedHalves (gs hs one two new : Glyphs) : Type 0 where
  pub order : order_view new ≡ order_view one ++ order_view two
  pub in_clusters : ShareNone gs hs → clusters new ≡ clusters one ++ clusters two

-- so of Thai and Lao, with the same font, plan and contexts, where the second half opens freely
abbrev pub ThaiCuts : Type 0
ThaiCuts = (plan : hb_ot_shape_plan_t) (font : Font) (gs hs : Glyphs)
    (old one two new : Buffer) →
    BeginsFreely (asks_for_forms plan) hs →
    Preprocessed Thai plan font (record old { glyphs = gs }) one →
    Preprocessed Thai plan font (record old { glyphs = hs }) two →
    Preprocessed Thai plan font (record old { glyphs = gs ++ hs }) new →
    PreprocessedHalves gs hs one.glyphs two.glyphs new.glyphs

-- place n of a Hangul text is between items: each ends there or earlier, or begins there or later
abbrev pub IsBetweenItems : Font → Bool → List ℕ → ℕ → Type 0
IsBetweenItems font circles us n =
    AllByRecursion (λ p. (p.0 + item_len p.1 ≤ n) ⊎ (n ≤ p.0)) (items font circles us)

-- so of Hangul, with the same font and contexts, between two items
abbrev pub HangulCuts : Type 0
HangulCuts = (plan : hb_ot_shape_plan_t) (font : Font) (gs hs : Glyphs)
    (old one two new : Buffer) →
    IsBetweenItems font (allows_circles old) (characters (gs ++ hs)) (length gs) →
    Preprocessed Hangul plan font (record old { glyphs = gs }) one →
    Preprocessed Hangul plan font (record old { glyphs = hs }) two →
    Preprocessed Hangul plan font (record old { glyphs = gs ++ hs }) new →
    PreprocessedHalves gs hs one.glyphs two.glyphs new.glyphs
