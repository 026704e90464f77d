-- Where all clusters come apart one way, whether each stays is a question of single glyphs.
use Rattle.std.proofs.Common.{◌≡◌, ◌&&◌, ◌||◌, Bool, true, false, cond, eqb, List, [], ◌∷◌, length, refl, ap, ◌∙◌, sym}
use Rattle.std.specs.Prelude.{not}
use Rattle.std.specs.List.{list_all, list_any}
use Rattle.std.proofs.Math.Bool.{and-false}
use Rattle.shapers_base.specs.declared.plan.record.NormalizationMode.TheVariants as modes
use Rattle.shapers_buffer.specs.Glyphs.{Glyph, Glyphs}
use Rattle.shapers_normal.specs.Context.{Context}
use Rattle.shapers_normal.specs.Decomposition.{apart_way, cluster_stays, image, is_short_alone, is_short_with_marks, mark_clusters}
use Rattle.shapers_normal.specs.Sorting.{is_mark_glyph}
use Rattle.shapers_normal.specs.DecompositionWalk.{stays_unselected}
use Rattle.shapers_normal.specs.Variants.{cut_before_others, is_selector_glyph, with_first}
use Rattle.shapers_normal.specs.declared.ot_shape_normalize.decomposing.Way.{Way}
use Rattle.shapers_normal.specs.declared.ot_shape_normalize.decomposing.Way.TheVariants.{Short, Whole}

and_assoc : (a b c : Bool) → (a && b) && c ≡ a && (b && c)
and_assoc true b c = refl
and_assoc false b c = refl

first_all : (follows test : Glyph → Bool) (g : Glyph) (groups : List Glyphs)
    → list_all (list_all test) (with_first follows g groups) ≡ test g && list_all (list_all test) groups
first_all follows test g [] = and_assoc (test g) true true
first_all follows test g ([] ∷ groups) = and_assoc (test g) true (list_all (list_all test) groups)
first_all follows test g ((h ∷ group) ∷ groups) =
    let rest = list_all (list_all test) groups in
    elim (follows h) as (λ b. list_all (list_all test)
    (cond b ((g ∷ h ∷ group) ∷ groups) ((g ∷ []) ∷ (h ∷ group) ∷ groups))
    ≡ test g && (list_all test (h ∷ group) && rest)) [
      | true ↦ and_assoc (test g) (list_all test (h ∷ group)) rest
      | false ↦ and_assoc (test g) true (list_all test (h ∷ group) && rest)
    ]

all_cut : (follows test : Glyph → Bool) (gs : Glyphs)
    → list_all (list_all test) (cut_before_others follows gs) ≡ list_all test gs
all_cut follows test [] = refl
all_cut follows test (g ∷ gs) =
    first_all follows test g (cut_before_others follows gs) ∙ ap (λ b. test g && b) (all_cut follows test gs)

-- whether a glyph's character stays, one way or the other
abbrev stays_by : Context → Way → Glyph → Bool
stays_by context way g = eqb (length (image context way g.glyph_id)) 0

one_way : (context : Context) (way : Way) → ((cluster : Glyphs) → apart_way context cluster ≡ way)
    → (groups : List Glyphs)
    → list_all (list_all (stays_by context way)) groups ≡ list_all (cluster_stays context) groups
one_way context way is [] = refl
one_way context way is (group ∷ groups) =
    ap (λ w. list_all (stays_by context w) group && list_all (list_all (stays_by context way)) groups)
    (sym (is group))
    ∙ ap (λ b. cluster_stays context group && b) (one_way context way is groups)

all_short : (context : Context) → context.mode ≡ modes.NONE → (cluster : Glyphs) → apart_way context cluster ≡ Short
all_short context is [] = ap (λ m. cond (is_short_with_marks m) Short Whole) is
all_short context is (g ∷ []) = ap (λ m. cond (is_short_alone m) Short Whole) is
all_short context is (g ∷ (h ∷ cluster)) = ap (λ m. cond (is_short_with_marks m) Short Whole) is

all_whole : (context : Context) → context.mode ≡ modes.CD → (cluster : Glyphs) → apart_way context cluster ≡ Whole
all_whole context is [] = ap (λ m. cond (is_short_with_marks m) Short Whole) is
all_whole context is (g ∷ []) = ap (λ m. cond (is_short_alone m) Short Whole) is
all_whole context is (g ∷ (h ∷ cluster)) = ap (λ m. cond (is_short_with_marks m) Short Whole) is

-- a shaper that wants no normalization
pub clusters_stay_short : (context : Context) (gs : Glyphs) → context.mode ≡ modes.NONE
    → list_all (stays_by context Short) gs ≡ list_all (cluster_stays context) (mark_clusters gs)
clusters_stay_short context gs is =
    sym (all_cut is_mark_glyph (stays_by context Short) gs)
    ∙ one_way context Short (all_short context is) (mark_clusters gs)

-- one that wants letters and marks apart
pub clusters_stay_whole : (context : Context) (gs : Glyphs) → context.mode ≡ modes.CD
    → list_all (stays_by context Whole) gs ≡ list_all (cluster_stays context) (mark_clusters gs)
clusters_stay_whole context gs is =
    sym (all_cut is_mark_glyph (stays_by context Whole) gs)
    ∙ one_way context Whole (all_whole context is) (mark_clusters gs)

-- whether none is a selector and each stays is one question of each glyph
both_asked : (t o a b l : Bool) → l ≡ (not a && b) → ((not t && o) && l) ≡ (not (t || a) && (o && b))
both_asked true o a b l is = refl
both_asked false true a b l is = is
both_asked false false a b l is = sym (and-false (not a))

pub all_unselected : (context : Context) (way : Way) (gs : Glyphs)
    → list_all (stays_unselected context way) gs
    ≡ (not (list_any is_selector_glyph gs) && list_all (stays_by context way) gs)
all_unselected context way [] = refl
all_unselected context way (g ∷ gs) =
    both_asked (is_selector_glyph g) (stays_by context way g) (list_any is_selector_glyph gs)
    (list_all (stays_by context way) gs) (list_all (stays_unselected context way) gs)
    (all_unselected context way gs)
