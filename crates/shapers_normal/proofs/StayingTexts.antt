-- A text of which nothing comes apart.
use Rattle.std.proofs.Common.{◌≡◌, ◌+◌, ◌-◌, ◌&&◌, ◌||◌, ℕ, zero, suc, Bool, true, false, not, cond, eqb, List, [], ◌∷◌, ◌++◌, length, map, get_or, refl, sym, ap, ◌∙◌, subst, arith}
use Rattle.std.specs.List.{AllByRecursion, flat_map, fold, list_all, list_any, range_with_len}
use Rattle.std.specs.Prelude.{is_some}
use Rattle.std.proofs.lemmas.Bool.{and_parts, false≢true, or_parts}
use Rattle.std.proofs.lemmas.Bool.Decides.{nat_tests}
use Rattle.std.proofs.lemmas.List.{length-map, map-append}
use Rattle.shapers_buffer.specs.Glyphs.{Glyph, Glyphs}
use Rattle.shapers_buffer.specs.declared.buffer.level.BufferClusterLevel.{BufferClusterLevel}
use Rattle.shapers_buffer.specs.Glyph.{default_glyph}
use Rattle.shapers_normal.specs.Context.{Context}
use Rattle.shapers_normal.specs.Decomposition.{apart_way, becomes, cluster_becomes, cluster_stays, first_round, image, mark_clusters, stays_together, text_decomposed, with_own_glyph, written_as}
use Rattle.shapers_normal.specs.Sorting.{is_mark_glyph, stay_together}
use Rattle.shapers_normal.specs.Variants.{forms_written, is_kept_cluster, is_selector_glyph, is_selector_behind, variant_joined}
use Rattle.shapers_normal.specs.declared.ot_shape_normalize.decomposing.Way.{Way}
use Rattle.shapers_normal.proofs.Monotone.{together_cut}
use Rattle.shapers_normal.proofs.Pairs.{together}

abbrev NoSelector : Glyph → Type 0
NoSelector g = is_selector_glyph g ≡ false

no_selectors : (gs : Glyphs) → list_any is_selector_glyph gs ≡ false → AllByRecursion NoSelector gs
no_selectors [] e = tt
no_selectors (g ∷ gs) e = let parts =
    or_parts (is_selector_glyph g) (list_any is_selector_glyph gs) e in (parts.0, no_selectors gs parts.1)

none_any : (gs : Glyphs) → AllByRecursion NoSelector gs → list_any is_selector_glyph gs ≡ false
none_any [] all = refl
none_any (g ∷ gs) all = ap (λ b. b || list_any is_selector_glyph gs) all.0 ∙ none_any gs all.1

not_kept : (cluster : Glyphs) → AllByRecursion NoSelector cluster → is_kept_cluster cluster ≡ false
not_kept [] all = refl
not_kept (g ∷ []) all = refl
not_kept (g ∷ (h ∷ cluster)) all = none_any (g ∷ (h ∷ cluster)) all

none_at : (gs : Glyphs) (k : ℕ) → AllByRecursion NoSelector gs
    → is_selector_glyph (get_or gs k default_glyph) ≡ false
none_at [] k all = refl
none_at (g ∷ gs) zero all = all.0
none_at (g ∷ gs) (suc k) all = none_at gs k all.1

not_joined : (context : Context) (level : BufferClusterLevel) (gs : Glyphs) (i : ℕ)
    → AllByRecursion NoSelector gs → variant_joined context level gs i ≡ gs
not_joined context level gs i all =
    let s = get_or gs (i + 1) default_glyph in
    ap (λ b. cond (is_mark_glyph s && b && not (is_selector_behind gs i)
    && is_some (context.variant (get_or gs i default_glyph).glyph_id s.glyph_id)) (stay_together level i (i + 2) gs)
    gs) (none_at gs (i + 1) all)
    ∙ elim (is_mark_glyph s) as (λ b. cond (b && false && not (is_selector_behind gs i)
    && is_some (context.variant (get_or gs i default_glyph).glyph_id s.glyph_id)) (stay_together level i (i + 2) gs)
    gs ≡ gs) [ true ↦ refl | false ↦ refl ]

none_joined : (context : Context) (level : BufferClusterLevel) (gs : Glyphs) (places : List ℕ)
    → AllByRecursion NoSelector gs → fold (λ gs i. variant_joined context level gs i) gs places ≡ gs
none_joined context level gs [] all = refl
none_joined context level gs (i ∷ places) all =
    ap (λ xs. fold (λ gs i. variant_joined context level gs i) xs places) (not_joined context level gs i all)
    ∙ none_joined context level gs places all

-- ---- clusters

written_own : (context : Context) (g : Glyph) (cs : List ℕ) → eqb (length cs) 0 ≡ true
    → written_as context g cs ≡ with_own_glyph context g ∷ []
written_own context g [] e = refl
written_own context g (c ∷ cs) e =
    let some : eqb (suc (length cs)) 0 ≡ false = grind (arith, nat_tests) in
    absurd (false≢true (sym some ∙ e))

all_own : (context : Context) (way : Way) (gs : Glyphs)
    → list_all (λ g. eqb (length (image context way g.glyph_id)) 0) gs ≡ true → flat_map (becomes context way) gs
    ≡ map (with_own_glyph context) gs
all_own context way [] e = refl
all_own context way (g ∷ gs) e =
    let parts = and_parts (eqb (length (image context way g.glyph_id)) 0)
    (list_all (λ g. eqb (length (image context way g.glyph_id)) 0) gs) e in
    ap (λ xs. xs ++ flat_map (becomes context way) gs) (written_own context g (image context way g.glyph_id) parts.0)
    ∙ ap (λ xs. with_own_glyph context g ∷ xs) (all_own context way gs parts.1)

cluster_own : (context : Context) (cluster : Glyphs) → AllByRecursion NoSelector cluster
    → cluster_stays context cluster ≡ true → cluster_becomes context cluster ≡ map (with_own_glyph context) cluster
cluster_own context cluster all e =
    ap (λ b. cond b (forms_written context cluster) (flat_map (becomes context (apart_way context cluster)) cluster))
    (not_kept cluster all)
    ∙ all_own context (apart_way context cluster) cluster e

first_all : (Q : Glyph → Type 0) (gs hs : Glyphs) → AllByRecursion Q (gs ++ hs)
    → AllByRecursion Q gs × AllByRecursion Q hs
first_all Q [] hs all = (tt, all)
first_all Q (g ∷ gs) hs all = let rest = first_all Q gs hs all.1 in ((all.0, rest.0), rest.1)

groups_own : (context : Context) (groups : List Glyphs) → AllByRecursion NoSelector (together groups)
    → list_all (cluster_stays context) groups ≡ true → flat_map (cluster_becomes context) groups
    ≡ map (with_own_glyph context) (together groups)
groups_own context [] all e = refl
groups_own context (group ∷ groups) all e =
    let both = first_all NoSelector group (together groups) all in
    let parts = and_parts (cluster_stays context group) (list_all (cluster_stays context) groups) e in
    ap (λ xs. xs ++ flat_map (cluster_becomes context) groups) (cluster_own context group both.0 parts.0)
    ∙ ap (λ xs. map (with_own_glyph context) group ++ xs) (groups_own context groups both.1 parts.1)
    ∙ sym (map-append (with_own_glyph context) group (together groups))

not_true : (b : Bool) → not b ≡ true → b ≡ false
not_true true e = absurd (false≢true e)
not_true false e = refl

round_own : (context : Context) (level : BufferClusterLevel) (gs : Glyphs)
    → stays_together context gs ≡ true → first_round context level gs ≡ map (with_own_glyph context) gs
round_own context level gs stays =
    let parts = and_parts (not (list_any is_selector_glyph gs)) (list_all (cluster_stays context) (mark_clusters gs))
    stays in
    let none = no_selectors gs (not_true (list_any is_selector_glyph gs) parts.0) in
    ap (text_decomposed context) (none_joined context level gs (range_with_len 0 (length gs - 1)) none)
    ∙ groups_own context (mark_clusters gs)
    (subst (AllByRecursion NoSelector) (sym (together_cut is_mark_glyph gs)) none) parts.1
    ∙ ap (map (with_own_glyph context)) (together_cut is_mark_glyph gs)

-- the first round, as the code writes it
pub staying_round : (context : Context) (level : BufferClusterLevel) (gs : Glyphs)
    → stays_together context gs ≡ true → map (with_own_glyph context) gs ≡ first_round context level gs
staying_round context level gs stays = sym (round_own context level gs stays)

pub staying_length : (context : Context) (level : BufferClusterLevel) (gs : Glyphs)
    → stays_together context gs ≡ true → length (first_round context level gs) ≡ length gs
staying_length context level gs stays = ap length (round_own context level gs stays)
    ∙ length-map gs (with_own_glyph context)
