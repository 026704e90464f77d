-- How long what comes apart is doesn't depend on clusters and glyph flags.
use Rattle.std.proofs.Common.{◌≡◌, ◌+◌, ◌-◌, ℕ, Bool, true, false, cond, List, [], ◌∷◌, length, map, Option, None, Some, refl, sym, ap, ◌∙◌, arith}
use Rattle.std.specs.List.{flat_map, fold, range_with_len}
use Rattle.std.specs.Option.{option_map_or}
use Rattle.std.proofs.lemmas.List.{length-append, length-map}
use Rattle.shapers_base.specs.declared.font.GlyphId.{GlyphId}
use Rattle.shapers_buffer.specs.Glyphs.{Glyph, Glyphs}
use Rattle.shapers_buffer.specs.declared.buffer.level.BufferClusterLevel.{BufferClusterLevel}
use Rattle.shapers_buffer.specs.Glyph.{order_view, plain}
use Rattle.shapers_buffer.proofs.MappedLists.{list_any-map}
use Rattle.shapers_normal.specs.Context.{Context}
use Rattle.shapers_normal.specs.Decomposition.{apart_way, as_part, becomes, cluster_becomes, first_round, image, text_decomposed, written_as}
use Rattle.shapers_normal.specs.Properties.{numbered_as}
use Rattle.shapers_normal.specs.Sorting.{is_mark_glyph, stay_together}
use Rattle.shapers_normal.specs.Variants.{cut_before_others, form_written, forms_written, has_variant_at, is_kept_cluster, is_selector_glyph, selecting_nothing, variant_joined, variants_joined, with_first, with_number}
use Rattle.shapers_normal.proofs.FirstKept.{view-together}

-- ---- groups

first-viewed : (follows : Glyph → Bool) → ((g : Glyph) → follows (plain g) ≡ follows g)
    → (g : Glyph) (groups : List Glyphs)
    → with_first follows (plain g) (map (map plain) groups) ≡ map (map plain) (with_first follows g groups)
first-viewed follows same g [] = refl
first-viewed follows same g ([] ∷ groups) = refl
first-viewed follows same g ((h ∷ group) ∷ groups) =
    let rest = map (map plain) groups in
    ap (λ b. cond b ((plain g ∷ plain h ∷ map plain group) ∷ rest) ((plain g ∷ []) ∷ (plain h ∷ map plain group)
    ∷ rest)) (same h)
    ∙ elim (follows h) as (λ b. cond b ((plain g ∷ plain h ∷ map plain group) ∷ rest)
    ((plain g ∷ []) ∷ (plain h ∷ map plain group) ∷ rest)
    ≡ map (map plain) (cond b ((g ∷ h ∷ group) ∷ groups) ((g ∷ []) ∷ (h ∷ group) ∷ groups)))
    [ true ↦ refl | false ↦ refl ]

groups-viewed : (follows : Glyph → Bool) → ((g : Glyph) → follows (plain g) ≡ follows g)
    → (gs : Glyphs) → cut_before_others follows (map plain gs)
    ≡ map (map plain) (cut_before_others follows gs)
groups-viewed follows same [] = refl
groups-viewed follows same (g ∷ gs) = ap (with_first follows (plain g)) (groups-viewed follows same gs)
    ∙ first-viewed follows same g (cut_before_others follows gs)

all-viewed : {X : Type 0} (f : X → Glyphs) (view : X → X) → ((x : X) → length (f (view x)) ≡ length (f x))
    → (xs : List X) → length (flat_map f (map view xs)) ≡ length (flat_map f xs)
all-viewed f view same [] = refl
all-viewed f view same (x ∷ xs) =
    omega (
      arith,
      length-append (f (view x)) (flat_map f (map view xs)),
      length-append (f x) (flat_map f xs),
      same x,
      all-viewed f view same xs,
    )

-- ---- what they become

form-by : (context : Context) (g selector : Glyph) (more : Glyphs) (o : Option GlyphId) →
    length (option_map_or (λ (variant : GlyphId). numbered_as variant.0 (plain g)
    ∷ map (with_number context) (map plain more)) o (with_number context (plain g)
    ∷ with_number context (selecting_nothing context (plain selector))
    ∷ map (with_number context) (map plain more)))
    ≡ length (option_map_or (λ (variant : GlyphId). numbered_as variant.0 g ∷ map (with_number context) more) o
    (with_number context g ∷ with_number context (selecting_nothing context selector)
    ∷ map (with_number context) more))
form-by context g selector more None =
    omega (
      arith,
      length-map (map plain more) (with_number context),
      length-map more plain,
      length-map more
          (with_number context),
    )
form-by context g selector more (Some variant) =
    omega (
      arith,
      length-map (map plain more) (with_number context),
      length-map more plain,
      length-map more
          (with_number context),
    )

form-viewed : (context : Context) (form : Glyphs) → length (form_written context (map plain form))
    ≡ length (form_written context form)
form-viewed context [] = refl
form-viewed context (g ∷ []) = refl
form-viewed context (g ∷ (selector ∷ more)) =
    form-by context g selector more (context.variant g.glyph_id selector.glyph_id)

written-viewed : (context : Context) (g : Glyph) (cs : List ℕ) → length (written_as context (plain g) cs)
    ≡ length (written_as context g cs)
written-viewed context g [] = refl
written-viewed context g (c ∷ cs) = length-map (c ∷ cs) (as_part context (plain g))
    ∙ sym (length-map (c ∷ cs) (as_part context g))

kept-viewed : (cluster : Glyphs) → is_kept_cluster (map plain cluster) ≡ is_kept_cluster cluster
kept-viewed [] = refl
kept-viewed (g ∷ []) = refl
kept-viewed (g ∷ (h ∷ cluster)) = list_any-map is_selector_glyph plain (g ∷ (h ∷ cluster))

way-viewed : (context : Context) (cluster : Glyphs) → apart_way context (map plain cluster)
    ≡ apart_way context cluster
way-viewed context [] = refl
way-viewed context (g ∷ []) = refl
way-viewed context (g ∷ (h ∷ cluster)) = refl

cluster-viewed : (context : Context) (cluster : Glyphs)
    → length (cluster_becomes context (map plain cluster)) ≡ length (cluster_becomes context cluster)
cluster-viewed context cluster =
    let seen = map plain cluster in
    let way = apart_way context cluster in
    let forms : length (forms_written context seen) ≡ length (forms_written context cluster) =
    ap (λ groups. length (flat_map (form_written context) groups)) (groups-viewed is_selector_glyph (λ g. refl) cluster)
    ∙ all-viewed (form_written context) (map plain) (form-viewed context)
    (cut_before_others is_selector_glyph cluster) in
    let apart : length (flat_map (becomes context way) seen) ≡ length (flat_map (becomes context way) cluster) =
    all-viewed (becomes context way) plain (λ g. written-viewed context g (image context way g.glyph_id)) cluster in
    ap (λ way. length (cond (is_kept_cluster seen) (forms_written context seen) (flat_map (becomes context way) seen)))
    (way-viewed context cluster)
    ∙ ap (λ b. length (cond b (forms_written context seen) (flat_map (becomes context way) seen))) (kept-viewed cluster)
    ∙ elim (is_kept_cluster cluster) as (λ b. length
    (cond b (forms_written context seen) (flat_map (becomes context way) seen))
    ≡ length (cond b (forms_written context cluster) (flat_map (becomes context way) cluster)))
    [ true ↦ forms | false ↦ apart ]

text-viewed : (context : Context) (gs : Glyphs) → length (text_decomposed context (order_view gs))
    ≡ length (text_decomposed context gs)
text-viewed context gs =
    ap (λ groups. length (flat_map (cluster_becomes context) groups)) (groups-viewed is_mark_glyph (λ g. refl) gs)
    ∙ all-viewed (cluster_becomes context) (map plain) (cluster-viewed context) (cut_before_others is_mark_glyph gs)

-- ---- characters and selectors that come into one cluster

joined-view : (context : Context) (level : BufferClusterLevel) (gs : Glyphs) (i : ℕ)
    → order_view (variant_joined context level gs i) ≡ order_view gs
joined-view context level gs i =
    elim (has_variant_at context gs i) as (λ b. order_view (cond b (stay_together level i (i + 2) gs) gs)
    ≡ order_view gs) [
      | true ↦ view-together level i (i + 2) gs (omega arith)
      | false ↦ refl
    ]

all_joined-view : (context : Context) (level : BufferClusterLevel) (gs : Glyphs) (places : List ℕ)
    → order_view (fold (λ gs i. variant_joined context level gs i) gs places) ≡ order_view gs
all_joined-view context level gs [] = refl
all_joined-view context level gs (i ∷ places) = all_joined-view context level (variant_joined context level gs i) places
    ∙ joined-view context level gs i

pub variants-view : (context : Context) (level : BufferClusterLevel) (gs : Glyphs)
    → order_view (variants_joined context level gs) ≡ order_view gs
variants-view context level gs = all_joined-view context level gs (range_with_len 0 (length gs - 1))

pub length-variants : (context : Context) (level : BufferClusterLevel) (gs : Glyphs)
    → length (variants_joined context level gs) ≡ length gs
length-variants context level gs = sym (length-map (variants_joined context level gs) plain)
    ∙ ap length (variants-view context level gs) ∙ length-map gs plain

-- the first round is as long as the text taken apart
pub first_round_length : (context : Context) (level : BufferClusterLevel) (gs : Glyphs)
    → length (first_round context level gs) ≡ length (text_decomposed context gs)
first_round_length context level gs =
    sym (text-viewed context (variants_joined context level gs))
    ∙ ap (λ view. length (text_decomposed context view)) (variants-view context level gs)
    ∙ text-viewed context gs
