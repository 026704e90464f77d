-- What comes apart keeps its cluster.
use Rattle.std.proofs.Common.{ℕ, Bool, true, false, cond, List, [], ◌∷◌, map, Option, None, Some}
use Rattle.std.specs.List.{AllByRecursion, flat_map}
use Rattle.std.specs.Option.{option_map_or}
use Rattle.shapers_base.specs.declared.font.GlyphId.{GlyphId}
use Rattle.shapers_buffer.specs.Glyphs.{Glyph, Glyphs}
use Rattle.shapers_buffer.proofs.MappedLists.{all-flat_map}
use Rattle.shapers_clusters.proofs.Halves.{Each}
use Rattle.shapers_normal.specs.Context.{Context}
use Rattle.shapers_normal.specs.Decomposition.{apart_way, as_part, as_space, becomes, cluster_becomes, drawn_space, image, mark_clusters, text_decomposed, without_glyph, written_as}
use Rattle.shapers_normal.specs.Properties.{numbered_as}
use Rattle.shapers_normal.specs.Sorting.{is_mark_glyph}
use Rattle.shapers_normal.specs.Variants.{cut_before_others, form_written, forms_written, is_kept_cluster, is_selector_glyph, selecting_nothing, with_first, with_number}

-- whichever of two glyphs it is
either : {X : Type 0} (P : ℕ → Type 0) (f : X → Glyph) (o : Option X) (g : Glyph)
    → ((x : X) → P (f x).cluster) → P g.cluster → P (option_map_or f o g).cluster
either P f None g some none = none
either P f (Some x) g some none = some x

without : (P : ℕ → Type 0) (context : Context) (g : Glyph) → P g.cluster → P (without_glyph context g).cluster
without P context g p =
    either P (λ space. as_space space.0 (numbered_as space.1.0 g))
    (drawn_space context g) _ (λ space. p) p

each-parts : (P : ℕ → Type 0) (context : Context) (g : Glyph) (cs : List ℕ) → P g.cluster
    → Each P (map (as_part context g) cs)
each-parts P context g [] p = tt
each-parts P context g (c ∷ cs) p = (p, each-parts P context g cs p)

pub each-written : (P : ℕ → Type 0) (context : Context) (g : Glyph) (cs : List ℕ) → P g.cluster
    → Each P (written_as context g cs)
each-written P context g [] p = (
  either P (λ (glyph : GlyphId). numbered_as glyph.0 g)
      (context.nominal g.glyph_id) (without_glyph context g) (λ glyph. p) (without P context g p),
  tt,
)
each-written P context g (c ∷ cs) p = (p, each-parts P context g cs p)

numbered : (P : ℕ → Type 0) (context : Context) (g : Glyph) → P g.cluster → P (with_number context g).cluster
numbered P context g p = either P (λ (glyph : GlyphId). numbered_as glyph.0 g)
    (context.nominal g.glyph_id) g (λ glyph. p) p

each-numbered : (P : ℕ → Type 0) (context : Context) (gs : Glyphs) → Each P gs
    → Each P (map (with_number context) gs)
each-numbered P context [] p = tt
each-numbered P context (g ∷ gs) p = (numbered P context g p.0, each-numbered P context gs p.1)

each-by : (P : ℕ → Type 0) (context : Context) (g selector : Glyph) (more : Glyphs)
    (o : Option GlyphId) → Each P (g ∷ (selector ∷ more))
    → Each P (option_map_or (λ (variant : GlyphId). numbered_as variant.0 g ∷ map (with_number context) more) o
    (with_number context g ∷ with_number context (selecting_nothing context selector) ∷ map (with_number context) more))
each-by P context g selector more None p = (
  numbered P context g p.0,
  (
    numbered P context (selecting_nothing context selector) p.1.0,
    each-numbered P context
        more p.1.1,
  ),
)
each-by P context g selector more (Some variant) p = (p.0, each-numbered P context more p.1.1)

pub each-form : (P : ℕ → Type 0) (context : Context) (form : Glyphs) → Each P form
    → Each P (form_written context form)
each-form P context [] p = tt
each-form P context (g ∷ []) p = each-numbered P context (g ∷ []) p
each-form P context (g ∷ (selector ∷ more)) p =
    each-by P context g selector more (context.variant g.glyph_id selector.glyph_id) p

each-first : (P : ℕ → Type 0) (follows : Glyph → Bool) (g : Glyph)
    (clusters : List Glyphs) → P g.cluster → AllByRecursion (Each P) clusters
    → AllByRecursion (Each P) (with_first follows g clusters)
each-first P follows g [] p all = ((p, tt), tt)
each-first P follows g ([] ∷ clusters) p all = ((p, tt), all)
each-first P follows g ((h ∷ cluster) ∷ clusters) p all =
    elim (follows h) as (λ b. AllByRecursion (Each P)
    (cond b ((g ∷ h ∷ cluster) ∷ clusters) ((g ∷ []) ∷ (h ∷ cluster) ∷ clusters))) [
      | true ↦ ((p, all.0), all.1)
      | false ↦ ((p, tt), all)
    ]

each-group : (P : ℕ → Type 0) (follows : Glyph → Bool) (gs : Glyphs) → Each P gs
    → AllByRecursion (Each P) (cut_before_others follows gs)
each-group P follows [] p = tt
each-group P follows (g ∷ gs) p =
    each-first P follows g (cut_before_others follows gs) p.0 (each-group P follows gs p.1)

pub each-became : (P : ℕ → Type 0) (context : Context) (cluster : Glyphs) → Each P cluster
    → Each P (cluster_becomes context cluster)
each-became P context cluster p =
    let way = apart_way context cluster in
    let Own : Glyph → Type 0 = λ g. P g.cluster in
    elim (is_kept_cluster cluster) as (λ b. Each P
    (cond b (forms_written context cluster) (flat_map (becomes context way) cluster))) [
      | true ↦ all-flat_map (Each P) Own (form_written context) (λ form q. each-form P context form q)
          (cut_before_others is_selector_glyph cluster) (each-group P is_selector_glyph cluster p)
      | false ↦ all-flat_map Own Own (becomes context way)
          (λ g q. each-written P context g (image context way g.glyph_id) q) cluster p
    ]

pub each-decomposed : (P : ℕ → Type 0) (context : Context) (gs : Glyphs) → Each P gs
    → Each P (text_decomposed context gs)
each-decomposed P context gs p =
    all-flat_map (Each P) (λ (g : Glyph). P g.cluster) (cluster_becomes context)
    (λ cluster q. each-became P context cluster q) (mark_clusters gs) (each-group P is_mark_glyph gs p)
