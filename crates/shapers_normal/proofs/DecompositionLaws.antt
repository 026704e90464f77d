-- The laws of the first round.
use Rattle.std.proofs.Common.{◌≡◌, ◌==◌, ◌+◌, ◌*◌, ◌≤◌, ℕ, zero, suc, Bool, true, false, ◌||◌, ◌&&◌, cond, List, [], ◌∷◌, ◌++◌, length, map, take, drop, Option, None, Some, refl, sym, ap, ◌∙◌, subst, arith}
use Rattle.std.specs.List.{AllByRecursion, flat_map, prefix_len}
use Rattle.std.specs.Option.{option_map_or}
use Rattle.shapers_base.specs.declared.font.GlyphId.{GlyphId}
use Rattle.std.proofs.lemmas.Grind.{flat_map-append}
use Rattle.std.proofs.lemmas.List.{length-append, length-map}
use Rattle.shapers_buffer.specs.Glyphs.{Glyph, Glyphs}
use Rattle.shapers_buffer.proofs.MappedLists.{all-append}
use Rattle.shapers_normal.specs.Properties.{numbered_as}
use Rattle.shapers_normal.specs.declared.ot_shape_normalize.decomposing.Way.{Way}
use Rattle.shapers_normal.specs.declared.ot_shape_normalize.decomposing.Way.TheVariants.{Short, Whole}
use Rattle.shapers_normal.specs.Context.{Context, has_glyph}
use Rattle.shapers_normal.specs.Decomposition.{apart_in, as_part, becomes, cluster_becomes, come_off, image, mark_clusters, apart_way, text_decomposed, written_as}
use Rattle.shapers_normal.specs.DecompositionWalk.{or_base_alone, then_come_off}
use Rattle.shapers_normal.specs.Laws.{PartsAreDrawn}
use Rattle.shapers_normal.specs.Sorting.{is_mark_glyph}
use Rattle.shapers_normal.specs.Variants.{cut_before_others, form_written, forms_written, is_kept_cluster, is_selector_glyph, selecting_nothing, with_first, with_number}
use Rattle.shapers_normal.proofs.Apart.{apart_blocked, apart_further, apart_none, apart_not}
use Rattle.shapers_normal.proofs.Clusters.{opens_with_group}

abbrev Drawn : Context → ℕ → Type 0
Drawn context c = has_glyph context c ≡ true

-- characters that come apart in n steps: few, and the font has each
record Parts (context : Context) (n : ℕ) (cs : List ℕ) : Type 0 where
  few : length cs ≤ n + 1
  drawn : AllByRecursion (Drawn context) cs

none : (context : Context) (n : ℕ) → Parts context n []
none context n = record { few = omega arith; drawn = tt }

base_alone : (context : Context) (n a : ℕ) (has : Bool) → has_glyph context a ≡ has
    → Parts context n (cond has (a ∷ []) [])
base_alone context n a true e = record { few = omega arith; drawn = (e, tt) }
base_alone context n a false e = none context n

with_base : (context : Context) (n a : ℕ) (cs : List ℕ) → Parts context n cs
    → Parts context n (or_base_alone (has_glyph context a) a cs)
with_base context n a [] p = base_alone context n a (has_glyph context a) refl
with_base context n a (c ∷ cs) p = p

off_drawn : (context : Context) (b : ℕ) (is_zero : Bool) → (is_zero || has_glyph context b) ≡ true
    → AllByRecursion (Drawn context) (cond is_zero [] (b ∷ []))
off_drawn context b true e = tt
off_drawn context b false e = (e, tt)

off_few : (b : ℕ) (is_zero : Bool) → length (cond is_zero [] (b ∷ [])) ≤ 1
off_few b true = omega arith
off_few b false = omega arith

with_off : (context : Context) (n b : ℕ) (cs : List ℕ) → (b == 0 || has_glyph context b) ≡ true → Parts context n cs
    → Parts context (suc n) (then_come_off b cs)
with_off context n b [] free p = none context (suc n)
with_off context n b (c ∷ cs) free p = record {
  few = omega (arith, p.few, length-append (c ∷ cs) (come_off b), off_few b (b == 0));
  drawn = all-append (Drawn context) (c ∷ cs) (come_off b) p.drawn (off_drawn context b (b == 0) free);
}

unless : (context : Context) (n : ℕ) (stop : Bool) (cs : List ℕ) → Parts context n cs
    → Parts context n (cond stop [] cs)
unless context n true cs p = none context n
unless context n false cs p = p

either_way : (context : Context) (short : Bool) (n c a b : ℕ) (free : Bool) → (b == 0 || has_glyph context b) ≡ free
    → Some (a, b) ≡ context.decomposed c → Parts context n (apart_in context short n a)
    → Parts context (suc n) (apart_in context short (suc n) c)
either_way context short n c a b true e some p =
    subst (Parts context (suc n)) (sym (apart_further context short (suc n) n c a b refl some e))
    (with_off context n b (or_base_alone (has_glyph context a) a (cond (short && has_glyph context a)
    [] (apart_in context short n a))) e
    (with_base context n a (cond (short && has_glyph context a) [] (apart_in context short n a))
    (unless context n (short && has_glyph context a) (apart_in context short n a) p)))
either_way context short n c a b false e some p =
    subst (Parts context (suc n)) (sym (apart_blocked context short (suc n) n c a b refl some e)) (none context (suc n))

by_parts : (context : Context) (short : Bool) (n c : ℕ) (o : Option (ℕ × ℕ)) → o ≡ context.decomposed c
    → ((a : ℕ) → Parts context n (apart_in context short n a))
    → Parts context (suc n) (apart_in context short (suc n) c)
by_parts context short n c None e ih =
    subst (Parts context (suc n)) (sym (apart_not context short (suc n) n c refl e)) (none context (suc n))
by_parts context short n c (Some p) e ih =
    either_way context short n c p.0 p.1 (p.1 == 0 || has_glyph context p.1) refl e (ih p.0)

apart_parts : (context : Context) (short : Bool) (n c : ℕ) → Parts context n (apart_in context short n c)
apart_parts context short zero c = subst (Parts context 0) (sym (apart_none context short 0 c refl)) (none context 0)
apart_parts context short (suc n) c =
    by_parts context short n c (context.decomposed c) refl (λ a. apart_parts context short n a)

image_parts : (context : Context) (way : Way) (c : ℕ) → Parts context 8 (image context way c)
image_parts context Short c =
    unless context 8 (has_glyph context c) (apart_in context true 8 c) (apart_parts context true 8 c)
image_parts context Whole c = apart_parts context false 8 c

pub parts_are_drawn : PartsAreDrawn
parts_are_drawn context way c = (image_parts context way c).drawn

-- how many glyphs a glyph becomes, a cluster, and a text
written_few : (context : Context) (g : Glyph) (cs : List ℕ) → length cs ≤ 9 → length (written_as context g cs)
    ≤ 9
written_few context g [] few = omega arith
written_few context g (c ∷ cs) few = omega (arith, length-map (c ∷ cs) (as_part context g))

ninefold : (context : Context) (way : Way) (gs : Glyphs) → length (flat_map (becomes context way) gs)
    ≤ 9 * length gs
ninefold context way [] = omega arith
ninefold context way (g ∷ gs) =
    omega (
      arith,
      length-append (becomes context way g) (flat_map (becomes context way) gs),
      written_few context g
          (image context way g.glyph_id) (omega (arith, (image_parts context way g.glyph_id).few)),
      ninefold context way
          gs,
    )

abbrev size : List Glyphs → ℕ
size [] = 0
size (c ∷ cs) = length c + size cs

size_first : (follows : Glyph → Bool) (g : Glyph) (cs : List Glyphs)
    → size (with_first follows g cs) ≡ suc (size cs)
size_first follows g [] = refl
size_first follows g ([] ∷ cs) = omega arith
size_first follows g ((h ∷ c) ∷ cs) =
    elim (follows h) as (λ b. size (cond b ((g ∷ (h ∷ c)) ∷ cs) ((g ∷ []) ∷ ((h ∷ c) ∷ cs)))
    ≡ suc (size ((h ∷ c) ∷ cs))) [
      | true ↦ omega arith
      | false ↦ omega arith
    ]

size_all : (follows : Glyph → Bool) (gs : Glyphs) → size (cut_before_others follows gs)
    ≡ length gs
size_all follows [] = refl
size_all follows (g ∷ gs) = size_first follows g (cut_before_others follows gs) ∙ ap suc (size_all follows gs)

-- a cluster that is kept doesn't grow
form_by : (context : Context) (g selector : Glyph) (more : Glyphs) (o : Option GlyphId)
    → length (option_map_or (λ (variant : GlyphId). numbered_as variant.0 g ∷ map (with_number context) more) o
    (with_number context g ∷ with_number context (selecting_nothing context selector) ∷ map (with_number context) more))
    ≤ length (g ∷ (selector ∷ more))
form_by context g selector more None = omega (arith, length-map more (with_number context))
form_by context g selector more (Some variant) = omega (arith, length-map more (with_number context))

form_few : (context : Context) (form : Glyphs) → length (form_written context form) ≤ length form
form_few context [] = omega arith
form_few context (g ∷ []) = omega arith
form_few context (g ∷ (selector ∷ more)) =
    form_by context g selector more (context.variant g.glyph_id selector.glyph_id)

forms_few : (context : Context) (forms : List Glyphs) → length (flat_map (form_written context) forms)
    ≤ size forms
forms_few context [] = omega arith
forms_few context (form ∷ forms) =
    omega (
      arith,
      length-append (form_written context form) (flat_map (form_written context) forms),
      form_few context
          form,
      forms_few context forms,
    )

cluster_ninefold : (context : Context) (c : Glyphs) → length (cluster_becomes context c) ≤ 9 * length c
cluster_ninefold context c =
    elim (is_kept_cluster c) as (λ b. length
    (cond b (forms_written context c) (flat_map (becomes context (apart_way context c)) c)) ≤ 9 * length c) [
      | true ↦ omega (arith, forms_few context (cut_before_others is_selector_glyph c), size_all is_selector_glyph c)
      | false ↦ ninefold context (apart_way context c) c
    ]

clusters_ninefold : (context : Context) (cs : List Glyphs)
    → length (flat_map (cluster_becomes context) cs) ≤ 9 * size cs
clusters_ninefold context [] = omega arith
clusters_ninefold context (c ∷ cs) =
    omega (
      arith,
      length-append (cluster_becomes context c) (flat_map (cluster_becomes context) cs),
      cluster_ninefold
          context c,
      clusters_ninefold context cs,
    )

pub decomposed_ninefold : (context : Context) (gs : Glyphs) → length (text_decomposed context gs)
    ≤ 9 * length gs
decomposed_ninefold context gs = omega (arith, clusters_ninefold context (mark_clusters gs), size_all is_mark_glyph gs)

-- a cut before a glyph that is no mark
first_before : (a g : Glyph) (c : Glyphs) (rest : List Glyphs)
    → is_mark_glyph g ≡ false → with_first is_mark_glyph a ((g ∷ c) ∷ rest) ≡ (a ∷ []) ∷ ((g ∷ c) ∷ rest)
first_before a g c rest e = ap (λ b. cond b ((a ∷ (g ∷ c)) ∷ rest) ((a ∷ []) ∷ ((g ∷ c) ∷ rest))) e

first_of_some : (a h : Glyph) (c : Glyphs) (xs ys : List Glyphs)
    → with_first is_mark_glyph a (((h ∷ c) ∷ xs) ++ ys) ≡ with_first is_mark_glyph a ((h ∷ c) ∷ xs) ++ ys
first_of_some a h c xs ys =
    elim (is_mark_glyph h) as (λ b. cond b ((a ∷ (h ∷ c)) ∷ (xs ++ ys)) ((a ∷ []) ∷ ((h ∷ c) ∷ (xs ++ ys)))
    ≡ cond b ((a ∷ (h ∷ c)) ∷ xs) ((a ∷ []) ∷ ((h ∷ c) ∷ xs)) ++ ys) [
      | true ↦ refl
      | false ↦ refl
    ]

clusters_in_halves : (front : Glyphs) (g : Glyph) (behind : Glyphs)
    → is_mark_glyph g ≡ false → mark_clusters (front ++ g ∷ behind) ≡ mark_clusters front ++ mark_clusters (g ∷ behind)
clusters_in_halves [] g behind e = refl
clusters_in_halves (a ∷ []) g behind e =
    let k = prefix_len is_mark_glyph behind in
    let c = take k behind in
    let rest = mark_clusters (drop k behind) in
    let opened : mark_clusters (g ∷ behind) ≡ (g ∷ c) ∷ rest = opens_with_group is_mark_glyph g behind in
    ap (with_first is_mark_glyph a) opened ∙ first_before a g c rest e ∙ ap (λ cs. (a ∷ []) ∷ cs) (sym opened)
clusters_in_halves (a ∷ (h ∷ front)) g behind e =
    let k = prefix_len is_mark_glyph front in
    let c = take k front in
    let rest = mark_clusters (drop k front) in
    let last = mark_clusters (g ∷ behind) in
    let opened : mark_clusters (h ∷ front) ≡ (h ∷ c) ∷ rest = opens_with_group is_mark_glyph h front in
    ap (with_first is_mark_glyph a) (clusters_in_halves (h ∷ front) g behind e ∙ ap (λ cs. cs ++ last) opened)
    ∙ first_of_some a h c rest last
    ∙ ap (λ cs. with_first is_mark_glyph a cs ++ last) (sym opened)

pub decomposed_halves : (context : Context) (front : Glyphs) (g : Glyph)
    (behind : Glyphs) → is_mark_glyph g ≡ false → text_decomposed context (front ++ g ∷ behind)
    ≡ text_decomposed context front ++ text_decomposed context (g ∷ behind)
decomposed_halves context front g behind e =
    ap (flat_map (cluster_becomes context)) (clusters_in_halves front g behind e)
    ∙ flat_map-append (cluster_becomes context) (mark_clusters front) (mark_clusters (g ∷ behind))
