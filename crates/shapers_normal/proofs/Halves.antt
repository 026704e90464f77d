-- A text that is normalized in halves.
use Rattle.std.proofs.Common.{◌≡◌, ◌&&◌, ◌||◌, ℕ, Bool, true, false, not, cond, eqb, nat_le, [], ◌∷◌, ◌++◌, length, take, get_or, refl, sym, ap, ◌∙◌, arith}
use Rattle.std.specs.List.{Contains}
use Rattle.std.proofs.lemmas.List.{append-nil, get_or_default, length-map}
use Rattle.std.proofs.lemmas.List.Elements.{All-contains_itself, All-from_get_or}
use Rattle.std.proofs.lemmas.Bool.{false≢true}
use Rattle.shapers_buffer.specs.Glyphs.{Glyph, Glyphs}
use Rattle.shapers_buffer.specs.declared.buffer.level.BufferClusterLevel.{BufferClusterLevel}
use Rattle.shapers_buffer.specs.Glyph.{clusters, order_view, plain}
use Rattle.shapers_clusters.specs.Cuts.{ShareNone}
use Rattle.shapers_clusters.proofs.Halves.{Each}
use Rattle.shapers_normal.specs.Context.{Context}
use Rattle.shapers_normal.specs.Decomposition.{first_round}
use Rattle.shapers_normal.specs.Laws.{ComesApartInHalves, NormalizesInHalves, OrdersAlone, ends_in_joiner, begins_anew}
use Rattle.shapers_normal.specs.Normalization.{composes, joiners_shown, later_rounds, passes_over, shown_behind, unseen}
use Rattle.shapers_normal.specs.Recomposition.{recomposed}
use Rattle.shapers_normal.specs.Sorting.{class_of, is_mark_glyph, marks_ordered}
use Rattle.shapers_normal.proofs.Beside.{Not, each_of}
use Rattle.shapers_normal.proofs.CharacterProperties.{class_of_other}
use Rattle.shapers_normal.proofs.FirstKept.{ordered-first}
use Rattle.shapers_normal.proofs.RecompositionHalves.{recomposed_halves}
use Rattle.shapers_normal.proofs.SortingHalves.{each-ordered, ordered_halves}
use Rattle.shapers_normal.proofs.VariantHalves.{each-first_round, first_round_halves}

-- what is no joiner stays
pub not_joiner : (before behind : ℕ) (g : Glyph) → eqb g.glyph_id 0x034F ≡ false
    → passes_over before behind g ≡ g
not_joiner before behind g other =
    ap (λ b. cond (b && (eqb behind 0 || nat_le before behind))
    (unseen g) g) other

shown_halves : (c : ℕ) (front : Glyphs) (g : Glyph) (behind : Glyphs)
    → ends_in_joiner front ≡ false → eqb g.glyph_id 0x034F ≡ false → shown_behind c (front ++ g ∷ behind)
    ≡ shown_behind c front ++ (g ∷ shown_behind (class_of g) behind)
shown_halves c [] g [] last other = refl
shown_halves c [] g (h ∷ behind) last other =
    ap (λ x. x ∷ shown_behind (class_of g) (h ∷ behind)) (not_joiner c (class_of h) g other)
shown_halves c (f ∷ []) g behind last other =
    ap (λ x. x ∷ shown_behind (class_of f) (g ∷ behind)) (not_joiner c (class_of g) f last)
    ∙ ap (λ xs. f ∷ xs) (shown_halves (class_of f) [] g behind refl other)
shown_halves c (f ∷ (h ∷ front)) g behind last other =
    ap (λ xs. passes_over c (class_of h) f ∷ xs) (shown_halves (class_of f) (h ∷ front) g behind last other)

pub joiners_halves : (front : Glyphs) (g : Glyph) (behind : Glyphs)
    → ends_in_joiner front ≡ false → eqb g.glyph_id 0x034F ≡ false → joiners_shown (front ++ g ∷ behind)
    ≡ joiners_shown front ++ joiners_shown (g ∷ behind)
joiners_halves [] g behind last other = refl
joiners_halves (f ∷ []) g behind last other = ap (λ xs. f ∷ xs) (shown_halves (class_of f) [] g behind refl other)
joiners_halves (f ∷ (h ∷ front)) g behind last other =
    ap (λ xs. f ∷ xs) (shown_halves (class_of f) (h ∷ front) g behind last other)

-- ---- what holds of each cluster

each-passed : (P : ℕ → Type 0) (before behind : ℕ) (g : Glyph) → P g.cluster
    → P (passes_over before behind g).cluster
each-passed P before behind g p =
    elim (eqb g.glyph_id 0x034F && (eqb behind 0 || nat_le before behind)) as (λ b.
    P (cond b (unseen g) g).cluster) [ true ↦ p | false ↦ p ]

each-shown_behind : (P : ℕ → Type 0) (c : ℕ) (gs : Glyphs) → Each P gs → Each P (shown_behind c gs)
each-shown_behind P c [] p = tt
each-shown_behind P c (g ∷ []) p = p
each-shown_behind P c (g ∷ (h ∷ gs)) p =
    (each-passed P c (class_of h) g p.0, each-shown_behind P (class_of g) (h ∷ gs) p.1)

pub each-shown : (P : ℕ → Type 0) (gs : Glyphs) → Each P gs → Each P (joiners_shown gs)
each-shown P [] p = tt
each-shown P (g ∷ gs) p = (p.0, each-shown_behind P (class_of g) gs p.1)

-- ---- the later rounds

record Opens (g : Glyph) : Type 0 where
  letter : is_mark_glyph g ≡ false
  other : eqb g.glyph_id 0x034F ≡ false

opens : (g : Glyph) (a b : Bool) → is_mark_glyph g ≡ a → eqb g.glyph_id 0x034F ≡ b → (not a && not b) ≡ true
    → Opens g
opens g false false x y e = record { letter = x; other = y }
opens g false true x y e = absurd (false≢true e)
opens g true b x y e = absurd (false≢true e)

-- the first glyph of what is in order, where it is the same but for cluster and flags
shown_and_composed : (P : ℕ → Type 0) (context : Context) (level : BufferClusterLevel) (composing : Bool)
    (front : Glyphs) (g : Glyph) (behind : Glyphs) → Opens g
    → ends_in_joiner front ≡ false → Each P front → Each (Not P) (g ∷ behind) →
    cond composing (recomposed context level (joiners_shown (front ++ g ∷ behind)))
    (joiners_shown (front ++ g ∷ behind))
    ≡ cond composing (recomposed context level (joiners_shown front)) (joiners_shown front)
    ++ cond composing (recomposed context level (joiners_shown (g ∷ behind))) (joiners_shown (g ∷ behind))
shown_and_composed P context level true front g behind o last p n =
    ap (recomposed context level) (joiners_halves front g behind last o.other)
    ∙ recomposed_halves P context level (joiners_shown front) g (shown_behind (class_of g) behind)
    (each-shown P front p) (each-shown (Not P) (g ∷ behind) n) o.letter
shown_and_composed P context level false front g behind o last p n = joiners_halves front g behind last o.other

-- what is in order begins with the same glyph, but for its cluster and flags
in_order : (P : ℕ → Type 0) (context : Context) (level : BufferClusterLevel) (composing : Bool)
    (front : Glyphs) (d : Glyph) (gs : Glyphs) → Opens d
    → take 1 (order_view gs) ≡ plain d ∷ [] → ends_in_joiner front ≡ false → Each P front → Each (Not P) gs →
    cond composing (recomposed context level (joiners_shown (front ++ gs))) (joiners_shown (front ++ gs))
    ≡ cond composing (recomposed context level (joiners_shown front)) (joiners_shown front)
    ++ cond composing (recomposed context level (joiners_shown gs)) (joiners_shown gs)
in_order P context level composing front d [] o first last p n =
    absurd (let none : 0 ≡ 1 = ap length first in omega arith)
in_order P context level composing front d (g ∷ gs) o first last p n =
    let head = λ (xs : Glyphs). get_or xs 0 d in
    let same : plain g ≡ plain d = ap head first in
    let mark : is_mark_glyph g ≡ is_mark_glyph d = ap (λ (h : Glyph). is_mark_glyph h) same in
    let number : eqb g.glyph_id 0x034F ≡ eqb d.glyph_id 0x034F =
    ap (λ (h : Glyph). eqb h.glyph_id 0x034F) same in
    shown_and_composed P context level composing front g gs
    (record { letter = mark ∙ o.letter; other = number ∙ o.other }) last p n

pub later_halves : (P : ℕ → Type 0) (context : Context) → OrdersAlone context
    → (level : BufferClusterLevel) (front behind : Glyphs) → begins_anew behind ≡ true
    → ends_in_joiner (marks_ordered context level front) ≡ false → Each P front → Each (Not P) behind
    → later_rounds context true level (front ++ behind) ≡ later_rounds context true level front
    ++ later_rounds context true level behind
later_halves P context o level front [] opened last p n =
    let none : later_rounds context true level [] ≡ [] =
    elim (composes context.mode) as (λ b. cond b (recomposed context level []) [] ≡ [])
    [ true ↦ refl | false ↦ refl ] in
    ap (later_rounds context true level) (append-nil front) ∙ sym (append-nil (later_rounds context true level front))
    ∙ ap (λ xs. later_rounds context true level front ++ xs) (sym none)
later_halves P context o level front (g ∷ behind) opened last p n =
    let start = opens g (is_mark_glyph g) (eqb g.glyph_id 0x034F) refl refl opened in
    let letter : class_of g ≡ 0 = class_of_other g start.letter in
    let round = λ (gs : Glyphs). cond (composes context.mode)
    (recomposed context level (joiners_shown gs)) (joiners_shown gs) in
    ap round (ordered_halves P context o level front g behind p n letter)
    ∙ in_order P context level (composes context.mode) (marks_ordered context level front) g
    (marks_ordered context level (g ∷ behind)) start (ordered-first context o level g behind letter).first last
    (each-ordered P context o level front p) (each-ordered (Not P) context o level (g ∷ behind) n)

-- no cluster of the one half is one of the other
pub apart : (gs hs : Glyphs) → ShareNone gs hs → Each (Not (Contains (clusters gs))) hs
apart gs hs h =
    let P : ℕ → Type 0 = Not (Contains (clusters gs)) in
    each_of P hs (All-from_get_or P (clusters hs) 0 (λ j within found.
    h found.0 j (omega (arith, found.1, length-map gs (λ g. g.cluster))) (omega (arith, length-map hs (λ g. g.cluster)))
    (get_or_default (clusters gs) found.0 0 (get_or (clusters hs) j 0) found.1 ∙ found.2)))

pub comes_apart_in_halves : ComesApartInHalves
comes_apart_in_halves context level front g behind none letter =
    let P : ℕ → Type 0 = Contains (clusters front) in
    let p : Each P front = each_of P front (All-contains_itself (clusters front)) in
    first_round_halves P context level front g behind letter p (apart front (g ∷ behind) none)

pub in_halves : NormalizesInHalves
in_halves context level front g behind o none letter opened last =
    let P : ℕ → Type 0 = Contains (clusters front) in
    let p : Each P front = each_of P front (All-contains_itself (clusters front)) in
    let n : Each (Not P) (g ∷ behind) = apart front (g ∷ behind) none in
    ap (later_rounds context true level) (first_round_halves P context level front g behind letter p n)
    ∙ later_halves P context o level (first_round context level front) (first_round context level (g ∷ behind)) opened
    last (each-first_round P context level front p) (each-first_round (Not P) context level (g ∷ behind) n)
