-- The first round of a text that is cut before a glyph that is no mark.
use Rattle.std.proofs.Common.{◌≡◌, ◌+◌, ◌-◌, ◌<◌, ◌≤◌, ◌&&◌, ℕ, suc, Bool, true, false, not, cond, nat_lt, List, [], ◌∷◌, ◌++◌, length, map, take, get_or, refl, sym, ap, ◌∙◌, arith}
use Rattle.std.specs.List.{AllByRecursion, fold, range_with_len}
use Rattle.std.specs.Prelude.{is_some}
use Rattle.std.proofs.lemmas.Bool.Decides.{nat_tests}
use Rattle.std.proofs.lemmas.List.{get_or-append-add, get_or_append_left, length-append}
use Rattle.std.proofs.lemmas.List.Sums.{fold-append}
use Rattle.shapers_buffer.specs.Glyphs.{Glyph, Glyphs}
use Rattle.shapers_buffer.specs.declared.buffer.level.BufferClusterLevel.{BufferClusterLevel}
use Rattle.shapers_buffer.specs.Glyph.{default_glyph, order_view, plain}
use Rattle.shapers_buffer.proofs.MappedLists.{all-range}
use Rattle.shapers_clusters.proofs.Halves.{Each}
use Rattle.shapers_clusters.proofs.Widened.{map-range, range-append}
use Rattle.shapers_normal.specs.Context.{Context}
use Rattle.shapers_normal.specs.Decomposition.{first_round, text_decomposed}
use Rattle.shapers_normal.specs.Laws.{GrowsNinefold}
use Rattle.shapers_normal.specs.Sorting.{is_mark_glyph, stay_together}
use Rattle.shapers_normal.specs.Variants.{has_variant_at, is_selector_glyph, variant_joined, variants_joined}
use Rattle.shapers_normal.proofs.Beside.{Not, alone_behind, alone_in_front, local_together}
use Rattle.shapers_normal.proofs.DecompositionClusters.{each-decomposed}
use Rattle.shapers_normal.proofs.DecompositionLaws.{decomposed_halves, decomposed_ninefold}
use Rattle.shapers_normal.proofs.SortingHalves.{twice_not}
use Rattle.shapers_normal.proofs.Viewed.{length-variants, variants-view}

pub grows_ninefold : GrowsNinefold
grows_ninefold context level gs =
    omega (arith, decomposed_ninefold context (variants_joined context level gs), length-variants context level gs)

-- ---- one place

-- whether a glyph stands for two, by these and whether others stand before them
abbrev variant_of : Context → Glyph → Glyph → Bool → Bool
variant_of context g s later =
    is_mark_glyph s && is_selector_glyph s && not (later && is_mark_glyph g && is_selector_glyph g)
    && is_some (context.variant g.glyph_id s.glyph_id)

same_in_front : (context : Context) (gs behind : Glyphs) (i : ℕ) → i + 1 < length gs
    → has_variant_at context (gs ++ behind) i ≡ has_variant_at context gs i
same_in_front context gs behind i within =
    let later = nat_lt 0 i in
    ap (λ g. variant_of context g (get_or (gs ++ behind) (i + 1) default_glyph) later)
    (get_or_append_left gs behind default_glyph i (omega arith))
    ∙ ap (λ s. variant_of context (get_or gs i default_glyph) s later)
    (get_or_append_left gs behind default_glyph (i + 1) within)

both : (a b c : Bool) (f : Bool → Bool) → f (a && b && c) ≡ f ((a && b) && c)
both true b c f = refl
both false b c f = refl

nothing : (a b : Bool) → b ≡ false → (a && b) ≡ (nat_lt 0 0 && b)
nothing true b none = none
nothing false b none = refl

-- behind others, unless the glyph there is a selector that begins the text
same_behind : (context : Context) (before gs : Glyphs) (i : ℕ) → i + 1 < length gs
    → (nat_lt 0 (length before + i) && is_mark_glyph (get_or gs i default_glyph))
    ≡ (nat_lt 0 i && is_mark_glyph (get_or gs i default_glyph))
    → has_variant_at context (before ++ gs) (length before + i) ≡ has_variant_at context gs i
same_behind context before gs i within same =
    let k = length before in
    let g = get_or gs i default_glyph in
    let s = get_or gs (i + 1) default_glyph in
    let next : k + i + 1 ≡ k + (i + 1) = omega arith in
    let at = λ (b : Bool). is_mark_glyph s && is_selector_glyph s && not (b && is_selector_glyph g)
    && is_some (context.variant g.glyph_id s.glyph_id) in
    ap (λ j. variant_of context (get_or (before ++ gs) (k + i) default_glyph) (get_or (before ++ gs) j default_glyph)
    (nat_lt 0 (k + i))) next
    ∙ ap (λ h. variant_of context h (get_or (before ++ gs) (k + (i + 1)) default_glyph) (nat_lt 0 (k + i)))
    (get_or-append-add before gs i default_glyph)
    ∙ ap (λ h. variant_of context g h (nat_lt 0 (k + i))) (get_or-append-add before gs (i + 1) default_glyph)
    ∙ both (nat_lt 0 (k + i)) (is_mark_glyph g) (is_selector_glyph g) (λ b. is_mark_glyph s && is_selector_glyph s
    && not b && is_some (context.variant g.glyph_id s.glyph_id))
    ∙ ap at same
    ∙ sym (both (nat_lt 0 i) (is_mark_glyph g) (is_selector_glyph g) (λ b. is_mark_glyph s && is_selector_glyph s
    && not b && is_some (context.variant g.glyph_id s.glyph_id)))

joined_in_front : (P : ℕ → Type 0) (context : Context) (level : BufferClusterLevel) (gs behind : Glyphs)
    (i : ℕ) → i + 1 < length gs → Each P gs → Each (Not P) behind → variant_joined context level (gs ++ behind) i
    ≡ variant_joined context level gs i ++ behind
joined_in_front P context level gs behind i within p n =
    let start = λ (xs : Glyphs).
    let one : 0 + i ≡ i = omega arith in
    let two : 0 + (i + 2) ≡ i + 2 = omega arith in
    ap (λ a. stay_together level a (0 + (i + 2)) xs) one ∙ ap (λ b. stay_together level i b xs) two in
    ap (λ b. cond b (stay_together level i (i + 2) (gs ++ behind)) (gs ++ behind))
    (same_in_front context gs behind i within)
    ∙ elim (has_variant_at context gs i) as (λ b. cond b (stay_together level i (i + 2) (gs ++ behind)) (gs ++ behind)
    ≡ cond b (stay_together level i (i + 2) gs) gs ++ behind) [
      | true ↦ alone_in_front (i + 2) P (stay_together level i (i + 2)) (λ k. stay_together level (k + i) (k + (i + 2)))
          (local_together P level i (i + 2) (i + 2) (omega arith) (omega arith)) start gs behind (omega arith) p n
      | false ↦ refl
    ]

joined_behind : (P : ℕ → Type 0) (context : Context) (level : BufferClusterLevel) (before gs : Glyphs)
    (i : ℕ) → i + 1 < length gs → (nat_lt 0 (length before + i) && is_mark_glyph (get_or gs i default_glyph))
    ≡ (nat_lt 0 i && is_mark_glyph (get_or gs i default_glyph)) → Each P gs → Each (Not P) before
    → variant_joined context level (before ++ gs) (length before + i) ≡ before ++ variant_joined context level gs i
joined_behind P context level before gs i within same p n =
    let k = length before in
    let next : k + i + 2 ≡ k + (i + 2) = omega arith in
    ap (λ b. cond b (stay_together level (k + i) (k + i + 2) (before ++ gs)) (before ++ gs))
    (same_behind context before gs i within same)
    ∙ elim (has_variant_at context gs i) as (λ b. cond b (stay_together level (k + i) (k + i + 2) (before ++ gs))
    (before ++ gs) ≡ before ++ cond b (stay_together level i (i + 2) gs) gs) [
      | true ↦ ap (λ e. stay_together level (k + i) e (before ++ gs)) next
          ∙ alone_behind (i + 2) P (stay_together level i (i + 2)) (λ k. stay_together level (k + i) (k + (i + 2)))
          (local_together P level i (i + 2) (i + 2) (omega arith) (omega arith)) before gs (omega arith) p n
      | false ↦ refl
    ]

-- as many glyphs, and what holds of each cluster still does
record Kept (P : ℕ → Type 0) (old new : Glyphs) : Type 0 where
  same_length : length new ≡ length old
  each : Each P old → Each P new

joined_keeps : (P : ℕ → Type 0) (context : Context) (level : BufferClusterLevel) (gs : Glyphs) (i : ℕ)
    → i + 1 < length gs → Kept P gs (variant_joined context level gs i)
joined_keeps P context level gs i within =
    let l = local_together P level i (i + 2) (i + 2) (omega arith) (omega arith) in
    elim (has_variant_at context gs i) as (λ b. Kept P gs (cond b (stay_together level i (i + 2) gs) gs)) [
      | true ↦ record { same_length = l.same_length gs (omega arith); each = l.kept gs (omega arith) }
      | false ↦ record { same_length = refl; each = λ p. p }
    ]

-- ---- places of a half

abbrev all_joined : Context → BufferClusterLevel → Glyphs → List ℕ → Glyphs
all_joined context level gs places = fold (λ gs i. variant_joined context level gs i) gs places

all_keep : (P : ℕ → Type 0) (context : Context) (level : BufferClusterLevel) (n : ℕ) (gs : Glyphs)
    (places : List ℕ) → n ≤ length gs → AllByRecursion (λ i. i + 1 < n) places
    → Kept P gs (all_joined context level gs places)
all_keep P context level n gs [] long all = record { same_length = refl; each = λ p. p }
all_keep P context level n gs (i ∷ places) long all =
    let one = joined_keeps P context level gs i (omega (arith, all.0)) in
    let rest = all_keep P context level n (variant_joined context level gs i) places (omega (arith, one.same_length))
    all.1 in
    record { same_length = rest.same_length ∙ one.same_length; each = λ p. rest.each (one.each p) }

all_in_front : (P : ℕ → Type 0) (context : Context) (level : BufferClusterLevel) (n : ℕ)
    (gs behind : Glyphs) (places : List ℕ) → n ≤ length gs → AllByRecursion (λ i. i + 1 < n) places
    → Each P gs → Each (Not P) behind → all_joined context level (gs ++ behind) places
    ≡ all_joined context level gs places ++ behind
all_in_front P context level n gs behind [] long all p x = refl
all_in_front P context level n gs behind (i ∷ places) long all p x =
    let one = joined_keeps P context level gs i (omega (arith, all.0)) in
    ap (λ ys. all_joined context level ys places)
    (joined_in_front P context level gs behind i (omega (arith, all.0)) p x)
    ∙ all_in_front P context level n (variant_joined context level gs i) behind places (omega (arith, one.same_length))
    all.1 (one.each p) x

all_behind : (P : ℕ → Type 0) (context : Context) (level : BufferClusterLevel) (n : ℕ)
    (before gs : Glyphs) (places : List ℕ) → n ≤ length gs
    → AllByRecursion (λ i. (0 < i) × (i + 1 < n)) places → Each P gs → Each (Not P) before
    → all_joined context level (before ++ gs) (map (λ i. length before + i) places)
    ≡ before ++ all_joined context level gs places
all_behind P context level n before gs [] long all p x = refl
all_behind P context level n before gs (i ∷ places) long all p x =
    let one = joined_keeps P context level gs i (omega (arith, all.0.1)) in
    let inner : nat_lt 0 (length before + i) ≡ nat_lt 0 i = grind (arith, nat_tests) in
    ap (λ ys. all_joined context level ys (map (λ i. length before + i) places))
    (joined_behind P context level before gs i (omega (arith, all.0.1))
    (ap (λ b. b && is_mark_glyph (get_or gs i default_glyph)) inner) p x)
    ∙ all_behind P context level n before (variant_joined context level gs i) places (omega (arith, one.same_length))
    all.1 (one.each p) x

-- ---- both halves

-- the second half, whose first glyph is no mark
second_opened : (P : ℕ → Type 0) (context : Context) (level : BufferClusterLevel) (done : Glyphs)
    (g : Glyph) (behind : Glyphs) → is_mark_glyph g ≡ false → Each P (g ∷ behind)
    → Each (Not P) done → all_joined context level (done ++ g ∷ behind) (range_with_len (length done) (length behind))
    ≡ done ++ variants_joined context level (g ∷ behind)
second_opened P context level done g [] letter p x = refl
second_opened P context level done g (h ∷ behind) letter p x =
    let rest = g ∷ (h ∷ behind) in
    let k = length done in
    let places = range_with_len 1 (length behind) in
    let here : k ≡ k + 0 = omega arith in
    let one = joined_keeps P context level rest 0 (omega arith) in
    let all : length rest - 1 ≡ suc (length behind) = omega arith in
    let no_mark : (nat_lt 0 (k + 0) && is_mark_glyph g) ≡ (nat_lt 0 0 && is_mark_glyph g) =
    nothing (nat_lt 0 (k + 0)) (is_mark_glyph g) letter in
    ap (λ j. all_joined context level (variant_joined context level (done ++ rest) j)
    (range_with_len (k + 1) (length behind))) here
    ∙ ap (λ ys. all_joined context level ys (range_with_len (k + 1) (length behind)))
    (joined_behind P context level done rest 0 (omega arith) no_mark p x)
    ∙ ap (λ ps. all_joined context level (done ++ variant_joined context level rest 0) ps)
    (sym (map-range k 1 (length behind)))
    ∙ all_behind P context level (length rest) done (variant_joined context level rest 0) places
    (omega (arith, one.same_length))
    (all-range (λ i. (0 < i) × (i + 1 < length rest)) 1 (length behind) (λ i low high. (omega arith, omega arith)))
    (one.each p) x
    ∙ sym (ap (λ n. done ++ all_joined context level rest (range_with_len 0 n)) all)

-- at the cut no glyph stands for two
nothing_there : (context : Context) (level : BufferClusterLevel) (done : Glyphs) (g : Glyph)
    (behind : Glyphs) (i : ℕ) → i + 1 ≡ length done → is_mark_glyph g ≡ false
    → variant_joined context level (done ++ g ∷ behind) i ≡ done ++ g ∷ behind
nothing_there context level done g behind i last letter =
    let whole = done ++ g ∷ behind in
    let none : i + 1 ≡ length done + 0 = omega arith in
    let there : get_or whole (i + 1) default_glyph ≡ g = ap (λ j. get_or whole j default_glyph) none
    ∙ get_or-append-add done (g ∷ behind) 0 default_glyph in
    let first = get_or whole i default_glyph in
    ap (λ s. cond (variant_of context first s (nat_lt 0 i)) (stay_together level i (i + 2) whole) whole) there
    ∙ ap (λ b. cond (b && is_selector_glyph g && not (nat_lt 0 i && is_mark_glyph first && is_selector_glyph first)
    && is_some (context.variant first.glyph_id g.glyph_id)) (stay_together level i (i + 2) whole) whole) letter

pub variants_halves : (P : ℕ → Type 0) (context : Context) (level : BufferClusterLevel) (front : Glyphs)
    (g : Glyph) (behind : Glyphs) → is_mark_glyph g ≡ false → Each P front
    → Each (Not P) (g ∷ behind) → variants_joined context level (front ++ g ∷ behind)
    ≡ variants_joined context level front ++ variants_joined context level (g ∷ behind)
variants_halves P context level [] g behind letter p n = refl
variants_halves P context level (f ∷ front) g behind letter p n =
    let a = length front in
    let rest = g ∷ behind in
    let whole = f ∷ (front ++ rest) in
    let places = range_with_len 0 a in
    let inside = all-range (λ i. i + 1 < suc a) 0 a (λ i low high. omega arith) in
    let kept = all_keep P context level (suc a) (f ∷ front) places (omega arith) inside in
    let done = all_joined context level (f ∷ front) places in
    let many : length whole - 1 ≡ a + suc (length behind) = omega (arith, length-append front rest) in
    let own : length (f ∷ front) - 1 ≡ a = omega arith in
    let from : 0 + a ≡ a = omega arith in
    let next : a + 1 ≡ length done = omega (arith, kept.same_length) in
    ap (λ m. all_joined context level whole (range_with_len 0 m)) many
    ∙ ap (all_joined context level whole) (range-append 0 a (suc (length behind)))
    ∙ fold-append (λ gs i. variant_joined context level gs i) whole places
    (range_with_len (0 + a) (suc (length behind)))
    ∙ ap (λ k. all_joined context level (all_joined context level whole places)
    (range_with_len k (suc (length behind)))) from
    ∙ ap (λ ys. all_joined context level ys (range_with_len a (suc (length behind))))
    (all_in_front P context level (suc a) (f ∷ front) rest places (omega arith) inside p n)
    ∙ ap (λ ys. all_joined context level ys (range_with_len (a + 1) (length behind)))
    (nothing_there context level done g behind a next letter)
    ∙ ap (λ k. all_joined context level (done ++ rest) (range_with_len k (length behind))) next
    ∙ second_opened (Not P) context level done g behind letter n (twice_not P done (kept.each p))
    ∙ sym (ap (λ m. all_joined context level (f ∷ front) (range_with_len 0 m) ++ variants_joined context level rest)
    own)

pub each-variants : (P : ℕ → Type 0) (context : Context) (level : BufferClusterLevel) (gs : Glyphs)
    → Each P gs → Each P (variants_joined context level gs)
each-variants P context level gs p =
    (all_keep P context level (length gs) gs (range_with_len 0 (length gs - 1)) (omega arith)
    (all-range (λ i. i + 1 < length gs) 0 (length gs - 1) (λ i low high. omega arith))).each p

-- ---- the first round

pub each-first_round : (P : ℕ → Type 0) (context : Context) (level : BufferClusterLevel) (gs : Glyphs)
    → Each P gs → Each P (first_round context level gs)
each-first_round P context level gs p =
    each-decomposed P context (variants_joined context level gs) (each-variants P context level gs p)

-- by the first glyph of the second half, which keeps all but its cluster and flags
decomposed_with : (context : Context) (front : Glyphs) (g : Glyph) (gs : Glyphs)
    → is_mark_glyph g ≡ false → take 1 (order_view gs) ≡ plain g ∷ [] → text_decomposed context (front ++ gs)
    ≡ text_decomposed context front ++ text_decomposed context gs
decomposed_with context front g [] letter first = absurd (let none : 0 ≡ 1 = ap length first in omega arith)
decomposed_with context front g (h ∷ gs) letter first =
    let same : plain h ≡ plain g = ap (λ xs. get_or xs 0 g) first in
    decomposed_halves context front h gs (ap (λ (x : Glyph). is_mark_glyph x) same ∙ letter)

pub first_round_halves : (P : ℕ → Type 0) (context : Context) (level : BufferClusterLevel)
    (front : Glyphs) (g : Glyph) (behind : Glyphs) → is_mark_glyph g ≡ false
    → Each P front → Each (Not P) (g ∷ behind) → first_round context level (front ++ g ∷ behind)
    ≡ first_round context level front ++ first_round context level (g ∷ behind)
first_round_halves P context level front g behind letter p n =
    ap (text_decomposed context) (variants_halves P context level front g behind letter p n)
    ∙ decomposed_with context (variants_joined context level front) g (variants_joined context level (g ∷ behind))
    letter (ap (take 1) (variants-view context level (g ∷ behind)))
