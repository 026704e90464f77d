-- Hebrew's order of marks leaves glyphs beside them alone.
use Rattle.std.proofs.Common.{◌≡◌, ◌+◌, ◌-◌, ◌<◌, ◌≤◌, ℕ, [], ◌∷◌, ◌++◌, length, map, take, drop, get_or, set, Option, None, Some, refl, sym, ap, ◌∙◌, subst, arith}
use Rattle.std.specs.List.{All, Contains}
use Rattle.std.specs.Option.{option_map, option_map_or}
use Rattle.std.specs.Prelude.{IfSome, swap}
use Rattle.std.proofs.lemmas.List.{drop-map, drop-set-lt, drop-take, get_or_default, length-append, length-map, length-set, length-take-le, take-set-le, take-take}
use Rattle.shapers_buffer.specs.Glyphs.{Glyphs}
use Rattle.shapers_buffer.specs.declared.buffer.level.BufferClusterLevel.{BufferClusterLevel}
use Rattle.shapers_buffer.specs.Clusters.{merge, stretch_of}
use Rattle.shapers_buffer.specs.Glyph.{clusters, default_glyph, order_view, plain}
use Rattle.shapers_clusters.specs.Steps.{after_step, swap_step}
use Rattle.shapers_clusters.proofs.Halves.{Each}
use Rattle.shapers_clusters.proofs.Merging.{length-merge, map-merge_all}
use Rattle.shapers_clusters.proofs.Swaps.{run-still_step, run-swap_step}
use Rattle.shapers_text.specs.Hebrew.{hebrew_mark_step, second_of_triple, step_at, triple_place}
use Rattle.shapers_text.proofs.HebrewLemmas.{mark_laws, marks_view, second_within, swapped}
use Rattle.shapers_normal.specs.Sorting.{class_of, classes}
use Rattle.shapers_normal.proofs.Beside.{Not, merge_alone, within_part}
use Rattle.shapers_normal.proofs.RecompositionHalves.{set_in_text}
use Rattle.shapers_normal.proofs.SortingHalves.{glyph_in_part}

-- two neighbours that change places
as_set : (gs : Glyphs) (i : ℕ) → i + 1 < length gs
    → swap gs i (i + 1) ≡ set (set gs i (get_or gs (i + 1) default_glyph)) (i + 1) (get_or gs i default_glyph)
as_set gs i within =
    let x = get_or gs i default_glyph in
    let y = get_or gs (i + 1) default_glyph in
    sym (swapped gs i x y within (get_or_default gs i default_glyph x (omega arith))
    (get_or_default gs (i + 1) default_glyph y within))

swap_in_text : (i : ℕ) (before gs rest : Glyphs) → i + 1 < length gs
    → swap (before ++ (gs ++ rest)) (length before + i) (length before + i + 1) ≡ before ++ (swap gs i (i + 1) ++ rest)
swap_in_text i before gs rest within =
    let a = length before in
    let whole = before ++ (gs ++ rest) in
    let x = get_or gs i default_glyph in
    let y = get_or gs (i + 1) default_glyph in
    let next : a + i + 1 ≡ a + (i + 1) = omega arith in
    as_set whole (a + i) (omega (arith, length-append before (gs ++ rest), length-append gs rest))
    ∙ ap (λ j. set (set whole (a + i) (get_or whole j default_glyph)) j (get_or whole (a + i) default_glyph)) next
    ∙ ap (λ g. set (set whole (a + i) g) (a + (i + 1)) (get_or whole (a + i) default_glyph))
    (glyph_in_part before gs rest (i + 1) within)
    ∙ ap (λ g. set (set whole (a + i) y) (a + (i + 1)) g) (glyph_in_part before gs rest i (omega arith))
    ∙ ap (λ xs. set xs (a + (i + 1)) x) (set_in_text i y before gs rest (omega arith))
    ∙ set_in_text (i + 1) x before (set gs i y) rest (omega (arith, length-set gs i y))
    ∙ ap (λ xs. before ++ (xs ++ rest)) (sym (as_set gs i within))

pub within : (s e : ℕ) (gs : Glyphs) → s < e → e ≤ length gs
    → IfSome (second_of_triple s e gs) (λ i. i + 1 < length gs)
within s e gs some long = second_within gs s e (omega arith) long

alone_by : (P : ℕ → Type 0) (level : BufferClusterLevel) (s : ℕ) (before gs rest : Glyphs) (o : Option ℕ)
    → IfSome (option_map (λ i. s + i + 1) o) (λ i. i + 1 < length gs) → Each P gs → Each (Not P) before
    → Each (Not P) rest →
    after_step level (step_at (length (before ++ (gs ++ rest))) (option_map (λ i. length before + s + i + 1) o))
    (before ++ (gs ++ rest))
    ≡ before ++ (after_step level (step_at (length gs) (option_map (λ i. s + i + 1) o)) gs ++ rest)
alone_by P level s before gs rest None inside p x y =
    run-still_step level (before ++ (gs ++ rest)) ∙ ap (λ xs. before ++ (xs ++ rest)) (sym (run-still_step level gs))
alone_by P level s before gs rest (Some j) inside p x y =
    let a = length before in
    let i = s + j + 1 in
    let whole = before ++ (gs ++ rest) in
    let place : a + s + j + 1 ≡ a + i = omega arith in
    let end : a + i + 2 ≡ a + (i + 2) = omega arith in
    let long : a + i + 1 < length whole =
    omega (arith, inside, length-append before (gs ++ rest), length-append gs rest) in
    let ms = merge level i (i + 2) gs in
    ap (λ k. after_step level (swap_step (length whole) k) whole) place
    ∙ run-swap_step level whole (a + i) long
    ∙ ap (λ b. swap (merge level (a + i) b whole) (a + i) (a + i + 1)) end
    ∙ ap (λ xs. swap xs (a + i) (a + i + 1))
    (merge_alone P level i (i + 2) before gs rest (omega (arith, inside)) p x y)
    ∙ swap_in_text i before ms rest (omega (arith, inside, length-merge level i (i + 2) gs (omega (arith, inside))))
    ∙ ap (λ xs. before ++ (xs ++ rest)) (sym (run-swap_step level gs i inside))

pub hebrew_alone : (P : ℕ → Type 0) (level : BufferClusterLevel) (s e : ℕ) (before gs rest : Glyphs)
    → s < e → e ≤ length gs → Each P gs → Each (Not P) before → Each (Not P) rest →
    after_step level (hebrew_mark_step (length before + s) (length before + e) (before ++ (gs ++ rest)))
    (before ++ (gs ++ rest)) ≡ before ++ (after_step level (hebrew_mark_step s e gs) gs ++ rest)
hebrew_alone P level s e before gs rest some long p x y =
    let whole = before ++ (gs ++ rest) in
    ap (λ marks. after_step level
    (step_at (length whole) (option_map (λ i. length before + s + i + 1) (triple_place marks))) whole)
    (within_part s e before gs rest (omega arith) long)
    ∙ alone_by P level s before gs rest (triple_place (stretch_of s e gs)) (within s e gs some long) p x y

front_by : (s : ℕ) (view : Glyphs) (o : Option ℕ)
    → IfSome (option_map (λ i. s + i + 1) o) (λ i. i + 1 < length view)
    → take s (option_map_or (λ i. swap view i (i + 1)) (option_map (λ i. s + i + 1) o) view) ≡ take s view
front_by s view None inside = refl
front_by s view (Some j) inside =
    let i = s + j + 1 in
    let x = get_or view i default_glyph in
    let y = get_or view (i + 1) default_glyph in
    ap (take s) (as_set view i inside) ∙ take-set-le s (set view i y) (i + 1) x (omega arith)
    ∙ take-set-le s view i y (omega arith)

pub hebrew_in_front : (level : BufferClusterLevel) (s e : ℕ) (gs : Glyphs) → s < e → e ≤ length gs
    → take s (order_view (after_step level (hebrew_mark_step s e gs) gs)) ≡ take s (order_view gs)
hebrew_in_front level s e gs some long =
    let view = order_view gs in
    ap (take s) (marks_view level s e gs (within s e gs some long))
    ∙ front_by s view (triple_place (stretch_of s e view))
    (second_within view s e (omega arith) (omega (arith, length-map gs plain)))

pub hebrew_same_length : (level : BufferClusterLevel) (s e : ℕ) (gs : Glyphs) → s < e → e ≤ length gs
    → length (after_step level (hebrew_mark_step s e gs) gs) ≡ length gs
hebrew_same_length level s e gs some long =
    let new = after_step level (hebrew_mark_step s e gs) gs in
    sym (length-map new (λ g. g.cluster))
    ∙ (mark_laws level s e gs (within s e gs some long)).glyphs.in_clusters.same_length
    ∙ length-map gs (λ g. g.cluster)

pub hebrew_old_clusters : (level : BufferClusterLevel) (s e : ℕ) (gs : Glyphs) → s < e → e ≤ length gs
    → All (Contains (clusters gs)) (clusters (after_step level (hebrew_mark_step s e gs) gs))
hebrew_old_clusters level s e gs some long =
    (mark_laws level s e gs (within s e gs some long)).glyphs.in_clusters.old_clusters

-- what stands behind the marks keeps its classes
before_end : (s e : ℕ) (gs : Glyphs) → s < e → e ≤ length gs
    → IfSome (option_map (λ i. s + i + 1) (triple_place (stretch_of s e gs))) (λ i. i + 1 < e)
before_end s e gs some long =
    let front = take e gs in
    let short : length front ≡ e = length-take-le e gs long in
    let all : s + (e - s) ≡ e = omega arith in
    let same : stretch_of s e front ≡ stretch_of s e gs =
    sym (ap (λ n. take (e - s) (drop s (take n gs))) all) ∙ ap (take (e - s)) (drop-take s (e - s) gs)
    ∙ take-take (e - s) (e - s) (drop s gs) (omega arith) in
    subst (λ n. IfSome (option_map (λ i. s + i + 1) (triple_place (stretch_of s e gs))) (λ i. i + 1 < n)) short
    (subst (λ marks. IfSome (option_map (λ i. s + i + 1) (triple_place marks)) (λ i. i + 1 < length front)) same
    (second_within front s e (omega arith) (omega arith)))

behind_by : (level : BufferClusterLevel) (s e : ℕ) (gs : Glyphs) (o : Option ℕ) → e ≤ length gs
    → IfSome (option_map (λ i. s + i + 1) o) (λ i. i + 1 < e)
    → drop e (classes (after_step level (step_at (length gs) (option_map (λ i. s + i + 1) o)) gs)) ≡ drop e (classes gs)
behind_by level s e gs None long inside = ap (λ xs. drop e (classes xs)) (run-still_step level gs)
behind_by level s e gs (Some j) long inside =
    let i = s + j + 1 in
    let ms = merge level i (i + 2) gs in
    let seen : classes ms ≡ classes gs = map-merge_all class_of (λ g. refl) level ((i, i + 2) ∷ []) gs in
    let many : length ms ≡ length gs = sym (length-map ms class_of) ∙ ap length seen ∙ length-map gs class_of in
    let x = get_or ms i default_glyph in
    let y = get_or ms (i + 1) default_glyph in
    ap (λ xs. drop e (classes xs)) (run-swap_step level gs i (omega (arith, inside))
    ∙ as_set ms i (omega (arith, inside)))
    ∙ drop-map class_of e (set (set ms i y) (i + 1) x)
    ∙ ap (map class_of) (drop-set-lt e (set ms i y) (i + 1) x (omega (arith, inside))
    ∙ drop-set-lt e ms i y (omega (arith, inside)))
    ∙ sym (drop-map class_of e ms)
    ∙ ap (drop e) seen

pub hebrew_behind : (level : BufferClusterLevel) (s e : ℕ) (gs : Glyphs) → s < e → e ≤ length gs
    → drop e (classes (after_step level (hebrew_mark_step s e gs) gs)) ≡ drop e (classes gs)
hebrew_behind level s e gs some long =
    behind_by level s e gs (triple_place (stretch_of s e gs)) long (before_end s e gs some long)
