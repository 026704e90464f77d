-- A text whose marks were reordered may be broken at every clear place.
use Rattle.std.proofs.Common.{ℕ, zero, suc, ◌+◌, ◌-◌, ◌<◌, ◌≤◌, ◌≡◌, ◌≢◌, min, true, ◌⊎◌, List, [], ◌∷◌, ◌++◌, length, take, drop, get_or, refl, sym, ap, ◌∙◌, subst, arith, inl, inr, length-append, length-drop, length-take}
use Rattle.std.specs.Prelude.{IfSome, Option, None, Some, option_map, swap}
use Rattle.std.proofs.lemmas.List.Edits.{swap_is}
use Rattle.std.specs.List.{list_any}
use Rattle.std.proofs.Math.ListN.{set}
use Rattle.std.proofs.lemmas.Bool.{cases_lt}
use Rattle.std.proofs.lemmas.List.{get_or-append-add, get_or_append_left, set-append_left, length-set, map-append, length-map, length-take-le, take-append-drop}
use Rattle.shapers_arabic.specs.MarkParts.{is_modifier}
use Rattle.shapers_arabic.specs.Marks.{arabic_mark_step, marks_merged, marks_reordered, split_marks, text_step, with_modifiers_first, without_class}
use Rattle.shapers_arabic.proofs.MarkLaws.{mark_laws}
use Rattle.shapers_arabic.proofs.MarkLists.{split-joined, unmodified}
use Rattle.shapers_arabic.proofs.MarkMoves.{moves-merged, moves-permute}
use Rattle.shapers_buffer.specs.Glyphs.{Glyph, Glyphs}
use Rattle.shapers_buffer.specs.declared.buffer.level.BufferClusterLevel.{BufferClusterLevel}
use Rattle.shapers_buffer.specs.Buffer.{Buffer}
use Rattle.shapers_buffer.specs.Clusters.{merge_all, merges, stretch_of}
use Rattle.shapers_buffer.specs.Glyph.{clusters, default_glyph}
use Rattle.shapers_clusters.specs.Breaks.{IsClear}
use Rattle.shapers_clusters.specs.Cuts.{EndWithin, IsMonotone, ShareNone}
use Rattle.shapers_clusters.specs.Flags.{whole}
use Rattle.shapers_clusters.specs.Steps.{MovesMerged, Permutes, after_step, shifted}
use Rattle.shapers_clusters.proofs.Merging.{length-merge_all}
use Rattle.shapers_clusters.proofs.Permuted.{permutes-widened, still_permutes, swap_permutes}
use Rattle.shapers_clusters.proofs.Swaps.{run-still_step, run-swap_step}
use Rattle.shapers_clusters.proofs.Views.{whole_hides}
use Rattle.shapers_clusters.proofs.Widened.{moves-widened}
use Rattle.shapers_text.specs.Hebrew.{hebrew_mark_step, second_of_triple, step_at, triple_place}
use Rattle.shapers_text.proofs.HebrewLemmas.{mark_laws as mark_laws_hebrew, mark_moves_merged, second_within}
use Rattle.rustybuzz_shapers.specs.declared.shaper.hb_ot_shaper_t.{hb_ot_shaper_t}
use Rattle.rustybuzz_shapers.specs.declared.shaper.hb_ot_shaper_t.TheVariants.{Arabic, Hangul, Hebrew, Indic, Khmer, Myanmar, MyanmarZawgyi, Thai, Universal}
use Rattle.shapers_break_laws.specs.ClearSteps.{ClearWasClear}
use Rattle.shapers_break_laws.specs.MarkBreaks.{MarksBreakLaw, MarksBroken, NoneClearInside, marks_after}
use Rattle.shapers_break_laws.proofs.CircledBorders.{apart_at}
use Rattle.shapers_break_laws.proofs.ClearSteps.{clear_before, clear_before_held}
use Rattle.shapers_break_laws.proofs.MergedHalves.{changed_behind, changed_front, merged_at_back, merged_in_front, stretch_behind, stretch_front}
use Rattle.shapers_clusters.proofs.Halves.{shifted-twice}

-- halves of a text at a border of clusters share none
pub halves_apart : (gs : Glyphs) (p : ℕ) → 0 < p → p < length gs → IsMonotone (clusters gs)
    → get_or (clusters gs) (p - 1) 0 ≢ get_or (clusters gs) p 0 → ShareNone (take p gs) (drop p gs)
halves_apart gs p z l mono meet i j il jl =
    let cluster : Glyph → ℕ = λ g. g.cluster in
    let xs = take p gs in
    let ys = drop p gs in
    let all : clusters xs ++ clusters ys ≡ clusters gs = sym (map-append cluster xs ys) ∙ ap clusters
    (take-append-drop p gs) in
    let xn : length (clusters xs) ≡ p = length-map xs cluster ∙ length-take-le p gs (omega arith) in
    let yn : length (clusters ys) ≡ length ys = length-map ys cluster in
    let rest = length-drop p gs in
    let differ = subst (λ (cs : List ℕ). get_or cs (length (clusters xs) - 1) 0 ≢ get_or cs (length (clusters xs)) 0)
    (sym all) (subst (λ (k : ℕ). get_or (clusters gs) (k - 1) 0 ≢ get_or (clusters gs) k 0) (sym xn) meet) in
    apart_at (clusters xs) (clusters ys) (subst IsMonotone (sym all) mono) (omega arith) (omega arith) differ i j
    (omega (arith, il, length-map xs cluster)) (omega (arith, jl, yn))

-- Arabic: the step of a run
length-parts : (marks : Glyphs) → (let t = split_marks marks
    in length t.low + length t.modifiers_below + length t.middle + length t.modifiers_above + length t.rest
    ≡ length marks)
length-parts marks =
    let t = split_marks marks in
    omega (
      arith,
      ap length (split-joined marks),
      length-append t.low
          (t.modifiers_below ++ (t.middle ++ (t.modifiers_above ++ t.rest))),
      length-append t.modifiers_below
          (t.middle ++ (t.modifiers_above ++ t.rest)),
      length-append t.middle
          (t.modifiers_above ++ t.rest),
      length-append t.modifiers_above t.rest,
    )

run_of_marks : (marks : Glyphs) → MovesMerged (length marks) (arabic_mark_step (split_marks marks)) × Permutes
    (length marks) (arabic_mark_step (split_marks marks))
run_of_marks marks =
    let t = split_marks marks in
    let n = length-parts marks in (
      subst (λ k. MovesMerged k (arabic_mark_step t)) n
          (moves-merged (length t.low) (length t.modifiers_below) (length t.middle) (length t.modifiers_above)
          (length t.rest)),
      subst (λ k. Permutes k (arabic_mark_step t)) n
          (moves-permute (length t.low) (length t.modifiers_below) (length t.middle) (length t.modifiers_above)
          (length t.rest)),
    )

length-run : (s e : ℕ) (gs : Glyphs) → s ≤ e → e ≤ length gs → length (stretch_of s e gs) ≡ e - s
length-run s e gs h l = omega (arith, length-take (e - s) (drop s gs), length-drop s gs)

-- the stretches that merge for a sequence of marks
merges_of : Glyphs → List (ℕ × ℕ)
merges_of marks = (arabic_mark_step (split_marks marks)).merged_first

arabic_merged : (level : BufferClusterLevel) (s e : ℕ) (gs : Glyphs) → marks_merged level s e gs ≡ merge_all level
    (shifted s (merges_of (stretch_of s e gs))) gs
unfolding merges_of
arabic_merged level s e gs = refl

steps_within : (s e : ℕ) (gs : Glyphs) → s ≤ e → e ≤ length gs → EndWithin (length gs)
    (shifted s (merges_of (stretch_of s e gs)))
unfolding merges_of
steps_within s e gs h l =
    let marks = stretch_of s e gs in
    let step = arabic_mark_step (split_marks marks) in
    (moves-widened s e (length gs) step h l (subst (λ k. MovesMerged k step) (length-run s e gs h l)
    (run_of_marks marks).0)).fits.first_within

arabic_outside : (level : BufferClusterLevel) (s e : ℕ) (gs : Glyphs) → merges level ≡ true → IsMonotone (clusters gs)
    → s ≤ e → e ≤ length gs → (p : ℕ) → 0 < p → p < length gs → IsClear
    (marks_reordered s e (marks_merged level s e gs)) p → IsClear gs p
arabic_outside level s e gs m mono h l p z within clear =
    let marks = stretch_of s e gs in
    let step = arabic_mark_step (split_marks marks) in
    let n = length-run s e gs h l in
    let moves = moves-widened s e (length gs) step h l (subst (λ k. MovesMerged k step) n (run_of_marks marks).0) in
    let permutes = permutes-widened s e (length gs) step h l (subst (λ k. Permutes k step) n (run_of_marks marks).1) in
    let law = mark_laws level s e gs h l in
    let long = law.glyphs.same_length in
    clear_before_held without_class level (text_step s e gs ∷ []) gs
    (marks_reordered s e (marks_merged level s e gs)) m mono (moves, tt) (permutes, tt) law p z (omega arith) clear

-- a run of no mark
no_run : (level : BufferClusterLevel) (p : ℕ) (gs : Glyphs) → marks_reordered p p (marks_merged level p p gs) ≡ gs
no_run level p gs =
    let none : p - p ≡ 0 = omega arith in
    unmodified level p p gs (omega arith) (ap (λ k. list_any is_modifier (take k (drop p gs))) none)

arabic_behind : (level : BufferClusterLevel) (s e : ℕ) (xs ys : Glyphs) → length xs ≤ s → s ≤ e
    → e ≤ length xs + length ys → ShareNone xs ys → marks_reordered s e (marks_merged level s e (xs ++ ys)) ≡ xs
    ++ marks_reordered (s - length xs) (e - length xs) (marks_merged level (s - length xs) (e - length xs) ys)
arabic_behind level s e xs ys a h l none =
    let p = length xs in
    let t = s - p in
    let u = e - p in
    let same = stretch_behind s e xs ys a h in
    let sts = shifted t (merges_of (stretch_of t u ys)) in
    let back : p + t ≡ s = omega arith in
    let stretches : shifted s (merges_of (stretch_of s e (xs ++ ys))) ≡ shifted p sts = ap
    (λ marks. shifted s (merges_of marks)) same ∙ ap (λ k. shifted k (merges_of (stretch_of t u ys))) (sym back) ∙ sym
    (shifted-twice p t (merges_of (stretch_of t u ys))) in
    let merged : marks_merged level s e (xs ++ ys) ≡ xs ++ marks_merged level t u ys =
    arabic_merged level s e (xs ++ ys)
    ∙ ap (λ l. merge_all level l (xs ++ ys)) stretches
    ∙ merged_at_back level sts xs ys (steps_within t u ys (omega arith) (omega arith)) none
    ∙ ap (λ l. xs ++ l) (sym (arabic_merged level t u ys)) in
    ap (marks_reordered s e) merged ∙ changed_behind (λ marks. with_modifiers_first (split_marks marks)) s e xs
    (marks_merged level t u ys) a h

arabic_front : (level : BufferClusterLevel) (s e : ℕ) (xs ys : Glyphs) → s ≤ e → e ≤ length xs → ShareNone xs ys
    → marks_reordered s e (marks_merged level s e (xs ++ ys)) ≡ marks_reordered s e (marks_merged level s e xs) ++ ys
arabic_front level s e xs ys h l none =
    let sts = shifted s (merges_of (stretch_of s e xs)) in
    let within = steps_within s e xs h l in
    let merged : marks_merged level s e (xs ++ ys) ≡ marks_merged level s e xs ++ ys =
    arabic_merged level s e (xs ++ ys)
    ∙ ap (λ marks. merge_all level (shifted s (merges_of marks)) (xs ++ ys)) (stretch_front s e xs ys h l)
    ∙ merged_in_front level sts xs ys within none
    ∙ ap (λ l. l ++ ys) (sym (arabic_merged level s e xs)) in
    let long : length (marks_merged level s e xs) ≡ length xs = ap length (arabic_merged level s e xs)
    ∙ length-merge_all level sts xs within in
    ap (marks_reordered s e) merged ∙ changed_front (λ marks. with_modifiers_first (split_marks marks)) s e
    (marks_merged level s e xs) ys h (omega arith)

-- Hebrew: what the step at a place makes
hebrew_made : BufferClusterLevel → Option ℕ → Glyphs → Glyphs
hebrew_made level None gs = gs
hebrew_made level (Some i) gs = swap (merge_all level ((i, i + 2) ∷ []) gs) i (i + 1)

made_at : (level : BufferClusterLevel) (o : Option ℕ) (gs : Glyphs) → IfSome o (λ i. i + 1 < length gs)
    → after_step level (step_at (length gs) o) gs ≡ hebrew_made level o gs
unfolding hebrew_made
made_at level None gs h = run-still_step level gs
made_at level (Some i) gs h = run-swap_step level gs i h

hebrew_is : (level : BufferClusterLevel) (s e : ℕ) (gs : Glyphs) → s ≤ e → e ≤ length gs → after_step level
    (hebrew_mark_step s e gs) gs ≡ hebrew_made level (second_of_triple s e gs) gs
hebrew_is level s e gs h l = made_at level (second_of_triple s e gs) gs (second_within gs s e h l)

no_triple : (level : BufferClusterLevel) (p : ℕ) (gs : Glyphs) → after_step level (hebrew_mark_step p p gs) gs ≡ gs
no_triple level p gs =
    let none : p - p ≡ 0 = omega arith in
    ap (λ k. after_step level (step_at (length gs)
    (option_map (λ i. p + i + 1) (triple_place (take k (drop p gs))))) gs) none ∙ run-still_step level gs

set_behind : (xs ys : Glyphs) (k i : ℕ) (v : Glyph) → k ≡ length xs + i → set (xs ++ ys) k v ≡ xs
    ++ set ys i v
set_behind [] ys k i v e = let same : k ≡ i = omega arith in ap (λ j. set ys j v) same
set_behind (x ∷ xs) ys zero i v e = absurd (omega arith)
set_behind (x ∷ xs) ys (suc k) i v e = ap (λ l. x ∷ l) (set_behind xs ys k i v (omega arith))

swap_behind : (xs ys : Glyphs) (k i : ℕ) → k ≡ length xs + i → i + 1 < length ys → swap (xs ++ ys) k (k + 1) ≡ xs
    ++ swap ys i (i + 1)
swap_behind xs ys k i e h =
    let d = default_glyph in
    let n = length-append xs ys in
    let next : k + 1 ≡ length xs + (i + 1) = omega arith in
    let first : get_or (xs ++ ys) k d ≡ get_or ys i d = ap (λ j. get_or (xs ++ ys) j d) e
    ∙ get_or-append-add xs ys i d in
    let second : get_or (xs ++ ys) (k + 1) d ≡ get_or ys (i + 1) d = ap (λ j. get_or (xs ++ ys) j d) next
    ∙ get_or-append-add xs ys (i + 1) d in
    sym (swap_is (xs ++ ys) k (k + 1) d (omega arith) (omega arith))
    ∙ ap (λ v. set (set (xs ++ ys) k v) (k + 1) (get_or (xs ++ ys) k d)) second
    ∙ ap (λ v. set (set (xs ++ ys) k (get_or ys (i + 1) d)) (k + 1) v) first
    ∙ ap (λ zs. set zs (k + 1) (get_or ys i d)) (set_behind xs ys k i (get_or ys (i + 1) d) e)
    ∙ set_behind xs (set ys i (get_or ys (i + 1) d)) (k + 1) (i + 1) (get_or ys i d) next
    ∙ ap (λ l. xs ++ l) (swap_is ys i (i + 1) d (omega arith) h)

swap_front : (xs ys : Glyphs) (i : ℕ) → i + 1 < length xs → swap (xs ++ ys) i (i + 1) ≡ swap xs i (i + 1) ++ ys
swap_front xs ys i h =
    let d = default_glyph in
    let n = length-append xs ys in
    let v = get_or xs i d in
    let w = get_or xs (i + 1) d in
    let first : get_or (xs ++ ys) i d ≡ v = get_or_append_left xs ys d i (omega arith) in
    let second : get_or (xs ++ ys) (i + 1) d ≡ w = get_or_append_left xs ys d (i + 1) h in
    sym (swap_is (xs ++ ys) i (i + 1) d (omega arith) (omega arith))
    ∙ ap (λ u. set (set (xs ++ ys) i u) (i + 1) (get_or (xs ++ ys) i d)) second
    ∙ ap (λ u. set (set (xs ++ ys) i w) (i + 1) u) first
    ∙ ap (λ zs. set zs (i + 1) v) (set-append_left xs ys i w (omega arith))
    ∙ set-append_left (set xs i w) ys (i + 1) v (omega (arith, length-set xs i w))
    ∙ ap (λ l. l ++ ys) (swap_is xs i (i + 1) d (omega arith) h)

made_behind : (level : BufferClusterLevel) (o : Option ℕ) (xs ys : Glyphs) → IfSome o (λ i. i + 1 < length ys)
    → ShareNone xs ys → hebrew_made level (option_map (λ i. length xs + i) o) (xs ++ ys) ≡ xs ++ hebrew_made level o ys
unfolding hebrew_made
made_behind level None xs ys h none = refl
made_behind level (Some i) xs ys h none =
    let p = length xs in
    let pair : ℕ → ℕ → ℕ × ℕ = λ a b. (a, b) in
    let end : p + i + 2 ≡ p + (i + 2) = omega arith in
    let sts = (i, i + 2) ∷ [] in
    let long = length-merge_all level sts ys (omega arith, tt) in
    ap (λ k. swap (merge_all level (pair (p + i) k ∷ []) (xs ++ ys)) (p + i) (p + i + 1)) end
    ∙ ap (λ l. swap l (p + i) (p + i + 1)) (merged_at_back level sts xs ys (omega arith, tt) none)
    ∙ swap_behind xs (merge_all level sts ys) (p + i) i refl (omega arith)

made_front : (level : BufferClusterLevel) (o : Option ℕ) (xs ys : Glyphs) → IfSome o (λ i. i + 1 < length xs)
    → ShareNone xs ys → hebrew_made level o (xs ++ ys) ≡ hebrew_made level o xs ++ ys
unfolding hebrew_made
made_front level None xs ys h none = refl
made_front level (Some i) xs ys h none =
    let sts = (i, i + 2) ∷ [] in
    let long = length-merge_all level sts xs (omega arith, tt) in
    ap (λ l. swap l i (i + 1)) (merged_in_front level sts xs ys (omega arith, tt) none)
    ∙ swap_front (merge_all level sts xs) ys i (omega arith)

second_moved : (p t s : ℕ) (o : Option ℕ) → p + t ≡ s → option_map (λ i. s + i + 1) o ≡ option_map (λ i. p + i)
    (option_map (λ i. t + i + 1) o)
second_moved p t s None e = refl
second_moved p t s (Some i) e = let same : s + i + 1 ≡ p + (t + i + 1) = omega arith in ap (λ k. Some k) same

hebrew_behind : (level : BufferClusterLevel) (s e : ℕ) (xs ys : Glyphs) → length xs ≤ s → s ≤ e
    → e ≤ length xs + length ys → ShareNone xs ys → after_step level (hebrew_mark_step s e (xs ++ ys)) (xs ++ ys) ≡ xs
    ++ after_step level (hebrew_mark_step (s - length xs) (e - length xs) ys) ys
hebrew_behind level s e xs ys a h l none =
    let p = length xs in
    let t = s - p in
    let u = e - p in
    let n = length-append xs ys in
    let second : second_of_triple s e (xs ++ ys) ≡ option_map (λ i. p + i) (second_of_triple t u ys) =
    ap (λ marks. option_map (λ i. s + i + 1) (triple_place marks)) (stretch_behind s e xs ys a h) ∙ second_moved p t s
    (triple_place (stretch_of t u ys)) (omega arith) in
    hebrew_is level s e (xs ++ ys) h (omega arith)
    ∙ ap (λ o. hebrew_made level o (xs ++ ys)) second
    ∙ made_behind level (second_of_triple t u ys) xs ys (second_within ys t u (omega arith) (omega arith)) none
    ∙ ap (λ l. xs ++ l) (sym (hebrew_is level t u ys (omega arith) (omega arith)))

hebrew_front : (level : BufferClusterLevel) (s e : ℕ) (xs ys : Glyphs) → s ≤ e → e ≤ length xs → ShareNone xs ys
    → after_step level (hebrew_mark_step s e (xs ++ ys)) (xs ++ ys) ≡ after_step level (hebrew_mark_step s e xs) xs ++ ys
hebrew_front level s e xs ys h l none =
    let n = length-append xs ys in
    hebrew_is level s e (xs ++ ys) h (omega arith)
    ∙ ap (λ marks. hebrew_made level (option_map (λ i. s + i + 1) (triple_place marks)) (xs ++ ys))
    (stretch_front s e xs ys h l)
    ∙ made_front level (second_of_triple s e xs) xs ys (second_within xs s e h l) none
    ∙ ap (λ l. l ++ ys) (sym (hebrew_is level s e xs h l))

hebrew_permutes : (n : ℕ) (o : Option ℕ) → IfSome o (λ i. i + 1 < n) → Permutes n (step_at n o)
hebrew_permutes n None h = still_permutes n
hebrew_permutes n (Some i) h = swap_permutes n i h

hebrew_before : (level : BufferClusterLevel) (s e : ℕ) (gs : Glyphs) → merges level ≡ true → IsMonotone (clusters gs)
    → s ≤ e → e ≤ length gs → ClearWasClear gs (after_step level (hebrew_mark_step s e gs) gs)
hebrew_before level s e gs m mono h l =
    let within = second_within gs s e h l in
    clear_before whole whole_hides level (hebrew_mark_step s e gs ∷ []) gs
    (after_step level (hebrew_mark_step s e gs) gs) m mono (mark_moves_merged s e gs within, tt)
    (hebrew_permutes (length gs) (second_of_triple s e gs) within, tt) refl

-- What a shaper makes of a run in one half, and of none, is all that is needed.
record BreaksAlike (after : ℕ → ℕ → Glyphs → Glyphs) : Type 0 where
  nothing : (p : ℕ) (gs : Glyphs) → after p p gs ≡ gs
  behind : (s e : ℕ) (xs ys : Glyphs) → length xs ≤ s → s ≤ e → e ≤ length xs + length ys → ShareNone xs ys → after s e
      (xs ++ ys) ≡ xs ++ after (s - length xs) (e - length xs) ys
  front : (s e : ℕ) (xs ys : Glyphs) → s ≤ e → e ≤ length xs → ShareNone xs ys → after s e (xs ++ ys) ≡ after s e xs
      ++ ys

halves_by : (after : ℕ → ℕ → Glyphs → Glyphs) → BreaksAlike after → (s e p : ℕ) (gs : Glyphs) → s ≤ e → e ≤ length gs
    → p ≤ length gs → (p ≤ s) ⊎ (e ≤ p) → ShareNone (take p gs) (drop p gs) → after s e gs ≡ after (min s p) (min e p)
    (take p gs) ++ after (s - p) (e - p) (drop p gs)
halves_by after alike s e p gs h l k outside none =
    let xs = take p gs in
    let ys = drop p gs in
    let whole = take-append-drop p gs in
    let xn : length xs ≡ p = length-take-le p gs k in
    let yn = length-drop p gs in
    elim outside [
      | inl before ↦
          let a : min s p ≡ p = omega arith in
          let b : min e p ≡ p = omega arith in
          ap (after s e) (sym whole)
          ∙ alike.behind s e xs ys (omega arith) h (omega arith) none
          ∙ ap (λ j. xs ++ after (s - j) (e - j) ys) xn
          ∙ ap (λ l. l ++ after (s - p) (e - p) ys)
          (sym (alike.nothing p xs) ∙ ap (λ j. after j p xs) (sym a) ∙ ap (λ j. after (min s p) j xs) (sym b))
      | inr behind ↦
          let a : min s p ≡ s = omega arith in
          let b : min e p ≡ e = omega arith in
          let c : s - p ≡ 0 = omega arith in
          let d : e - p ≡ 0 = omega arith in
          ap (after s e) (sym whole)
          ∙ alike.front s e xs ys h (omega arith) none
          ∙ ap (λ l. after s e xs ++ l) (sym (alike.nothing 0 ys) ∙ ap (λ j. after j 0 ys) (sym c) ∙ ap
          (λ j. after (s - p) j ys) (sym d))
          ∙ ap (λ j. after j e xs ++ after (s - p) (e - p) ys) (sym a)
          ∙ ap (λ j. after (min s p) j xs ++ after (s - p) (e - p) ys) (sym b)
    ]

outside_by : (s e : ℕ) (gs : Glyphs) → NoneClearInside s e gs → (p : ℕ) → IsClear gs p → (p ≤ s) ⊎ (e ≤ p)
outside_by s e gs inside p clear = elim (cases_lt s p) [
  | inl after ↦ elim (cases_lt p e) [ inl before ↦ absurd (inside p after before clear) | inr behind ↦ inr behind ]
  | inr before ↦ inl before
]

broken_by : (after : ℕ → ℕ → Glyphs → Glyphs) → BreaksAlike after → (s e : ℕ) (gs : Glyphs) → s ≤ e → e ≤ length gs
    → IsMonotone (clusters gs) → NoneClearInside s e gs → (p : ℕ) → 0 < p → p < length gs → IsClear gs p →
    ((p ≤ s) ⊎ (e ≤ p)) × (after s e gs ≡ after (min s p) (min e p) (take p gs) ++ after (s - p) (e - p) (drop p gs))
broken_by after alike s e gs h l mono inside p z within clear =
    let outside = outside_by s e gs inside p clear in
    (outside, halves_by after alike s e p gs h l (omega arith) outside (halves_apart gs p z within mono clear.differ))

arabic_alike : (level : BufferClusterLevel) → BreaksAlike (marks_after Arabic level)
arabic_alike level = record { nothing = no_run level; behind = arabic_behind level; front = arabic_front level }

hebrew_alike : (level : BufferClusterLevel) → BreaksAlike (marks_after Hebrew level)
hebrew_alike level = record { nothing = no_triple level; behind = hebrew_behind level; front = hebrew_front level }

same_broken : (shaper : hb_ot_shaper_t) (level : BufferClusterLevel) →
    ((s e : ℕ) (gs : Glyphs) → marks_after shaper level s e gs ≡ gs) → (s e : ℕ) (old new : Buffer) → s ≤ e
    → e ≤ length old.glyphs → IsMonotone (clusters old.glyphs) → NoneClearInside s e old.glyphs → new ≡ old → (p : ℕ)
    → 0 < p → p < length old.glyphs → IsClear new.glyphs p → MarksBroken shaper level s e old.glyphs new.glyphs p
same_broken shaper level still s e old new h l mono inside is p z within clear =
    let gs = old.glyphs in
    let before : IsClear gs p = subst (λ (b : Buffer). IsClear b.glyphs p) is clear in
    record {
      outside = outside_by s e gs inside p before;
      halves = ap (λ (b : Buffer). b.glyphs) is ∙ sym (take-append-drop p gs)
          ∙ ap (λ xs. xs ++ drop p gs) (sym (still (min s p) (min e p) (take p gs)))
          ∙ ap (λ ys. marks_after shaper level (min s p) (min e p) (take p gs) ++ ys)
          (sym (still (s - p) (e - p) (drop p gs)));
    }

pub marks_break : MarksBreakLaw
marks_break Arabic s e old new h l m mono inside is p z within clear =
    let gs = old.glyphs in
    let after = marks_reordered s e (marks_merged old.level s e gs) in
    let before = arabic_outside old.level s e gs m mono h l p z within
    (subst (λ (b : Buffer). IsClear b.glyphs p) is clear) in
    let (outside, halves) = broken_by (marks_after Arabic old.level)
    (arabic_alike old.level) s e gs h l mono inside p z within before in
    record { outside = outside; halves = ap (λ (b : Buffer). b.glyphs) is ∙ halves }
marks_break Hebrew s e old new h l m mono inside is p z within clear =
    let gs = old.glyphs in
    let after = after_step old.level (hebrew_mark_step s e gs) gs in
    let found : IsClear after p = subst (λ (b : Buffer). IsClear b.glyphs p) is clear in
    let long = (mark_laws_hebrew old.level s e gs (second_within gs s e h l)).glyphs.same_length in
    let before = hebrew_before old.level s e gs m mono h l p z (omega arith) found in
    let (outside, halves) = broken_by (marks_after Hebrew old.level)
    (hebrew_alike old.level) s e gs h l mono inside p z within before in
    record { outside = outside; halves = ap (λ (b : Buffer). b.glyphs) is ∙ halves }
marks_break Hangul s e old new h l m mono inside is p z within clear = same_broken Hangul old.level
    (λ a b gs. refl) s e old new h l mono inside is.1 p z within clear
marks_break Indic s e old new h l m mono inside is p z within clear = same_broken Indic old.level
    (λ a b gs. refl) s e old new h l mono inside is.1 p z within clear
marks_break Khmer s e old new h l m mono inside is p z within clear = same_broken Khmer old.level
    (λ a b gs. refl) s e old new h l mono inside is.1 p z within clear
marks_break Myanmar s e old new h l m mono inside is p z within clear = same_broken Myanmar old.level
    (λ a b gs. refl) s e old new h l mono inside is.1 p z within clear
marks_break MyanmarZawgyi s e old new h l m mono inside is p z within clear = same_broken MyanmarZawgyi old.level
    (λ a b gs. refl) s e old new h l mono inside is.1 p z within clear
marks_break Thai s e old new h l m mono inside is p z within clear = same_broken Thai old.level
    (λ a b gs. refl) s e old new h l mono inside is.1 p z within clear
marks_break Universal s e old new h l m mono inside is p z within clear = same_broken Universal old.level
    (λ a b gs. refl) s e old new h l mono inside is.1 p z within clear
