-- Merges and changes within one half of a text.
use Rattle.std.proofs.Common.{ℕ, zero, suc, ◌+◌, ◌-◌, ◌≤◌, ◌≡◌, List, [], ◌∷◌, ◌++◌, length, take, drop, refl, sym, ap, ◌∙◌, subst, arith, append_assoc, length-append, length-drop}
use Rattle.std.specs.List.{sum_by}
use Rattle.std.proofs.lemmas.List.{drop-append-le, take-append-le}
use Rattle.std.proofs.lemmas.List.Sums.{sum_by-cons}
use Rattle.shapers_buffer.specs.declared.buffer.level.BufferClusterLevel.{BufferClusterLevel}
use Rattle.shapers_buffer.specs.Clusters.{merge_all, stretch_of, with_stretch}
use Rattle.shapers_buffer.specs.Places.{pick}
use Rattle.shapers_clusters.specs.Cuts.{EndWithin, ShareNone}
use Rattle.shapers_clusters.specs.Steps.{Step, after_step, shifted, widened}
use Rattle.shapers_clusters.proofs.Merging.{length-merge_all}
use Rattle.shapers_clusters.proofs.Picks.{pick-all}
use Rattle.shapers_clusters.proofs.Proved.{halves_hold}
use Rattle.shapers_clusters.proofs.Widened.{range-three}
use Rattle.shapers_buffer.specs.Glyphs.{Glyphs}
use Rattle.rustybuzz_shapers.proofs.ThaiClusterHalves.{merging, merging_fits, unshifted}

-- over a stretch of a text
run_merging : (level : BufferClusterLevel) (s e n : ℕ) (sts : List (ℕ × ℕ)) (gs : Glyphs) → s ≤ e → e ≤ n → length gs
    ≡ n → EndWithin n (shifted s sts) → after_step level (widened s e n (merging (e - s) sts)) gs ≡ merge_all level
    (shifted s sts) gs
run_merging level s e n sts gs h l long w =
    let ms = merge_all level (shifted s sts) gs in
    let W : ℕ → Type 0 = λ k. EndWithin k (shifted s sts) in
    let same : length ms ≡ n = length-merge_all level (shifted s sts) gs (subst W (sym long) w) ∙ long in
    ap (λ ps. pick ps ms) (sym (range-three s e n h l)) ∙ pick-all n ms same

shifted_within : (s m n : ℕ) (sts : List (ℕ × ℕ)) → s + m ≤ n → EndWithin m sts → EndWithin n (shifted s sts)
shifted_within s m n [] h w = tt
shifted_within s m n (st ∷ sts) h w = (omega (arith, w.0), shifted_within s m n sts h w.1)

-- over a piece of a text that is given by its length
run_piece : (level : BufferClusterLevel) (s m n : ℕ) (sts : List (ℕ × ℕ)) (gs : Glyphs) → s + m ≤ n → length gs ≡ n
    → EndWithin m sts → after_step level (widened s (s + m) n (merging m sts)) gs ≡ merge_all level (shifted s sts) gs
run_piece level s m n sts gs h long w =
    let away : s + m - s ≡ m = omega arith in
    subst (λ k. after_step level (widened s (s + m) n (merging k sts)) gs ≡ merge_all level (shifted s sts) gs) away
    (run_merging level s (s + m) n sts gs (omega arith) h long (shifted_within s m n sts h w))

one_piece : (n : ℕ) (steps : List Step) → sum_by (λ (piece : ℕ × List Step). piece.0) ((n, steps) ∷ []) ≡ n
one_piece n steps = let none : n + 0 ≡ n = omega arith in sum_by-cons (λ (piece : ℕ × List Step). piece.0)
    (n, steps) [] ∙ none

-- merges in the second half, and in the first
pub merged_at_back : (level : BufferClusterLevel) (sts : List (ℕ × ℕ)) (xs ys : Glyphs) → EndWithin (length ys) sts
    → ShareNone xs ys → merge_all level (shifted (length xs) sts) (xs ++ ys) ≡ xs ++ merge_all level sts ys
merged_at_back level sts xs ys w none =
    let p = length xs in
    let m = length ys in
    let mo = merging m sts in
    let start : 0 + p ≡ p = omega arith in
    let whole : after_step level (widened (0 + p) (0 + p + m) (p + m) mo) (xs ++ ys) ≡ merge_all level (shifted p sts)
    (xs ++ ys) = run_piece level (0 + p) m (p + m) sts (xs ++ ys) (omega arith) (length-append xs ys) w ∙ ap
    (λ k. merge_all level (shifted k sts) (xs ++ ys)) start in
    let half : after_step level (widened 0 (0 + m) m mo) ys ≡ merge_all level sts ys = run_piece level 0 m m sts ys
    (omega arith) refl w ∙ ap (λ l. merge_all level l ys) (unshifted sts) in
    sym whole ∙ halves_hold level ((p, []) ∷ []) ((m, mo ∷ []) ∷ []) xs ys (one_piece p []) (one_piece m (mo ∷ []))
    (tt, tt) ((merging_fits m sts w, tt), tt) none ∙ ap (λ l. xs ++ l) half

pub merged_in_front : (level : BufferClusterLevel) (sts : List (ℕ × ℕ)) (xs ys : Glyphs) → EndWithin (length xs) sts
    → ShareNone xs ys → merge_all level sts (xs ++ ys) ≡ merge_all level sts xs ++ ys
merged_in_front level sts xs ys w none =
    let p = length xs in
    let m = length ys in
    let mo = merging p sts in
    let whole : after_step level (widened 0 (0 + p) (p + m) mo) (xs ++ ys) ≡ merge_all level sts
    (xs ++ ys) = run_piece level 0 p (p + m) sts (xs ++ ys) (omega arith) (length-append xs ys) w ∙ ap
    (λ l. merge_all level l (xs ++ ys)) (unshifted sts) in
    let half : after_step level (widened 0 (0 + p) p mo) xs ≡ merge_all level sts xs = run_piece level 0 p p sts xs
    (omega arith) refl w ∙ ap (λ l. merge_all level l xs) (unshifted sts) in
    sym whole ∙ halves_hold level ((p, mo ∷ []) ∷ []) ((m, []) ∷ []) xs ys (one_piece p (mo ∷ [])) (one_piece m [])
    ((merging_fits p sts w, tt), tt) (tt, tt) none ∙ ap (λ l. l ++ ys) half

-- a stretch of one half
drop_past : (s : ℕ) (xs ys : Glyphs) → length xs ≤ s → drop s (xs ++ ys) ≡ drop (s - length xs) ys
drop_past s [] ys h = let same : s ≡ s - 0 = omega arith in ap (λ k. drop k ys) same
drop_past zero (x ∷ xs) ys h = absurd (omega arith)
drop_past (suc s) (x ∷ xs) ys h = let less : s - length xs ≡ suc s - suc (length xs) = omega arith in drop_past s xs ys
    (omega arith) ∙ ap (λ k. drop k ys) less

take_past : (s : ℕ) (xs ys : Glyphs) → length xs ≤ s → take s (xs ++ ys) ≡ xs ++ take (s - length xs) ys
take_past s [] ys h = let same : s ≡ s - 0 = omega arith in ap (λ k. take k ys) same
take_past zero (x ∷ xs) ys h = absurd (omega arith)
take_past (suc s) (x ∷ xs) ys h = let less : s - length xs ≡ suc s - suc (length xs) = omega arith in ap (λ l. x ∷ l)
    (take_past s xs ys (omega arith) ∙ ap (λ k. xs ++ take k ys) less)

pub stretch_behind : (s e : ℕ) (xs ys : Glyphs) → length xs ≤ s → s ≤ e → stretch_of s e (xs ++ ys) ≡ stretch_of
    (s - length xs) (e - length xs) ys
stretch_behind s e xs ys h l =
    let n : e - s ≡ e - length xs - (s - length xs) = omega arith in
    ap (take (e - s)) (drop_past s xs ys h) ∙ ap (λ k. take k (drop (s - length xs) ys)) n

pub stretch_front : (s e : ℕ) (xs ys : Glyphs) → s ≤ e → e ≤ length xs → stretch_of s e (xs ++ ys) ≡ stretch_of s e xs
stretch_front s e xs ys h l = ap (take (e - s)) (drop-append-le s xs ys (omega arith)) ∙ take-append-le (e - s)
    (drop s xs) ys (omega (arith, length-drop s xs))

pub changed_behind : (f : Glyphs → Glyphs) (s e : ℕ) (xs ys : Glyphs) → length xs ≤ s → s ≤ e → with_stretch s e f
    (xs ++ ys) ≡ xs ++ with_stretch (s - length xs) (e - length xs) f ys
changed_behind f s e xs ys h l =
    ap (λ a. a ++ (f (stretch_of s e (xs ++ ys)) ++ drop e (xs ++ ys))) (take_past s xs ys h)
    ∙ ap (λ b. (xs ++ take (s - length xs) ys) ++ (f b ++ drop e (xs ++ ys))) (stretch_behind s e xs ys h l)
    ∙ ap (λ c. (xs ++ take (s - length xs) ys) ++ (f (stretch_of (s - length xs) (e - length xs) ys) ++ c))
    (drop_past e xs ys (omega arith))
    ∙ append_assoc xs (take (s - length xs) ys)
    (f (stretch_of (s - length xs) (e - length xs) ys) ++ drop (e - length xs) ys)

pub changed_front : (f : Glyphs → Glyphs) (s e : ℕ) (xs ys : Glyphs) → s ≤ e → e ≤ length xs → with_stretch s e f
    (xs ++ ys) ≡ with_stretch s e f xs ++ ys
changed_front f s e xs ys h l =
    ap (λ a. a ++ (f (stretch_of s e (xs ++ ys)) ++ drop e (xs ++ ys))) (take-append-le s xs ys (omega arith))
    ∙ ap (λ b. take s xs ++ (f b ++ drop e (xs ++ ys))) (stretch_front s e xs ys h l)
    ∙ ap (λ c. take s xs ++ (f (stretch_of s e xs) ++ c)) (drop-append-le e xs ys l)
    ∙ ap (λ d. take s xs ++ d) (sym (append_assoc (f (stretch_of s e xs)) (drop e xs) ys))
    ∙ sym (append_assoc (take s xs) (f (stretch_of s e xs) ++ drop e xs) ys)
