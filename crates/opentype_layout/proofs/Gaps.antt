-- A list with a gap, and edits of it.
use Rattle.std.proofs.Common.{ℕ, suc, nat_lt, Bool, true, false, refl, if◌then◌else◌, ◌+◌, ◌-◌, ◌<◌, ◌≤◌, ◌≡◌, ◌∙◌, List, [], ◌∷◌, ◌++◌, take, drop, length, set, sym, ap, arith, append_assoc, length-take-le, length-drop}
use Rattle.std.specs.List.{remove}
use Rattle.std.proofs.Math.Seq.{drop-append-add, paste, take-add}
use Rattle.std.proofs.lemmas.List.{drop-drop, drop-set-add, drop-set-lt, drop_at, length-append, take-append-drop, set-append_left, set-append_right, take-append-le, take-set-le, take-take, take_at, take_more_set}
use Rattle.std.proofs.Math.Seq.{take-set-lt}
use Rattle.std.proofs.lemmas.List.Edits.{take-paste, drop-paste}
use Rattle.shapers_buffer.specs.Clusters.{merge, stretch_of, with_stretch}
use Rattle.shapers_buffer.specs.Glyphs.{Glyphs}
use Rattle.shapers_buffer.specs.declared.buffer.level.BufferClusterLevel.{BufferClusterLevel}
use Rattle.opentype_layout.specs.Gapped.{gapped}

-- ---- the gap moves

up_front : {X : Type 0} (xs s : List X) (at n k : ℕ) → k ≤ at → at ≤ length xs →
    take k (paste xs at s n) ≡ take k xs
up_front xs s at n k le within =
    let len : length (take at xs) ≡ at = length-take-le at xs within in
    simp append_assoc (take-append-le k (take at xs) (take n s ++ drop (at + n) xs) (omega arith) ∙ take-take k at xs le)

up_rest : {X : Type 0} (xs s : List X) (at n : ℕ) → at ≤ length xs →
    drop at (paste xs at s n) ≡ take n s ++ drop (at + n) xs
up_rest xs s at n within =
    simp append_assoc (drop_at (take at xs) (take n s ++ drop (at + n) xs) at (length-take-le at xs within))

-- glyphs before the gap go behind it
pub gap_back : {X : Type 0} (xs : List X) (before behind at end : ℕ) → at ≤ before → before ≤ behind → behind ≤ length xs →
    end ≡ at + (behind - before) → gapped at end (paste xs end (drop at xs) (before - at)) ≡ gapped before behind xs
gap_back xs before behind at end le order within is =
    let n = before - at in
    let e : end + n ≡ behind = omega arith in
    let b : at + n ≡ before = omega arith in
    ap (λ ys. ys ++ drop end (paste xs end (drop at xs) n)) (up_front xs (drop at xs) end n at (omega arith) (omega arith))
    ∙ ap (λ ys. take at xs ++ ys) (up_rest xs (drop at xs) end n (omega arith))
    ∙ ap (λ k. take at xs ++ (take n (drop at xs) ++ drop k xs)) e
    ∙ sym (append_assoc (take at xs) (take n (drop at xs)) (drop behind xs))
    ∙ ap (λ ys. ys ++ drop behind xs) (sym (take-add at n xs) ∙ ap (λ k. take k xs) b)

back_done : {X : Type 0} (xs : List X) (from to n : ℕ) → to ≤ from → from + n ≤ length xs →
    take (to + n) (paste xs to (drop from xs) n) ≡ take to xs ++ take n (drop from xs)
back_done xs from to n le within = take-paste xs to (drop from xs) n (omega arith) (omega (arith, length-drop from xs))

back_rest : {X : Type 0} (xs : List X) (from to n : ℕ) → to ≤ from → from + n ≤ length xs →
    drop (from + n) (paste xs to (drop from xs) n) ≡ drop (from + n) xs
back_rest xs from to n le within =
    let d = drop-paste xs to (drop from xs) n (omega arith) (omega (arith, length-drop from xs)) in
    let e : to + n + (from - to) ≡ from + n = omega arith in
    let a = drop-drop (from - to) (to + n) (paste xs to (drop from xs) n) in
    let b = drop-drop (from - to) (to + n) xs in
    (rw e at (sym a)) ∙ ap (drop (from - to)) d ∙ (rw e at b)

-- glyphs behind the gap go before it
pub gap_on : {X : Type 0} (xs : List X) (before behind at end : ℕ) → before ≤ at → before ≤ behind → end ≤ length xs →
    end ≡ at + (behind - before) → gapped at end (paste xs before (drop behind xs) (end - behind)) ≡ gapped before behind xs
gap_on xs before behind at end le order within is =
    let n = end - behind in
    let e : behind + n ≡ end = omega arith in
    let b : before + n ≡ at = omega arith in
    let ys = paste xs before (drop behind xs) n in
    ap (λ k. take k ys ++ drop end ys) (sym b)
    ∙ ap (λ zs. zs ++ drop end ys) (back_done xs behind before n order (omega arith))
    ∙ ap (λ k. take before xs ++ take n (drop behind xs) ++ drop k ys) (sym e)
    ∙ ap (λ zs. take before xs ++ take n (drop behind xs) ++ zs) (back_rest xs behind before n order (omega arith) ∙ sym (drop-drop n behind xs))
    ∙ append_assoc (take before xs) (take n (drop behind xs)) (drop n (drop behind xs))
    ∙ ap (λ zs. take before xs ++ zs) (take-append-drop n (drop behind xs))

-- ---- one glyph in the place of another

pub set_before : {X : Type 0} (xs : List X) (before behind at : ℕ) (x : X) → at < before → before ≤ behind → behind ≤ length xs →
    gapped before behind (set xs at x) ≡ set (gapped before behind xs) at x
set_before xs before behind at x lt order within =
    let len : length (take before xs) ≡ before = length-take-le before xs (omega arith) in
    ap (λ ys. ys ++ drop behind (set xs at x)) (take-set-lt before xs at x lt)
    ∙ ap (λ ys. set (take before xs) at x ++ ys) (drop-set-lt behind xs at x (omega arith))
    ∙ sym (set-append_left (take before xs) (drop behind xs) at x (omega arith))

pub set_behind : {X : Type 0} (xs : List X) (before behind at : ℕ) (x : X) → before ≤ at → before ≤ behind → behind ≤ length xs →
    gapped before behind (set xs (at + (behind - before)) x) ≡ set (gapped before behind xs) at x
set_behind xs before behind at x le order within =
    let place = at + (behind - before) in
    let e : place ≡ behind + (at - before) = omega arith in
    let len : length (take before xs) ≡ before = length-take-le before xs (omega arith) in
    ap (λ ys. ys ++ drop behind (set xs place x)) (take-set-le before xs place x (omega arith))
    ∙ ap (λ k. take before xs ++ drop behind (set xs k x)) e
    ∙ ap (λ ys. take before xs ++ ys) (drop-set-add behind xs (at - before) x)
    ∙ sym (set-append_right (take before xs) (drop behind xs) before at x len le)

-- ---- glyphs that go, and come

pub take_gapped : {X : Type 0} (xs : List X) (i behind : ℕ) → i ≤ length xs → take i (gapped i behind xs) ≡ take i xs
take_gapped xs i behind within = take_at (take i xs) (drop behind xs) i (length-take-le i xs within)

pub drop_gapped : {X : Type 0} (xs : List X) (i behind n : ℕ) → i ≤ length xs → drop (i + n) (gapped i behind xs) ≡ drop (behind + n) xs
drop_gapped xs i behind n within =
    let len : length (take i xs) ≡ i = length-take-le i xs within in
    ap (λ k. drop (k + n) (gapped i behind xs)) (sym len) ∙ drop-append-add (take i xs) (drop behind xs) n ∙ drop-drop n behind xs

pub removed_gapped : {X : Type 0} (xs : List X) (i behind : ℕ) → i ≤ length xs →
    gapped i (behind + 1) xs ≡ remove (gapped i behind xs) i
removed_gapped xs i behind within =
    let e : i + 1 ≡ suc i = omega arith in
    ap (λ ys. ys ++ drop (behind + 1) xs) (sym (take_gapped xs i behind within))
    ∙ ap (λ ys. take i (gapped i behind xs) ++ ys) (sym (drop_gapped xs i behind 1 within) ∙ ap (λ k. drop k (gapped i behind xs)) e)

pub inserted_gapped : {X : Type 0} (xs : List X) (i behind : ℕ) (x : X) → i < behind → behind ≤ length xs →
    gapped (i + 1) behind (set xs i x) ≡ take i (gapped i behind xs) ++ (x ∷ drop i (gapped i behind xs))
inserted_gapped xs i behind x lt within =
    let none : i + 0 ≡ i = omega arith in
    let same : behind + 0 ≡ behind = omega arith in
    ap (λ ys. ys ++ drop behind (set xs i x)) (take_more_set xs i x (omega arith))
    ∙ append_assoc (take i xs) (x ∷ []) (drop behind (set xs i x))
    ∙ ap (λ ys. take i xs ++ (x ∷ ys)) (drop-set-lt behind xs i x lt)
    ∙ ap (λ ys. ys ++ (x ∷ drop behind xs)) (sym (take_gapped xs i behind (omega arith)))
    ∙ ap (λ ys. take i (gapped i behind xs) ++ (x ∷ ys))
    (ap (λ k. drop k xs) (sym same) ∙ sym (drop_gapped xs i behind 0 (omega arith)) ∙ ap (λ k. drop k (gapped i behind xs)) none)

-- ---- a stretch behind the gap

pub stretch_gapped : {X : Type 0} (f : List X → List X) (xs : List X) (before behind n : ℕ) → before ≤ behind → behind + n ≤ length xs →
    gapped before behind (with_stretch behind (behind + n) f xs) ≡ with_stretch before (before + n) f (gapped before behind xs)
stretch_gapped f xs before behind n order within =
    let a : behind + n - behind ≡ n = omega arith in
    let b : before + n - before ≡ n = omega arith in
    let none : before + 0 ≡ before = omega arith in
    let same : behind + 0 ≡ behind = omega arith in
    let len : length (take behind xs) ≡ behind = length-take-le behind xs (omega arith) in
    let rest : drop before (gapped before behind xs) ≡ drop behind xs =
    ap (λ k. drop k (gapped before behind xs)) (sym none) ∙ drop_gapped xs before behind 0 (omega arith) ∙ ap (λ k. drop k xs) same in
    let front : take before (with_stretch behind (behind + n) f xs) ≡ take before xs =
    take-append-le before (take behind xs) (f (stretch_of behind (behind + n) xs) ++ drop (behind + n) xs) (omega arith)
    ∙ take-take before behind xs order in
    let back : drop behind (with_stretch behind (behind + n) f xs) ≡ f (take n (drop behind xs)) ++ drop (behind + n) xs =
    drop_at (take behind xs) (f (stretch_of behind (behind + n) xs) ++ drop (behind + n) xs) behind len
    ∙ ap (λ k. f (take k (drop behind xs)) ++ drop (behind + n) xs) a in
    ap (λ ys. ys ++ drop behind (with_stretch behind (behind + n) f xs)) front
    ∙ ap (λ ys. take before xs ++ ys) back
    ∙ ap (λ ys. ys ++ (f (take n (drop behind xs)) ++ drop (behind + n) xs)) (sym (take_gapped xs before behind (omega arith)))
    ∙ ap (λ ys. take before (gapped before behind xs) ++ (f (take n ys) ++ drop (behind + n) xs)) (sym rest)
    ∙ ap (λ k. take before (gapped before behind xs) ++ (f (take k (drop before (gapped before behind xs))) ++ drop (behind + n) xs)) (sym b)
    ∙ ap (λ ys. take before (gapped before behind xs) ++ (f (stretch_of before (before + n) (gapped before behind xs)) ++ ys))
    (sym (drop_gapped xs before behind n (omega arith)))

-- the same where it may change nothing
pub stretch_gapped_if : {X : Type 0} (asked : Bool) (f : List X → List X) (xs : List X) (before behind n : ℕ) → before ≤ behind → behind + n ≤ length xs →
    gapped before behind (if asked then with_stretch behind (behind + n) f xs else xs)
    ≡ (if asked then with_stretch before (before + n) f (gapped before behind xs) else gapped before behind xs)
stretch_gapped_if true f xs before behind n order within = stretch_gapped f xs before behind n order within
stretch_gapped_if false f xs before behind n order within = refl

-- a merge, by the end of its stretch
pub merged_gapped : (level : BufferClusterLevel) (xs ys zs : Glyphs) (start end behind : ℕ) → start ≤ end →
    gapped start behind ys ≡ merge level start (start + (end - start)) (gapped start behind xs) → gapped start behind xs ≡ zs →
    gapped start behind ys ≡ merge level start end zs
merged_gapped level xs ys zs start end behind order is same =
    let e : start + (end - start) ≡ end = omega arith in
    is ∙ ap (λ k. merge level start k (gapped start behind xs)) e ∙ ap (merge level start end) same

-- ---- how long it is

pub length-gapped : {X : Type 0} (xs : List X) (before behind : ℕ) → before ≤ behind → behind ≤ length xs →
    length (gapped before behind xs) ≡ before + (length xs - behind)
length-gapped xs before behind order within = length-append (take before xs) (drop behind xs)
    ∙ ap (λ n. n + length (drop behind xs)) (length-take-le before xs (omega arith))
    ∙ ap (λ n. before + n) (length-drop behind xs)

-- a glyph in the place of another, wherever the gap is
pub set_gapped : {X : Type 0} (xs : List X) (before behind at place : ℕ) (x : X) → before ≤ behind → behind ≤ length xs →
    place ≡ (if nat_lt at before then at else at + (behind - before)) →
    gapped before behind (set xs place x) ≡ set (gapped before behind xs) at x
set_gapped = search (arith, set_before, set_behind)
