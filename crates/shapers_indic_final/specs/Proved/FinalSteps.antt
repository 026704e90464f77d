-- The steps of the final reordering: a part of a syllable whose first glyph goes last, or whose last one goes first.
use Rattle.std.proofs.Common.{◌≡◌, ℕ, ◌+◌, ◌-◌, ◌<◌, ◌≤◌, List, ◌++◌, length, take, drop, take_all, take-append-drop, length-drop, length-take, append_assoc, refl, sym, ap, ◌∙◌, subst, arith, zero-add}
use Rattle.std.proofs.Math.Seq.{take-add}
use Rattle.std.specs.List.{AllByRecursion, range_with_len}
use Rattle.std.specs.List.Sorted.{IsPermutation}
use Rattle.std.proofs.lemmas.List.{drop-drop, drop-take, take-take, take_at}
use Rattle.std.proofs.lemmas.List.FromFn.{length-range_with_len}
use Rattle.std.proofs.lemmas.List.Sorted.{IsPermutation-append_left, IsPermutation-append_right, length_permutation}
use Rattle.shapers_buffer.specs.Glyphs.{Glyphs}
use Rattle.shapers_buffer.specs.declared.buffer.level.BufferClusterLevel.{BufferClusterLevel}
use Rattle.shapers_buffer.specs.Lists.{first_last}
use Rattle.shapers_buffer.specs.Buffer.{Buffer}
use Rattle.shapers_buffer.specs.Clusters.{merge, stretch_of, with_stretch}
use Rattle.shapers_buffer.specs.Places.{pick}
use Rattle.shapers_buffer.proofs.MappedLists.{drop-range}
use Rattle.shapers_buffer.proofs.ClusterLemmas.{three_parts}
use Rattle.shapers_clusters.specs.Steps.{Step, after_step, widened}
use Rattle.shapers_clusters.proofs.Merging.{length-merge}
use Rattle.shapers_clusters.proofs.Picks.{pick-append, pick-range}
use Rattle.shapers_clusters.proofs.Widened.{pick-widened, range-append}
use Rattle.shapers_indic.specs.Glyphs.{places}
use Rattle.shapers_indic_final.specs.FinalGlyphs.{last_goes_first}
use Rattle.shapers_indic_final.specs.FinalMatras.{matra_step}
use Rattle.shapers_indic_final.specs.FinalPref.{pref_move}
use Rattle.shapers_indic_final.specs.FinalReph.{final_reph_step}
use Rattle.shapers_indic_final.specs.Proved.FinalMoves.{permutes_last_first, picks_first_last, picks_last_first}
use Rattle.shapers_clusters.proofs.Permuted.{within_permuted, permuted-first_last}

-- a stretch of a stretch
pub stretch_inside : {X : Type 0} (s e i k : ℕ) (f : List X → List X) (xs : List X) → s ≤ e → i ≤ k → k ≤ e - s
    → take s xs ++ (with_stretch i k f (stretch_of s e xs) ++ drop e xs) ≡ with_stretch (s + i) (s + k) f xs
stretch_inside s e i k f xs h l m =
    let rest = drop s xs in
    let n = e - s in
    let by_i : n ≡ i + (n - i) = omega arith in
    let by_k : n ≡ k + (n - k) = omega arith in
    let front : take i (take n rest) ≡ take i rest = take-take i n rest (omega arith) in
    let middle : take (k - i) (drop i (take n rest)) ≡ stretch_of (s + i) (s + k) xs =
    ap (λ m. take (k - i) (drop i (take m rest))) by_i
    ∙ ap (take (k - i)) (drop-take i (n - i) rest)
    ∙ take-take (k - i) (n - i) (drop i rest) (omega arith)
    ∙ ap (take (k - i)) (drop-drop i s xs)
    ∙ ap (λ m. take m (drop (s + i) xs)) (let e : k - i ≡ (s + k) - (s + i) = omega arith in e) in
    let back : drop k (take n rest) ++ drop e xs ≡ drop (s + k) xs =
    ap (λ ys. ys ++ drop e xs) (ap (λ m. drop k (take m rest)) by_k ∙ drop-take k (n - k) rest)
    ∙ ap (λ ys. take (n - k) (drop k rest) ++ ys)
    (ap (λ m. drop m xs) (let a : e ≡ (s + k) + (n - k) = omega arith in a) ∙ sym (drop-drop (n - k) (s + k) xs)
    ∙ ap (drop (n - k)) (sym (drop-drop k s xs)))
    ∙ take-append-drop (n - k) (drop k rest)
    ∙ drop-drop k s xs in
    let F = f (take (k - i) (drop i (take n rest))) in
    ap (λ ys. take s xs ++ ys) (append_assoc (take i (take n rest)) (F ++ drop k (take n rest)) (drop e xs)
    ∙ ap (λ ys. take i (take n rest) ++ ys) (append_assoc F (drop k (take n rest)) (drop e xs)))
    ∙ ap (λ ys. take s xs ++ (ys ++ (F ++ (drop k (take n rest) ++ drop e xs)))) front
    ∙ sym (append_assoc (take s xs) (take i rest) (F ++ (drop k (take n rest) ++ drop e xs)))
    ∙ ap (λ ys. ys ++ (F ++ (drop k (take n rest) ++ drop e xs))) (sym (take-add s i xs))
    ∙ ap (λ ys. take (s + i) xs ++ (f ys ++ (drop k (take n rest) ++ drop e xs))) middle
    ∙ ap (λ ys. take (s + i) xs ++ (f (stretch_of (s + i) (s + k) xs) ++ ys)) back

-- the parts of a range
take-range : (a n k : ℕ) → k ≤ n → take k (range_with_len a n) ≡ range_with_len a k
take-range a n k l =
    let i : n ≡ k + (n - k) = omega arith in
    ap (λ m. take k (range_with_len a m)) i ∙ ap (take k) (range-append a k (n - k))
    ∙ take_at (range_with_len a k) (range_with_len (a + k) (n - k)) k (length-range_with_len a k)

-- a change that picks as it changes
abbrev pub Picks : (List ℕ → List ℕ) → (Glyphs → Glyphs) → Type 0
Picks f g = (s e : ℕ) (gs : Glyphs) → s < e → e ≤ length gs → pick (f (range_with_len s (e - s))) gs
    ≡ g (stretch_of s e gs)

pub stretch_picks : (f : List ℕ → List ℕ) (g : Glyphs → Glyphs) → Picks f g
    → (i k n : ℕ) (gs : Glyphs) → i < k → k ≤ n → length gs ≡ n
    → pick (with_stretch i k f (places 0 n)) gs ≡ with_stretch i k g gs
stretch_picks f g picks i k n gs h l long =
    let all : n - 0 ≡ n = omega arith in
    let ps = range_with_len 0 n in
    let front : take i ps ≡ range_with_len 0 i = take-range 0 n i (omega arith) in
    let middle : take (k - i) (drop i ps) ≡ range_with_len i (k - i) = ap (take (k - i)) (drop-range 0 n i)
    ∙ take-range (0 + i) (n - i) (k - i) (omega arith) ∙ ap (λ a. range_with_len a (k - i)) (zero-add i) in
    let back : drop k ps ≡ range_with_len k (n - k) = drop-range 0 n k
    ∙ ap (λ a. range_with_len a (n - k)) (zero-add k) in
    let rest : take (n - k) (drop k gs) ≡ drop k gs = take_all (n - k) (drop k gs) (omega (arith, length-drop k gs)) in
    ap (λ m. pick (with_stretch i k f (range_with_len 0 m)) gs) all
    ∙ pick-append (take i ps) (f (take (k - i) (drop i ps)) ++ drop k ps) gs
    ∙ ap (λ ys. ys ++ pick (f (take (k - i) (drop i ps)) ++ drop k ps) gs) (ap (λ qs. pick qs gs) front
    ∙ pick-range 0 i gs (omega arith))
    ∙ ap (λ ys. take i gs ++ ys) (pick-append (f (take (k - i) (drop i ps))) (drop k ps) gs)
    ∙ ap (λ qs. take i gs ++ (pick (f qs) gs ++ pick (drop k ps) gs)) middle
    ∙ ap (λ ys. take i gs ++ (ys ++ pick (drop k ps) gs)) (picks i k gs h (omega arith))
    ∙ ap (λ qs. take i gs ++ (g (stretch_of i k gs) ++ pick qs gs)) back
    ∙ ap (λ ys. take i gs ++ (g (stretch_of i k gs) ++ ys)) (pick-range k (n - k) gs (omega arith) ∙ rest)

-- a change that permutes takes each place once
pub stretch_permutes : (f : List ℕ → List ℕ) → ((ps : List ℕ) → IsPermutation ps (f ps)) → (i k n : ℕ) → i ≤ k
    → IsPermutation (range_with_len 0 n) (with_stretch i k f (places 0 n))
stretch_permutes f permutes i k n l =
    let all : n - 0 ≡ n = omega arith in
    let ps = range_with_len 0 n in
    let is = IsPermutation-append_right (take i ps) (stretch_of i k ps ++ drop k ps)
    (f (stretch_of i k ps) ++ drop k ps)
    (IsPermutation-append_left (drop k ps) (stretch_of i k ps) (f (stretch_of i k ps))
    (permutes (stretch_of i k ps))) in
    subst (λ m. IsPermutation ps (with_stretch i k f (range_with_len 0 m))) (sym all)
    (subst (λ qs. IsPermutation qs (with_stretch i k f ps)) (three_parts i k ps l) is)

-- what a widened step with such places moves
pub moved_by : (f : List ℕ → List ℕ) (g : Glyphs → Glyphs) → Picks f g
    → ((ps : List ℕ) → IsPermutation ps (f ps)) → (s e i k : ℕ) (step : Step) (gs : Glyphs) → s ≤ e
    → e ≤ length gs → i < k → k ≤ e - s → step.places ≡ with_stretch i k f (places 0 (e - s))
    → pick (widened s e (length gs) step).places gs ≡ with_stretch (s + i) (s + k) g gs
moved_by f g picks permutes s e i k step gs h l m b is =
    let part = stretch_of s e gs in
    let long : length part ≡ e - s = omega (arith, length-take (e - s) (drop s gs), length-drop s gs) in
    let order = stretch_permutes f permutes i k (e - s) (omega arith) in
    let within : AllByRecursion (λ p. p < e - s) step.places =
    subst (AllByRecursion (λ p. p < e - s)) (sym is)
    (within_permuted (e - s) (with_stretch i k f (places 0 (e - s))) order) in
    pick-widened s e step gs h l within
    ∙ ap (λ ys. take s gs ++ (ys ++ drop e gs)) (ap (λ ps. pick ps part) is
    ∙ stretch_picks f g picks i k (e - s) part m b long)
    ∙ stretch_inside s e i k g gs h (omega arith) b

-- The step of the reph: all up to place j of the syllable merges, and the first glyph goes there.
pub reph_stepped : (level : BufferClusterLevel) (s e j : ℕ) (gs : Glyphs) → s + j < e → e ≤ length gs
    → with_stretch s (s + j + 1) first_last (merge level s (s + j + 1) gs)
    ≡ after_step level (widened s e (length gs) (final_reph_step (e - s) j)) gs
reph_stepped level s e j gs l m =
    let n = length-merge level (s + 0) (s + (j + 1)) gs (omega arith) in
    let ms = merge level (s + 0) (s + (j + 1)) gs in
    let from : s ≡ s + 0 = omega arith in
    let to : s + j + 1 ≡ s + (j + 1) = omega arith in
    ap (λ a. with_stretch a (s + j + 1) first_last (merge level a (s + j + 1) gs)) from
    ∙ ap (λ b. with_stretch (s + 0) b first_last (merge level (s + 0) b gs)) to
    ∙ sym (moved_by first_last first_last picks_first_last permuted-first_last s e 0 (j + 1) (final_reph_step (e - s) j)
    ms (omega arith) (omega (arith, n, m)) (omega arith) (omega arith) refl)
    ∙ ap (λ k. pick (widened s e k (final_reph_step (e - s) j)).places ms) n

-- The step of a formed pref glyph: all from place j up to place i merges, and the glyph of place i goes to j.
pub pref_stepped : (level : BufferClusterLevel) (s e j i : ℕ) (gs : Glyphs) → j ≤ i → s + i < e
    → e ≤ length gs → with_stretch (s + j) (s + i + 1) last_goes_first (merge level (s + j) (s + i + 1) gs)
    ≡ after_step level (widened s e (length gs) (pref_move (e - s) j i)) gs
pref_stepped level s e j i gs h l m =
    let n = length-merge level (s + j) (s + (i + 1)) gs (omega arith) in
    let ms = merge level (s + j) (s + (i + 1)) gs in
    let to : s + i + 1 ≡ s + (i + 1) = omega arith in
    ap (λ b. with_stretch (s + j) b last_goes_first (merge level (s + j) b gs)) to
    ∙ sym (moved_by last_goes_first last_goes_first picks_last_first permutes_last_first s e j (i + 1)
    (pref_move (e - s) j i) ms (omega arith) (omega (arith, n, m)) (omega arith) (omega arith) refl)
    ∙ ap (λ k. pick (widened s e k (pref_move (e - s) j i)).places ms) n

-- The step of a left matra: the glyph of place i goes behind those up to place j, and all from there to b merges.
pub matra_stepped : (level : BufferClusterLevel) (s e b i j : ℕ) (gs : Glyphs) → i ≤ j → s + j < e
    → e ≤ length gs → merge level (s + j) (s + b) (with_stretch (s + i) (s + j + 1) first_last gs)
    ≡ after_step level (widened s e (length gs) (matra_step (e - s) b i j)) gs
matra_stepped level s e b i j gs h l m =
    let to : s + j + 1 ≡ s + (j + 1) = omega arith in
    ap (λ k. merge level (s + j) (s + b) (with_stretch (s + i) k first_last gs)) to
    ∙ ap (merge level (s + j) (s + b))
    (sym (moved_by first_last first_last picks_first_last permuted-first_last s e i (j + 1)
    (matra_step (e - s) b i j) gs (omega arith) m (omega arith) (omega arith) refl))

-- moving keeps the length
pub length-moved : (s e : ℕ) (gs : Glyphs) → s ≤ e → length (with_stretch s e first_last gs) ≡ length gs
length-moved s e gs l =
    let part = stretch_of s e gs in
    let is = IsPermutation-append_right (take s gs) (part ++ drop e gs) (first_last part ++ drop e gs)
    (IsPermutation-append_left (drop e gs) part (first_last part) (permuted-first_last part)) in
    length_permutation (take s gs ++ (part ++ drop e gs)) (with_stretch s e first_last gs) is
    ∙ ap length (three_parts s e gs l)

-- a buffer merged and then moved, and one moved and then merged
pub merged_and_moved : (a b c : Buffer) (change : Glyphs → Glyphs)
    (gs hs : Glyphs) → b ≡ record a { glyphs = gs }
    → c ≡ record b { glyphs = change b.glyphs; places = c.places } → change gs ≡ hs
    → c ≡ record a { glyphs = hs; places = c.places }
merged_and_moved a b c change gs hs before after is =
    after
    ∙ ap (λ (x : Buffer). let y : Buffer = record x { glyphs = change x.glyphs; places = c.places } in y) before
    ∙ ap (λ (ks : Glyphs). let y : Buffer = record a { glyphs = ks; places = c.places } in y) is

pub moved_and_merged : (a b c : Buffer) (change : BufferClusterLevel → Glyphs → Glyphs)
    (gs hs : Glyphs) → b ≡ record a { glyphs = gs; places = b.places }
    → c ≡ record b { glyphs = change b.level b.glyphs } → change a.level gs ≡ hs
    → c ≡ record a { glyphs = hs; places = c.places }
moved_and_merged a b c change gs hs before after is =
    let same : c.places ≡ b.places = ap (λ (x : Buffer). x.places) after in
    after
    ∙ ap (λ (x : Buffer). let y : Buffer = record x { glyphs = change x.level x.glyphs } in y) before
    ∙ ap (λ (ks : Glyphs). let y : Buffer = record a { glyphs = ks; places = b.places } in y) is
    ∙ ap (λ (ps : List ℕ). let y : Buffer = record a { glyphs = hs; places = ps } in y) (sym same)
