-- The places of a syllable in their new order: those that its steps lead to, and as the code lists them piece by piece.
use Rattle.std.proofs.Common.{◌≡◌, ℕ, zero, suc, ◌+◌, ◌-◌, ◌<◌, ◌≤◌, nat_eq, inl, inr, Bool, true, false, not, ◌||◌, if◌then◌else◌, List, [], ◌∷◌, ◌++◌, map, filter, reverse, length, take, drop, get_or, Option, None, Some, refl, ap, sym, ◌∙◌, subst, arith, append_assoc, length-append, length-take-le}
use Rattle.std.specs.List.{AllByRecursion, flat_map, list_any, onto_first, prefix_len, range_with_len, slice_get, sum_by}
use Rattle.std.specs.List.Sorted.{IsPermutation}
use Rattle.std.specs.Option.{option_map_or}
use Rattle.std.proofs.lemmas.Bool.{cases_Bool, or_parts}
use Rattle.std.proofs.lemmas.Bool.Decides.{nat_tests}
use Rattle.std.proofs.lemmas.List.{drop-drop, drop-take, drop_more, ext_get_or, length-map, length-reverse, take-append-drop, take_at, drop_at, take-take}
use Rattle.std.proofs.lemmas.List.Concat.{flat_map-cons}
use Rattle.std.proofs.lemmas.List.Elements.{filter-append}
use Rattle.std.proofs.lemmas.List.Filters.{length-filter_both}
use Rattle.std.proofs.lemmas.List.FromFn.{get_or-map-range_with_len, length-map-range_with_len, length-range_with_len}
use Rattle.std.proofs.lemmas.List.Sorted.{IsPermutation-append, IsPermutation-refl, IsPermutation-trans, list_any-IsPermutation}
use Rattle.std.proofs.lemmas.List.Sums.{fold-append, sum_by-cons}
use Rattle.shapers_buffer.specs.Glyphs.{Glyph, Glyphs}
use Rattle.shapers_buffer.specs.Clusters.{stretch_of}
use Rattle.shapers_buffer.specs.Glyph.{default_glyph}
use Rattle.shapers_buffer.specs.Lists.{cut_after, first_last}
use Rattle.shapers_buffer.specs.Places.{pick}
use Rattle.shapers_buffer.proofs.ClusterLemmas.{get_or-stretch, length-stretch}
use Rattle.shapers_buffer.proofs.MappedLists.{cut_after-map}
use Rattle.shapers_clusters.specs.Steps.{FitSteps, FitsStep, Step, moved_on, old_places, reordered_along, steps_along, widened}
use Rattle.shapers_clusters.proofs.Moves.{length-old_places, moved_by_old_places, within-old_places}
use Rattle.shapers_clusters.proofs.Picks.{length-pick}
use Rattle.shapers_clusters.proofs.Widened.{old_places-widened, pick-widened, range-append}
use Rattle.shapers_syllabic.proofs.ReorderingLemmas.{old_places_one}
use Rattle.shapers_universal.specs.Universal.{first_behind, goes_front, goes_front_at, is_universal_halant, reph_passes, is_reordered_in_universal, piece_step, piece_steps, pieces, reph_moved, leading_reph_len, universal_reph_step, reversed_first, universal_steps}
use Rattle.shapers_universal.specs.UniversalWalk.{first_piece_len, is_halant_at, piece_places, syllable_places_in_order}
use Rattle.shapers_syllabic.proofs.NonePass.{filter-none, filter_not-none}
use Rattle.shapers_universal.specs.Proved.UniversalLists.{cut_after-concat, first_behind-map, length-first_behind, length-first_last, permuted-first_behind, permuted-reversed_first, pick-first_behind, pick-reversed_first}
use Rattle.shapers_universal.specs.Proved.Pieces.{cut_first}
use Rattle.shapers_universal.specs.Proved.UniversalSteps.{all_pieces, piece_fits, pieces_sum, leading_reph_len-within}
use Rattle.shapers_clusters.proofs.Permuted.{permuted-first_last}

-- the glyph at a place, and the tests of what stands there
abbrev pub at : Glyphs → ℕ → Glyph
at gs i = get_or gs i default_glyph

pub goes_front_is : (gs : Glyphs) (i : ℕ) → goes_front_at gs i ≡ goes_front (at gs i)
goes_front_is [] i = refl
goes_front_is (g ∷ gs) zero = refl
goes_front_is (g ∷ gs) (suc i) = goes_front_is gs i

pub halant_at : (gs : Glyphs) (i : ℕ) → is_halant_at gs i ≡ is_universal_halant (at gs i)
halant_at [] i = refl
halant_at (g ∷ gs) zero = refl
halant_at (g ∷ gs) (suc i) = halant_at gs i

-- a stretch is what stands at its places
pub stretch_at : (s e : ℕ) (gs : Glyphs) → e ≤ length gs
    → stretch_of s e gs ≡ map (at gs) (range_with_len s (e - s))
stretch_at s e gs l =
    let n = length-stretch s e gs l in
    let m = length-map-range_with_len (at gs) s (e - s) in
    ext_get_or default_glyph (stretch_of s e gs) (map (at gs) (range_with_len s (e - s))) (n ∙ sym m)
    (λ i h. let k : i < e - s = omega (arith, n) in get_or-stretch s e i default_glyph gs k
    ∙ sym (get_or-map-range_with_len (at gs) s (e - s) i (s + i) default_glyph k refl))

-- one glyph more of a stretch, and what is left of one
pub stretch_more : (s e : ℕ) (gs : Glyphs) → s < e → e ≤ length gs
    → stretch_of s e gs ≡ at gs s ∷ stretch_of (suc s) e gs
stretch_more s e gs h l =
    let m : e - s ≡ suc (e - suc s) = omega arith in
    let n : s + 1 ≡ suc s = omega arith in
    ap (λ k. take k (drop s gs)) m ∙ ap (take (suc (e - suc s))) (drop_more gs s default_glyph (omega arith))
    ∙ ap (λ k. at gs s ∷ take (e - suc s) (drop k gs)) n

pub rest_of : (s e behind r : ℕ) (gs : Glyphs) → behind ≡ s + r → r ≤ e - s
    → drop r (stretch_of s e gs) ≡ stretch_of behind e gs
rest_of s e behind r gs is within =
    let k : e - s ≡ r + (e - behind) = omega arith in
    ap (λ j. drop r (take j (drop s gs))) k ∙ drop-take r (e - behind) (drop s gs)
    ∙ ap (take (e - behind)) (drop-drop r s gs ∙ ap (λ j. drop j gs) (sym is))

-- lists cut after what passes equal tests
cut_after-same : {X : Type 0} (t u : X → Bool) (xs : List X) → ((x : X) → t x ≡ u x) → cut_after t xs ≡ cut_after u xs
cut_after-same t u [] same = refl
cut_after-same t u (x ∷ xs) same =
    ap (λ b. if b then (x ∷ []) ∷ cut_after t xs else onto_first x (cut_after t xs)) (same x)
    ∙ ap (λ ps. if u x then (x ∷ []) ∷ ps else onto_first x ps) (cut_after-same t u xs same)

-- moves of neighbouring stretches, each for itself
moved_piece : (n s : ℕ) (piece : ℕ × List Step) (xs : List ℕ) → length xs ≡ n → s + piece.0 ≤ n
    → FitSteps piece.0 piece.1 → moved_on (map (widened s (s + piece.0) n) piece.1) xs
    ≡ take s xs ++ (pick (old_places piece.0 piece.1) (take piece.0 (drop s xs)) ++ drop (s + piece.0) xs)
moved_piece n s piece xs long l f =
    let k = piece.0 in
    let e = s + piece.0 in
    let i : piece.0 ≡ s + piece.0 - s = omega arith in
    let olds = old_places (s + piece.0 - s) piece.1 in
    let fits = subst (λ j. FitSteps j piece.1) i f in
    moved_by_old_places n (map (widened s e n) piece.1) xs long
    ∙ ap (λ ps. pick ps xs) (old_places-widened s (s + piece.0) n piece.1 (omega arith) l fits)
    ∙ ap (λ m. pick (range_with_len 0 s ++ (map (λ p. s + p) olds ++ range_with_len (s + piece.0) (m - (s + piece.0))))
    xs) (sym long)
    ∙ pick-widened s (s + piece.0) (record { merged_first = []; places = olds; merged_then = [] }) xs (omega arith)
    (omega arith) (within-old_places (s + piece.0 - s) piece.1)
    ∙ ap (λ j. take s xs ++ (pick (old_places j piece.1) (take j (drop s xs)) ++ drop (s + piece.0) xs)) (sym i)

moved_along : (n s : ℕ) (ps : List (ℕ × List Step)) (xs : List ℕ) → length xs ≡ n → s + sum_by (λ piece. piece.0) ps ≤ n
    → AllByRecursion (λ piece. FitSteps piece.0 piece.1) ps → moved_on (steps_along n s ps) xs
    ≡ take s xs ++ reordered_along ps (drop s xs)
moved_along n s [] xs long l f = sym (take-append-drop s xs)
moved_along n s (piece ∷ ps) xs long l f =
    let sum = sum_by-cons (λ (p : ℕ × List Step). p.0) piece ps in
    let k = piece.0 in
    let e = s + piece.0 in
    let a = take s xs in
    let olds = old_places piece.0 piece.1 in
    let mid = take piece.0 (drop s xs) in
    let b = pick olds mid in
    let c = drop (s + piece.0) xs in
    let an : length a ≡ s = length-take-le s xs (omega arith) in
    let room : piece.0 ≤ length (drop s xs) =
    omega (arith, ap length (take-append-drop s xs), length-append (take s xs) (drop s xs)) in
    let mn : length mid ≡ piece.0 = length-take-le piece.0 (drop s xs) room in
    let bn : length b ≡ piece.0 =
    length-pick olds mid
    (subst (λ m. AllByRecursion (λ p. p < m) olds) (sym mn) (within-old_places piece.0 piece.1))
    ∙ length-old_places piece.0 piece.1 f.0 in
    let cn : s + piece.0 + length c ≡ n =
    omega (
      arith,
      ap length (take-append-drop (s + piece.0) xs),
      length-append (take (s + piece.0) xs)
          (drop (s + piece.0) xs),
      length-take-le (s + piece.0) xs (omega arith),
    ) in
    let abn : length (a ++ b) ≡ s + piece.0 = length-append a b ∙ omega arith in
    let one : moved_on (map (widened s (s + piece.0) n) piece.1) xs ≡ (a ++ b) ++ c =
    moved_piece n s piece xs long (omega arith) f.0 ∙ sym (append_assoc a b c) in
    let long1 : length ((a ++ b) ++ c) ≡ n = length-append (a ++ b) c ∙ omega arith in
    fold-append (λ places step. pick step.places places) xs (map (widened s (s + piece.0) n) piece.1)
    (steps_along n (s + piece.0) ps)
    ∙ ap (moved_on (steps_along n (s + piece.0) ps)) one
    ∙ moved_along n (s + piece.0) ps ((a ++ b) ++ c) long1 (omega arith) f.1
    ∙ ap (λ ys. ys ++ reordered_along ps (drop (s + piece.0) ((a ++ b) ++ c))) (take_at (a ++ b) c (s + piece.0) abn)
    ∙ ap (λ ys. (a ++ b) ++ reordered_along ps ys) (drop_at (a ++ b) c (s + piece.0) abn ∙ sym (drop-drop piece.0 s xs))
    ∙ append_assoc a b (reordered_along ps (drop piece.0 (drop s xs)))

-- the places of pieces, of which the glyphs are those that stand there
nothing_there : (p : ℕ) → slice_get {X = ℕ} [] p ≡ None
nothing_there zero = refl
nothing_there (suc p) = refl

told_by : (gs : Glyphs) (qs : List ℕ) (p x : ℕ) → slice_get qs p ≡ Some x
    → goes_front_at (map (at gs) qs) p ≡ goes_front_at gs x
told_by gs [] p x h = let none : zero ≡ suc zero =
    ap (λ (o : Option ℕ). option_map_or (λ (y : ℕ). 1) o 0) (sym (nothing_there p) ∙ h) in absurd (omega arith)
told_by gs (q ∷ qs) zero x h = let same : q ≡ x = ap (λ o. option_map_or (λ y. y) o 0) h in sym (goes_front_is gs q)
    ∙ ap (goes_front_at gs) same
told_by gs (q ∷ qs) (suc p) x h = told_by gs qs p x h

along_places : (gs : Glyphs) (qs : List (List ℕ))
    → reordered_along (piece_steps (map (map (at gs)) qs)) (flat_map (λ q. q) qs)
    ≡ flat_map (reversed_first (goes_front_at gs)) qs
along_places gs [] = refl
along_places gs (q ∷ qs) =
    let piece = map (at gs) q in
    let n = length piece in
    let rest = flat_map (λ q. q) qs in
    let long : length (map (at gs) q) ≡ length q = length-map q (at gs) in
    let steps = piece_steps (map (map (at gs)) qs) in
    ap (λ ys. pick (old_places n (piece_step piece ∷ [])) ys ++ reordered_along steps (drop n (q ++ rest)))
    (take_at q rest n (sym long))
    ∙ ap (λ ys. pick (old_places n (piece_step piece ∷ [])) q ++ reordered_along steps ys) (drop_at q rest n (sym long))
    ∙ ap (λ ps. pick ps q ++ reordered_along steps rest) (old_places_one n (piece_step piece) (piece_fits piece))
    ∙ ap (λ k. pick (reversed_first (goes_front_at piece) (range_with_len 0 k)) q ++ reordered_along steps rest) long
    ∙ ap (λ ys. ys ++ reordered_along steps rest)
    (pick-reversed_first (goes_front_at piece) (goes_front_at gs) q (told_by gs q))
    ∙ ap (λ ys. reversed_first (goes_front_at gs) q ++ ys) (along_places gs qs)

-- the steps of a syllable lead to its places in order
pub steps_place : (s e behind : ℕ) (gs : Glyphs) → s ≤ e → e ≤ length gs
    → is_reordered_in_universal (stretch_of s e gs) ≡ true → behind ≡ s + leading_reph_len (stretch_of s e gs)
    → pick (old_places (e - s) (universal_steps (stretch_of s e gs))) (range_with_len s (e - s))
    ≡ syllable_places_in_order s behind e gs
steps_place s e behind gs h l kind is =
    let zs = stretch_of s e gs in
    let n = e - s in
    let size : length zs ≡ n = length-stretch s e gs l in
    let r = leading_reph_len zs in
    let m : behind - s ≡ r = omega arith in
    let all = range_with_len s n in
    let long : length all ≡ n = length-range_with_len s n in
    let within : r ≤ length all = omega (arith, leading_reph_len-within zs) in
    let labels = first_behind r all in
    let longer : length labels ≡ n = length-first_behind r all ∙ long in
    let qs = cut_after (is_halant_at gs) labels in
    let halants : cut_after (λ i. is_universal_halant (at gs i)) labels ≡ qs =
    sym (cut_after-same (is_halant_at gs) (λ i. is_universal_halant (at gs i)) labels (halant_at gs)) in
    let moved : reph_moved zs ≡ map (at gs) labels = ap (first_behind r) (stretch_at s e gs l)
    ∙ first_behind-map (at gs) r all in
    let cut : pieces zs ≡ map (map (at gs)) qs = ap (cut_after is_universal_halant) moved
    ∙ cut_after-map is_universal_halant (at gs) labels ∙ ap (map (map (at gs))) halants in
    let sts = piece_steps (pieces zs) in
    let fit = all_pieces FitsStep piece_fits (pieces zs) in
    let sum : 0 + sum_by (λ piece. piece.0) sts ≤ n = omega (arith, pieces_sum zs, size) in
    let steps : universal_steps zs ≡ universal_reph_step zs ∷ steps_along n 0 sts =
    ap (λ b. if b then universal_reph_step zs ∷ steps_along (length zs) 0 sts else []) kind
    ∙ ap (λ k. universal_reph_step zs ∷ steps_along k 0 sts) size in
    let first : pick (universal_reph_step zs).places all ≡ labels =
    ap (λ k. pick (first_behind r (range_with_len 0 k)) all) (size ∙ sym long)
    ∙ pick-first_behind r all within in
    sym (moved_by_old_places n (universal_steps zs) all long)
    ∙ ap (λ st. moved_on st all) steps
    ∙ ap (moved_on (steps_along n 0 sts)) first
    ∙ moved_along n 0 sts labels longer sum fit
    ∙ ap (λ ps. reordered_along (piece_steps ps) labels) cut
    ∙ ap (reordered_along (piece_steps (map (map (at gs)) qs))) (sym (cut_after-concat (is_halant_at gs) labels))
    ∙ along_places gs qs
    ∙ ap (λ k. flat_map (reversed_first (goes_front_at gs)) (cut_after (is_halant_at gs) (first_behind k all))) (sym m)

-- they are its places, each once
pieces-permuted : {X : Type 0} (t : X → Bool) (qs : List (List X))
    → IsPermutation (flat_map (λ q. q) qs) (flat_map (reversed_first t) qs)
pieces-permuted t [] = IsPermutation-refl []
pieces-permuted t (q ∷ qs) =
    IsPermutation-append q (reversed_first t q) (flat_map (λ q. q) qs) (flat_map (reversed_first t) qs)
    (permuted-reversed_first t q) (pieces-permuted t qs)

pub order-permuted : (s behind e : ℕ) (gs : Glyphs)
    → IsPermutation (range_with_len s (e - s)) (syllable_places_in_order s behind e gs)
order-permuted s behind e gs =
    let all = range_with_len s (e - s) in
    let labels = first_behind (behind - s) all in
    let qs = cut_after (is_halant_at gs) labels in
    IsPermutation-trans all labels (syllable_places_in_order s behind e gs) (permuted-first_behind (behind - s) all)
    (subst (λ xs. IsPermutation xs (syllable_places_in_order s behind e gs)) (cut_after-concat (is_halant_at gs) labels)
    (pieces-permuted (goes_front_at gs) qs))

-- a reph and what it passes are no halants, and go to no front
passed_is : (g : Glyph) → reph_passes g ≡ true → (is_universal_halant g ≡ false) × (goes_front g ≡ false)
passed_is g h = (grind (arith, nat_tests, h), grind (arith, nat_tests, h))

reph_is : (g : Glyph) → nat_eq g.category 18 ≡ true → (is_universal_halant g ≡ false) × (goes_front g ≡ false)
reph_is g h = (grind (arith, nat_tests, h), grind (arith, nat_tests, h))

pub record Calm (gs : Glyphs) : Type 0 where
  pub no_halant : list_any is_universal_halant gs ≡ false
  pub no_front : list_any goes_front gs ≡ false

calm_more : (g : Glyph) (gs : Glyphs) → (is_universal_halant g ≡ false) × (goes_front g ≡ false)
    → Calm gs → Calm (g ∷ gs)
calm_more g gs h c = record { no_halant = rw h.0 c.no_halant; no_front = rw h.1 c.no_front }

calm_passed : (gs : Glyphs) → Calm (take (prefix_len reph_passes gs) gs)
calm_passed [] = record { no_halant = refl; no_front = refl }
calm_passed (g ∷ gs) = elim (cases_Bool (reph_passes g)) [
  | inl passes ↦ let k : suc (prefix_len reph_passes gs) ≡ 1 + prefix_len reph_passes gs =
      omega arith in rw passes
      (subst (λ n. Calm (take n (g ∷ gs))) k
      (calm_more g (take (prefix_len reph_passes gs) gs) (passed_is g passes) (calm_passed gs)))
  | inr fails ↦ rw fails (record { no_halant = refl; no_front = refl })
]

pub reph_calm : (gs : Glyphs) → Calm (take (leading_reph_len gs) gs)
reph_calm [] = record { no_halant = refl; no_front = refl }
reph_calm (g ∷ gs) = elim (cases_Bool (nat_eq g.category 18)) [
  | inl passes ↦ rw passes (calm_more g (take (prefix_len reph_passes gs) gs) (reph_is g passes) (calm_passed gs))
  | inr fails ↦ rw fails (record { no_halant = refl; no_front = refl })
]

-- so are their places
pub labels_any : (test : Glyph → Bool) (t : ℕ → Bool) (gs : Glyphs)
    → ((i : ℕ) → t i ≡ test (at gs i)) → (xs : List ℕ) → list_any t xs ≡ list_any test (map (at gs) xs)
labels_any test t gs tells [] = refl
labels_any test t gs tells (x ∷ xs) = ap (λ b. b || list_any t xs) (tells x)
    ∙ ap (λ b. test (at gs x) || b) (labels_any test t gs tells xs)

pub first_last-any : {X : Type 0} (test : X → Bool) (xs : List X) → list_any test xs ≡ false
    → list_any test (first_last xs) ≡ false
first_last-any test xs h = sym (list_any-IsPermutation test xs (first_last xs) (permuted-first_last xs)) ∙ h

pub record CalmPlaces (s behind : ℕ) (gs : Glyphs) : Type 0 where
  pub no_halant : list_any (is_halant_at gs) (first_last (range_with_len s (behind - s))) ≡ false
  pub no_front : list_any (goes_front_at gs) (first_last (range_with_len s (behind - s))) ≡ false

pub calm_places : (s e behind : ℕ) (gs : Glyphs) → s ≤ e → e ≤ length gs
    → behind ≡ s + leading_reph_len (stretch_of s e gs) → CalmPlaces s behind gs
calm_places s e behind gs h l is =
    let zs = stretch_of s e gs in
    let r = leading_reph_len zs in
    let m : behind - s ≡ r = omega arith in
    let within : r ≤ e - s = omega (arith, leading_reph_len-within zs, length-stretch s e gs l) in
    let first : take r zs ≡ map (at gs) (range_with_len s (behind - s)) =
    take-take r (e - s) (drop s gs) within ∙ ap (λ k. take k (drop s gs)) (sym m)
    ∙ stretch_at s behind gs (omega arith) in
    let calm = subst Calm first (reph_calm zs) in
    let run = range_with_len s (behind - s) in
    record {
      no_halant = first_last-any (is_halant_at gs) run
          (labels_any is_universal_halant (is_halant_at gs) gs (halant_at gs) run ∙ calm.no_halant);
      no_front = first_last-any (goes_front_at gs) run
          (labels_any goes_front (goes_front_at gs) gs (goes_front_is gs) run ∙ calm.no_front);
    }

pub calm_nothing : (s : ℕ) (gs : Glyphs) → CalmPlaces s s gs
calm_nothing s gs =
    let m : s - s ≡ 0 = omega arith in
    record {
      no_halant = ap (λ k. list_any (is_halant_at gs) (first_last (range_with_len s k))) m;
      no_front = ap (λ k. list_any (goes_front_at gs) (first_last (range_with_len s k))) m;
    }

-- the first piece of the places in order, and the rest
first_piece_len-map : {X Y : Type 0} (test : Y → Bool) (f : X → Y) (t : X → Bool) → ((x : X) → t x ≡ test (f x))
    → (xs : List X) → first_piece_len t xs ≡ first_piece_len test (map f xs)
first_piece_len-map test f t same [] = refl
first_piece_len-map test f t same (x ∷ xs) = ap (λ b. if b then 1 else suc (first_piece_len t xs)) (same x)
    ∙ ap (λ k. if test (f x) then 1 else suc k) (first_piece_len-map test f t same xs)

first_piece_len-behind : {X : Type 0} (t : X → Bool) (xs ys : List X) → list_any t xs ≡ false
    → first_piece_len t (xs ++ ys) ≡ length xs + first_piece_len t ys
first_piece_len-behind t [] ys none = omega arith
first_piece_len-behind t (x ∷ xs) ys none =
    let parts : (t x ≡ false) × (list_any t xs ≡ false) = or_parts (t x) (list_any t xs) none in
    let rest = first_piece_len-behind t xs ys parts.1 in
    let k : suc (length xs + first_piece_len t ys) ≡ suc (length xs) + first_piece_len t ys = omega arith in
    rw parts.0 (ap suc rest ∙ k)

pub first_piece_len-le : {X : Type 0} (t : X → Bool) (xs : List X) → first_piece_len t xs ≤ length xs
first_piece_len-le t [] = omega arith
first_piece_len-le t (x ∷ xs) =
    let rest = first_piece_len-le t xs in
    elim (t x) as (λ b. (if b then 1 else suc (first_piece_len t xs)) ≤ suc (length xs))
    [ true ↦ omega arith | false ↦ omega arith ]

reversed_first-behind : {X : Type 0} (t : X → Bool) (xs ys : List X) → list_any t xs ≡ false
    → reversed_first t (xs ++ ys) ≡ reverse (filter t ys) ++ (xs ++ filter (λ x. not (t x)) ys)
reversed_first-behind {X} t xs ys none =
    let no : X → Bool = λ x. not (t x) in
    ap (λ zs. reverse zs ++ filter no (xs ++ ys)) (filter-append t xs ys
    ∙ ap (λ zs. zs ++ filter t ys) (filter-none t xs none))
    ∙ ap (λ zs. reverse (filter t ys) ++ zs) (filter-append no xs ys
    ∙ ap (λ zs. zs ++ filter no ys) (filter_not-none t xs none))

labels_cut : (s behind e : ℕ) → s ≤ behind → behind ≤ e → first_behind (behind - s) (range_with_len s (e - s))
    ≡ first_last (range_with_len s (behind - s)) ++ range_with_len behind (e - behind)
labels_cut s behind e h l =
    let r = behind - s in
    let n : e - s ≡ r + (e - behind) = omega arith in
    let up : s + r ≡ behind = omega arith in
    let all : range_with_len s (e - s) ≡ range_with_len s r ++ range_with_len behind (e - behind) =
    ap (range_with_len s) n ∙ range-append s r (e - behind)
    ∙ ap (λ k. range_with_len s r ++ range_with_len k (e - behind)) up in
    ap (first_behind r) all
    ∙ ap (λ xs. first_last xs ++ drop r (range_with_len s r ++ range_with_len behind (e - behind)))
    (take_at (range_with_len s r) (range_with_len behind (e - behind)) r (length-range_with_len s r))
    ∙ ap (λ xs. first_last (range_with_len s r) ++ xs)
    (drop_at (range_with_len s r) (range_with_len behind (e - behind)) r (length-range_with_len s r))

pub nothing_behind : (s e : ℕ) → first_behind (s - s) (range_with_len s (e - s)) ≡ range_with_len s (e - s)
nothing_behind s e = let m : s - s ≡ 0 = omega arith in ap (λ k. first_behind k (range_with_len s (e - s))) m

pub order_first : (s behind e end : ℕ) (gs : Glyphs) → s ≤ behind → behind ≤ e → s < e → e ≤ length gs
    → CalmPlaces s behind gs → end ≡ behind + first_piece_len is_universal_halant (stretch_of behind e gs)
    → syllable_places_in_order s behind e gs ≡ piece_places s behind end gs ++ syllable_places_in_order end end e gs
order_first s behind e end gs h l some inside calm is =
    let H = is_halant_at gs in
    let R = reversed_first (goes_front_at gs) in
    let run = first_last (range_with_len s (behind - s)) in
    let ys = range_with_len behind (e - behind) in
    let m = first_piece_len is_universal_halant (stretch_of behind e gs) in
    let size : length ys ≡ e - behind = length-range_with_len behind (e - behind) in
    let rn : length run ≡ behind - s = length-first_last (range_with_len s (behind - s))
    ∙ length-range_with_len s (behind - s) in
    let piece : first_piece_len H ys ≡ m = first_piece_len-map is_universal_halant (at gs) H (halant_at gs) ys
    ∙ ap (first_piece_len is_universal_halant) (sym (stretch_at behind e gs inside)) in
    let within : m ≤ e - behind =
    omega (
      arith,
      first_piece_len-le is_universal_halant (stretch_of behind e gs),
      length-stretch behind e gs
          inside,
    ) in
    let n : e - behind ≡ m + (e - end) = omega arith in
    let up : behind + m ≡ end = omega arith in
    let back : end - behind ≡ m = omega arith in
    let first = range_with_len behind (end - behind) in
    let fn : length first ≡ end - behind = length-range_with_len behind (end - behind) in
    let split : ys ≡ first ++ range_with_len end (e - end) = ap (range_with_len behind) n
    ∙ range-append behind m (e - end) ∙ ap (λ k. range_with_len behind m ++ range_with_len k (e - end)) up
    ∙ ap (λ k. range_with_len behind k ++ range_with_len end (e - end)) (sym back) in
    let labels : first_behind (behind - s) (range_with_len s (e - s)) ≡ run ++ ys = labels_cut s behind e h l in
    let whole : run ++ ys ≡ (run ++ first) ++ range_with_len end (e - end) = ap (λ xs. run ++ xs) split
    ∙ sym (append_assoc run first (range_with_len end (e - end))) in
    let long : first_piece_len H (run ++ ys) ≡ length (run ++ first) = first_piece_len-behind H run ys calm.no_halant
    ∙ omega (arith, piece, length-append run first) in
    let some_there : 0 < length (run ++ ys) = omega (arith, length-append run ys) in
    ap (λ xs. flat_map R (cut_after H xs)) labels
    ∙ ap (flat_map R) (cut_first H (run ++ ys) some_there)
    ∙ ap (λ k. flat_map R (take k (run ++ ys) ∷ cut_after H (drop k (run ++ ys)))) long
    ∙ ap (λ xs. flat_map R (take (length (run ++ first)) xs ∷ cut_after H (drop (length (run ++ first)) xs))) whole
    ∙ ap (λ xs. flat_map R
    (xs ∷ cut_after H (drop (length (run ++ first)) ((run ++ first) ++ range_with_len end (e - end)))))
    (take_at (run ++ first) (range_with_len end (e - end)) (length (run ++ first)) refl)
    ∙ ap (λ xs. flat_map R ((run ++ first) ∷ cut_after H xs))
    (drop_at (run ++ first) (range_with_len end (e - end)) (length (run ++ first)) refl)
    ∙ flat_map-cons R (run ++ first) (cut_after H (range_with_len end (e - end)))
    ∙ ap (λ xs. xs ++ flat_map R (cut_after H (range_with_len end (e - end))))
    (reversed_first-behind (goes_front_at gs) run first calm.no_front)
    ∙ ap (λ xs. piece_places s behind end gs ++ flat_map R (cut_after H xs)) (sym (nothing_behind end e))

pub length-piece : (s behind e : ℕ) (gs : Glyphs) → s ≤ behind → behind ≤ e
    → length (piece_places s behind e gs) ≡ e - s
length-piece s behind e gs h l =
    let t = goes_front_at gs in
    let ys = range_with_len behind (e - behind) in
    let run = first_last (range_with_len s (behind - s)) in
    let rest = filter (λ x. not (t x)) ys in
    omega (
      arith,
      length-append (reverse (filter t ys)) (run ++ rest),
      length-append run rest,
      length-reverse
          (filter t ys),
      length-filter_both t (λ x. not (t x)) (λ x. refl) ys,
      length-range_with_len behind (e - behind),
      length-first_last (range_with_len s (behind - s)),
      length-range_with_len s (behind - s),
    )

pub order_none : (s e : ℕ) (gs : Glyphs) → e ≤ s → syllable_places_in_order s s e gs ≡ []
order_none s e gs h =
    let m : e - s ≡ 0 = omega arith in
    ap (λ xs. flat_map (reversed_first (goes_front_at gs)) (cut_after (is_halant_at gs) xs)) (nothing_behind s e
    ∙ ap (range_with_len s) m)
