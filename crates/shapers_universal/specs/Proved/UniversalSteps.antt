-- Laws of the steps of the universal shaper: they fit, they take each place once, and they move
-- only inside what they merge.
use Rattle.std.proofs.Common.{◌≡◌, ℕ, suc, ◌+◌, ◌-◌, ◌<◌, ◌≤◌, nat_eq, nat_lt, ◌&&◌, ◌||◌, inl, inr, Bool, true, false, not, if◌then◌else◌, List, [], ◌∷◌, ◌++◌, map, filter, reverse, length, take, drop, get_or, refl, ap, sym, ◌∙◌, subst, arith, append_assoc, length-append, length-take-le, zero-add}
use Rattle.std.specs.List.{AllByRecursion, flat_map, list_any, prefix_len, range_with_len, sum_by}
use Rattle.std.specs.List.Sorted.{IsPermutation}
use Rattle.std.proofs.lemmas.Bool.{cases_lt, or_left, or_right}
use Rattle.std.proofs.lemmas.Bool.Decides.{nat_tests}
use Rattle.std.proofs.lemmas.List.{get_or_append_left, get_or-append_right, map-append, take_at, drop_at}
use Rattle.std.proofs.lemmas.List.Elements.{filter-append}
use Rattle.std.proofs.lemmas.List.Folds.{list_any-append}
use Rattle.std.proofs.lemmas.List.FromFn.{length-range_with_len, get_or-range_with_len}
use Rattle.std.proofs.lemmas.List.Sums.{prefix_len-le-length, sum_by-cons}
use Rattle.shapers_buffer.specs.Glyphs.{Glyphs}
use Rattle.shapers_buffer.specs.Lists.{first_last}
use Rattle.shapers_buffer.proofs.ListLaws.{LastPass, last_pass}
use Rattle.shapers_buffer.proofs.MappedLists.{all-mapped, drop-range}
use Rattle.shapers_clusters.specs.Cuts.{EndWithin, held}
use Rattle.shapers_clusters.specs.Steps.{FitsStep, FitSteps, HeldBetween, MovesMerged, Permutes, Step, still_step, steps_along, widened}
use Rattle.shapers_clusters.proofs.Permuted.{permutes-widened, fits_permuted, length_permuted, within_permuted, permuted-first_last}
use Rattle.shapers_clusters.proofs.Picks.{within_at, within_range}
use Rattle.shapers_clusters.proofs.Swaps.{still_moves_merged}
use Rattle.shapers_clusters.proofs.Widened.{all_along, fits-widened, moves-widened}
use Rattle.shapers_universal.specs.Universal.{first_behind, goes_front_at, is_universal_halant, reph_passes, is_reordered_in_universal, piece_step, piece_steps, pieces, places_within, reph_moved, leading_reph_len, universal_reph_step, reversed_first, universal_steps}
use Rattle.shapers_syllabic.proofs.NonePass.{filter-none, filter_not-none}
use Rattle.shapers_universal.specs.Proved.UniversalLists.{all-filter, cut_after-concat, length-first_behind, length-first_last, permuted-first_behind, permuted-reversed_first, reversed_first-append, take-range}

-- a step that moves places only below h, where stretches merge all of these, and leaves those from h on
moves_below : (n h : ℕ) (sts : List (ℕ × ℕ)) (front : List ℕ) → h ≤ n → length front ≡ h
    → AllByRecursion (λ q. q < h) front → ((r : ℕ) → 0 < r → r < h → held sts r ≡ true) → (p : ℕ) → p < n
    → HeldBetween sts p (get_or (front ++ range_with_len h (n - h)) p 0)
moves_below n h sts front l long within holds p lt r a b =
    let rest = range_with_len h (n - h) in
    elim (cases_lt p h) [
      | inl below ↦
          let here : p < length front = omega arith in
          let is = get_or_append_left front rest 0 p here in
          let q = within_at h front within p here in
          holds r (omega arith) (omega arith)
      | inr above ↦
          let is : get_or (front ++ rest) p 0 ≡ p = get_or-append_right front rest h p 0 long above
          ∙ get_or-range_with_len h (n - h) (p - h) 0 (omega arith) ∙ omega arith in
          absurd (omega arith)
    ]

moves_merged_below : (n h : ℕ) (sts : List (ℕ × ℕ)) (ps front : List ℕ) → h ≤ n → ps ≡ front ++ range_with_len h (n - h)
    → length front ≡ h → AllByRecursion (λ q. q < h) front → ((r : ℕ) → 0 < r → r < h → held sts r ≡ true)
    → FitsStep n (record { merged_first = sts; places = ps; merged_then = [] })
    → MovesMerged n (record { merged_first = sts; places = ps; merged_then = [] })
moves_merged_below n h sts ps front l is long within holds fits = record {
  fits = fits;
  inside = λ p lt. (let many = fits.as_many in subst (λ qs. HeldBetween sts p (get_or qs p 0)) (sym is)
      (moves_below n h sts front l long within holds p (omega arith)));
  nothing_then = refl;
}

one_holds : (k r : ℕ) → 0 < r → r < k → (nat_lt 0 r && nat_lt r k) ≡ true
one_holds k r a b = grind (arith, nat_tests)

-- the step of the reph
pub leading_reph_len-within : (gs : Glyphs) → leading_reph_len gs ≤ length gs
leading_reph_len-within [] = omega arith
leading_reph_len-within (g ∷ gs) =
    let l = prefix_len-le-length reph_passes gs in
    elim (nat_eq g.category 18) as (λ b. (if b then suc (prefix_len reph_passes gs) else 0) ≤ suc (length gs)) [
      | true ↦ omega arith
      | false ↦ omega arith
    ]

pub reph_permutes : (gs : Glyphs) → Permutes (length gs) (universal_reph_step gs)
reph_permutes gs = permuted-first_behind (leading_reph_len gs) (range_with_len 0 (length gs))

pub reph_fits : (gs : Glyphs) → FitsStep (length gs) (universal_reph_step gs)
reph_fits gs =
    fits_permuted (length gs) (universal_reph_step gs) (reph_permutes gs) (leading_reph_len-within gs, tt) tt

pub reph_moves : (gs : Glyphs) → MovesMerged (length gs) (universal_reph_step gs)
reph_moves gs =
    let n = length gs in
    let k = leading_reph_len gs in
    let l = leading_reph_len-within gs in
    let front = first_last (take k (range_with_len 0 n)) in
    let long : length (take k (range_with_len 0 n)) ≡ k =
    length-take-le k (range_with_len 0 n) (omega (arith, length-range_with_len 0 n)) in
    let is : first_behind k (range_with_len 0 n) ≡ front ++ range_with_len k (n - k) =
    ap (λ ps. front ++ ps) (drop-range 0 n k ∙ ap (λ m. range_with_len m (n - k)) (zero-add k)) in
    let within : AllByRecursion (λ q. q < k) front =
    within_permuted k front
    (subst (λ ps. IsPermutation ps front) (take-range n k l)
    (permuted-first_last (take k (range_with_len 0 n)))) in
    moves_merged_below n k ((0, k) ∷ []) (first_behind k (range_with_len 0 n)) front l is
    (length-first_last (take k (range_with_len 0 n)) ∙ long) within
    (λ r a b. or_left (nat_lt 0 r && nat_lt r k) false (one_holds k r a b)) (reph_fits gs)

-- the step of a piece
pub piece_permutes : (gs : Glyphs) → Permutes (length gs) (piece_step gs)
piece_permutes gs = permuted-reversed_first (goes_front_at gs) (places_within gs)

fronts_within : (gs : Glyphs) → EndWithin (length gs) (piece_step gs).merged_first
fronts_within gs =
    let n = length gs in
    all-mapped (λ i. i < n) (λ st. st.1 ≤ n) (λ i. (0, suc i)) (filter (goes_front_at gs) (places_within gs))
    (λ i h. omega arith)
    (all-filter (λ i. i < n) (goes_front_at gs) (places_within gs) (within_range 0 n n (omega arith)))

pub piece_fits : (gs : Glyphs) → FitsStep (length gs) (piece_step gs)
piece_fits gs = fits_permuted (length gs) (piece_step gs) (piece_permutes gs) (fronts_within gs) tt

-- a stretch for each place that passes, and one of them
held_one : (t : ℕ → Bool) (before after : List ℕ) (m r : ℕ) → t m ≡ true → 0 < r → r < suc m
    → held (map (λ i. (0, suc i)) (filter t (before ++ m ∷ after))) r ≡ true
held_one t before after m r passes a b =
    let test : ℕ × ℕ → Bool = λ st. nat_lt st.0 r && nat_lt r st.1 in
    let st : ℕ → ℕ × ℕ = λ i. (0, suc i) in
    let front = map st (filter t before) in
    let rest = map st (filter t after) in
    let one : filter t (m ∷ after) ≡ m ∷ filter t after = rw passes refl in
    ap (λ xs. list_any test (map st xs)) (filter-append t before (m ∷ after) ∙ ap (λ xs. filter t before ++ xs) one)
    ∙ ap (list_any test) (map-append st (filter t before) (m ∷ filter t after))
    ∙ list_any-append test front ((0, suc m) ∷ rest)
    ∙ or_right (list_any test front) (test (0, suc m) || list_any test rest)
    (or_left (test (0, suc m)) (list_any test rest) (one_holds (suc m) r a b))

piece_moves_by : (gs : Glyphs) → LastPass (goes_front_at gs) (places_within gs)
    → MovesMerged (length gs) (piece_step gs)
piece_moves_by gs p =
    let n = length gs in
    let t = goes_front_at gs in
    let ps = places_within gs in
    let m = length p.before in
    let h = suc m in
    let size : length ps ≡ n = length-range_with_len 0 n in
    let long : length (p.before ++ p.element ∷ []) ≡ h = length-append p.before (p.element ∷ []) ∙ omega arith in
    let l : h ≤ n = omega (arith, ap length p.parts, length-append p.before (p.element ∷ p.after)) in
    let split : ps ≡ (p.before ++ p.element ∷ []) ++ p.after =
    p.parts ∙ sym (append_assoc p.before (p.element ∷ []) p.after) in
    let start : p.before ++ p.element ∷ [] ≡ range_with_len 0 h =
    sym (ap (take h) split ∙ take_at (p.before ++ p.element ∷ []) p.after h long) ∙ take-range n h l in
    let behind : p.after ≡ range_with_len h (n - h) =
    sym (ap (drop h) split ∙ drop_at (p.before ++ p.element ∷ []) p.after h long) ∙ drop-range 0 n h
    ∙ ap (λ k. range_with_len k (n - h)) (zero-add h) in
    let none : m - m ≡ 0 = omega arith in
    let read : get_or (p.before ++ p.element ∷ []) m 0 ≡ p.element =
    get_or-append_right p.before (p.element ∷ []) m m 0 refl (omega arith)
    ∙ ap (λ i. get_or (p.element ∷ []) i 0) none in
    let element : p.element ≡ m = sym read ∙ ap (λ xs. get_or xs m 0) start
    ∙ get_or-range_with_len 0 h m 0 (omega arith) ∙ zero-add m in
    let front = reversed_first t (range_with_len 0 h) in
    let perm = permuted-reversed_first t (range_with_len 0 h) in
    let is : reversed_first t ps ≡ front ++ range_with_len h (n - h) = ap (reversed_first t) split
    ∙ reversed_first-append t (p.before ++ p.element ∷ []) p.after p.none_after
    ∙ ap (λ xs. reversed_first t xs ++ p.after) start ∙ ap (λ xs. front ++ xs) behind in
    moves_merged_below n h (piece_step gs).merged_first (piece_step gs).places front l is
    (length_permuted h front perm) (within_permuted h front perm)
    (λ r a b. subst (λ xs. held (map (λ i. (0, suc i)) (filter t xs)) r ≡ true) (sym p.parts)
    (held_one t p.before p.after p.element r p.passes a (omega arith)))
    (piece_fits gs)

pub piece_moves : (gs : Glyphs) → MovesMerged (length gs) (piece_step gs)
piece_moves gs =
    let t = goes_front_at gs in
    let ps = places_within gs in
    elim (last_pass t ps) [
      | inl none ↦
          let sts : (piece_step gs).merged_first ≡ [] = ap (map (λ i. (0, suc i))) (filter-none t ps none) in
          let places : (piece_step gs).places ≡ ps =
          ap (λ xs. reverse xs ++ filter (λ x. not (t x)) ps) (filter-none t ps none)
          ∙ filter_not-none t ps none in
          let same : piece_step gs ≡ still_step (length gs) =
          ap (λ xs. let s : Step = record {
            merged_first = xs;
            places = (piece_step gs).places;
            merged_then =
                [];
          } in s) sts
          ∙ ap (λ xs. let s : Step = record { merged_first = []; places = xs; merged_then = [] } in s) places in
          subst (MovesMerged (length gs)) (sym same) (still_moves_merged (length gs))
      | inr p ↦ piece_moves_by gs p
    ]

-- the steps of pieces, and of a syllable
sum_pieces : (ps : List Glyphs) → sum_by (λ piece. piece.0) (piece_steps ps)
    ≡ length (flat_map (λ piece. piece) ps)
sum_pieces [] = refl
sum_pieces (piece ∷ ps) =
    sum_by-cons (λ (p : ℕ × List Step). p.0) (length piece, piece_step piece ∷ []) (piece_steps ps)
    ∙ ap (λ k. length piece + k) (sum_pieces ps) ∙ sym (length-append piece (flat_map (λ p. p) ps))

pub pieces_sum : (gs : Glyphs) → sum_by (λ piece. piece.0) (piece_steps (pieces gs)) ≡ length gs
pieces_sum gs = sum_pieces (pieces gs) ∙ ap length (cut_after-concat is_universal_halant (reph_moved gs))
    ∙ length-first_behind (leading_reph_len gs) gs

pub all_pieces : (P : ℕ → Step → Type 0) → ((gs : Glyphs) → P (length gs) (piece_step gs))
    → (ps : List Glyphs) → AllByRecursion (λ piece. AllByRecursion (P piece.0) piece.1) (piece_steps ps)
all_pieces P holds [] = tt
all_pieces P holds (piece ∷ ps) = ((holds piece, tt), all_pieces P holds ps)

all_steps : (P : ℕ → Step → Type 0)
    → ((s e n : ℕ) (step : Step) → s ≤ e → e ≤ n → P (e - s) step → P n (widened s e n step))
    → ((gs : Glyphs) → P (length gs) (universal_reph_step gs))
    → ((gs : Glyphs) → P (length gs) (piece_step gs)) → (gs : Glyphs)
    → AllByRecursion (P (length gs)) (universal_steps gs)
all_steps P widens reph piece gs =
    elim (is_reordered_in_universal gs) as (λ b. AllByRecursion (P (length gs)) (if b then universal_reph_step gs
    ∷ steps_along (length gs) 0 (piece_steps (pieces gs)) else [])) [
      | true ↦ (
        reph gs,
        all_along P widens (length gs) 0 (piece_steps (pieces gs)) (omega (arith, pieces_sum gs))
            (all_pieces P piece (pieces gs)),
      )
      | false ↦ tt
    ]

pub universal_fits : (gs : Glyphs) → FitSteps (length gs) (universal_steps gs)
universal_fits gs = all_steps FitsStep fits-widened reph_fits piece_fits gs

pub universal_permutes : (gs : Glyphs) → AllByRecursion (Permutes (length gs)) (universal_steps gs)
universal_permutes gs = all_steps Permutes permutes-widened reph_permutes piece_permutes gs

pub universal_moves : (gs : Glyphs) → AllByRecursion (MovesMerged (length gs)) (universal_steps gs)
universal_moves gs = all_steps MovesMerged moves-widened reph_moves piece_moves gs
