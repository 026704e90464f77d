-- The merges of a syllable: those of its steps, one after another, and as the code makes them.
use Rattle.std.proofs.Common.{◌≡◌, ℕ, suc, ◌+◌, ◌-◌, ◌<◌, ◌≤◌, inl, inr, Bool, true, false, if◌then◌else◌, List, [], ◌∷◌, ◌++◌, map, filter, length, take, drop, get_or, Some, refl, ap, sym, ◌∙◌, subst, arith, append_assoc, length-append, length-take-le}
use Rattle.std.specs.List.{list_any, onto_first, range_with_len, slice_get}
use Rattle.std.proofs.lemmas.Bool.{cases_Bool, or_parts}
use Rattle.std.proofs.lemmas.Bool.Decides.{nat_tests}
use Rattle.std.proofs.lemmas.List.{append-nil, get_or-map, length-map}
use Rattle.std.proofs.lemmas.List.Folds.{list_any-append}
use Rattle.shapers_buffer.specs.Glyphs.{Glyph, Glyphs}
use Rattle.shapers_buffer.specs.declared.buffer.cluster_ranges.ClusterRange.{ClusterRange}
use Rattle.shapers_buffer.specs.ClusterRanges.{RangeFits, with_range}
use Rattle.shapers_buffer.specs.Clusters.{merge, merge_all, stretch_of}
use Rattle.shapers_buffer.specs.Buffer.{Buffer}
use Rattle.shapers_buffer.specs.Glyph.{default_glyph, order_view, plain}
use Rattle.shapers_buffer.specs.Lists.{cut_after, first_last}
use Rattle.shapers_buffer.proofs.ClusterLemmas.{length-stretch}
use Rattle.shapers_clusters.specs.Steps.{all_first, shifted, steps_along, widened}
use Rattle.shapers_clusters.proofs.Merging.{order_view-merge, order_view-with_range}
use Rattle.shapers_universal.specs.Universal.{goes_front, goes_front_at, is_universal_halant, is_reordered_in_universal, piece_step, piece_steps, leading_reph_len, universal_steps}
use Rattle.shapers_universal.specs.UniversalWalk.{fronts_from}
use Rattle.shapers_universal.specs.Proved.UniversalLists.{length-first_last}
use Rattle.shapers_universal.specs.Proved.UniversalPlaces.{at, first_last-any, reph_calm, rest_of, stretch_more}
use Rattle.shapers_universal.specs.Proved.UniversalSteps.{leading_reph_len-within}
use Rattle.shapers_universal.specs.Proved.UniversalWalks.{steps_widened}

-- what merges in a piece that starts at a, from place i on
abbrev pub fronts_of : ℕ → ℕ → Glyphs → List (ℕ × ℕ)
fronts_of a i [] = []
fronts_of a i (g ∷ gs) = if goes_front g then (a, suc i) ∷ fronts_of a (suc i) gs else fronts_of a (suc i) gs

pair_is : (a b c d : ℕ) → a ≡ c → b ≡ d → (let p : ℕ × ℕ = (a, b) in p) ≡ (let q : ℕ × ℕ = (c, d) in q)
pair_is a b c d h i = ap (λ (k : ℕ). let p : ℕ × ℕ = (k, b) in p) h ∙ ap (λ (k : ℕ). let p : ℕ × ℕ = (c, k) in p) i

both_cons : (p q : ℕ × ℕ) (xs ys : List (ℕ × ℕ)) → p ≡ q → xs ≡ ys → p ∷ xs ≡ q ∷ ys
both_cons p q xs ys h i = ap (λ r. r ∷ xs) h ∙ ap (λ rs. q ∷ rs) i

fronts_along : (a j : ℕ) (t : ℕ → Bool) (gs : Glyphs)
    → ((m : ℕ) (x : Glyph) → slice_get gs m ≡ Some x → t (j + m) ≡ goes_front x)
    → shifted a (map (λ i. (0, suc i)) (filter t (range_with_len j (length gs)))) ≡ fronts_of a (a + j) gs
fronts_along a j t [] tells = refl
fronts_along a j t (g ∷ gs) tells =
    let none : j + 0 ≡ j = omega arith in
    let here : t j ≡ goes_front g = ap t (sym none) ∙ tells 0 g refl in
    let rest = fronts_along a (j + 1) t gs (λ m x h. let up : j + 1 + m ≡ j + suc m = omega arith in ap t up
    ∙ tells (suc m) x h) in
    let up : a + (j + 1) ≡ suc (a + j) = omega arith in
    let first = pair_is (a + 0) (a + suc j) a (suc (a + j)) (omega arith) (omega arith) in
    let later = rest ∙ ap (λ k. fronts_of a k gs) up in
    ap (λ b. shifted a
    (map (λ i. (0, suc i))
    (if b then j ∷ filter t (range_with_len (j + 1) (length gs)) else filter t
    (range_with_len (j + 1) (length gs))))) here
    ∙ elim (goes_front g) as (λ b. shifted a
    (map (λ i. (0, suc i))
    (if b then j ∷ filter t (range_with_len (j + 1) (length gs)) else filter t
    (range_with_len (j + 1) (length gs))))
    ≡ (if b then (a, suc (a + j)) ∷ fronts_of a (suc (a + j)) gs else fronts_of a (suc (a + j)) gs)) [
      | true ↦ both_cons (a + 0, a + suc j) (a, suc (a + j))
          (shifted a (map (λ i. (0, suc i)) (filter t (range_with_len (j + 1) (length gs)))))
          (fronts_of a (suc (a + j)) gs) first later
      | false ↦ later
    ]

told : (gs : Glyphs) (m : ℕ) (x : Glyph) → slice_get gs m ≡ Some x
    → goes_front_at gs m ≡ goes_front x
told gs m x h = rw h refl

piece_fronts : (a : ℕ) (gs : Glyphs) → shifted a (piece_step gs).merged_first ≡ fronts_of a a gs
piece_fronts a gs =
    let none : a + 0 ≡ a = omega arith in
    fronts_along a 0 (goes_front_at gs) gs (λ m x h. let z : 0 + m ≡ m = omega arith in ap (goes_front_at gs) z
    ∙ told gs m x h) ∙ ap (λ k. fronts_of a k gs) none

fronts_of-append : (a i : ℕ) (xs ys : Glyphs) → fronts_of a i (xs ++ ys) ≡ fronts_of a i xs
    ++ fronts_of a (i + length xs) ys
fronts_of-append a i [] ys = let none : i ≡ i + 0 = omega arith in ap (λ k. fronts_of a k ys) none
fronts_of-append a i (x ∷ xs) ys =
    let up : suc i + length xs ≡ i + suc (length xs) = omega arith in
    let rest = fronts_of-append a (suc i) xs ys ∙ ap (λ k. fronts_of a (suc i) xs ++ fronts_of a k ys) up in
    elim (goes_front x) as (λ b. (if b then (a, suc i) ∷ fronts_of a (suc i) (xs ++ ys) else fronts_of a (suc i)
    (xs ++ ys)) ≡ (if b then (a, suc i) ∷ fronts_of a (suc i) xs else fronts_of a (suc i) xs)
    ++ fronts_of a (i + suc (length xs)) ys) [
      | true ↦ ap (λ ps. (a, suc i) ∷ ps) rest
      | false ↦ rest
    ]

fronts_of-none : (a i : ℕ) (xs : Glyphs) → list_any goes_front xs ≡ false → fronts_of a i xs ≡ []
fronts_of-none a i [] h = refl
fronts_of-none a i (x ∷ xs) h =
    let parts : (goes_front x ≡ false) × (list_any goes_front xs ≡ false) =
    or_parts (goes_front x) (list_any goes_front xs) h in
    rw parts.0 (fronts_of-none a (suc i) xs parts.1)

-- lists with no place to cut in front
cut_one : (xs : Glyphs) (x : Glyph) → list_any is_universal_halant xs ≡ false
    → is_universal_halant x ≡ false → cut_after is_universal_halant (x ∷ xs) ≡ (x ∷ xs) ∷ []
cut_one [] x none h = rw h refl
cut_one (y ∷ ys) x none h =
    let parts : (is_universal_halant y ≡ false) × (list_any is_universal_halant ys ≡ false) =
    or_parts (is_universal_halant y) (list_any is_universal_halant ys) none in
    rw h (ap (onto_first x) (cut_one ys y parts.1 parts.0))

cut_behind : (xs ys : Glyphs) (y : Glyph) → list_any is_universal_halant xs ≡ false
    → is_universal_halant y ≡ true → cut_after is_universal_halant (xs ++ y ∷ ys) ≡ (xs ++ y ∷ [])
    ∷ cut_after is_universal_halant ys
cut_behind [] ys y none h = rw h refl
cut_behind (x ∷ xs) ys y none h =
    let parts : (is_universal_halant x ≡ false) × (list_any is_universal_halant xs ≡ false) =
    or_parts (is_universal_halant x) (list_any is_universal_halant xs) none in
    rw parts.0 (ap (onto_first x) (cut_behind xs ys y parts.1 h))

one_test : (g : Glyph) → is_universal_halant g ≡ true → goes_front g ≡ false
one_test g h = grind (arith, nat_tests, h)

abbrev merges_along : ℕ → ℕ → Glyphs → List (ℕ × ℕ)
merges_along n a gs = all_first (steps_along n a (piece_steps (cut_after is_universal_halant gs)))

merges_one : (n a : ℕ) (piece : Glyphs) (ps : List Glyphs)
    → all_first (steps_along n a (piece_steps (piece ∷ ps))) ≡ fronts_of a a piece
    ++ all_first (steps_along n (a + length piece) (piece_steps ps))
merges_one n a piece ps =
    ap (λ xs. xs ++ all_first (steps_along n (a + length piece) (piece_steps ps))) (piece_fronts a piece)

fronts_pieces : (n a : ℕ) (xs ys : Glyphs) → list_any is_universal_halant xs ≡ false
    → merges_along n a (xs ++ ys) ≡ fronts_of a a xs ++ fronts_from a (a + length xs) ys
fronts_pieces n a [] [] none = refl
fronts_pieces n a (x ∷ xs) [] none =
    let parts : (is_universal_halant x ≡ false) × (list_any is_universal_halant xs ≡ false) =
    or_parts (is_universal_halant x) (list_any is_universal_halant xs) none in
    ap (merges_along n a) (append-nil (x ∷ xs))
    ∙ ap (λ ps. all_first (steps_along n a (piece_steps ps))) (cut_one xs x parts.1 parts.0)
    ∙ merges_one n a (x ∷ xs) []
fronts_pieces n a xs (y ∷ ys) none =
    let i = a + length xs in
    let xy = xs ++ y ∷ [] in
    let long : length (xs ++ y ∷ []) ≡ suc (length xs) = length-append xs (y ∷ []) ∙ omega arith in
    let next : a + length (xs ++ y ∷ []) ≡ suc (a + length xs) = omega arith in
    let none_here : suc (a + length xs) + 0 ≡ suc (a + length xs) = omega arith in
    let front : fronts_of a a (xs ++ y ∷ []) ≡ fronts_of a a xs
    ++ (if goes_front y then (a, suc (a + length xs)) ∷ [] else []) = fronts_of-append a a xs (y ∷ []) in
    elim (cases_Bool (is_universal_halant y)) [
      | inl halant ↦
          let fails = one_test y halant in
          ap (λ ps. all_first (steps_along n a (piece_steps ps))) (cut_behind xs ys y none halant)
          ∙ merges_one n a (xs ++ y ∷ []) (cut_after is_universal_halant ys)
          ∙ ap (λ k. fronts_of a a (xs ++ y ∷ []) ++ merges_along n k ys) next
          ∙ ap (λ ps. fronts_of a a (xs ++ y ∷ []) ++ ps) (fronts_pieces n (suc (a + length xs)) [] ys refl
          ∙ ap (λ k. fronts_from (suc (a + length xs)) k ys) none_here)
          ∙ ap (λ ps. ps ++ fronts_from (suc (a + length xs)) (suc (a + length xs)) ys) (front
          ∙ ap (λ b. fronts_of a a xs ++ (if b then (a, suc (a + length xs)) ∷ [] else [])) fails
          ∙ append-nil (fronts_of a a xs))
          ∙ ap (λ ps. fronts_of a a xs ++ ps)
          (sym (ap (λ b. if b then (a, suc (a + length xs)) ∷ fronts_from a (suc (a + length xs)) ys else
          fronts_from (if is_universal_halant y then suc (a + length xs) else a) (suc (a + length xs)) ys) fails
          ∙ ap (λ b. fronts_from (if b then suc (a + length xs) else a) (suc (a + length xs)) ys) halant))
      | inr other ↦
          let calm : list_any is_universal_halant (xs ++ y ∷ []) ≡ false =
          list_any-append is_universal_halant xs (y ∷ []) ∙ rw (none, other) refl in
          let rest : fronts_from a (suc (a + length xs)) ys
          ≡ fronts_from (if is_universal_halant y then suc (a + length xs) else a) (suc (a + length xs)) ys =
          sym (ap (λ b. fronts_from (if b then suc (a + length xs) else a) (suc (a + length xs)) ys) other) in
          ap (merges_along n a) (sym (append_assoc xs (y ∷ []) ys))
          ∙ fronts_pieces n a (xs ++ y ∷ []) ys calm
          ∙ ap (λ k. fronts_of a a (xs ++ y ∷ []) ++ fronts_from a k ys) next
          ∙ ap (λ ps. ps ++ fronts_from a (suc (a + length xs)) ys) front
          ∙ append_assoc (fronts_of a a xs) (if goes_front y then (a, suc (a + length xs)) ∷ [] else [])
          (fronts_from a (suc (a + length xs)) ys)
          ∙ ap (λ ps. fronts_of a a xs ++ ps)
          (elim (goes_front y) as (λ b. (if b then (a, suc (a + length xs)) ∷ [] else [])
          ++ fronts_from a (suc (a + length xs)) ys
          ≡ (if b then (a, suc (a + length xs)) ∷ fronts_from a (suc (a + length xs)) ys else fronts_from
          (if is_universal_halant y then suc (a + length xs) else a) (suc (a + length xs)) ys)) [
            | true ↦ refl
            | false ↦ rest
          ])
    ]

-- all that a syllable merges
pub all_merges : (s e behind : ℕ) (gs : Glyphs) → s ≤ e → e ≤ length gs
    → is_reordered_in_universal (stretch_of s e gs) ≡ true → behind ≡ s + leading_reph_len (stretch_of s e gs)
    → all_first (map (widened s e (length gs)) (universal_steps (stretch_of s e gs)))
    ≡ (s, behind) ∷ fronts_from s behind (stretch_of behind e gs)
all_merges s e behind gs h l kind is =
    let zs = stretch_of s e gs in
    let r = leading_reph_len zs in
    let run = first_last (take r zs) in
    let size = length-stretch s e gs l in
    let within : r ≤ e - s = omega (arith, leading_reph_len-within zs) in
    let calm = reph_calm zs in
    let rest : drop r zs ≡ stretch_of behind e gs = rest_of s e behind r gs is within in
    let long : s + length run ≡ behind =
    omega (arith, length-first_last (take r zs), length-take-le r zs (omega (arith, leading_reph_len-within zs))) in
    let none : s + 0 ≡ s = omega arith in
    ap all_first (steps_widened s e gs h l kind)
    ∙ ap (λ k. (k, s + r) ∷ merges_along (length gs) s (first_last (take r zs) ++ drop r zs)) none
    ∙ ap (λ k. (s, k) ∷ merges_along (length gs) s (first_last (take r zs) ++ drop r zs)) (sym is)
    ∙ ap (λ ps. (s, behind) ∷ ps)
    (fronts_pieces (length gs) s run (drop r zs) (first_last-any is_universal_halant (take r zs) calm.no_halant)
    ∙ ap (λ ps. ps ++ fronts_from s (s + length run) (drop r zs))
    (fronts_of-none s s run (first_last-any goes_front (take r zs) calm.no_front))
    ∙ ap (λ k. fronts_from s k (drop r zs)) long
    ∙ ap (fronts_from s behind) rest)

-- one glyph of the walk: it goes to the front, ends its piece, or stays
pub fronts_next : (start i e : ℕ) (gs : Glyphs) → i < e → e ≤ length gs
    → fronts_from start i (stretch_of i e gs)
    ≡ (if goes_front (at gs i) then (start, suc i) ∷ fronts_from start (suc i) (stretch_of (suc i) e gs) else
    fronts_from (if is_universal_halant (at gs i) then suc i else start) (suc i) (stretch_of (suc i) e gs))
fronts_next start i e gs h l = ap (fronts_from start i) (stretch_more i e gs h l)

pub fronts_end : (start i e : ℕ) (gs : Glyphs) → e ≤ i → fronts_from start i (stretch_of i e gs) ≡ []
fronts_end start i e gs h = let m : e - i ≡ 0 = omega arith in ap (λ k. fronts_from start i (take k (drop i gs))) m

-- what is read where only merges were made
pub seen_at : (t : Glyph → Bool) → ((g : Glyph) → t (plain g) ≡ t g)
    → (i : ℕ) (gs hs : Glyphs) → i < length gs → order_view hs ≡ order_view gs → t (at hs i) ≡ t (at gs i)
seen_at t blind i gs hs l same =
    let long : length hs ≡ length gs = sym (length-map hs plain) ∙ ap length same ∙ length-map gs plain in
    sym (blind (at hs i))
    ∙ ap t (sym (get_or-map plain hs i default_glyph (plain default_glyph) (omega arith)))
    ∙ ap (λ xs. t (get_or xs i (plain default_glyph))) same
    ∙ ap t (get_or-map plain gs i default_glyph (plain default_glyph) l)
    ∙ blind (at gs i)

-- The walk that merges, on its way: what is left to merge makes of the glyphs, with a run that isn't written yet, what
-- they become.
pub record Merging (s behind e start i : ℕ) (run : ClusterRange) (b0 b : Buffer) : Type 0 where
  pub others : b ≡ record b0 { glyphs = b.glyphs }
  pub left : merge_all b0.level (fronts_from start i (stretch_of i e b0.glyphs)) (with_range run b.glyphs)
      ≡ merge_all b0.level (fronts_from s behind (stretch_of behind e b0.glyphs)) b0.glyphs
  pub view : order_view b.glyphs ≡ order_view b0.glyphs
  pub as_long : length b.glyphs ≡ length b0.glyphs
  pub started : start ≤ i
  pub fits : RangeFits run b.glyphs

pub merging_starts : (s behind e : ℕ) (b : Buffer) → s ≤ behind
    → Merging s behind e s behind (record { start = 0; end = 0; cluster = 0 }) b b
merging_starts s behind e b h =
    record {
      others = refl;
      left = refl;
      view = refl;
      as_long = refl;
      started = h;
      fits =
          record { in_order = omega arith; in_range = omega arith; least = refl };
    }

next_is : (i : ℕ) → suc i ≡ i + 1
next_is i = omega arith

pub merging_front : (s behind e start i : ℕ) (run next : ClusterRange) (b0 b b1 : Buffer) → i < e → e ≤ length b0.glyphs
    → Merging s behind e start i run b0 b → goes_front (at b.glyphs i) ≡ true → b1 ≡ record b { glyphs = b1.glyphs }
    → with_range next b1.glyphs ≡ merge b.level start (i + 1) (with_range run b.glyphs) → RangeFits next b1.glyphs
    → length b1.glyphs ≡ length b.glyphs → Merging s behind e start (i + 1) next b0 b1
merging_front s behind e start i run next b0 b b1 h l m passes others merged fits long =
    let gs = b0.glyphs in
    let level : b.level ≡ b0.level = ap (λ (x : Buffer). x.level) m.others in
    let there : goes_front (at gs i) ≡ true = sym (seen_at goes_front (λ g. refl) i gs b.glyphs (omega arith) m.view)
    ∙ passes in
    let here : fronts_from start i (stretch_of i e gs) ≡ (start, i + 1)
    ∷ fronts_from start (i + 1) (stretch_of (i + 1) e gs) =
    fronts_next start i e gs h l
    ∙ ap (λ c. if c then (start, suc i) ∷ fronts_from start (suc i) (stretch_of (suc i) e gs) else fronts_from
    (if is_universal_halant (at gs i) then suc i else start) (suc i) (stretch_of (suc i) e gs)) there
    ∙ ap (λ k. (start, k) ∷ fronts_from start k (stretch_of k e gs)) (next_is i) in
    record {
      others = others ∙ ap (λ (x : Buffer). let y : Buffer = record x { glyphs = b1.glyphs } in y) m.others;
      left = ap (merge_all b0.level (fronts_from start (i + 1) (stretch_of (i + 1) e gs))) (merged
          ∙ ap (λ v. merge v start (i + 1) (with_range run b.glyphs)) level)
          ∙ ap (λ sts. merge_all b0.level sts (with_range run b.glyphs)) (sym here) ∙ m.left;
      view = sym (order_view-with_range next b1.glyphs fits.in_order) ∙ ap order_view merged
          ∙ order_view-merge b.level start (i + 1) (with_range run b.glyphs)
          ∙ order_view-with_range run b.glyphs m.fits.in_order ∙ m.view;
      as_long = long ∙ m.as_long;
      started = omega (arith, m.started);
      fits = fits;
    }

pub merging_halant : (s behind e start i : ℕ) (run : ClusterRange) (b0 b b1 : Buffer) → i < e → e ≤ length b0.glyphs
    → Merging s behind e start i run b0 b → goes_front (at b.glyphs i) ≡ false → is_universal_halant (at b.glyphs i)
    ≡ true → b1 ≡ b → Merging s behind e (i + 1) (i + 1) run b0 b1
merging_halant s behind e start i run b0 b b1 h l m fails ends same =
    let gs = b0.glyphs in
    let here : goes_front (at gs i) ≡ false = sym (seen_at goes_front (λ g. refl) i gs b.glyphs (omega arith) m.view)
    ∙ fails in
    let there : is_universal_halant (at gs i) ≡ true =
    sym (seen_at is_universal_halant (λ g. refl) i gs b.glyphs (omega arith) m.view) ∙ ends in
    let on : fronts_from start i (stretch_of i e gs) ≡ fronts_from (i + 1) (i + 1) (stretch_of (i + 1) e gs) =
    fronts_next start i e gs h l
    ∙ ap (λ c. if c then (start, suc i) ∷ fronts_from start (suc i) (stretch_of (suc i) e gs) else fronts_from
    (if is_universal_halant (at gs i) then suc i else start) (suc i) (stretch_of (suc i) e gs)) here
    ∙ ap (λ c. fronts_from (if c then suc i else start) (suc i) (stretch_of (suc i) e gs)) there
    ∙ ap (λ k. fronts_from k k (stretch_of k e gs)) (next_is i) in
    subst (Merging s behind e (i + 1) (i + 1) run b0) (sym same) (record {
      others = m.others;
      left = ap (λ sts. merge_all b0.level sts (with_range run b.glyphs)) (sym on) ∙ m.left;
      view = m.view;
      as_long = m.as_long;
      started = omega arith;
      fits = m.fits;
    })

pub merging_rest : (s behind e start i : ℕ) (run : ClusterRange) (b0 b b1 : Buffer) → i < e → e ≤ length b0.glyphs
    → Merging s behind e start i run b0 b → goes_front (at b.glyphs i) ≡ false → is_universal_halant (at b.glyphs i)
    ≡ false → b1 ≡ b → Merging s behind e start (i + 1) run b0 b1
merging_rest s behind e start i run b0 b b1 h l m fails goes same =
    let gs = b0.glyphs in
    let here : goes_front (at gs i) ≡ false = sym (seen_at goes_front (λ g. refl) i gs b.glyphs (omega arith) m.view)
    ∙ fails in
    let there : is_universal_halant (at gs i) ≡ false =
    sym (seen_at is_universal_halant (λ g. refl) i gs b.glyphs (omega arith) m.view) ∙ goes in
    let on : fronts_from start i (stretch_of i e gs) ≡ fronts_from start (i + 1) (stretch_of (i + 1) e gs) =
    fronts_next start i e gs h l
    ∙ ap (λ c. if c then (start, suc i) ∷ fronts_from start (suc i) (stretch_of (suc i) e gs) else fronts_from
    (if is_universal_halant (at gs i) then suc i else start) (suc i) (stretch_of (suc i) e gs)) here
    ∙ ap (λ c. fronts_from (if c then suc i else start) (suc i) (stretch_of (suc i) e gs)) there
    ∙ ap (λ k. fronts_from start k (stretch_of k e gs)) (next_is i) in
    subst (Merging s behind e start (i + 1) run b0) (sym same) (record {
      others = m.others;
      left = ap (λ sts. merge_all b0.level sts (with_range run b.glyphs)) (sym on) ∙ m.left;
      view = m.view;
      as_long = m.as_long;
      started = omega (arith, m.started);
      fits = m.fits;
    })

pub merging_ends : (s behind e start i : ℕ) (run : ClusterRange) (b0 b b1 : Buffer) → e ≤ i
    → Merging s behind e start i run b0 b → b1 ≡ record b { glyphs = with_range run b.glyphs }
    → b1 ≡ record b0 { glyphs = merge_all b0.level (fronts_from s behind (stretch_of behind e b0.glyphs)) b0.glyphs }
merging_ends s behind e start i run b0 b b1 h m is =
    is ∙ ap (λ (x : Buffer). let y : Buffer = record x { glyphs = with_range run b.glyphs } in y) m.others
    ∙ ap (λ xs. let y : Buffer = record b0 { glyphs = xs } in y)
    (ap (λ sts. merge_all b0.level sts (with_range run b.glyphs)) (sym (fronts_end start i e b0.glyphs h)) ∙ m.left)

-- what looks the same merges the same, and where nothing goes to the front nothing does
pub fronts_from-view : (a i : ℕ) (gs : Glyphs) → fronts_from a i (order_view gs) ≡ fronts_from a i gs
fronts_from-view a i [] = refl
fronts_from-view a i (g ∷ gs) =
    ap (λ sts. if goes_front g then (a, suc i) ∷ sts else fronts_from (if is_universal_halant g then suc i else a)
    (suc i) (order_view gs)) (fronts_from-view a (suc i) gs)
    ∙ ap (λ sts. if goes_front g then (a, suc i) ∷ fronts_from a (suc i) gs else sts)
    (fronts_from-view (if is_universal_halant g then suc i else a) (suc i) gs)

pub fronts_from-none : (a i : ℕ) (gs : Glyphs) → list_any goes_front gs ≡ false → fronts_from a i gs ≡ []
fronts_from-none a i [] h = refl
fronts_from-none a i (g ∷ gs) h =
    let parts : (goes_front g ≡ false) × (list_any goes_front gs ≡ false) =
    or_parts (goes_front g) (list_any goes_front gs) h in
    rw parts.0 (fronts_from-none (if is_universal_halant g then suc i else a) (suc i) gs parts.1)
