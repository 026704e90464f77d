-- A syllable in which one glyph alone goes to the front: its places in order.
use Rattle.std.proofs.lemmas.Bool.Decides.{nat_tests}
use Rattle.std.proofs.Common.{◌≡◌, ℕ, zero, suc, ◌+◌, ◌-◌, ◌<◌, ◌≤◌, inl, inr, Bool, true, false, if◌then◌else◌, List, [], ◌∷◌, ◌++◌, map, length, take, drop, get_or, refl, ap, sym, ◌∙◌, arith, append_assoc, Some}
use Rattle.std.specs.List.{flat_map, list_any, range_with_len, slice_rotate_right}
use Rattle.std.proofs.lemmas.Bool.{cases_Bool, or_parts}
use Rattle.std.proofs.lemmas.List.{append-nil, drop-drop, drop-take, map-append, take-append-drop, take-take}
use Rattle.std.proofs.lemmas.List.Folds.{list_any-append}
use Rattle.shapers_buffer.specs.Glyphs.{Glyph, Glyphs}
use Rattle.shapers_buffer.specs.Buffer.{Buffer, but_places}
use Rattle.shapers_buffer.specs.Clusters.{merge, merge_all, stretch_of, with_stretch}
use Rattle.shapers_buffer.specs.Lists.{cut_after}
use Rattle.shapers_buffer.specs.Places.{pick}
use Rattle.shapers_buffer.proofs.ClusterLemmas.{length-stretch}
use Rattle.shapers_clusters.proofs.Merging.{length-merge}
use Rattle.shapers_clusters.proofs.Picks.{pick-append, pick-range}
use Rattle.shapers_clusters.proofs.Widened.{stretch-rest}
use Rattle.shapers_syllabic.specs.Reordering.{SyllableReordered}
use Rattle.shapers_universal.specs.Universal.{goes_front, goes_front_at, is_universal_halant, is_reordered_in_universal, reversed_first, universal_order, universal_steps}
use Rattle.shapers_universal.specs.UniversalWalk.{MergesFirst, fronts_from, has_universal_reph, is_halant_at, last_place_first, syllable_places_in_order, start_from}
use Rattle.shapers_universal.specs.Proved.Reordered.{merge_nothing, no_reph, still_pieces, syllable_ran, syllable_reordered}
use Rattle.shapers_universal.specs.Proved.UniversalFronts.{fronts_next}
use Rattle.shapers_syllabic.proofs.NonePass.{filter-none, filter_not-none}
use Rattle.shapers_universal.specs.Proved.UniversalLists.{cut_after-concat, reversed_first-no, reversed_first-yes}
use Rattle.shapers_universal.specs.Proved.UniversalPlaces.{at, goes_front_is, halant_at, labels_any, nothing_behind, stretch_at}
use Rattle.shapers_clusters.proofs.Halves.{ranges-join}

-- a piece with no place to cut but its end
cut_none : {X : Type 0} (cut : X → Bool) (xs : List X) (x : X) → list_any cut xs ≡ false → cut x ≡ false
    → cut_after cut (xs ++ x ∷ []) ≡ (xs ++ x ∷ []) ∷ []
cut_none cut [] x none h = rw h refl
cut_none cut (y ∷ ys) x none h = search (arith, cut_none cut ys x (or_parts (cut y) (list_any cut ys) none).1 h)

cut_there : {X : Type 0} (cut : X → Bool) (xs ys : List X) (y : X) → list_any cut xs ≡ false → cut y ≡ true
    → cut_after cut (xs ++ y ∷ ys) ≡ (xs ++ y ∷ []) ∷ cut_after cut ys
cut_there cut [] ys y none h = rw h refl
cut_there cut (x ∷ xs) ys y none h =
    search (arith, cut_there cut xs ys y (or_parts (cut x) (list_any cut xs) none).1 h)

-- the order of what is cut
abbrev in_order : {X : Type 0} → (X → Bool) → (X → Bool) → List X → List X
in_order cut t xs = flat_map (reversed_first t) (cut_after cut xs)

none_first : {X : Type 0} (t : X → Bool) (xs : List X) → list_any t xs ≡ false → reversed_first t xs ≡ xs
none_first t xs none = search (filter-none, filter_not-none)

-- behind a piece whose last may go to the front nothing does
in_order-last : {X : Type 0} (cut t : X → Bool) (xs : List X) (x : X) (ys : List X) → list_any cut xs ≡ false
    → cut x ≡ false → list_any t ys ≡ false → in_order cut t ((xs ++ x ∷ []) ++ ys) ≡ reversed_first t (xs ++ x ∷ [])
    ++ ys
in_order-last cut t xs x [] none h still = search (append-nil, cut_none)
in_order-last cut t xs x (y ∷ ys) none h still =
    let parts : (t y ≡ false) × (list_any t ys ≡ false) = search arith in
    let calm : list_any cut (xs ++ x ∷ []) ≡ false = search (arith, list_any-append) in
    elim (cases_Bool (cut y)) [
      | inl holds ↦
          search (arith, cut_there, reversed_first-no, still_pieces, cut_after-concat, append_assoc)
      | inr fails ↦
          search (arith, append_assoc, reversed_first-no, in_order-last cut t (xs ++ x ∷ []) y ys calm fails parts.1)
    ]

in_order-cut : {X : Type 0} (cut t : X → Bool) (xs ys : List X) (y : X) → list_any cut xs ≡ false
    → list_any t xs ≡ false → cut y ≡ true → t y ≡ false → in_order cut t (xs ++ y ∷ ys) ≡ (xs ++ y ∷ [])
    ++ in_order cut t ys
in_order-cut cut t xs ys y none = search (arith, cut_there, none_first, list_any-append)

-- nothing merges where nothing goes to the front
pub none_from : (a i : ℕ) (gs : Glyphs) → fronts_from a i gs ≡ [] → list_any goes_front gs ≡ false
none_from a i [] h = refl
none_from a i (g ∷ gs) h = elim (cases_Bool (goes_front g)) [
  | inl holds ↦
      let some : (let k : ℕ = length ((a, suc i) ∷ fronts_from a (suc i) gs) in k) ≡ 0 =
      ap (λ b. length
      (if b then (a, suc i)
      ∷ fronts_from a (suc i) gs else fronts_from (if is_universal_halant g then suc i else a) (suc i) gs))
      (sym holds) ∙ ap length h in
      absurd (omega arith)
  | inr fails ↦
      let on : fronts_from (if is_universal_halant g then suc i else a) (suc i) gs ≡ [] =
      ap (λ b. if b then (a, suc i)
      ∷ fronts_from a (suc i) gs else fronts_from (if is_universal_halant g then suc i else a) (suc i) gs)
      (sym fails) ∙ h in
      rw fails (none_from (if is_universal_halant g then suc i else a) (suc i) gs on)
]

-- What one merge alone says: from `st` to `e` one glyph goes to the front, that before z, of the
-- piece that starts at a.
pub record OneFront (gs : Glyphs) (st e a z : ℕ) : Type 0 where
  pub order : in_order (is_halant_at gs) (goes_front_at gs) (range_with_len st (e - st)) ≡ range_with_len st (a - st)
      ++ (((z - 1) ∷ range_with_len a (z - 1 - a)) ++ range_with_len z (e - z))
  pub from : st ≤ a
  pub some : a < z
  pub within : z ≤ e

range_on : (st i : ℕ) → st ≤ i → range_with_len st (i + 1 - st) ≡ range_with_len st (i - st) ++ i ∷ []
range_on st i h = sym (ranges-join st i (i - st) 1 (i + 1 - st) (omega arith) (omega arith))

halt : (g : Glyph) → goes_front g ≡ true → is_universal_halant g ≡ false
halt g h = grind (arith, nat_tests, h)

pub one_front : (gs : Glyphs) (n i st e a z : ℕ) → st ≤ i → i + n ≡ e
    → list_any (is_halant_at gs) (range_with_len st (i - st)) ≡ false
    → list_any (goes_front_at gs) (range_with_len st (i - st)) ≡ false
    → fronts_from st i (map (at gs) (range_with_len i n)) ≡ (a, z) ∷ [] → OneFront gs st e a z
one_front gs zero i st e a z h up calm still is = let none : zero ≡ suc zero =
    ap (λ (ps : List (ℕ × ℕ)). length ps) is in absurd (omega arith)
one_front gs (suc n) i st e a z h up calm still is =
    let H = is_halant_at gs in
    let T = goes_front_at gs in
    let pre = range_with_len st (i - st) in
    let ys = range_with_len (i + 1) n in
    let zs = map (at gs) ys in
    let next : suc i ≡ i + 1 = omega arith in
    let on : i + 1 - st ≡ i + 1 - st = refl in
    let whole : range_with_len st (e - st) ≡ pre ++ i ∷ ys = sym (ranges-join st i (i - st) (e - i) (e - st)
    (omega (arith, h)) (omega (arith, h, up)))
    ∙ (let m : e - i ≡ suc n = omega arith in ap (λ k. pre ++ range_with_len i k) m) in
    elim (cases_Bool (goes_front (at gs i))) [
      | inl front ↦
          let here : (st, suc i) ∷ fronts_from st (suc i) zs ≡ (a, z) ∷ [] =
          ap (λ b. if b then (st, suc i)
          ∷ fronts_from st (suc i) zs else fronts_from (if is_universal_halant (at gs i) then suc i else st)
          (suc i) zs) (sym front) ∙ is in
          let start : st ≡ a = ap (λ (ps : List (ℕ × ℕ)). (get_or ps 0 (0, 0)).0) here in
          let place : suc i ≡ z = ap (λ (ps : List (ℕ × ℕ)). (get_or ps 0 (0, 0)).1) here in
          let rest : fronts_from st (suc i) zs ≡ [] = ap (drop 1) here in
          let behind : list_any T ys ≡ false = labels_any goes_front T gs (goes_front_is gs) ys
          ∙ none_from st (suc i) zs rest in
          let m : a - st ≡ 0 = omega arith in
          let last : z - 1 ≡ i = omega arith in
          let long : z - 1 - a ≡ i - st = omega arith in
          let more : e - z ≡ n = omega arith in
          let from : z ≡ i + 1 = omega arith in
          record {
            order = ap (in_order H T) (whole ∙ sym (append_assoc pre (i ∷ []) ys))
                ∙ in_order-last H T pre i ys calm (halant_at gs i ∙ halt (at gs i) front) behind
                ∙ ap (λ xs. xs ++ ys) (reversed_first-yes T pre i (goes_front_is gs i ∙ front)
                ∙ ap (λ xs. i ∷ xs) (none_first T pre still))
                ∙ sym (ap (λ k. range_with_len st k
                ++ (((z - 1) ∷ range_with_len a (z - 1 - a)) ++ range_with_len z (e - z))) m
                ∙ ap (λ k. (k ∷ range_with_len a (z - 1 - a)) ++ range_with_len z (e - z)) last
                ∙ ap (λ k. (i ∷ range_with_len a k) ++ range_with_len z (e - z)) long
                ∙ ap (λ k. (i ∷ range_with_len k (i - st)) ++ range_with_len z (e - z)) (sym start)
                ∙ ap (λ k. (i ∷ pre) ++ range_with_len z k) more
                ∙ ap (λ k. (i ∷ pre) ++ range_with_len k n) from);
            from = omega (arith, start);
            some = omega (arith, start, place, h);
            within = omega (arith, place, up);
          }
      | inr other ↦
          let here : fronts_from (if is_universal_halant (at gs i) then suc i else st) (suc i) zs ≡ (a, z) ∷ [] =
          ap (λ b. if b then (st, suc i)
          ∷ fronts_from st (suc i) zs else fronts_from (if is_universal_halant (at gs i) then suc i else st)
          (suc i) zs) (sym other) ∙ is in
          let stays : T i ≡ false = goes_front_is gs i ∙ other in
          elim (cases_Bool (is_universal_halant (at gs i))) [
            | inl ends ↦
                let there : fronts_from (i + 1) (i + 1) zs ≡ (a, z) ∷ [] = ap (λ k. fronts_from k k zs) (sym next)
                ∙ ap (λ b. fronts_from (if b then suc i else st) (suc i) zs) (sym ends) ∙ here in
                let none : i + 1 - (i + 1) ≡ 0 = omega arith in
                let one = one_front gs n (i + 1) (i + 1) e a z (omega arith) (omega (arith, up))
                (ap (λ k. list_any H (range_with_len (i + 1) k)) none)
                (ap (λ k. list_any T (range_with_len (i + 1) k)) none) there in
                let left : e - (i + 1) ≡ n = omega (arith, up) in
                let tail = ((z - 1) ∷ range_with_len a (z - 1 - a)) ++ range_with_len z (e - z) in
                record {
                  order = ap (in_order H T) whole
                      ∙ in_order-cut H T pre ys i calm still (halant_at gs i ∙ ends) stays
                      ∙ ap (λ k. (pre ++ i ∷ []) ++ in_order H T (range_with_len (i + 1) k)) (sym left)
                      ∙ ap (λ xs. (pre ++ i ∷ []) ++ xs) one.order
                      ∙ ap (λ xs. xs ++ (range_with_len (i + 1) (a - (i + 1)) ++ tail)) (sym (range_on st i h))
                      ∙ sym (append_assoc (range_with_len st (i + 1 - st)) (range_with_len (i + 1) (a - (i + 1))) tail)
                      ∙ ap (λ xs. xs ++ tail) (ranges-join st (i + 1) (i + 1 - st) (a - (i + 1)) (a - st) (omega (arith, h))
                      (omega (arith, h, one.from)));
                  from = omega (arith, h, one.from);
                  some = one.some;
                  within = one.within;
                }
            | inr goes ↦
                let there : fronts_from st (i + 1) zs ≡ (a, z) ∷ [] = ap (λ k. fronts_from st k zs) (sym next)
                ∙ ap (λ b. fronts_from (if b then suc i else st) (suc i) zs) (sym goes) ∙ here in
                one_front gs n (i + 1) st e a z (omega (arith, h)) (omega (arith, up))
                (ap (list_any H) (range_on st i h) ∙ list_any-append H pre (i ∷ [])
                ∙ rw (calm, halant_at gs i, goes) refl)
                (ap (list_any T) (range_on st i h) ∙ list_any-append T pre (i ∷ []) ∙ rw (still, stays) refl)
                there
          ]
    ]

-- a move inside the syllable is all that is written
take_on : {X : Type 0} (s a : ℕ) (xs : List X) → s ≤ a → take s xs ++ stretch_of s a xs ≡ take a xs
take_on s a xs h =
    ap (λ ys. ys ++ stretch_of s a xs) (sym (take-take s a xs h))
    ∙ ap (λ ys. take s (take a xs) ++ ys) (sym (drop-take s (a - s) xs) ∙ ap (λ k. drop s (take k xs)) (omega arith))
    ∙ take-append-drop s (take a xs)

one_written : (s e a z : ℕ) (gs ms : Glyphs) → e ≤ length ms → OneFront gs s e a z
    → with_stretch s e (λ _. pick (syllable_places_in_order s s e gs) ms) ms
    ≡ with_stretch a z (λ _. pick (last_place_first a z) ms) ms
one_written s e a z gs ms l one =
    let from = one.from in
    let within = one.within in
    let moved = last_place_first a z in
    let last = range_with_len z (e - z) in
    cc (nothing_behind s e, pick-append (range_with_len s (a - s)) (moved ++ last) ms, pick-append moved last ms, pick-range s (a - s) ms (omega (arith, l, from, one.some, within)), pick-range z (e - z) ms (omega (arith, l, within)), append_assoc (stretch_of s a ms) (pick moved ms ++ stretch_of z e ms) (drop e ms), append_assoc (take s ms) (stretch_of s a ms) ((pick moved ms ++ stretch_of z e ms) ++ drop e ms), take_on s a ms from, append_assoc (pick moved ms) (stretch_of z e ms) (drop e ms), stretch-rest z e ms within)

-- a syllable that is written so is reordered
pub one_reordered : (s e a z : ℕ) (b0 b1 : Buffer) → s ≤ e → e ≤ length b0.glyphs
    → is_reordered_in_universal (stretch_of s e b0.glyphs) ≡ true → has_universal_reph (stretch_of s e b0.glyphs)
    ≡ false → fronts_from s s (stretch_of s e b0.glyphs) ≡ (a, z) ∷ []
    → b1 ≡ record b0 {
      glyphs = (let ms = merge b0.level a z b0.glyphs in with_stretch a z (λ _. pick (last_place_first a z) ms) ms);
      places = b1.places;
    } → SyllableReordered universal_order universal_steps s e b0 b1
one_reordered s e a z b0 b1 h l kind reph is done =
    let gs = b0.glyphs in
    let zs = stretch_of s e gs in
    let ms = merge b0.level a z gs in
    let none : s - s ≡ 0 = omega arith in
    let one = one_front gs (e - s) s s e a z (omega arith) (omega arith) (cc) (cc) (cc (stretch_at s e gs l)) in
    let merges : (merge_all b0.level (fronts_from s s zs) (merge b0.level s s gs)) ≡ ms =
    ap (λ sts. merge_all b0.level sts (merge b0.level s s gs)) is
    ∙ ap (merge b0.level a z) (merge_nothing b0.level s gs) in
    let glyphs =
    ap (λ (x : Buffer). x.glyphs) done in
    syllable_reordered s e b0 b1 h l
    (ap but_places done ∙ ap (λ xs. (record (but_places b0) { glyphs = xs })) (sym glyphs)) (glyphs ∙ sym
    (one_written s e a z gs ms (omega (arith, length-merge b0.level a z gs (omega arith))) one)
    ∙ ap (λ xs. with_stretch s e (λ _. pick (syllable_places_in_order s s e gs) xs) xs) (sym merges)
    ∙ sym (syllable_ran b0.level s e s gs h l kind (omega (arith, no_reph zs reph))))

-- where pieces start, one glyph on
start_push : (st i : ℕ) (gs : Glyphs) (g : Glyph) → start_from st i (gs ++ g ∷ [])
    ≡ (if is_universal_halant g then suc (i + length gs) else start_from st i gs)
start_push st i [] g = search arith
start_push st i (x ∷ xs) g = search (arith, start_push (if is_universal_halant x then suc i else st) (suc i) xs g)

pub start_on : (s i : ℕ) (gs : Glyphs) → s ≤ i → i < length gs → start_from s s (stretch_of s (i + 1) gs)
    ≡ (if is_universal_halant (at gs i) then i + 1 else start_from s s (stretch_of s i gs))
start_on = search (arith, stretch_at, range_on, map-append, start_push, length-stretch)

-- the look for the first
pub seen_first : (s i e a : ℕ) (gs : Glyphs) → i < e → e ≤ length gs → goes_front (at gs i) ≡ true
    → a ≡ start_from s s (stretch_of s i gs) → fronts_from s s (stretch_of s e gs)
    ≡ fronts_from (start_from s s (stretch_of s i gs)) i (stretch_of i e gs) → MergesFirst s e gs (Some (a, i + 1))
seen_first s i e a gs m l goes is so = let next : suc i ≡ i + 1 = omega arith in search (arith, fronts_next)

-- the merge and the move
pub turned_is : (s e : ℕ) (xs : Glyphs) → s < e → e ≤ length xs
    → with_stretch s e (λ ys. slice_rotate_right ys 1) xs ≡ with_stretch s e (λ _. pick (last_place_first s e) xs) xs
turned_is s e xs h l =
    let ys = stretch_of s e xs in
    let k = e - 1 - s in
    let size : length ys - 1 ≡ k = omega (arith, length-stretch s e xs l) in
    let up : e - s ≡ k + 1 = omega arith in
    let to : s + k ≡ e - 1 = omega arith in
    let front : take k ys ≡ take k (drop s xs) = take-take k (e - s) (drop s xs) (omega arith) in
    let last : drop k ys ≡ take 1 (drop (e - 1) xs) = ap (λ n. drop k (take n (drop s xs))) up
    ∙ drop-take k 1 (drop s xs) ∙ ap (take 1) (drop-drop k s xs ∙ ap (λ n. drop n xs) to) in
    let turned : slice_rotate_right ys 1 ≡ take 1 (drop (e - 1) xs) ++ take k (drop s xs) =
    ap (λ n. drop n ys ++ take n ys) size ∙ ap (λ zs. zs ++ take k ys) last
    ∙ ap (λ zs. take 1 (drop (e - 1) xs) ++ zs) front in
    let picked : pick (last_place_first s e) xs ≡ take 1 (drop (e - 1) xs) ++ take k (drop s xs) =
    pick-append (range_with_len (e - 1) 1) (range_with_len s k) xs
    ∙ ap (λ zs. zs ++ pick (range_with_len s k) xs) (pick-range (e - 1) 1 xs (omega arith))
    ∙ ap (λ zs. take 1 (drop (e - 1) xs) ++ zs) (pick-range s k xs (omega arith)) in
    ap (λ zs. take s xs ++ (zs ++ drop e xs)) (turned ∙ sym picked)

pub start_back : (s k : ℕ) (gs : Glyphs) → s + 1 < k → k ≤ length gs + 1 → start_from s s (stretch_of s (k - 1) gs)
    ≡ (if is_universal_halant (at gs (k - 1 - 1)) then k - 1 else start_from s s (stretch_of s (k - 1 - 1) gs))
start_back = search (arith, start_on)
