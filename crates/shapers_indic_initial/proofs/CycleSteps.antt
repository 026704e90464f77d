-- The walk along one cycle, place by place.
use Rattle.std.proofs.Common.{◌≡◌, ◌≢◌, ℕ, suc, ◌+◌, ◌-◌, ◌<◌, ◌≤◌, max, min, List, [], ◌∷◌, length, get_or, set, refl, sym, ap, ◌∙◌, subst, arith, length-set, get_or-set_same, get_or-set_other, Bool, true, false, ◌||◌, nat_lt}
use Rattle.std.specs.Prelude.{swap}
use Rattle.std.specs.List.{fold, range_with_len}
use Rattle.std.proofs.lemmas.List.{ext_get_or, get_or-map, length-map}
use Rattle.std.proofs.lemmas.List.FromFn.{get_or-range_with_len, length-range_with_len, length-map-range_with_len, get_or-map-range_with_len}
use Rattle.shapers_buffer.specs.Buffer.{Buffer}
use Rattle.std.specs.List.Sorted.{IsPermutation}
use Rattle.std.proofs.lemmas.List.Sorted.{IsPermutation-keeps, IsPermutation-map}
use Rattle.shapers_buffer.specs.Clusters.{merge, merge_all}
use Rattle.shapers_clusters.specs.Steps.{shifted}
use Rattle.shapers_clusters.proofs.Merging.{length-merge}
use Rattle.shapers_buffer.specs.Places.{ListsEachOnce, place_at, with_place}
use Rattle.shapers_buffer.proofs.PlaceLaws.{places_are_written}
use Rattle.shapers_indic_initial.specs.CycleWalk.{EachOnce, places_from, with_spent}
use Rattle.shapers_indic_initial.specs.InitialOrder.{cycle, cycle_stretch, cycle_stretches, stretches_by, way_to}
use Rattle.shapers_indic_initial.proofs.CycleMerges.{merges_left_from, left_spent, left_staying, once-spent, own_next, stretch_bounds}
use Rattle.shapers_indic_initial.proofs.Cycles.{once-swap, swap_at, turned_first, turned_other, turned_second, way_next, way_spent}

-- the placement list from s to e: how long it is, what it says, what a write makes of it
pub length-places_from : (s e : ℕ) (places : List ℕ) → length (places_from s e places) ≡ e - s
length-places_from s e places = length-map _ _ ∙ length-map-range_with_len _ s (e - s)

pub places_from_at : (s e : ℕ) (places : List ℕ) (i : ℕ) → i < e - s → get_or (places_from s e places) i 0
    ≡ place_at places (s + i) - s
places_from_at s e places i h =
    let n = length-map-range_with_len (place_at places) s (e - s) in
    get_or-map _ _ i 0 0 (omega arith) ∙ ap (λ p. p - s) (get_or-map-range_with_len _ s (e - s) i (s + i) 0 h refl)

pub places_from_written : (s e : ℕ) (places : List ℕ) (i v : ℕ) → i < e - s
    → places_from s e (with_place (s + i) (s + v) places) ≡ set (places_from s e places) i v
places_from_written s e places i v h =
    let n = length-places_from s e places in
    let m = length-places_from s e _ in
    ext_get_or 0 (places_from s e _) _ (m ∙ sym (length-set (places_from s e places) i v ∙ n)) (λ k l.
    search (arith, places_from_at, places_are_written, get_or-set_same, get_or-set_other))

-- A walk along the cycle of p in f on its way: q is the next place of it, `now` the list so far;
-- with q for what p has, it has each
-- place once; what is left is the way from q on.
pub record Passing (f : List ℕ) (p : ℕ) (now : List ℕ) (q m least greatest : ℕ) : Type 0 where
  pub inside : p < length f
  pub long : length now ≡ length f
  pub once : EachOnce (set now p q)
  pub next_inside : q < length f
  pub spent : with_spent now (way_to (set now p q) p m q) ≡ with_spent f (cycle f p)
  pub least_left : fold min least (way_to (set now p q) p m q) ≡ fold min p (cycle f p)
  pub greatest_left : fold max greatest (way_to (set now p q) p m q) ≡ fold max p (cycle f p)

pub passing_start : (f : List ℕ) (p : ℕ) → p < length f → EachOnce f
    → Passing f p (set f p p) (get_or f p 0) (length f) p p
passing_start f p h o = search (arith, length-set, get_or-set_same, get_or-set_other)

pub passing_next : (f : List ℕ) (p : ℕ) (now : List ℕ) (q m least greatest : ℕ) → q ≢ p
    → Passing f p now q (suc m) least greatest
    → Passing f p (set now q q) (get_or now q 0) m (min least q) (max greatest q)
passing_next f p now q m least greatest n w =
    let g = set now p q in
    let q1 = get_or now q 0 in
    let g1 = set (set now q q) p q1 in
    let lg = length-set now p q in
    let h : p < length now = omega arith in
    let gp : p < length g = omega arith in
    let gq : q < length g = omega arith in
    let first = get_or-set_same now p q 0 h in
    let swaps =
    let lg = length-set now p q in
    let la = length-set now q q in ext_get_or 0 _ _ (search (arith, length-set)) (λ i l.
    search (arith, get_or-set_other, get_or-set_same, swap_at, turned_second, turned_first, turned_other)) in
    let rest =
    (subst (λ z. way_to g p m (get_or g z 0) ≡ way_to (swap g p z) p m (get_or (swap g p z) p 0)) first (way_spent g
    p m gp w.once (λ e. n (sym first ∙ e)))) ∙ ap (λ x. way_to x p m (get_or x p 0)) (sym swaps)
    ∙ ap (way_to g1 p m) (get_or-set_same (set now q q) p q1 0 (omega (arith, length-set now q q))) in
    let all = way_next g p m q n ∙ ap (λ ys. q ∷ ys) rest in
    record {
      inside = w.inside;
      long = length-set now q q ∙ w.long;
      once = subst EachOnce (sym swaps) (once-swap g p q gp gq w.once);
      next_inside = omega (arith, get_or-set_other now p q q 0 n);
      spent = sym (ap (with_spent now) all) ∙ w.spent;
      least_left = sym (ap (fold min least) all) ∙ w.least_left;
      greatest_left = sym (ap (fold max greatest) all) ∙ w.greatest_left;
    }

-- the walk is back, or as long as may be
pub record Passed (f : List ℕ) (p : ℕ) (now : List ℕ) (least greatest : ℕ) : Type 0 where
  pub spent : now ≡ with_spent f (cycle f p)
  pub least_is : least ≡ fold min p (cycle f p)
  pub greatest_is : greatest ≡ fold max p (cycle f p)

cycle_passed : (f : List ℕ) (p : ℕ) (now : List ℕ) (q m least greatest : ℕ) → way_to (set now p q) p m q ≡ []
    → Passing f p now q m least greatest → Passed f p now least greatest
cycle_passed f p now q m least greatest none = search arith

pub passed_back : (f : List ℕ) (p : ℕ) (now : List ℕ) (q m least greatest : ℕ) → q ≡ p
    → Passing f p now q m least greatest → Passed f p now least greatest
passed_back = search arith

pub passed_whole : (f : List ℕ) (p : ℕ) (now : List ℕ) (q m least greatest : ℕ) → m ≡ 0
    → Passing f p now q m least greatest → Passed f p now least greatest
passed_whole = search arith

-- the same walk, its parts named otherwise
pub passing_as : (f : List ℕ) (p : ℕ) (now now_1 : List ℕ) (q q_1 m m_1 least least_1 greatest greatest_1 : ℕ)
    → now_1 ≡ now → q_1 ≡ q → m_1 ≡ m → least_1 ≡ least → greatest_1 ≡ greatest → Passing f p now q m least greatest
    → Passing f p now_1 q_1 m_1 least_1 greatest_1
passing_as = search arith

-- a buffer of which only the placement list changed, after one more change of it
pub others_next : (b0 b b1 : Buffer) → b ≡ record b0 { places = b.places } → b1 ≡ record b { places = b1.places }
    → b1 ≡ record b0 { places = b1.places }
others_next b0 b b1 others is = cc

-- A walk over the cycles on its way: the places from the base to p are spent, and what is left
-- merges what all cycles merge.
pub record Merging (s e base p : ℕ) (b0 b : Buffer) : Type 0 where
  pub long : length b.glyphs ≡ length b0.glyphs
  pub once : EachOnce (places_from s e b.places)
  pub own : (x : ℕ) → base ≤ x → x < p → get_or (places_from s e b.places) x 0 ≡ x
  pub left : merge_all b0.level (shifted s (merges_left_from (places_from s e b.places) base p (e - s - p))) b.glyphs
      ≡ merge_all b0.level (shifted s (cycle_stretches (places_from s e b0.places) base)) b0.glyphs

pub merging_stays : (s e base p : ℕ) (b0 b : Buffer) → base ≤ p → p < e - s → get_or (places_from s e b.places) p 0 ≡ p
    → Merging s e base p b0 b → Merging s e base (p + 1) b0 b
merging_stays s e base p b0 b h l stays w = search (arith, left_staying)

-- one cycle: spent, and merged
pub merging_next : (s e base p : ℕ) (b0 b b1 b2 : Buffer) (least greatest : ℕ) → s ≤ e → e ≤ length b0.glyphs
    → base ≤ p → p < e - s → b ≡ record b0 { glyphs = b.glyphs; places = b.places }
    → b1 ≡ record b { places = b1.places }
    → places_from s e b1.places ≡ with_spent (places_from s e b.places) (cycle (places_from s e b.places) p)
    → least ≡ fold min p (cycle (places_from s e b.places) p)
    → greatest ≡ fold max p (cycle (places_from s e b.places) p)
    → b2 ≡ record b1 { glyphs = merge b1.level (s + max base least) (s + greatest + 1) b1.glyphs }
    → Merging s e base p b0 b → Merging s e base (p + 1) b0 b2
merging_next s e base p b0 b b1 b2 least greatest i r h l is0 is1 spent low high is2 w =
    let f = places_from s e b.places in
    let g = with_spent f (cycle f p) in
    let n = length-places_from s e b.places in
    let inside : p < length f = omega arith in
    let places2 : places_from s e b2.places ≡ g = cc in
    let level1 : b1.level ≡ b0.level = cc in
    let merged_is =
    ap (λ x. x.glyphs) is2 ∙ ap (λ v. merge v (s + max base least) (s + greatest + 1) b1.glyphs) level1
    ∙ ap (λ m. merge b0.level (s + max base m) (s + greatest + 1) b1.glyphs) low
    ∙ ap (λ m. merge b0.level (s + (cycle_stretch f base p).0) m b1.glyphs) (omega arith)
    ∙ ap (merge b0.level (s + (cycle_stretch f base p).0) (s + (cycle_stretch f base p).1)) (ap (λ x. x.glyphs) is1) in
    record {
      long = ap length merged_is
          ∙ length-merge b0.level (s + (cycle_stretch f base p).0) (s + (cycle_stretch f base p).1) b.glyphs
          (omega (arith, (stretch_bounds f base p inside w.once).inside)) ∙ w.long;
      once = subst EachOnce (sym places2) (once-spent f p inside w.once);
      own = λ x a b. ap (λ ps. get_or ps x 0) places2 ∙ own_next f base p inside w.once w.own x a b;
      left =
          ap (merge_all b0.level
          (shifted s (merges_left_from (places_from s e b2.places) base (p + 1) (e - s - (p + 1))))) merged_is
          ∙ ap (λ ps. merge_all b0.level (shifted s (merges_left_from ps base (p + 1) (e - s - (p + 1))))
          (merge b0.level (s + (cycle_stretch f base p).0) (s + (cycle_stretch f base p).1) b.glyphs)) places2
          ∙ ap (λ k. merge_all b0.level (shifted s (merges_left_from g base (p + 1) (k - (p + 1))))
          (merge b0.level (s + (cycle_stretch f base p).0) (s + (cycle_stretch f base p).1) b.glyphs)) (sym n)
          ∙ sym (left_spent b0.level s f base p b.glyphs h inside w.once w.own)
          ∙ ap (λ k. merge_all b0.level (shifted s (merges_left_from f base p (k - p))) b.glyphs) n ∙ w.left;
    }

-- a placement list that has each place once
pub once_range : (n : ℕ) → EachOnce (range_with_len 0 n)
once_range n = let m = length-range_with_len 0 n in search (arith, get_or-range_with_len)

pub once_listed : (s e : ℕ) (places : List ℕ) → ListsEachOnce s e places → EachOnce (places_from s e places)
once_listed s e places each =
    let all = subst (λ xs. IsPermutation xs (places_from s e places)) (
    let long = length-map-range_with_len _ s (e - s) in ext_get_or 0 _ _ (long ∙ sym (length-range_with_len 0 (e - s))) (λ i l.
    search (arith, get_or-map-range_with_len, get_or-range_with_len))) (IsPermutation-map _ _ _ each) in
    IsPermutation-keeps _ _ (once_range (e - s)) (λ xs i j h k o. once-swap xs i j h k o) _ all

-- the merges by specification and length
pub stretches_all : (old : Bool) (from : List ℕ) (base : ℕ) → (old || nat_lt 127 (length from)) ≡ true
    → stretches_by old from base ≡ (base, length from) ∷ []
stretches_all old from base e = cc

pub stretches_cycles : (old : Bool) (from : List ℕ) (base : ℕ) → (old || nat_lt 127 (length from)) ≡ false
    → stretches_by old from base ≡ cycle_stretches from base
stretches_cycles old from base e = cc

pub merged_from_base : (s e base : ℕ) (old : Bool) (b b1 : Buffer) → s ≤ e → (old || nat_lt 127 (e - s)) ≡ true
    → b1.glyphs ≡ merge b.level (s + base) e b.glyphs
    → b1.glyphs ≡ merge_all b.level (shifted s (stretches_by old (places_from s e b.places) base)) b.glyphs
merged_from_base = search (arith, length-places_from)
