-- The left matras listed through the placement of the one that went first.
use Rattle.std.proofs.Common.{◌≡◌, ℕ, ◌+◌, ◌-◌, ◌<◌, ◌≤◌, false, List, [], ◌∷◌, ◌++◌, map, filter, length, take, drop, get_or, refl, sym, ap, subst, ◌∙◌, arith, append_assoc, length-append}
use Rattle.std.specs.Prelude.{nat_lt}
use Rattle.std.specs.List.{AllByRecursion, range_with_len}
use Rattle.std.specs.List.Sorted.{IsPermutation}
use Rattle.std.proofs.lemmas.Bool.Decides.{nat_tests}
use Rattle.std.proofs.lemmas.List.{ext_get_or, get_or-append_right, get_or_append_left, length-map, length-take-le, map-append, take-append-drop, drop-drop}
use Rattle.std.proofs.lemmas.List.FromFn.{length-range_with_len, get_or-range_with_len, length-map-range_with_len, get_or-map-range_with_len}
use Rattle.std.proofs.lemmas.List.Sorted.{IsPermutation-append_left, IsPermutation-map, IsPermutation-trans}
use Rattle.shapers_buffer.specs.Buffer.{Buffer}
use Rattle.shapers_buffer.specs.Glyph.{default_glyph}
use Rattle.shapers_buffer.specs.Glyphs.{Glyphs}
use Rattle.shapers_buffer.specs.ListingWalk.{with_listed}
use Rattle.shapers_buffer.specs.Places.{PlacesEachOnce, listed, pick, placed_by, places_of}
use Rattle.shapers_buffer.specs.Placements.{old_place, old_place_by_all, placed_by_all}
use Rattle.shapers_buffer.specs.declared.buffer.placement.Placement.{Placement}
use Rattle.shapers_buffer.specs.declared.buffer.placement.Placement.TheVariants.{Listed}
use Rattle.shapers_buffer.proofs.Arranging.{all_below, all_long, all_outside, all_reads, all_within, as_many, each_inside, placed_reads, placed_within}
use Rattle.shapers_buffer.proofs.Listing.{lists, only_places, with_listed-append}
use Rattle.shapers_buffer.proofs.Picks.{get_or-pick, length-pick}
use Rattle.shapers_clusters.proofs.Picks.{pick-append, pick-range, pick-within}
use Rattle.shapers_clusters.proofs.Widened.{range-append}
use Rattle.shapers_indic.specs.Glyphs.{places}
use Rattle.shapers_indic_final.specs.FinalMoveWalk.{matra_placements}
use Rattle.shapers_indic_final.specs.LeftMatraWalk.{gone, has_gone, has_stayed, staying}
use Rattle.shapers_indic_final.proofs.FinalArranged.{matra_fits}
use Rattle.shapers_indic_final.proofs.LeftMatraPlaces.{filter_all}
use Rattle.shapers_indic_final.proofs.LeftMatrasListed.{parted_long, parted_once, parted_placed}

-- WHAT IS PICKED through placements
pub pick_through : (ps : List ℕ) (s e i j : ℕ) (gs : Glyphs) → i ≤ j → s + j < e → e ≤ length gs
    → AllByRecursion (λ q. q < length gs) ps
    → pick (map (old_place_by_all (matra_placements s i j) s e []) ps) gs
    ≡ pick ps (placed_by_all (matra_placements s i j) s e [] gs)
pick_through [] s e i j gs h l m all = refl
pick_through (q ∷ ps) s e i j gs h l m all =
    let moves = matra_placements s i j in
    let fits = matra_fits s e (length gs) i j [] h l m in
    let old = old_place_by_all moves s e [] in
    let hs = placed_by_all moves s e [] gs in
    let long = all_long moves s e [] gs fits in
    pick-within default_glyph (old q) (map old ps) gs (all_within moves s e (length gs) [] q fits all.0)
    ∙ ap (λ g. g ∷ pick (map old ps) gs) (sym (all_reads default_glyph moves s e [] gs q fits all.0))
    ∙ ap (λ (xs : Glyphs). get_or hs q default_glyph ∷ xs) (pick_through ps s e i j gs h l m all.1)
    ∙ sym (pick-within default_glyph q ps hs (subst (λ n. q < n) (sym long) all.0))

-- EACH PLACE ONCE
place_read : (p : Placement) (s e : ℕ) (list : List ℕ) (k : ℕ) → s ≤ e → PlacesEachOnce p s e list → k < e - s
    → get_or (places_of p s e list) k 0 ≡ old_place p s e list (s + k)
place_read p s e list k h each l =
    let R = range_with_len 0 e in
    let lr : length R ≡ e = length-range_with_len 0 e in
    let P = places_of p s e list in
    let below = all_below s (e - s) (length R) P each (omega arith) in
    let n : length P ≡ e - s = as_many s (e - s) P each in
    let picked = pick P R in
    let m : length picked ≡ length P = length-pick P R below in
    let front : length (take s R) ≡ s = length-take-le s R (omega arith) in
    let inside = each_inside s (e - s) P each k 0 (omega arith) in
    let at : get_or (placed_by p s e list R) (s + k) 0 ≡ get_or P k 0 =
    get_or-append_right (take s R) (picked ++ drop e R) s (s + k) 0 front (omega arith)
    ∙ ap (λ m. get_or (picked ++ drop e R) m 0) (omega arith)
    ∙ get_or_append_left picked (drop e R) 0 k (omega arith) ∙ get_or-pick 0 P R below k (omega arith)
    ∙ get_or-range_with_len 0 e (get_or P k 0) 0 (omega (arith, inside.1)) ∙ omega arith in
    let old = old_place p s e list (s + k) in
    let within : old < e = placed_within p s e e list (s + k) h (omega arith) each (omega arith) in
    sym at ∙ placed_reads 0 p s e list R (s + k) h (omega arith) each (omega arith)
    ∙ get_or-range_with_len 0 e old 0 within ∙ omega arith

pub places_mapped : (p : Placement) (s e : ℕ) (list : List ℕ) → s ≤ e → PlacesEachOnce p s e list
    → places_of p s e list ≡ map (old_place p s e list) (range_with_len s (e - s))
places_mapped p s e list h each =
    let P = places_of p s e list in
    let old = old_place p s e list in
    let n : length P ≡ e - s = as_many s (e - s) P each in
    let m = length-map-range_with_len old s (e - s) in
    ext_get_or 0 P (map old (range_with_len s (e - s))) (n ∙ sym m) (λ k l.
    place_read p s e list k h each (omega arith)
    ∙ sym (get_or-map-range_with_len old s (e - s) k (s + k) 0 (omega arith) refl))

-- THE LIST: what stays, what has gone, and the rest
abbrev pub stays_at : ℕ → ℕ → ℕ → Glyphs → List ℕ
stays_at s i j gs = filter (has_stayed s (s + i) gs) (places s (s + j))

abbrev pub gone_at : ℕ → ℕ → ℕ → Glyphs → List ℕ
gone_at s i j gs = filter (has_gone s (s + i) gs) (places s (s + j))

pub rest_stays : (s e i j : ℕ) (gs : Glyphs) → i ≤ j → filter (has_stayed s (s + i) gs) (places (s + j) e)
    ≡ places (s + j) e
rest_stays s e i j gs h =
    filter_all (has_stayed s (s + i) gs) (s + j) (e - (s + j)) (λ k l m.
    let no : nat_lt k (s + i) ≡ false = grind (arith, nat_tests) in
    search arith)

pub parted_count : (s i j : ℕ) (gs : Glyphs) → length (stays_at s i j gs) + length (gone_at s i j gs) ≡ j
parted_count s i j gs = parted_long s (s + i) (s + j) gs ∙ omega arith

abbrev pub matra_list : ℕ → ℕ → ℕ → ℕ → Glyphs → List ℕ
matra_list s e i j gs = stays_at s i j gs ++ (gone_at s i j gs ++ places (s + j) e)

list_once : (s e i j : ℕ) (gs : Glyphs) → s + j < e → IsPermutation (places s e) (matra_list s e i j gs)
list_once s e i j gs l =
    let X = stays_at s i j gs in
    let Y = gone_at s i j gs in
    let R = places (s + j) e in
    let whole : places s (s + j) ++ R ≡ places s e =
    sym (ap (range_with_len s) (omega arith) ∙ range-append s (s + j - s) (e - (s + j)) ∙ ap (λ a. places s (s + j)
    ++ range_with_len a (e - (s + j))) (omega arith)) in
    subst (λ ps. IsPermutation ps (matra_list s e i j gs)) whole
    (subst (IsPermutation (places s (s + j) ++ R)) (append_assoc X Y R)
    (IsPermutation-append_left R (places s (s + j)) (X ++ Y) (parted_once s (s + i) (s + j) gs)))

pub list_each : (s e n i j : ℕ) (gs : Glyphs) → i ≤ j → s + j < e → e ≤ n
    → IsPermutation (places s e) (map (old_place_by_all (matra_placements s i j) s e []) (matra_list s e i j gs))
list_each s e n i j gs h l m =
    let old = old_place_by_all (matra_placements s i j) s e [] in
    let fits = matra_fits s e n i j [] h l m in
    let own : IsPermutation (places s e) (map old (places s e)) =
    subst (IsPermutation (places s e)) (places_mapped (matra_placements s i j).first s e [] fits.in_order fits.first)
    fits.first in
    IsPermutation-trans (places s e) (map old (places s e)) (map old (matra_list s e i j gs)) own
    (IsPermutation-map old (places s e) (matra_list s e i j gs) (list_once s e i j gs l))

-- what the three walks list
pub three_listed : (s e i j at behind : ℕ) (f : ℕ → ℕ) (gs : Glyphs) (p0 p1 p2 p3 : List ℕ) → s + j < e
    → p1 ≡ with_listed s (map f (stays_at s i j gs)) p0 → at ≡ s + length (stays_at s i j gs)
    → p2 ≡ with_listed at (map f (gone_at s i j gs)) p1 → behind ≡ at + length (gone_at s i j gs)
    → p3 ≡ with_listed behind (map f (places (s + j) e)) p2 → listed s e p3 ≡ map f (matra_list s e i j gs)
three_listed s e i j at behind f gs p0 p1 p2 p3 l one to two on three =
    let X = map f (stays_at s i j gs) in
    let Y = map f (gone_at s i j gs) in
    let R = map f (places (s + j) e) in
    let nx : length X ≡ length (stays_at s i j gs) = length-map (stays_at s i j gs) f in
    let ny : length Y ≡ length (gone_at s i j gs) = length-map (gone_at s i j gs) f in
    let nr : length R ≡ e - (s + j) = length-map (places (s + j) e) f ∙ length-range_with_len (s + j) (e - (s + j)) in
    let count = parted_count s i j gs in
    let list : p3 ≡ with_listed s (X ++ (Y ++ R)) p0 =
    three ∙ ap (λ ps. with_listed behind R ps) two
    ∙ ap (λ ps. with_listed behind R (with_listed at Y ps)) one
    ∙ ap (λ k. with_listed k R (with_listed at Y (with_listed s X p0))) (on ∙ omega arith)
    ∙ sym (with_listed-append at Y R (with_listed s X p0))
    ∙ ap (λ k. with_listed k (Y ++ R) (with_listed s X p0)) (to ∙ omega arith)
    ∙ sym (with_listed-append s X (Y ++ R) p0) in
    let many : length (X ++ (Y ++ R)) ≡ e - s = length-append X (Y ++ R) ∙ omega (arith, length-append Y R) in
    ap (listed s e) list ∙ lists s e (X ++ (Y ++ R)) p0 many
    ∙ sym (map-append f (stays_at s i j gs) (gone_at s i j gs ++ places (s + j) e)
    ∙ ap (λ ys. X ++ ys) (map-append f (gone_at s i j gs) (places (s + j) e)))

-- the glyphs so moved
pub list_moved : (s e i j : ℕ) (list : List ℕ) (gs : Glyphs) → i ≤ j → s + j < e → e ≤ length gs
    → listed s e list ≡ map (old_place_by_all (matra_placements s i j) s e [])
    (matra_list s e i j (placed_by_all (matra_placements s i j) s e [] gs))
    → placed_by Listed s e list gs
    ≡ staying s (s + i) (placed_by_all (matra_placements s i j) s e [] gs) 0 (s + j)
    ++ (gone s (s + i) (placed_by_all (matra_placements s i j) s e [] gs) 0 (s + j)
    ++ drop (s + j) (placed_by_all (matra_placements s i j) s e [] gs))
list_moved s e i j list gs h l m is =
    let moves = matra_placements s i j in
    let hs = placed_by_all moves s e [] gs in
    let fits = matra_fits s e (length gs) i j [] h l m in
    let long : length hs ≡ length gs = all_long moves s e [] gs fits in
    let out = all_outside moves s e [] gs fits in
    let X = stays_at s i j hs in
    let Y = gone_at s i j hs in
    let R = places (s + j) e in
    let L = matra_list s e i j hs in
    let below : AllByRecursion (λ q. q < length gs) L =
    all_below s (e - s) (length gs) L (list_once s e i j hs l) (omega arith) in
    let back : pick R hs ++ drop e hs ≡ drop (s + j) hs =
    ap (λ (xs : Glyphs). xs ++ drop e hs) (pick-range (s + j) (e - (s + j)) hs (omega arith))
    ∙ ap (λ k. take (e - (s + j)) (drop (s + j) hs) ++ drop k hs) (omega arith)
    ∙ ap (λ (xs : Glyphs). take (e - (s + j)) (drop (s + j) hs) ++ xs) (sym (drop-drop (e - (s + j)) (s + j) hs))
    ∙ take-append-drop (e - (s + j)) (drop (s + j) hs) in
    let both : pick L hs ++ drop e hs ≡ pick (X ++ Y) hs ++ drop (s + j) hs =
    ap (λ ps. pick ps hs ++ drop e hs) (sym (append_assoc X Y R))
    ∙ ap (λ (xs : Glyphs). xs ++ drop e hs) (pick-append (X ++ Y) R hs)
    ∙ append_assoc (pick (X ++ Y) hs) (pick R hs) (drop e hs)
    ∙ ap (λ (xs : Glyphs). pick (X ++ Y) hs ++ xs) back in
    let few : length (X ++ Y) ≡ s + j - s = length-append X Y ∙ omega (arith, parted_count s i j hs) in
    let ws = with_listed s (X ++ Y) [] in
    let said : listed s (s + j) ws ≡ X ++ Y = lists s (s + j) (X ++ Y) [] few in
    ap (λ ps. take s gs ++ (pick ps gs ++ drop e gs)) is
    ∙ ap (λ (xs : Glyphs). take s gs ++ (xs ++ drop e gs)) (pick_through L s e i j gs h l m below)
    ∙ ap (λ (xs : Glyphs). xs ++ (pick L hs ++ drop e gs)) (sym out.0)
    ∙ ap (λ (xs : Glyphs). take s hs ++ (pick L hs ++ xs)) (sym out.1)
    ∙ ap (λ (xs : Glyphs). take s hs ++ xs) both
    ∙ ap (λ ps. take s hs ++ (pick ps hs ++ drop (s + j) hs)) (sym said)
    ∙ parted_placed s (s + i) (s + j) ws hs (omega arith) (omega arith) said

-- the three walks on a buffer
pub record Walked (s e i j : ℕ) (b0 b3 : Buffer) : Type 0 where
  pub others : b3 ≡ record b0 { places = b3.places }
  pub listed_are : listed s e b3.places ≡ map (old_place_by_all (matra_placements s i j) s e [])
      (matra_list s e i j (placed_by_all (matra_placements s i j) s e [] b0.glyphs))

abbrev moved_in : ℕ → ℕ → ℕ → ℕ → Glyphs → Glyphs
moved_in s e i j gs = placed_by_all (matra_placements s i j) s e [] gs

pub three_walks : (s e i j at behind : ℕ) (b0 b1 b2 b3 : Buffer) → i ≤ j → s + j < e
    → b1 ≡ record b0 {
      places = with_listed s (map (old_place_by_all (matra_placements s i j) s e [])
          (stays_at s i j (placed_by_all (matra_placements s i j) s e [] b0.glyphs))) b0.places;
    } → at ≡ s + length (stays_at s i j (placed_by_all (matra_placements s i j) s e [] b0.glyphs))
    → b2 ≡ record b1 {
      places = with_listed at (map (old_place_by_all (matra_placements s i j) s e [])
          (gone_at s i j (placed_by_all (matra_placements s i j) s e [] b1.glyphs))) b1.places;
    } → behind ≡ at + length (gone_at s i j (placed_by_all (matra_placements s i j) s e [] b1.glyphs))
    → b3 ≡ record b2 {
      places = with_listed behind (map (old_place_by_all (matra_placements s i j) s e [])
          (filter (has_stayed s (s + i) (placed_by_all (matra_placements s i j) s e [] b2.glyphs)) (places (s + j) e)))
          b2.places;
    } → Walked s e i j b0 b3
three_walks s e i j at behind b0 b1 b2 b3 h l one to two on three =
    let old = old_place_by_all (matra_placements s i j) s e [] in
    let view = moved_in s e i j in
    let g1 : b1.glyphs ≡ b0.glyphs = ap (λ (b : Buffer). b.glyphs) one in
    let p1 = ap (λ (b : Buffer). b.places) one in
    let p2 = ap (λ (b : Buffer). b.places) two
    ∙ ap (λ gs. with_listed at (map old (gone_at s i j (view gs))) b1.places) g1 in
    let p3 = ap (λ (b : Buffer). b.places) three
    ∙ ap (λ ps. with_listed behind (map old ps) b2.places) (rest_stays s e i j (view b2.glyphs) h) in
    let behind_is = on ∙ ap (λ gs. at + length (gone_at s i j (view gs))) g1 in
    record {
      others = only_places b0 b2 b3 _ (only_places b0 b1 b2 _ (only_places b0 b0 b1 _ refl one) two) three;
      listed_are = three_listed s e i j at behind old (view b0.glyphs) b0.places b1.places b2.places b3.places l p1 to p2
          behind_is p3;
    }
