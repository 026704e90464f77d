-- Where a lookup leaves as many glyphs as there were, the places of a rule stay.
use Rattle.std.proofs.Common.{ℕ, suc, ◌+◌, ◌^◌, ◌<◌, ◌≤◌, ◌≡◌, ◌∙◌, List, [], ◌∷◌, ◌++◌, drop, take, map, length, get_or, refl, sym, ap, arith}
use Rattle.std.proofs.lemmas.List.{append-nil, drop-map, take-append-drop, take_all}
use Rattle.opentype_gsub.specs.Machine.{capped, climbing, place_moved, places_shifted}

map_still : (xs : List ℕ) → ((j : ℕ) → j < length xs → get_or xs j 0 < 2 ^ 64) → map (place_moved 0 0) xs ≡ xs
map_still [] h = refl
map_still (x ∷ xs) h =
    let lt : x < 2 ^ 64 = h 0 (omega arith) in
    let e : place_moved 0 0 x ≡ x = omega arith in
    ap (λ (y : ℕ). y ∷ map (place_moved 0 0) xs) e ∙ ap (λ (ys : List ℕ). x ∷ ys) (map_still xs (λ j j_lt. h (suc j) (omega arith)))

pub places_still : (sequence : ℕ) (places : List ℕ) → ((j : ℕ) → j < length places → get_or places j 0 < 2 ^ 64) →
    length places ≤ 64 → places ≡ places_shifted sequence 0 0 places
unfolding places_shifted climbing
places_still sequence places h few =
    let s = capped (sequence + 1) in
    let e : capped (s + 0) ≡ s = omega arith in
    let back = sym (drop-map (place_moved 0 0) s places) ∙ ap (drop s) (map_still places h) in
    rw e (sym (ap (λ (t : List ℕ). take 64 ((take s places ++ []) ++ t)) back
    ∙ ap (λ (t : List ℕ). take 64 (t ++ drop s places)) (append-nil (take s places))
    ∙ ap (take 64) (take-append-drop s places) ∙ take_all 64 places few))
