-- The order by cases of a regular syllable is that by its movers.
use Rattle.std.proofs.Common.{ℕ, suc, ◌+◌, ◌<◌, ◌≤◌, ◌≡◌, Bool, true, false, not, inl, inr, nat_le, nat_lt, ◌&&◌, ◌||◌, List, [], ◌∷◌, ◌++◌, length, drop, filter, flat_map, reverse, refl, sym, ◌∙◌, ap, arith, append_assoc, length-append}
use Rattle.std.specs.Prelude.{if◌then◌else◌}
use Rattle.std.specs.List.{list_all, prefix_len, range_with_len, zip}
use Rattle.std.proofs.Math.Seq.{get_or-append_seam, take-append_seam}
use Rattle.std.proofs.lemmas.Bool.{and_parts, cases_Bool, le-leb, le-ltb, leb-true, lt-leb, lt-ltb, ne_eqb, true≢false}
use Rattle.std.proofs.lemmas.Grind.{flat_map-append, reverse_onto}
use Rattle.shapers_buffer.specs.Lists.{each_after}
use Rattle.shapers_buffer.specs.Glyphs.{Glyph, Glyphs}
use Rattle.shapers_khmer.specs.Khmer.{Move, Pair, Vowel, is_coeng, is_left_vowel, is_ro, khmer_moves, moved_all, moves_by_cases, categories_of}
use Rattle.shapers_khmer.specs.Proved.KhmerCases.{brought_parts}
use Rattle.shapers_khmer.specs.Proved.KhmerMasks.{length-categories}
use Rattle.shapers_khmer.specs.KhmerMovers.{Alone, Coeng, KhmerMoversLaw, Part, behind_coengs, is_coeng_or_left_vowel, is_mover, moves_behind, parts_from, part_places}

-- THE COUNT. How many Coengs are counted, by what stands behind them: with more than two counted no Ro moves
abbrev pub counted : ℕ → List ℕ → ℕ
counted c [] = c
counted c (y ∷ ys) = if nat_le c 2 then (if is_ro y then counted 2 ys else counted (c + 1) ys) else counted c ys

abbrev pub counted_on : ℕ → ℕ → ℕ
counted_on c y = if nat_le c 2 then (if is_ro y then 2 else c + 1) else c

abbrev others_before : List ℕ → ℕ
others_before ys = prefix_len (λ y. not (is_ro y)) ys

many : (c : ℕ) (ys : List ℕ) → 2 < c → nat_le (counted c ys) 2 ≡ false
many c [] h = lt-leb c 2 h
many c (y ∷ ys) h = rw (lt-leb c 2 h) (many c ys h)

behind_pair : (ys : List ℕ) → nat_le (counted 2 ys) 2 ≡ list_all is_ro ys
behind_pair [] = refl
behind_pair (y ∷ ys) = search (arith, many, behind_pair ys)

behind_others : (c : ℕ) (ys : List ℕ) → c ≤ 2
    → nat_le (counted c ys) 2 ≡ (nat_lt (c + others_before ys) 3 && list_all is_ro (drop (others_before ys) ys))
behind_others c [] h = search (arith, lt-ltb, le-leb)
behind_others c (y ∷ ys) h =
    let n = others_before ys in
    elim (cases_Bool (is_ro y)) [
      | inl on ↦ search (arith, le-leb, lt-ltb, behind_pair)
      | inr off ↦ elim (cases_Bool (nat_le (c + 1) 2)) [
        | inl more ↦
            let one : suc n ≡ 1 + n = omega arith in
            rw (le-leb c 2 h, off) (behind_others (c + 1) ys (leb-true (c + 1) 2 more)
            ∙ ap (λ k. nat_lt k 3 && list_all is_ro (drop n ys)) (omega arith)
            ∙ ap (λ k. nat_lt (c + (1 + n)) 3 && list_all is_ro (drop k (y ∷ ys))) one)
        | inr full ↦
            search (arith, le-leb, le-ltb, many)
      ]
    ]

-- a Ro moves with its Coeng exactly if at most two are counted
pub moves_by_count : (ys : List ℕ) → moves_behind ys ≡ nat_le (counted 0 ys) 2
moves_by_count = search (arith, behind_others)

counted_more : (c : ℕ) (ys : List ℕ) (y : ℕ) → counted c (ys ++ y ∷ []) ≡ counted_on (counted c ys) y
counted_more c [] y = refl
counted_more c (x ∷ xs) y = search (arith, counted_more 2 xs y, counted_more (c + 1) xs y, counted_more c xs y)

behind_coeng : (before : List Part) (p y : ℕ) → behind_coengs (before ++ Coeng p y ∷ []) ≡ behind_coengs before ++ y
    ∷ []
behind_coeng [] p y = refl
behind_coeng (Coeng q x ∷ before) p y = cc (behind_coeng before p y)
behind_coeng (Alone q x ∷ before) p y = behind_coeng before p y

behind_alone : (before : List Part) (p y : ℕ) → behind_coengs (before ++ Alone p y ∷ []) ≡ behind_coengs before
behind_alone [] p y = refl
behind_alone (Coeng q x ∷ before) p y = cc (behind_alone before p y)
behind_alone (Alone q x ∷ before) p y = behind_alone before p y

-- THE RESULT. What stands in front of and behind the front, one part more
abbrev flat : List (List Part × Part) → List ℕ
flat es = flat_map (λ e. part_places e.1) es

abbrev is_stayer : List Part × Part → Bool
is_stayer e = not (is_mover e)

abbrev result : List ℕ → List (List Part × Part) → List ℕ
result front es = flat (reverse (filter is_mover es)) ++ (front ++ flat (filter is_stayer es))

result_moves : (front : List ℕ) (e : List Part × Part) (es : List (List Part × Part)) → is_mover e ≡ true
    → result (part_places e.1 ++ front) es ≡ result front (e ∷ es)
result_moves front e es on =
    let ms = reverse (filter is_mover es) in
    let ss = flat (filter is_stayer es) in
    let more : flat (reverse (e ∷ filter is_mover es)) ≡ flat ms ++ part_places e.1 =
    search (arith, reverse_onto, flat_map-append) in
    rw on (ap (λ xs. flat ms ++ xs) (append_assoc (part_places e.1) front ss)
    ∙ sym (append_assoc (flat ms) (part_places e.1) (front ++ ss)) ∙ ap (λ xs. xs ++ (front ++ ss)) (sym more))

-- THE MOVES. Those of what is still to be looked at, with the front before it
abbrev pub looked : List ℕ → List ℕ → ℕ → List Move
looked front [] c = []
looked front (z ∷ rest) c = moves_by_cases front z rest c

pub looked_other : (front : List ℕ) (z : ℕ) (rest : List ℕ) (c : ℕ) → is_coeng z ≡ false → is_left_vowel z ≡ false
    → moves_by_cases front z rest c ≡ looked (front ++ z ∷ []) rest c
looked_other front z [] c no_coeng no_vowel = rw no_vowel refl
looked_other front z (y ∷ rest) c no_coeng no_vowel = rw (no_coeng, no_vowel) refl

pub looked_vowel : (front : List ℕ) (z : ℕ) (rest : List ℕ) (c : ℕ) → is_left_vowel z ≡ true
    → moves_by_cases front z rest c ≡ Vowel (length front) ∷ looked (z ∷ front) rest c
looked_vowel front z [] c vowel = rw vowel refl
looked_vowel front z (y ∷ rest) c vowel = search (arith, ne_eqb, refl)

pub looked_pair : (front : List ℕ) (x z y : ℕ) (rest : List ℕ) (c : ℕ) → is_coeng x ≡ false → is_left_vowel x ≡ false
    → is_coeng z ≡ true → nat_le c 2 ≡ true → is_ro y ≡ true → moves_by_cases (front ++ x ∷ []) z (y ∷ rest) c
    ≡ Pair (length (front ++ x ∷ [])) ∷ looked (z ∷ (y ∷ (front ++ x ∷ []))) rest 2
looked_pair front x =
    search (arith, length-append front (x ∷ []), take-append_seam front (x ∷ []), get_or-append_seam front x [] 0)

pub looked_coeng : (front : List ℕ) (z y : ℕ) (rest : List ℕ) (c : ℕ) → is_coeng y ≡ false → is_left_vowel y ≡ false
    → is_coeng z ≡ true → (is_ro y && nat_le c 2) ≡ false → moves_by_cases front z (y ∷ rest) c
    ≡ looked ((front ++ z ∷ []) ++ y ∷ []) rest (counted_on c y)
looked_coeng = search arith

-- REGULAR SYLLABLES. What of them holds of their ends
abbrev pub is_inner : List ℕ → Bool
is_inner [] = true
is_inner (z ∷ rest) = list_all (λ p. not (is_coeng p.0 && is_coeng_or_left_vowel p.1)) (zip (z ∷ rest) rest)

pub inner_tail : (z : ℕ) (rest : List ℕ) → is_inner (z ∷ rest) ≡ true → is_inner rest ≡ true
inner_tail z [] inner = refl
inner_tail z (y ∷ rest) inner = (and_parts (not (is_coeng z && is_coeng_or_left_vowel y)) (is_inner (y ∷ rest)) inner).1

pub neither : (a b : Bool) → not (a || b) ≡ true → (a ≡ false) × (b ≡ false)
neither false false h = (refl, refl)
neither _ _ h = absurd (true≢false (sym h))

pub inner_behind : (z y : ℕ) (rest : List ℕ) → is_inner (z ∷ (y ∷ rest)) ≡ true → is_coeng z ≡ true
    → (is_coeng y ≡ false) × (is_left_vowel y ≡ false)
inner_behind = search (arith, neither)

-- THE WALK. What the moves make of the front and of what is still to be looked at
abbrev Moved : List Part → ℕ → List ℕ → ℕ → List ℕ → List ℕ → Type 0
Moved before p categories c front places =
    moved_all (looked front categories c) (places ++ range_with_len p (length categories))
    ≡ result places (each_after before (parts_from p categories))

alone_moves : (before : List Part) (p z : ℕ) (rest : List ℕ) (c : ℕ) (front places : List ℕ)
    → length places ≡ length front → is_left_vowel z ≡ true
    → parts_from p (z ∷ rest) ≡ Alone p z ∷ parts_from (p + 1) rest
    → Moved (before ++ Alone p z ∷ []) (p + 1) rest c (z ∷ front) (p ∷ places)
    → Moved before p (z ∷ rest) c front places
alone_moves before p z rest c front places len vowel = search (
  arith,
  looked_vowel front z rest c vowel,
  brought_parts 1 places (p ∷ []) (range_with_len (p + 1) (length rest)) refl,
  result_moves,
)

alone_stays : (before : List Part) (p z : ℕ) (rest : List ℕ) (c : ℕ) (front places : List ℕ) → is_left_vowel z ≡ false
    → parts_from p (z ∷ rest) ≡ Alone p z ∷ parts_from (p + 1) rest → moves_by_cases front z rest c
    ≡ looked (front ++ z ∷ []) rest c
    → Moved (before ++ Alone p z ∷ []) (p + 1) rest c (front ++ z ∷ []) (places ++ p ∷ [])
    → Moved before p (z ∷ rest) c front places
alone_stays = search (arith, append_assoc)

pair_moves : (before : List Part) (p z y : ℕ) (rest : List ℕ) (c : ℕ) (front : List ℕ) (x : ℕ) (places : List ℕ)
    → length places ≡ length (front ++ x ∷ []) → is_coeng x ≡ false → is_left_vowel x ≡ false → is_coeng z ≡ true
    → nat_le c 2 ≡ true → is_ro y ≡ true → is_mover (before, Coeng p y) ≡ true
    → Moved (before ++ Coeng p y ∷ []) (p + 2) rest 2 (z ∷ (y ∷ (front ++ x ∷ []))) (p ∷ ((p + 1) ∷ places))
    → Moved before p (z ∷ (y ∷ rest)) c (front ++ x ∷ []) places
pair_moves before p z y rest c front x places len no_coeng no_vowel is few ro =
    let n = length rest in
    search (
      arith,
      looked_pair front x z y rest c no_coeng no_vowel is few ro,
      brought_parts 2 places (p ∷ ((p + 1) ∷ [])) (range_with_len (p + 1 + 1) n) refl,
      result_moves,
      refl,
    )

coeng_stays : (before : List Part) (p z y : ℕ) (rest : List ℕ) (c : ℕ) (front places : List ℕ) → is_coeng y ≡ false
    → is_left_vowel y ≡ false → is_coeng z ≡ true → (is_ro y && nat_le c 2) ≡ false → is_mover (before, Coeng p y)
    ≡ false → Moved (before ++ Coeng p y ∷ []) (p + 2) rest (counted_on c y) ((front ++ z ∷ []) ++ y ∷ [])
    (places ++ p ∷ ((p + 1) ∷ [])) → Moved before p (z ∷ (y ∷ rest)) c front places
coeng_stays = search (arith, looked_coeng, append_assoc, refl)

-- the count behind one part more
pub count_alone : (before : List Part) (p z c : ℕ) → counted 0 (behind_coengs before) ≡ c
    → counted 0 (behind_coengs (before ++ Alone p z ∷ [])) ≡ c
count_alone before p z c is = cc (behind_alone before p z)

pub count_coeng : (before : List Part) (p y c : ℕ) → counted 0 (behind_coengs before) ≡ c
    → counted 0 (behind_coengs (before ++ Coeng p y ∷ [])) ≡ counted_on c y
count_coeng = search (arith, behind_coeng, counted_more)

pub longer : (a b : List ℕ) (x y : ℕ) → length a ≡ length b → length (a ++ x ∷ []) ≡ length (b ++ y ∷ [])
longer = search (arith, length-append)

-- what is looked at, behind a front whose last is neither Coeng nor a left vowel
movers_moved : (before : List Part) (p : ℕ) (categories : List ℕ) (c : ℕ) (front : List ℕ) (x : ℕ) (places : List ℕ)
    → length places ≡ length (front ++ x ∷ []) → is_coeng x ≡ false → is_left_vowel x ≡ false
    → is_inner categories ≡ true → counted 0 (behind_coengs before) ≡ c
    → Moved before p categories c (front ++ x ∷ []) places
movers_moved before p [] c front x places len no_coeng no_vowel inner count = refl
movers_moved before p (z ∷ []) c front x places len no_coeng no_vowel inner count =
    elim (cases_Bool (is_left_vowel z)) [
      | inl vowel ↦ search (arith, alone_moves)
      | inr other ↦ search (arith, alone_stays, refl)
    ]
movers_moved before p (z ∷ (y ∷ rest)) c front x places len no_coeng no_vowel inner count =
    let all = front ++ x ∷ [] in
    let categories = y ∷ rest in
    elim (cases_Bool (is_coeng z)) [
      | inl is ↦
          let behind = inner_behind z y rest inner is in
          let tail = inner_tail y rest (inner_tail z categories inner) in
          let counts = count_coeng before p y c count in
          let test : is_mover (before, Coeng p y) ≡ (is_ro y && nat_le c 2) =
          search (arith, moves_by_count) in
          elim (cases_Bool (is_ro y && nat_le c 2)) [
            | inl on ↦
                let both = and_parts (is_ro y) (nat_le c 2) on in
                pair_moves before p z y rest c front x places len no_coeng no_vowel is both.1 both.0 (test ∙ on)
                (movers_moved (before ++ Coeng p y ∷ []) (p + 2) rest 2 (z ∷ (y ∷ front)) x (p ∷ ((p + 1) ∷ places))
                (ap (λ n. suc (suc n)) len) no_coeng no_vowel tail (counts ∙ rw (both.1, both.0) refl))
            | inr off ↦
                coeng_stays before p z y rest c all places behind.0 behind.1 is off (test ∙ off)
                (movers_moved (before ++ Coeng p y ∷ []) (p + 2) rest (counted_on c y) (all ++ z ∷ []) y
                (places ++ p ∷ ((p + 1) ∷ [])) (ap length (sym (append_assoc places (p ∷ []) ((p + 1) ∷ [])))
                ∙ longer (places ++ p ∷ []) (all ++ z ∷ []) (p + 1) y (longer places all p z len)) behind.0 behind.1
                tail counts)
          ]
      | inr off ↦
          let tail = inner_tail z categories inner in
          let counts = count_alone before p z c count in
          let parts : parts_from p (z ∷ categories) ≡ Alone p z ∷ parts_from (p + 1) categories = rw off refl in
          elim (cases_Bool (is_left_vowel z)) [
            | inl vowel ↦
                search (
                  arith,
                  alone_moves,
                  movers_moved (before ++ Alone p z ∷ []) (p + 1) (y ∷ rest) c (z ∷ front) x (p ∷ places) (ap suc len)
                      no_coeng no_vowel tail counts,
                )
            | inr other ↦
                search (
                  arith,
                  alone_stays,
                  looked_other,
                  movers_moved (before ++ Alone p z ∷ []) (p + 1) (y ∷ rest) c all z (places ++ p ∷ [])
                      (longer places all p z len) off other tail counts,
                )
          ]
    ]

-- A SYLLABLE. Its first glyph is the front, and the others are looked at
pub first_looked : (g : Glyph) (gs : Glyphs) → khmer_moves (g ∷ gs) ≡ looked (g.category ∷ []) (categories_of gs) 0
first_looked g [] = refl
first_looked g (h ∷ gs) = refl

pub first_part : (x : ℕ) (categories : List ℕ) → is_coeng x ≡ false → parts_from 0 (x ∷ categories)
    ≡ Alone 0 x ∷ parts_from 1 categories
first_part x [] off = refl
first_part x (y ∷ categories) off = rw off refl

pub khmer_order_by_movers : KhmerMoversLaw
khmer_order_by_movers [] regular = refl
khmer_order_by_movers (g ∷ gs) regular =
    let x = g.category in
    let categories = categories_of gs in
    let both = and_parts (not (is_coeng_or_left_vowel x)) (is_inner (x ∷ categories)) regular in
    let first = neither (is_coeng x) (is_left_vowel x) both.0 in
    search (
      arith,
      length-categories gs,
      movers_moved (Alone 0 x ∷ []) 1 categories 0 [] x (0 ∷ []) refl first.0 first.1 (inner_tail x categories both.1)
          refl,
      first_part,
      flat_map-append,
    )
