-- The merges by cases of a regular syllable are those for its movers.
use Rattle.std.proofs.Common.{ℕ, suc, ◌+◌, ◌≡◌, true, false, not, inl, inr, nat_le, ◌&&◌, List, [], ◌∷◌, ◌++◌, map, length, filter, refl, sym, ◌∙◌, ap, arith, length-append}
use Rattle.std.proofs.lemmas.Bool.{and_parts, cases_Bool}
use Rattle.shapers_buffer.specs.Lists.{each_after}
use Rattle.shapers_khmer.specs.Khmer.{is_coeng, is_left_vowel, is_ro, merged_by_move, categories_of}
use Rattle.shapers_khmer.specs.KhmerMovers.{Alone, Coeng, KhmerMoversMergesLaw, Part, behind_coengs, is_coeng_or_left_vowel, is_mover, merged_over, parts_from}
use Rattle.shapers_khmer.proofs.KhmerMovers.{count_alone, count_coeng, counted, counted_on, first_looked, first_part, inner_behind, inner_tail, is_inner, looked, looked_coeng, looked_other, looked_pair, looked_vowel, moves_by_count, neither}

-- the merges for those that move
abbrev merges : List (List Part × Part) → List (ℕ × ℕ)
merges es = map (λ e. merged_over e.1) (filter is_mover es)

merges_more : (e : List Part × Part) (es : List (List Part × Part)) → is_mover e ≡ true
    → merges (e ∷ es) ≡ merged_over e.1 ∷ merges es
merges_more e es on = rw on refl

merges_same : (e : List Part × Part) (es : List (List Part × Part)) → is_mover e ≡ false → merges (e ∷ es) ≡ merges es
merges_same e es off = rw off refl

front_grown : (front : List ℕ) (z p : ℕ) → length front ≡ p → length (front ++ z ∷ []) ≡ p + 1
front_grown = search (arith, length-append)

-- those of what is looked at, behind a front whose last is neither Coeng nor a left vowel
movers_merged : (before : List Part) (p : ℕ) (categories : List ℕ) (c : ℕ) (front : List ℕ) (x : ℕ)
    → length (front ++ x ∷ []) ≡ p → is_coeng x ≡ false → is_left_vowel x ≡ false → is_inner categories ≡ true
    → counted 0 (behind_coengs before) ≡ c → map merged_by_move (looked (front ++ x ∷ []) categories c)
    ≡ merges (each_after before (parts_from p categories))
movers_merged before p [] c front x at no_coeng no_vowel inner count = refl
movers_merged before p (z ∷ []) c front x at no_coeng no_vowel inner count = search arith
movers_merged before p (z ∷ (y ∷ rest)) c front x at no_coeng no_vowel inner count =
    let all = front ++ x ∷ [] in
    let categories = y ∷ rest in
    elim (cases_Bool (is_coeng z)) [
      | inl is ↦
          let behind = inner_behind z y rest inner is in
          let tail = inner_tail y rest (inner_tail z categories inner) in
          let counts = count_coeng before p y c count in
          let es = each_after (before ++ Coeng p y ∷ []) (parts_from (p + 2) rest) in
          let parts : parts_from p (z ∷ categories) ≡ Coeng p y ∷ parts_from (p + 2) rest = rw is refl in
          let test =
          ap (λ b. is_ro y && b) (moves_by_count (behind_coengs before) ∙ ap (λ n. nat_le n 2) count) in
          elim (cases_Bool (is_ro y && nat_le c 2)) [
            | inl on ↦
                let both = and_parts (is_ro y) (nat_le c 2) on in
                let ms = map merged_by_move (looked (z ∷ (y ∷ all)) rest 2) in
                ap (map merged_by_move) (looked_pair front x z y rest c no_coeng no_vowel is both.1 both.0)
                ∙ ap (λ n. (0, n + 2) ∷ ms) at ∙ ap (λ ms. (0, p + 2) ∷ ms)
                (movers_merged (before ++ Coeng p y ∷ []) (p + 2) rest 2 (z ∷ (y ∷ front)) x
                (ap (λ n. suc (suc n)) at ∙ omega arith) no_coeng no_vowel tail (counts ∙ rw (both.1, both.0) refl))
                ∙ sym (merges_more (before, Coeng p y) es (test ∙ on))
                ∙ ap (λ ps. merges (each_after before ps)) (sym parts)
            | inr off ↦
                ap (map merged_by_move) (looked_coeng all z y rest c behind.0 behind.1 is off)
                ∙ movers_merged (before ++ Coeng p y ∷ []) (p + 2) rest (counted_on c y) (all ++ z ∷ []) y
                (front_grown (all ++ z ∷ []) y (p + 1) (front_grown all z p at) ∙ omega arith) behind.0 behind.1 tail
                counts ∙ sym (merges_same (before, Coeng p y) es (test ∙ off))
                ∙ ap (λ ps. merges (each_after before ps)) (sym parts)
          ]
      | inr off ↦
          let tail = inner_tail z categories inner in
          let counts = count_alone before p z c count in
          let es = each_after (before ++ Alone p z ∷ []) (parts_from (p + 1) categories) in
          let parts : parts_from p (z ∷ categories) ≡ Alone p z ∷ parts_from (p + 1) categories = rw off refl in
          elim (cases_Bool (is_left_vowel z)) [
            | inl vowel ↦
                let ms = map merged_by_move (looked (z ∷ all) categories c) in
                ap (map merged_by_move) (looked_vowel all z categories c vowel) ∙ ap (λ n. (0, n + 1) ∷ ms) at
                ∙ ap (λ ms. (0, p + 1) ∷ ms)
                (movers_merged (before ++ Alone p z ∷ []) (p + 1) (y ∷ rest) c (z ∷ front) x (ap suc at
                ∙ omega arith) no_coeng no_vowel tail counts) ∙ sym (merges_more (before, Alone p z) es vowel)
                ∙ ap (λ ps. merges (each_after before ps)) (sym parts)
            | inr other ↦
                ap (map merged_by_move) (looked_other all z categories c off other)
                ∙ movers_merged (before ++ Alone p z ∷ []) (p + 1) (y ∷ rest) c all z (front_grown all z p at) off
                other tail counts ∙ sym (merges_same (before, Alone p z) es other)
                ∙ ap (λ ps. merges (each_after before ps)) (sym parts)
          ]
    ]

pub khmer_merges_by_movers : KhmerMoversMergesLaw
khmer_merges_by_movers [] regular = refl
khmer_merges_by_movers (g ∷ gs) regular =
    let x = g.category in
    let categories = categories_of gs in
    let both = and_parts (not (is_coeng_or_left_vowel x)) (is_inner (x ∷ categories)) regular in
    let first = neither (is_coeng x) (is_left_vowel x) both.0 in
    search (
      arith,
      first_looked g gs,
      movers_merged (Alone 0 x ∷ []) 1 categories 0 [] x refl first.0 first.1 (inner_tail x categories both.1) refl,
      first_part,
    )
