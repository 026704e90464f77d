-- The masks by cases of a regular syllable are those by its movers.
use Rattle.std.proofs.Common.{ℕ, suc, ◌+◌, ◌<◌, ◌≤◌, ◌≡◌, ◌==◌, true, false, not, inl, inr, nat_le, nat_lt, ◌&&◌, ◌||◌, List, [], ◌∷◌, ◌++◌, map, length, get_or, filter, flat_map, refl, sym, ◌∙◌, ap, subst, arith, append_assoc, length-append}
use Rattle.std.specs.List.{enumerate_from, list_any, range_with_len}
use Rattle.std.proofs.Math.Seq.{get_or-append_seam}
use Rattle.std.proofs.lemmas.Bool.{cases_Bool, cases_lt, eq-eqb, le-ltb, lt-ltb, ne_eqb}
use Rattle.std.proofs.lemmas.List.{get_or-map, length-map}
use Rattle.shapers_buffer.specs.Glyphs.{Glyph, Glyphs}
use Rattle.shapers_khmer.specs.declared.ot_shaper_khmer.reordering.KhmerOrder.{KhmerOrder}
use Rattle.std.proofs.lemmas.List.{get_or-append-add, ext_get_or}
use Rattle.std.proofs.lemmas.List.FromFn.{get_or-enumerate_from, length-enumerate_from}
use Rattle.std.proofs.lemmas.Bool.{and_parts}
use Rattle.shapers_buffer.specs.Glyph.{default_glyph}
use Rattle.shapers_buffer.specs.Lists.{each_after}
use Rattle.shapers_khmer.specs.Khmer.{is_coeng, is_left_vowel, is_ro, khmer_masked, khmer_moves, masked, masked_all, merged_by_move, moves_by_cases, categories_of}
use Rattle.shapers_khmer.specs.Proved.KhmerCases.{brought_parts}
use Rattle.shapers_khmer.proofs.KhmerMaskPlaces.{join_if, masked_before, masked_behind, masked_there, swap_if}
use Rattle.shapers_khmer.specs.Proved.KhmerMasks.{length-masked, length-categories}
use Rattle.shapers_khmer.specs.KhmerWalk.{paired}
use Rattle.shapers_khmer.specs.Proved.KhmerLaws.{hidden-masked_all, khmer_ends}
use Rattle.shapers_clusters.specs.Cuts.{EndWithin}
use Rattle.shapers_khmer.specs.KhmerMovers.{Alone, Coeng, KhmerMoversMasksLaw, Part, behind_coengs, coeng_place, is_coeng_or_left_vowel, is_mover, masked_at, moving_coengs, parts_from, with_mask_if}
use Rattle.shapers_khmer.proofs.KhmerMovers.{count_alone, count_coeng, counted, counted_on, first_looked, first_part, inner_behind, inner_tail, is_inner, longer, looked, looked_coeng, looked_other, looked_pair, looked_vowel, moves_by_count, neither}

-- the masks of one pair, and of pairs one after another, for a glyph at a place
abbrev pub pair_at : KhmerOrder → ℕ → ℕ → Glyph → Glyph
pair_at r p i g = with_mask_if (nat_lt (p + 1) i) r.cfar (with_mask_if (i == p || i == p + 1) r.pref g)

abbrev pub pairs_at : KhmerOrder → List ℕ → ℕ → Glyph → Glyph
pairs_at r [] i g = g
pairs_at r (p ∷ ps) i g = pairs_at r ps i (pair_at r p i g)

pub pairs_once : (r : KhmerOrder) (ps : List ℕ) (i : ℕ) (g : Glyph)
    → pairs_at r ps i g ≡ with_mask_if (list_any (λ p. nat_lt (p + 1) i) ps) r.cfar
    (with_mask_if (list_any (λ p. i == p || i == p + 1) ps) r.pref g)
pairs_once r [] i g = refl
pairs_once r (p ∷ ps) i g = search (arith, swap_if, nat_lt, join_if, pairs_once r ps i (pair_at r p i g))

-- the masks of a pair, for each glyph
pair_masked : (r : KhmerOrder) (p : ℕ) (gs : Glyphs) (i : ℕ) (d : Glyph) → p + 2 ≤ length gs
    → i < length gs → get_or (paired r p (p + 1) (p + 2) (length gs) gs) i d ≡ pair_at r p i (get_or gs i d)
pair_masked r p gs i d l h =
    let n = length gs in
    let first = masked r.pref p (p + 1) gs in
    let len1 : length first ≡ n = search (arith, length-masked) in
    let len2 : length (masked r.pref (p + 1) (p + 1 + 1) first) ≡ n = search (arith, length-masked) in
    search (arith, masked_there, masked_behind, lt-ltb, ne_eqb, refl, masked_before, le-ltb, eq-eqb)

-- THE COENGS THAT MOVE, one part more
abbrev coengs : List (List Part × Part) → List ℕ
coengs es = flat_map (λ e. coeng_place e.1) (filter is_mover es)

-- THE WALK. What the moves give to the glyph at a place
abbrev Masks : KhmerOrder → Glyphs → ℕ → Glyph → List Part → ℕ → List ℕ → ℕ → List ℕ → List ℕ → Type 0
Masks r gs i d before p categories c front places =
    get_or (masked_all r (looked front categories c) (places ++ range_with_len p (length categories)) gs) i d
    ≡ pairs_at r (coengs (each_after before (parts_from p categories))) i (get_or gs i d)

vowel_masks : (r : KhmerOrder) (gs : Glyphs) (i : ℕ) (d : Glyph) (before : List Part) (p z : ℕ)
    (rest : List ℕ) (c : ℕ) (front places : List ℕ) → length places ≡ length front → is_left_vowel z ≡ true
    → parts_from p (z ∷ rest) ≡ Alone p z ∷ parts_from (p + 1) rest
    → Masks r gs i d (before ++ Alone p z ∷ []) (p + 1) rest c (z ∷ front) (p ∷ places)
    → Masks r gs i d before p (z ∷ rest) c front places
vowel_masks r gs i d before p z rest c front places =
    search (arith, looked_vowel, brought_parts 1 places (p ∷ []) (range_with_len (p + 1) (length rest)) refl)

other_masks : (r : KhmerOrder) (gs : Glyphs) (i : ℕ) (d : Glyph) (before : List Part) (p z : ℕ)
    (rest : List ℕ) (c : ℕ) (front places : List ℕ) → parts_from p (z ∷ rest) ≡ Alone p z ∷ parts_from (p + 1) rest
    → moves_by_cases front z rest c ≡ looked (front ++ z ∷ []) rest c
    → Masks r gs i d (before ++ Alone p z ∷ []) (p + 1) rest c (front ++ z ∷ []) (places ++ p ∷ [])
    → Masks r gs i d before p (z ∷ rest) c front places
other_masks = search (arith, append_assoc)

coeng_masks : (r : KhmerOrder) (gs : Glyphs) (i : ℕ) (d : Glyph) (before : List Part)
    (p z y : ℕ) (rest : List ℕ) (c : ℕ) (front places : List ℕ) → is_coeng y ≡ false → is_left_vowel y ≡ false
    → is_coeng z ≡ true → (is_ro y && nat_le c 2) ≡ false → is_mover (before, Coeng p y) ≡ false
    → Masks r gs i d (before ++ Coeng p y ∷ []) (p + 2) rest (counted_on c y) ((front ++ z ∷ []) ++ y ∷ [])
    (places ++ p ∷ ((p + 1) ∷ [])) → Masks r gs i d before p (z ∷ (y ∷ rest)) c front places
coeng_masks = search (arith, looked_coeng, append_assoc, refl)

length-paired : (r : KhmerOrder) (p : ℕ) (gs : Glyphs) → p + 2 ≤ length gs
    → length (paired r p (p + 1) (p + 2) (length gs) gs) ≡ length gs
length-paired = search (arith, length-masked)

pair_masks : (r : KhmerOrder) (gs : Glyphs) (i : ℕ) (d : Glyph) (before : List Part) (p z y : ℕ)
    (rest : List ℕ) (c : ℕ) (front : List ℕ) (x : ℕ) (places : List ℕ) → length places ≡ length (front ++ x ∷ [])
    → length places ≡ p → p + 2 ≤ length gs → i < length gs → is_coeng x ≡ false → is_left_vowel x ≡ false
    → is_coeng z ≡ true → nat_le c 2 ≡ true → is_ro y ≡ true → is_mover (before, Coeng p y) ≡ true
    → Masks r (paired r p (p + 1) (p + 2) (length gs) gs) i d (before ++ Coeng p y ∷ []) (p + 2) rest 2
    (z ∷ (y ∷ (front ++ x ∷ []))) (p ∷ ((p + 1) ∷ places))
    → Masks r gs i d before p (z ∷ (y ∷ rest)) c (front ++ x ∷ []) places
pair_masks r gs i d before p z y rest c front x places =
    let n = length rest in
    let range = range_with_len (p + 1 + 1) n in
    search (
      arith,
      looked_pair,
      get_or-append_seam,
      get_or-append-add,
      brought_parts 2 places (p ∷ ((p + 1) ∷ [])) range refl,
      pair_masked,
      refl,
    )

given : (r : KhmerOrder) (gs : Glyphs) (i : ℕ) (d : Glyph) (before : List Part) (p : ℕ)
    (categories : List ℕ) (c : ℕ) (front : List ℕ) (x : ℕ) (places : List ℕ) → length places ≡ length (front ++ x ∷ [])
    → length places ≡ p → length gs ≡ p + length categories → i < length gs → is_coeng x ≡ false
    → is_left_vowel x ≡ false → is_inner categories ≡ true → counted 0 (behind_coengs before) ≡ c
    → Masks r gs i d before p categories c (front ++ x ∷ []) places
given r gs i d before p [] c front x places len at size h no_coeng no_vowel inner count = refl
given r gs i d before p (z ∷ []) c front x places len at size h no_coeng no_vowel inner count = search arith
given r gs i d before p (z ∷ (y ∷ rest)) c front x places len at size h no_coeng no_vowel inner count =
    let all = front ++ x ∷ [] in
    let categories = y ∷ rest in
    elim (cases_Bool (is_coeng z)) [
      | inl is ↦
          let behind = inner_behind z y rest inner is in
          let tail = inner_tail y rest (inner_tail z categories inner) in
          let counts = count_coeng before p y c count in
          let test =
          ap (λ b. is_ro y && b) (moves_by_count (behind_coengs before) ∙ ap (λ n. nat_le n 2) count) in
          elim (cases_Bool (is_ro y && nat_le c 2)) [
            | inl on ↦
                let both = and_parts (is_ro y) (nat_le c 2) on in
                let room : p + 2 ≤ length gs = omega arith in
                let hs = paired r p (p + 1) (p + 2) (length gs) gs in
                let same : length hs ≡ length gs = length-paired r p gs room in
                pair_masks r gs i d before p z y rest c front x places len at room h no_coeng no_vowel is both.1 both.0
                (test ∙ on)
                (given r hs i d (before ++ Coeng p y ∷ []) (p + 2) rest 2 (z ∷ (y ∷ front)) x (p ∷ ((p + 1) ∷ places))
                (ap (λ n. suc (suc n)) len) (omega arith) (omega arith) (omega arith) no_coeng no_vowel tail (counts
                ∙ rw (both.1, both.0) refl))
            | inr off ↦
                coeng_masks r gs i d before p z y rest c all places behind.0 behind.1 is off (test ∙ off)
                (given r gs i d (before ++ Coeng p y ∷ []) (p + 2) rest (counted_on c y) (all ++ z ∷ []) y
                (places ++ p ∷ ((p + 1) ∷ [])) (ap length (sym (append_assoc places (p ∷ []) ((p + 1) ∷ [])))
                ∙ longer (places ++ p ∷ []) (all ++ z ∷ []) (p + 1) y (longer places all p z len))
                (search (arith, length-append)) (omega arith) h behind.0 behind.1 tail counts)
          ]
      | inr off ↦
          let tail = inner_tail z categories inner in
          let counts = count_alone before p z c count in
          let parts : parts_from p (z ∷ categories) ≡ Alone p z ∷ parts_from (p + 1) categories = rw off refl in
          elim (cases_Bool (is_left_vowel z)) [
            | inl vowel ↦ vowel_masks r gs i d before p z categories c all places len vowel parts
                (given r gs i d (before ++ Alone p z ∷ []) (p + 1) (y ∷ rest) c (z ∷ front) x (p ∷ places) (ap suc len)
                (omega arith) (omega arith) h no_coeng no_vowel tail counts)
            | inr other ↦ other_masks r gs i d before p z categories c all places parts
                (looked_other all z categories c off other)
                (given r gs i d (before ++ Alone p z ∷ []) (p + 1) (y ∷ rest) c all z (places ++ p ∷ [])
                (longer places all p z len) (search (arith, length-append)) (omega arith) h off other tail counts)
          ]
    ]

-- A SYLLABLE. The masks at each of its places
masks_at : (r : KhmerOrder) (g : Glyph) (gs : Glyphs) (i : ℕ) (d : Glyph)
    → is_coeng g.category ≡ false → is_left_vowel g.category ≡ false → is_inner (categories_of gs) ≡ true
    → i < length (g ∷ gs) → get_or (khmer_masked r (g ∷ gs)) i d
    ≡ masked_at r (moving_coengs (categories_of (g ∷ gs))) i (get_or (g ∷ gs) i d)
masks_at r g gs i d no_coeng no_vowel inner h =
    let x = g.category in
    let categories = categories_of gs in
    let all = g ∷ gs in
    let first = masked r.others 1 (length all) all in
    let one = Alone 0 x ∷ [] in
    let moving : coengs
    (each_after one (parts_from 1 categories)) ≡ moving_coengs (x ∷ categories) = search (arith, first_part) in
    let len : length first ≡ length all = length-masked r.others 1 (length all) all (omega arith) in
    ap (λ ms. get_or (masked_all r ms (0 ∷ range_with_len 1 (length gs)) first) i d) (first_looked g gs)
    ∙ ap (λ n. get_or (masked_all r (looked (x ∷ []) categories 0) (0 ∷ range_with_len 1 n) first) i d)
    (sym (length-categories gs))
    ∙ given r first i d one 1 categories 0 [] x (0 ∷ []) refl refl (let same = length-categories gs in omega arith)
    (omega arith) no_coeng no_vowel inner refl ∙ ap (λ ps. pairs_at r ps i (get_or first i d)) moving
    ∙ ap (pairs_at r (moving_coengs (x ∷ categories)) i)
    (elim (cases_lt 0 i) [
      | inl behind ↦ search (
        arith,
        masked_there r.others 1 (length all) all i d (omega arith) behind h,
        refl,
      )
      | inr first ↦ search arith
    ]) ∙ pairs_once r (moving_coengs (x ∷ categories)) i (with_mask_if (nat_lt 0 i) r.others (get_or all i d))

length-khmer_masked : (r : KhmerOrder) (g : Glyph) (gs : Glyphs) → length (khmer_masked r (g ∷ gs)) ≡ length (g ∷ gs)
length-khmer_masked r g gs =
    let all = g ∷ gs in
    let first = masked r.others 1 (length all) all in
    let len = length-masked r.others 1 (length all) all (omega arith) in
    search (
      arith,
      length-categories,
      hidden-masked_all (λ g. g.category) (λ m g. refl) r (khmer_moves all) (range_with_len 0 (length all)) first
          (subst (λ n. EndWithin n (map merged_by_move (khmer_moves all))) (sym len) (khmer_ends all)),
      length-categories first,
    )

pub khmer_masks_by_movers : KhmerMoversMasksLaw
khmer_masks_by_movers r [] regular = refl
khmer_masks_by_movers r (g ∷ gs) regular =
    let x = g.category in
    let all = g ∷ gs in
    let both = and_parts (not (is_coeng_or_left_vowel x)) (is_inner (x ∷ categories_of gs)) regular in
    let first = neither (is_coeng x) (is_left_vowel x) both.0 in
    let ps = moving_coengs (categories_of all) in
    let f : ℕ × Glyph → Glyph = λ e. masked_at r ps e.0 e.1 in
    let es = enumerate_from 0 all in
    let left = length-khmer_masked r g gs in
    let el = length-enumerate_from 0 all in
    let d = default_glyph in
    ext_get_or d (khmer_masked r all) (map f es) (left ∙ sym (length-map es f ∙ el)) (λ i h.
    let inside : i < length all = omega arith in
    let at : get_or (map f es) i d ≡ masked_at r ps i (get_or all i d) =
    get_or-map f es i (0, d) d (omega arith) ∙ ap f (get_or-enumerate_from 0 all i (0, d) inside)
    ∙ ap (λ k. masked_at r ps k (get_or all i d)) (omega arith) in
    masks_at r g gs i d first.0 first.1 (inner_tail x (categories_of gs) both.1) inside ∙ sym at)
