-- The items of a Hangul text are read no further than they reach, so a text is cut between two of
-- them into their lists.
use Rattle.std.proofs.Common.{ℕ, zero, suc, ◌+◌, ◌-◌, ◌<◌, ◌≤◌, ◌≡◌, ◌⊎◌, Bool, true, false, cond, ◌&&◌, not, List, [], ◌∷◌, ◌++◌, length, take, drop, get_or, inl, inr, refl, sym, ap, ◌∙◌, arith}
use Rattle.std.specs.List.{AllByRecursion}
use Rattle.std.proofs.lemmas.Bool.{cases_lt, false≢true}
use Rattle.std.proofs.lemmas.List.{append_assoc, drop-append-le, length-drop, map-append, take-append-le}
use Rattle.shapers_buffer.specs.declared.buffer.level.BufferClusterLevel.{BufferClusterLevel}
use Rattle.shapers_base.specs.Font.{Font, has_nominal}
use Rattle.shapers_clusters.specs.Steps.{shifted}
use Rattle.shapers_hangul.specs.Hangul.{Copying, combines_t, first_item, first_unit, has_jamo_of, is_l, is_lv, is_merged, is_narrow, is_s, is_syllable, is_t, is_tone, is_v, item_len, item_output, item_stretches, items_from, jamo_three, jamo_two, jamo_unit, joined_tone, leading_unit, outputs, stretches, syllable_unit, taken, tone_len, tone_stretch, unit_output, unit_stretch, with_t, with_tone}
use Rattle.shapers_hangul.proofs.Items.{either, first_item-within, taken_some}

none_added : (n : ℕ) → 0 + n ≡ n
none_added = omega arith

one_further : (m n : ℕ) → (m + n) + 1 ≡ m + (n + 1)
one_further = omega arith

-- each item of a text's rest ends at place n at the latest, or begins there at the earliest
abbrev pub EachBeside : Font → Bool → ℕ → ℕ → ℕ → List ℕ → Type 0
EachBeside font circles n place skip us =
    AllByRecursion (λ p. (p.0 + item_len p.1 ≤ n) ⊎ (n ≤ p.0)) (items_from (first_item font circles) place skip us)

-- READING
and_false : (b : Bool) → (b && false) ≡ false
and_false true = refl
and_false false = refl

and_false_and : (a b : Bool) → ((a && false) && b) ≡ false
and_false_and true b = refl
and_false_and false b = refl

three_taken : (font : Font) (u v t : ℕ) → taken (jamo_three font u v t) ≡ 3
three_taken = search (arith, either)

jamo_taken : (font : Font) (u v t : ℕ) → 2 ≤ taken (jamo_unit font u v t)
jamo_taken = search (arith, either, three_taken)

jamo_few : (font : Font) (u v t : ℕ) (b : Bool) → taken (cond b (jamo_three font u v t) (jamo_two font u v)) ≤ 2
    → jamo_two font u v ≡ cond b (jamo_three font u v t) (jamo_two font u v)
jamo_few font u v t true few = search (arith, three_taken)
jamo_few font u v t false few = refl

same_second : {X : Type 0} (len : X → ℕ) (n : ℕ) (a b : Bool) (x y j k : X) → (len j ≤ n → k ≡ j)
    → len (cond a x (cond b j y)) ≤ n → cond a x (cond b k y) ≡ cond a x (cond b j y)
same_second len n false true x y j k same few = same few
same_second len n _ _ x y j k same few = refl

two_read : (font : Font) (circles : Bool) (u v t : ℕ) → taken (first_unit font circles u v t) ≤ 2
    → first_unit font circles u v 0 ≡ first_unit font circles u v t
two_read font circles u v t few =
    same_second taken 2 (is_tone u) (is_l u && is_v v) _ _ (jamo_unit font u v t) (jamo_two font u v)
    (jamo_few font u v t (is_t t)) few

skip_two : {X : Type 0} (len : X → ℕ) (a a' p b b' : Bool) (c c' j q q' r : X) → a' ≡ false → b' ≡ false → 2 ≤ len c
    → 2 ≤ len q → len (cond a c (cond p j (cond b q r))) ≤ 1 → cond a' c' (cond p j (cond b' q' r))
    ≡ cond a c (cond p j (cond b q r))
skip_two len false true p b b' c c' j q q' r none no_more big bigger few = absurd (false≢true (sym none))
skip_two len false false true b b' c c' j q q' r none no_more big bigger few = refl
skip_two len false false false false true c c' j q q' r none no_more big bigger few = search (arith, false≢true)
skip_two len false false false false false c c' j q q' r none no_more big bigger few = refl
skip_two len _ _ _ _ b' c c' j q q' r none no_more big bigger few = search arith

syllable_read : (font : Font) (s v : ℕ) → taken (syllable_unit font s v) ≤ 1
    → syllable_unit font s 0 ≡ syllable_unit font s v
syllable_read font s v few = search (arith, skip_two, and_false_and)

skip_one : {X : Type 0} (len : X → ℕ) (a b b' c : Bool) (x j j' s s' o : X) → b' ≡ false → 2 ≤ len j
    → (len s ≤ 1 → s' ≡ s) → len (cond a x (cond b j (cond c s o))) ≤ 1 → cond a x (cond b' j' (cond c s' o))
    ≡ cond a x (cond b j (cond c s o))
skip_one len false true b' c x j j' s s' o none big same few = search arith
skip_one len false false true c x j j' s s' o none big same few = absurd (false≢true (sym none))
skip_one len false false false true x j j' s s' o none big same few = same few
skip_one len _ _ _ _ x j j' s s' o none big same few = refl

one_read : (font : Font) (circles : Bool) (u v t : ℕ) → taken (first_unit font circles u v t) ≤ 1
    → first_unit font circles u 0 0 ≡ first_unit font circles u v t
one_read font circles u v t few =
    skip_one taken (is_tone u) (is_l u && is_v v) (is_l u && false) (is_s u) _ (jamo_unit font u v t) _
    (syllable_unit font u v) (syllable_unit font u 0) _ (and_false (is_l u)) (jamo_taken font u v t)
    (syllable_read font u v) few

unit_read : (font : Font) (circles : Bool) (xs ys : List ℕ) → 0 < length xs
    → taken (leading_unit font circles (xs ++ ys)) ≤ length xs → leading_unit font circles xs
    ≡ leading_unit font circles (xs ++ ys)
unit_read font circles [] ys some few = absurd (omega arith)
unit_read font circles (u ∷ []) ys some few = search (arith, one_read)
unit_read font circles (u ∷ (v ∷ [])) ys some few = search (arith, two_read)
unit_read font circles (u ∷ (v ∷ (t ∷ xs))) ys some few = refl

-- what comes of a tone, of three
no_tone : {X Y : Type 0} (len : X → ℕ) (f g : X → Y) (a b : Bool) (p q o : X) → 0 < len p → 0 < len q → f o ≡ g o
    → len (cond a (cond b p q) o) ≡ 0 → f (cond a (cond b p q) o) ≡ g (cond a (cond b p q) o)
no_tone len f g true true p q o some more same none = search arith
no_tone len f g true false p q o some more same none = search arith
no_tone len f g false b p q o some more same none = same

absent_tone : {X : Type 0} (len : X → ℕ) (a a' b b' : Bool) (p q p' q' o : X) → a' ≡ false → 0 < len p → 0 < len q
    → len (cond a (cond b p q) o) ≡ 0 → cond a' (cond b' p' q') o ≡ cond a (cond b p q) o
absent_tone len true a' true b' p q p' q' o nowhere some more none = search arith
absent_tone len true a' false b' p q p' q' o nowhere some more none = search arith
absent_tone len false true b b' p q p' q' o nowhere some more none = search (arith, false≢true)
absent_tone len false false b b' p q p' q' o nowhere some more none = refl

front_read : (xs ys : List ℕ) (i : ℕ) → i < length xs → get_or (xs ++ ys) i 0 ≡ get_or xs i 0
front_read [] ys i inside = absurd (omega arith)
front_read (x ∷ xs) ys zero inside = refl
front_read (x ∷ xs) ys (suc i) inside = front_read xs ys i (omega (arith, inside))

past_read : (xs : List ℕ) (i : ℕ) → length xs ≤ i → get_or xs i 0 ≡ 0
past_read [] i past = refl
past_read (x ∷ xs) zero past = search arith
past_read (x ∷ xs) (suc i) past = past_read xs i (omega (arith, past))

tone_read : (font : Font) (circles : Bool) (us : List ℕ) (w : ℕ)
    → tone_len (joined_tone font (leading_unit font circles us) w) ≡ 0
    → joined_tone font (leading_unit font circles us) 0 ≡ joined_tone font (leading_unit font circles us) w
tone_read font circles us w none = search (arith, absent_tone, and_false)

-- the unit and the tone of an item, where it ends within xs
item_unit : (font : Font) (circles : Bool) (xs ys : List ℕ) → 0 < length xs
    → item_len (first_item font circles (xs ++ ys)) ≤ length xs → (first_item font circles xs).unit
    ≡ (first_item font circles (xs ++ ys)).unit
item_unit = search (arith, unit_read)

-- OUTPUTS read no further either
front_taken : {X : Type 0} (n : ℕ) (xs ys : List X) → n ≤ length xs → take n (xs ++ ys) ≡ take n xs
front_taken n xs ys few = take-append-le n xs ys few

unit_local : {X : Type 0} (c : Copying X) (font : Font) (circles : Bool) (u v t : ℕ) (xs ys : List X)
    → taken (first_unit font circles u v t) ≤ length xs → unit_output c (first_unit font circles u v t) (xs ++ ys)
    ≡ unit_output c (first_unit font circles u v t) xs
unit_local c font circles u v t xs ys =
    either (λ x. taken x ≤ length xs → unit_output c x (xs ++ ys) ≡ unit_output c x xs) (is_tone u) _ _
    (λ _. search (arith, either, front_taken))
    (λ _. either (λ x. taken x ≤ length xs → unit_output c x (xs ++ ys) ≡ unit_output c x xs) (is_l u && is_v v) _ _
    (λ _. either (λ x. taken x ≤ length xs → unit_output c x (xs ++ ys) ≡ unit_output c x xs) (is_t t) _ _
    (λ _. search (arith, either, front_taken)) (λ _. search (arith, either, front_taken)))
    (λ _. either (λ x. taken x ≤ length xs → unit_output c x (xs ++ ys) ≡ unit_output c x xs) (is_s u) _ _
    (λ _. either (λ x. taken x ≤ length xs → unit_output c x (xs ++ ys) ≡ unit_output c x xs)
    ((is_lv u && combines_t v) && has_nominal font (with_t u v)) _ _ (λ _ few. search (arith, front_taken))
    (λ _. either (λ x. taken x ≤ length xs → unit_output c x (xs ++ ys) ≡ unit_output c x xs)
    (not (has_nominal font u) && has_jamo_of font u) _ _ (λ _. search (arith, either, front_taken))
    (λ _. either (λ x. taken x ≤ length xs → unit_output c x (xs ++ ys) ≡ unit_output c x xs)
    ((is_lv u && is_t v) && has_jamo_of font u) _ _ (λ _ few.
    search (arith, front_taken, drop-append-le, length-drop)) (λ _. search (arith, either, front_taken)))))
    (λ _ few. front_taken 1 xs ys few)))

item_local : {X : Type 0} (c : Copying X) (font : Font) (circles : Bool) (us : List ℕ) (xs ys : List X)
    → item_len (first_item font circles us) ≤ length xs → item_output c (first_item font circles us) (xs ++ ys)
    ≡ item_output c (first_item font circles us) xs
item_local c font circles us xs ys within =
    let n = taken (leading_unit font circles us) in
    let w = get_or us n 0 in
    ap (λ out. with_tone (first_item font circles us).tone (take 1 (drop n (xs ++ ys))) out)
    (unit_local c font circles (get_or us 0 0) (get_or us 1 0) (get_or us 2 0) xs ys (omega (arith, within)))
    ∙ elim (cases_lt n (length xs)) [
      | inl less ↦ ap
          (λ ts. with_tone (first_item font circles us).tone ts (unit_output c (leading_unit font circles us) xs))
          (ap (take 1) (drop-append-le n xs ys (omega (arith, less)))
          ∙ front_taken 1 (drop n xs) ys (omega (arith, less, length-drop n xs)))
      | inr past ↦
          no_tone tone_len
          (λ tone. with_tone tone (take 1 (drop n (xs ++ ys))) (unit_output c (leading_unit font circles us) xs))
          (λ tone. with_tone tone (take 1 (drop n xs)) (unit_output c (leading_unit font circles us) xs))
          (is_syllable (leading_unit font circles us) && is_tone w) (is_narrow font w) _ _ _ (omega arith) (omega arith)
          refl (omega (arith, within, past))
    ]

-- the outputs of the first text's items
pub outputs_local : {X : Type 0} (c : Copying X) (font : Font) (circles : Bool) (xs ys : List X) (place skip : ℕ)
    (us : List ℕ) → place + length us ≡ length xs → skip ≤ length us
    → outputs c (items_from (first_item font circles) place skip us) (xs ++ ys)
    ≡ outputs c (items_from (first_item font circles) place skip us) xs
outputs_local c font circles xs ys place skip [] all within = refl
outputs_local c font circles xs ys place zero (u ∷ us) all within =
    let item = first_item font circles (u ∷ us) in
    let fits = first_item-within font circles (u ∷ us) (omega arith) in
    cc (
      drop-append-le place xs ys (omega (arith, all)),
      item_local c font circles (u ∷ us) (drop place xs) ys (omega (arith, fits, all, length-drop place xs)),
      outputs_local c font circles xs ys (place + 1) (item_len item - 1) us (omega (arith, all))
          (omega (arith, fits, taken_some item.unit)),
    )
outputs_local c font circles xs ys place (suc skip) (u ∷ us) all within =
    outputs_local c font circles xs ys (place + 1) skip us (omega (arith, all)) (omega (arith, within))

-- and of the second one's, behind it
dropped_past : {X : Type 0} (xs ys : List X) (p : ℕ) → drop (length xs + p) (xs ++ ys) ≡ drop p ys
dropped_past [] ys p = cc (none_added p)
dropped_past (x ∷ xs) ys p = ap (λ n. drop n (x ∷ (xs ++ ys))) (one_on (length xs) p) ∙ dropped_past xs ys p
  where
    one_on : (m n : ℕ) → suc m + n ≡ suc (m + n)
    one_on m n = omega arith

pub outputs_past : {X : Type 0} (c : Copying X) (font : Font) (circles : Bool) (xs ys : List X) (place skip : ℕ)
    (vs : List ℕ) → outputs c (items_from (first_item font circles) (length xs + place) skip vs) (xs ++ ys)
    ≡ outputs c (items_from (first_item font circles) place skip vs) ys
outputs_past c font circles xs ys place skip [] = refl
outputs_past c font circles xs ys place zero (v ∷ vs) = search (
  arith,
  dropped_past,
  one_further,
  outputs_past c font circles xs ys (place + 1) (item_len (first_item font circles (v ∷ vs)) - 1) vs,
)
outputs_past c font circles xs ys place (suc skip) (v ∷ vs) =
    search (arith, one_further, outputs_past c font circles xs ys (place + 1) skip vs)

-- STRETCHES behind a text are shifted
merged_past : (b : Bool) (n s k : ℕ) → cond b ((n + s, n + s + k) ∷ []) [] ≡ shifted n (cond b ((s, s + k) ∷ []) [])
merged_past true n s k = search arith
merged_past false n s k = refl

pub of_three : {X : Type 0} (Q : X → Type 0) (a b : Bool) (p q o : X) → Q p → Q q → Q o → Q (cond a (cond b p q) o)
of_three Q true true p q o one two three = one
of_three Q true false p q o one two three = two
of_three Q false b p q o one two three = three

item_past : (level : BufferClusterLevel) (font : Font) (circles : Bool) (us : List ℕ) (n s : ℕ)
    → item_stretches level (first_item font circles us) (n + s)
    ≡ shifted n (item_stretches level (first_item font circles us) s)
item_past level font circles us n s =
    let k = taken (leading_unit font circles us) in
    let w = get_or us k 0 in
    ap (λ sts. sts ++ tone_stretch (first_item font circles us).tone (n + s) (n + s + k))
    (merged_past (is_merged level (leading_unit font circles us)) n s k)
    ∙ ap (λ sts. shifted n (unit_stretch level (leading_unit font circles us) s) ++ sts)
    (of_three (λ tone. tone_stretch tone (n + s) (n + s + k) ≡ shifted n (tone_stretch tone s (s + k)))
    (is_syllable (leading_unit font circles us) && is_tone w) (is_narrow font w) _ _ _ refl (search arith) refl)
    ∙ sym (map-append (λ (st : ℕ × ℕ). (n + st.0, n + st.1)) (unit_stretch level (leading_unit font circles us) s)
    (tone_stretch (first_item font circles us).tone s (s + k)))

pub stretches_past : (level : BufferClusterLevel) (font : Font) (circles : Bool) (n place skip : ℕ) (vs : List ℕ)
    → stretches level (items_from (first_item font circles) (n + place) skip vs)
    ≡ shifted n (stretches level (items_from (first_item font circles) place skip vs))
stretches_past level font circles n place skip [] = refl
stretches_past level font circles n place zero (v ∷ vs) =
    let item = first_item font circles (v ∷ vs) in
    ap (λ sts. sts ++ stretches level (items_from (first_item font circles) ((n + place) + 1) (item_len item - 1) vs))
    (item_past level font circles (v ∷ vs) n place) ∙ ap
    (λ m. shifted n (item_stretches level item place) ++ stretches level (items_from (first_item font circles) m
    (item_len item - 1) vs)) (one_further n place) ∙ ap (λ sts. shifted n (item_stretches level item place) ++ sts)
    (stretches_past level font circles n (place + 1) (item_len item - 1) vs) ∙ sym
    (map-append (λ (st : ℕ × ℕ). (n + st.0, n + st.1)) (item_stretches level item place) (stretches level (items_from
    (first_item font circles) (place + 1) (item_len item - 1) vs)))
stretches_past level font circles n place (suc skip) (v ∷ vs) =
    cc (one_further n place, stretches_past level font circles n (place + 1) skip vs)

-- A CUT between two items
pub record Split {X : Type 0} (c : Copying X) (level : BufferClusterLevel) (font : Font) (circles : Bool) (zs : List X)
    (place skip n : ℕ) (us vs : List ℕ) : Type 0 where
  pub made : outputs c (items_from (first_item font circles) place skip (us ++ vs)) zs
      ≡ outputs c (items_from (first_item font circles) place skip us) zs
      ++ outputs c (items_from (first_item font circles) n 0 vs) zs
  pub merged : stretches level (items_from (first_item font circles) place skip (us ++ vs))
      ≡ stretches level (items_from (first_item font circles) place skip us)
      ++ stretches level (items_from (first_item font circles) n 0 vs)

pub split_there : {X : Type 0} (c : Copying X) (level : BufferClusterLevel) (font : Font) (circles : Bool) (zs : List X)
    (place skip n : ℕ) (us vs : List ℕ) → n ≡ place + length us → skip ≤ length us
    → EachBeside font circles n place skip (us ++ vs) → Split c level font circles zs place skip n us vs
split_there c level font circles zs place zero n [] vs here few beside = search arith
split_there c level font circles zs place (suc skip) n [] vs here few beside = absurd (omega (arith, few))
split_there c level font circles zs place (suc skip) n (u ∷ us) vs here few beside =
    let s = split_there c level font circles zs (place + 1) skip n us vs (omega (arith, here)) (omega (arith, few))
    beside in
    search (arith, s.made, s.merged)
split_there c level font circles zs place zero n (u ∷ us) vs here few beside =
    let read = first_item font circles in
    let item = read (u ∷ (us ++ vs)) in
    let own = read (u ∷ us) in
    let fits : item_len item ≤ suc (length us) =
    search arith in
    let unit = item_unit font circles (u ∷ us) vs (omega arith) fits in
    let tone =
    let n = taken (leading_unit font circles ((u ∷ us) ++ vs)) in
    ap (λ x. joined_tone font x (get_or (u ∷ us) (taken x) 0))
    (unit_read font circles (u ∷ us) vs (omega arith) (omega (arith, fits)))
    ∙ elim (cases_lt n (length (u ∷ us))) [
      | inl less ↦ ap (joined_tone font (leading_unit font circles ((u ∷ us) ++ vs))) (sym (front_read (u ∷ us) vs n
          less))
      | inr past ↦ ap (joined_tone font (leading_unit font circles ((u ∷ us) ++ vs))) (past_read (u ∷ us) n
          past) ∙ tone_read font circles ((u ∷ us) ++ vs) (get_or ((u ∷ us) ++ vs) n 0) (omega (arith, fits, past))
    ] in
    let long =
    sym (ap (λ x. taken x + tone_len own.tone) unit ∙ ap (λ t. taken item.unit + tone_len t) tone) in
    let ws = drop place zs in
    let out : item_output c item ws ≡ item_output c own ws =
    sym (ap (λ x. with_tone own.tone (take 1 (drop (taken x) ws)) (unit_output c x ws)) unit
    ∙ ap (λ t. with_tone t (take 1 (drop (taken item.unit) ws)) (unit_output c item.unit ws)) tone) in
    let sts : item_stretches level item place ≡ item_stretches level own place =
    sym (ap (λ x. unit_stretch level x place ++ tone_stretch own.tone place (place + taken x)) unit
    ∙ ap (λ t. unit_stretch level item.unit place ++ tone_stretch t place (place + taken item.unit)) tone) in
    let s = split_there c level font circles zs (place + 1) (item_len item - 1) n us vs (omega (arith, here))
    (omega (arith, fits, taken_some item.unit)) beside.1 in
    record {
      made =
          ap (λ xs. item_output c item ws ++ xs) s.made ∙ ap
          (λ xs. xs ++ (outputs c (items_from read (place + 1) (item_len item - 1) us) zs ++ outputs c (items_from
          read n 0 vs) zs)) out ∙ ap
          (λ m. item_output c own ws ++ (outputs c (items_from read (place + 1) (m - 1) us) zs ++ outputs c
          (items_from read n 0 vs) zs)) long ∙ sym
          (append_assoc (item_output c own ws) (outputs c (items_from read (place + 1) (item_len own - 1) us) zs)
          (outputs c (items_from read n 0 vs) zs));
      merged =
          ap (λ xs. item_stretches level item place ++ xs) s.merged ∙ ap
          (λ xs. xs ++ (stretches level (items_from read (place + 1) (item_len item - 1) us) ++ stretches level
          (items_from read n 0 vs))) sts ∙ ap
          (λ m. item_stretches level own place ++ (stretches level (items_from read (place + 1) (m - 1) us) ++
          stretches level (items_from read n 0 vs))) long ∙ sym
          (append_assoc (item_stretches level own place) (stretches level (items_from read (place + 1) (item_len own
          - 1) us)) (stretches level (items_from read n 0 vs)));
    }
