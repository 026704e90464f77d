-- Clusters of a Hangul text that rise, or fall, still do when it is preprocessed, at the levels that merge.
use Rattle.std.proofs.Common.{ℕ, zero, suc, ◌+◌, ◌-◌, ◌<◌, ◌≤◌, ◌≡◌, Bool, true, ◌&&◌, not, List, [], ◌∷◌, ◌++◌, length, map, take, drop, get_or, refl, sym, ap, subst, ◌∙◌, arith}
use Rattle.std.specs.List.{AllByRecursion, AllPairs, flat_map}
use Rattle.std.proofs.lemmas.List.{append-nil, drop-drop, get_or-drop, get_or-take, length-map, length-take, take-append-drop}
use Rattle.shapers_buffer.specs.Buffer.{Buffer}
use Rattle.shapers_buffer.specs.Glyphs.{Glyph}
use Rattle.shapers_buffer.specs.declared.buffer.level.BufferClusterLevel.{BufferClusterLevel}
use Rattle.shapers_buffer.specs.Clusters.{merge_all, merges}
use Rattle.shapers_buffer.specs.Glyph.{characters, clusters}
use Rattle.shapers_base.specs.Font.{Font, has_nominal}
use Rattle.shapers_clusters.specs.ClusterMerges.{joined_all}
use Rattle.shapers_clusters.specs.Cuts.{EndWithin, OneAlong}
use Rattle.shapers_clusters.proofs.Cuts.{stays_falling, stays_rising}
use Rattle.shapers_clusters.proofs.LabelsAsMerged.{all_split}
use Rattle.shapers_clusters.proofs.Merging.{length-merge_all}
use Rattle.shapers_clusters.proofs.Moves.{HeldIn, all_held, clusters-merge_all, held_share}
use Rattle.shapers_hangul.specs.Hangul.{allows_circles, combines_t, first_item, first_unit, has_jamo_of, is_l, is_lv, is_narrow, is_s, is_syllable, is_t, is_tone, is_v, item_len, item_output, item_stretches, items, items_from, marked_from, leading_unit, outputs, stretches, taken, tone_len, tone_stretch, unit_output, unit_stretch, with_t, with_tone}
use Rattle.shapers_hangul.specs.HangulLaws.{place_copies}
use Rattle.shapers_hangul.proofs.HangulClusters.{clusters-rewritten}
use Rattle.shapers_hangul.proofs.Items.{either, first_item-within, taken_some}
use Rattle.shapers_hangul.proofs.Walks.{length-characters}
use Rattle.rustybuzz_shapers.specs.Monotone.{HangulStaysMonotone}
use Rattle.rustybuzz_shapers.proofs.HangulHalves.{clusters_made, ends_within}
use Rattle.rustybuzz_shapers.proofs.HangulItems.{of_three}
use Rattle.rustybuzz_shapers.proofs.Monotone.{Ordered, all_from, all_weaker, from_pairs, to_pairs}
use Rattle.rustybuzz_shapers.proofs.ThaiMonotone.{all_append, ordered_append}

-- What is made of some numbers keeps what holds of all of them, and stays in an order that they are in.
pub record Keeps (P : ℕ → Type 0) (R : ℕ → ℕ → Type 0) (xs ys : List ℕ) : Type 0 where
  pub all : AllByRecursion P xs → AllByRecursion P ys
  pub ordered : Ordered R xs → Ordered R ys

-- an order that holds of each number and itself
abbrev pub OfItself : (ℕ → ℕ → Type 0) → Type 0
OfItself R = (x : ℕ) → R x x

keeps_none : (P : ℕ → Type 0) (R : ℕ → ℕ → Type 0) (xs : List ℕ) → Keeps P R xs []
keeps_none P R = search arith

pub keeps_itself : (P : ℕ → Type 0) (R : ℕ → ℕ → Type 0) (xs ys : List ℕ) → ys ≡ xs → Keeps P R xs ys
keeps_itself P R = search arith

-- the first once, twice, and three times
keeps_first : (P : ℕ → Type 0) (R : ℕ → ℕ → Type 0) (x : ℕ) (xs : List ℕ) → Keeps P R (x ∷ xs) (x ∷ [])
keeps_first P R = search arith

keeps_two : (P : ℕ → Type 0) (R : ℕ → ℕ → Type 0) → OfItself R → (x : ℕ) (xs : List ℕ) → Keeps P R (x ∷ xs) (x ∷ x ∷ [])
keeps_two P R = search arith

marked_places : (n : ℕ) (xs : List ℕ) → marked_from place_copies n xs ≡ xs
marked_places n [] = refl
marked_places n (x ∷ xs) = cc (marked_places (n + 1) xs)

first_taken : (P : ℕ → Type 0) (R : ℕ → ℕ → Type 0) (n : ℕ) (ws : List ℕ) → Keeps P R (take (suc n) ws) (take 1 ws)
first_taken P R n [] = keeps_none P R []
first_taken P R n (w ∷ ws) = keeps_first P R w (take n ws)

mapped_first : (P : ℕ → Type 0) (R : ℕ → ℕ → Type 0) (n : ℕ) (ws : List ℕ)
    → Keeps P R (take (suc n) ws) (map (λ w. w) (take 1 ws))
mapped_first P R n [] = keeps_none P R []
mapped_first P R n (w ∷ ws) = keeps_first P R w (take n ws)

two_copies : (P : ℕ → Type 0) (R : ℕ → ℕ → Type 0) → OfItself R → (ws : List ℕ)
    → Keeps P R (take 1 ws) (marked_from place_copies 1 (flat_map (λ w. w ∷ w ∷ []) (take 1 ws)))
two_copies P R self [] = keeps_none P R []
two_copies P R self (w ∷ ws) = keeps_two P R self w []

three_copies : (P : ℕ → Type 0) (R : ℕ → ℕ → Type 0) → OfItself R → (ws : List ℕ)
    → Keeps P R (take 1 ws) (marked_from place_copies 1 (flat_map (λ w. w ∷ w ∷ w ∷ []) (take 1 ws)))
three_copies P R self [] = keeps_none P R []
three_copies P R self (w ∷ ws) = search arith

before_trailing : (P : ℕ → Type 0) (R : ℕ → ℕ → Type 0) → OfItself R → (ws : List ℕ)
    → Keeps P R (take 2 ws) (marked_from place_copies 1 (flat_map (λ w. w ∷ w ∷ []) (take 1 ws) ++ take 1 (drop 1 ws)))
before_trailing P R self [] = keeps_none P R []
before_trailing P R self (w ∷ []) = keeps_two P R self w []
before_trailing P R self (w ∷ (v ∷ ws)) = search arith

circle_behind : (P : ℕ → Type 0) (R : ℕ → ℕ → Type 0) → OfItself R → (ws : List ℕ)
    → Keeps P R (take 1 ws) (take 1 ws ++ map (λ w. w) (take 1 ws))
circle_behind P R self [] = keeps_none P R []
circle_behind P R self (w ∷ ws) = keeps_two P R self w []

circle_before : (P : ℕ → Type 0) (R : ℕ → ℕ → Type 0) → OfItself R → (ws : List ℕ)
    → Keeps P R (take 1 ws) (map (λ w. w) (take 1 ws) ++ take 1 ws)
circle_before P R self [] = keeps_none P R []
circle_before P R self (w ∷ ws) = keeps_two P R self w []

unit_keeps : (P : ℕ → Type 0) (R : ℕ → ℕ → Type 0) → OfItself R
    → (font : Font) (circles : Bool) (u v t : ℕ) (ws : List ℕ)
    → Keeps P R (take (taken (first_unit font circles u v t)) ws)
    (unit_output place_copies (first_unit font circles u v t) ws)
unit_keeps P R self font circles u v t ws =
    either (λ x. Keeps P R (take (taken x) ws) (unit_output place_copies x ws)) (is_tone u) _ _
    (λ _. search (arith, either, circle_before, circle_behind, first_taken))
    (λ _. either (λ x. Keeps P R (take (taken x) ws) (unit_output place_copies x ws)) (is_l u && is_v v) _ _
    (λ _. either (λ x. Keeps P R (take (taken x) ws) (unit_output place_copies x ws)) (is_t t) _ _
    (λ _. search (arith, either, mapped_first, keeps_itself, marked_places))
    (λ _. search (arith, either, mapped_first, keeps_itself, marked_places)))
    (λ _. either (λ x. Keeps P R (take (taken x) ws) (unit_output place_copies x ws)) (is_s u) _ _
    (λ _. either (λ x. Keeps P R (take (taken x) ws) (unit_output place_copies x ws))
    ((is_lv u && combines_t v) && has_nominal font (with_t u v)) _ _ (λ _. mapped_first P R 1 ws)
    (λ _. either (λ x. Keeps P R (take (taken x) ws) (unit_output place_copies x ws))
    (not (has_nominal font u) && has_jamo_of font u) _ _ (λ _. search (arith, either, two_copies, three_copies))
    (λ _. either (λ x. Keeps P R (take (taken x) ws) (unit_output place_copies x ws))
    ((is_lv u && is_t v) && has_jamo_of font u) _ _ (λ _. before_trailing P R self ws)
    (λ _. search (arith, either, first_taken))))) (λ _. first_taken P R 0 ws)))

-- PARTS of a list
ordered_left : (R : ℕ → ℕ → Type 0) (xs ys : List ℕ) → Ordered R (xs ++ ys) → Ordered R xs
ordered_left R [] ys own = tt
ordered_left R (x ∷ xs) ys own = ((all_split (R x) xs ys own.0).0, ordered_left R xs ys own.1)

ordered_right : (R : ℕ → ℕ → Type 0) (xs ys : List ℕ) → Ordered R (xs ++ ys) → Ordered R ys
ordered_right R [] ys own = own
ordered_right R (x ∷ xs) ys own = ordered_right R xs ys own.1

ordered_across : (R : ℕ → ℕ → Type 0) (xs ys : List ℕ) → Ordered R (xs ++ ys)
    → AllByRecursion (λ x. AllByRecursion (R x) ys) xs
ordered_across R [] ys own = tt
ordered_across R (x ∷ xs) ys own = ((all_split (R x) xs ys own.0).1, ordered_across R xs ys own.1)

-- What keeps, whatever holds of all. Two parts that each do:
abbrev pub KeepsEach : (ℕ → ℕ → Type 0) → List ℕ → List ℕ → Type 1
KeepsEach R xs ys = (P : ℕ → Type 0) → Keeps P R xs ys

pub keeps_both : (R : ℕ → ℕ → Type 0) (xs ys us vs : List ℕ) → KeepsEach R xs us → KeepsEach R ys vs
    → KeepsEach R (xs ++ ys) (us ++ vs)
keeps_both R xs ys us vs first second P = record {
  all = λ own. all_append P us vs ((first P).all (all_split P xs ys own).0) ((second P).all (all_split P xs ys own).1);
  ordered = λ own. ordered_append R us vs ((first P).ordered (ordered_left R xs ys own))
      ((second P).ordered (ordered_right R xs ys own)) ((first (λ u. AllByRecursion (R u) vs)).all
      (all_weaker (λ x. AllByRecursion (R x) ys) (λ x. AllByRecursion (R x) vs)
      (λ x across. (second (R x)).all across) xs (ordered_across R xs ys own)));
}

-- the second part before the first, where all of the first are the second
keeps_turned : (R : ℕ → ℕ → Type 0) → OfItself R → (xs us : List ℕ) (y : ℕ) → KeepsEach R xs us
    → AllByRecursion (λ x. x ≡ y) xs → KeepsEach R (xs ++ y ∷ []) (y ∷ us)
keeps_turned R self xs us y first same P = record {
  all = λ own. ((all_split P xs (y ∷ []) own).1.0, (first P).all (all_split P xs (y ∷ []) own).0);
  ordered = λ own. (
    all_weaker (λ x. x ≡ y) (R y) (λ x is. search arith) us ((first (λ x. x ≡ y)).all same),
    (first P).ordered (ordered_left R xs (y ∷ []) own),
  );
}

-- a list up to one place further
one_further : (n : ℕ) (ws : List ℕ) → take (suc n) ws ≡ take n ws ++ take 1 (drop n ws)
one_further (suc n) (w ∷ ws) = cc (one_further n ws)
one_further _ _ = refl

-- A TONE
pub keeps_by : (R : ℕ → ℕ → Type 0) (xs ys us : List ℕ) → xs ≡ ys → KeepsEach R ys us → KeepsEach R xs us
keeps_by R xs ys us is own P = search arith

one_taken : (n : ℕ) (ws : List ℕ) → take (n + 1) ws ≡ take n ws ++ take 1 (drop n ws)
one_taken = search (arith, one_further)

before_keeps : (R : ℕ → ℕ → Type 0) → OfItself R → (n : ℕ) (ws out rest : List ℕ) → rest ≡ drop n ws
    → KeepsEach R (take n ws) out → ((y : ℕ) (ys : List ℕ) → rest ≡ y ∷ ys → AllByRecursion (λ x. x ≡ y) (take n ws))
    → KeepsEach R (take (n + 1) ws) (take 1 rest ++ out)
before_keeps R self n ws out [] = search (arith, keeps_by, one_taken, append-nil)
before_keeps R self n ws out (y ∷ ys) = search (arith, keeps_by, one_taken, keeps_turned)

-- all places of a stretch have one number
along : (xs : List ℕ) (s n y : ℕ) (ys : List ℕ) → OneAlong xs (s, s + n + 1) → drop n (drop s xs) ≡ y ∷ ys
    → AllByRecursion (λ x. x ≡ y) (take n (drop s xs))
along xs s n y ys one at =
    let there : get_or xs (s + n) 0 ≡ y = ap (λ k. get_or xs k 0) (nothing_more s n) ∙ sym (get_or-drop s xs (n + 0) 0)
    ∙ sym (get_or-drop n (drop s xs) 0 0) ∙ ap (λ zs. get_or zs 0 0) at in
    all_from (λ x. x ≡ y) (take n (drop s xs)) (λ j inside.
    let few : j < n = omega (arith, inside, length-take n (drop s xs)) in
    get_or-take n (drop s xs) j 0 few ∙ get_or-drop s xs j 0
    ∙ one (s + j) (s + n) (omega arith) (omega (arith, few)) (omega arith) (omega arith) ∙ there)
  where
    nothing_more : (a b : ℕ) → a + b ≡ a + (b + 0)
    nothing_more a b = omega arith

item_keeps : (R : ℕ → ℕ → Type 0) → OfItself R → (font : Font) (circles : Bool) (us : List ℕ) (s : ℕ) (xs : List ℕ)
    → AllByRecursion (OneAlong xs)
    (tone_stretch (first_item font circles us).tone s (s + taken (leading_unit font circles us)))
    → KeepsEach R (take (item_len (first_item font circles us)) (drop s xs))
    (item_output place_copies (first_item font circles us) (drop s xs))
item_keeps R self font circles us s xs one P =
    let n = taken (leading_unit font circles us) in
    let w = get_or us n 0 in
    let ws = drop s xs in
    let out = unit_output place_copies (leading_unit font circles us) ws in
    let own : KeepsEach R (take n ws) out =
    λ Q. unit_keeps Q R self font circles (get_or us 0 0) (get_or us 1 0) (get_or us 2 0) ws in
    of_three (λ tone. AllByRecursion (OneAlong xs) (tone_stretch tone s (s + n))
    → Keeps P R (take (n + tone_len tone) ws) (with_tone tone (take 1 (drop n ws)) out))
    (is_syllable (leading_unit font circles us) && is_tone w) (is_narrow font w) _ _ _
    (λ along_tone. search (arith, keeps_by, one_taken, keeps_both, keeps_itself))
    (λ along_tone. before_keeps R self n ws out (drop n ws) refl own (λ y ys at. along xs s n y ys along_tone.0 at) P)
    (λ along_tone. keeps_by R (take (n + 0) ws) (take n ws) out (ap (λ k. take k ws) (omega arith)) own P) one

-- ALL ITEMS, one after the other
keeps_from : (R : ℕ → ℕ → Type 0) → OfItself R
    → (level : BufferClusterLevel) (font : Font) (circles : Bool) (xs : List ℕ) (place skip : ℕ) (us : List ℕ)
    → place + length us ≡ length xs → skip ≤ length us
    → AllByRecursion (OneAlong xs) (stretches level (items_from (first_item font circles) place skip us))
    → KeepsEach R (drop (place + skip) xs)
    (outputs place_copies (items_from (first_item font circles) place skip us) xs)
keeps_from R self level font circles xs place skip [] all few one P = search (arith, keeps_none)
keeps_from R self level font circles xs place zero (u ∷ us) all few one P =
    let item = first_item font circles (u ∷ us) in
    let k = item_len item in
    let rest = items_from (first_item font circles) (place + 1) (k - 1) us in
    let fits : k ≤ suc (length us) = search (arith, first_item-within) in
    let some = taken_some item.unit in
    let ws = drop place xs in
    let parts = all_split (OneAlong xs) (item_stretches level item place) (stretches level rest) one in
    let tone = (all_split (OneAlong xs) (unit_stretch level item.unit place)
    (tone_stretch item.tone place (place + taken item.unit)) parts.0).1 in
    let later = keeps_from R self level font circles xs (place + 1) (k - 1) us (omega (arith, all))
    (omega (arith, fits, some)) parts.1 in
    keeps_by R (drop (place + 0) xs) (take k ws ++ drop ((place + 1) + (k - 1)) xs) (item_output place_copies item ws
    ++ outputs place_copies rest xs) (ap (λ n. drop n xs) (omega arith) ∙ sym (take-append-drop k ws)
    ∙ ap (λ zs. take k ws ++ zs) (drop-drop k place xs ∙ ap (λ n. drop n xs) (omega (arith, some))))
    (keeps_both R (take k ws) (drop ((place + 1) + (k - 1)) xs) (item_output place_copies item ws)
    (outputs place_copies rest xs) (item_keeps R self font circles (u ∷ us) place xs tone) later) P
keeps_from R self level font circles xs place (suc skip) (u ∷ us) all few one P =
    let there : place + suc skip ≡ (place + 1) + skip = omega arith in
    search (
      arith,
      keeps_by,
      keeps_from R self level font circles xs (place + 1) skip us (omega (arith, all)) (omega (arith, few)) one,
    )

-- merged stretches have one cluster each
along_merged : (level : BufferClusterLevel) → merges level ≡ true → (sts : List (ℕ × ℕ)) (cs : List ℕ)
    → EndWithin (length cs) sts → (ts : List (ℕ × ℕ)) → AllByRecursion (HeldIn sts) ts → EndWithin (length cs) ts
    → AllByRecursion (OneAlong (joined_all level sts cs)) ts
along_merged level m sts cs within [] held inside = tt
along_merged level m sts cs within (t ∷ ts) held inside = (
  λ p q low high least most. sym
      (held_share level m sts cs within p q (omega (arith, high, inside.0)) (omega (arith, most, inside.0))
      (λ r above below. held.0 r (omega (arith, low, least, above)) (omega (arith, high, most, below))) q (omega arith)
      (omega arith)),
  along_merged level m sts cs within ts held.1 inside.1,
)

pub hangul_stays_monotone : HangulStaysMonotone
hangul_stays_monotone plan font old new m is =
    let circles = allows_circles old in
    let level = old.level in
    let gs = old.glyphs in
    let us = characters gs in
    let cs = clusters gs in
    let sts = stretches level (items font circles us) in
    let merged = clusters (merge_all level sts gs) in
    let made : clusters new.glyphs ≡ outputs place_copies (items font circles us) merged =
    ap (λ (b : Buffer). clusters b.glyphs) is ∙ clusters-rewritten plan.break_flags font circles level gs
    ∙ clusters_made font circles level gs in
    let are = clusters-merge_all level sts gs in
    let within =
    subst (λ k. EndWithin k sts) (sym
    (length-map gs (λ (g : Glyph). g.cluster))) (ends_within level font circles gs) in
    let one : AllByRecursion (OneAlong merged) sts =
    subst (λ js. AllByRecursion (OneAlong js) sts) (sym are)
    (along_merged level m sts cs within sts (all_held sts) within) in
    let turned : (R : ℕ → ℕ → Type 0) → ((x : ℕ) → R x x) → AllPairs R (joined_all level sts cs)
    → AllPairs R (clusters new.glyphs) =
    λ R same before. to_pairs R (clusters new.glyphs) (subst (Ordered R) (sym made)
    ((keeps_from R same level font circles merged 0 0 us (omega (
      arith,
      length-map (merge_all level sts gs) (λ (g : Glyph). g.cluster) ∙ length-merge_all level sts gs
          (ends_within level font circles gs),
      length-characters gs,
    )) (omega arith) one (λ x. Unit {0})).ordered
    (subst (Ordered R) (sym are) (from_pairs R (joined_all level sts cs) before)))) in (
      λ up. turned (λ a b. a ≤ b) (λ x. omega arith) (stays_rising level sts cs within up),
      λ down. turned (λ a b. b ≤ a) (λ x. omega arith) (stays_falling level sts cs within down),
    )
