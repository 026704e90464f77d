-- Clusters of a Thai text that rise, or fall, still do when it is preprocessed, at the levels that merge.
use Rattle.std.proofs.Common.{ℕ, suc, zero, ◌+◌, ◌-◌, ◌<◌, ◌≤◌, ◌≡◌, true, false, List, [], ◌∷◌, ◌++◌, length, get_or, inl, inr, refl, sym, ap, subst, ◌∙◌, arith}
use Rattle.std.specs.List.{AllByRecursion, Contains, enumerate_from, range_with_len, suffix_len}
use Rattle.std.proofs.lemmas.Bool.{lt-ltb}
use Rattle.std.proofs.lemmas.List.{append_assoc, append-nil, length-map, length_push, length-append, length-take-le, map-append}
use Rattle.std.proofs.lemmas.List.Sums.{suffix_len-le-length}
use Rattle.shapers_buffer.specs.Glyphs.{Glyph, Glyphs}
use Rattle.shapers_buffer.specs.declared.buffer.level.BufferClusterLevel.{BufferClusterLevel}
use Rattle.shapers_buffer.specs.Clusters.{merges}
use Rattle.shapers_buffer.specs.Glyph.{characters, clusters}
use Rattle.shapers_buffer.specs.Lists.{before_last_stretch, each_after}
use Rattle.shapers_buffer.specs.Places.{pick}
use Rattle.shapers_buffer.proofs.ListLaws.{before_last_run_no, before_last_run_yes, from_end}
use Rattle.shapers_buffer.proofs.MappedLists.{Contains-each_after, Contains-flat_map, all-range, before_last_stretch-enumerate_from, enumerate-append, places-last_stretch}
use Rattle.shapers_buffer.proofs.Picks.{pick-within}
use Rattle.shapers_clusters.specs.ClusterMerges.{joined_all}
use Rattle.shapers_clusters.specs.Cuts.{EndWithin}
use Rattle.shapers_clusters.specs.Laws.{ClustersMade}
use Rattle.shapers_clusters.proofs.Cuts.{exact_cuts, stays_falling, stays_rising}
use Rattle.shapers_clusters.proofs.Moves.{held_by, held_share}
use Rattle.shapers_text.specs.Thai.{is_above_base, is_sara_am, place_rule, sara_am_sources, sara_am_stretches, stretches_at}
use Rattle.shapers_text.proofs.ThaiInTwo.{in_two_at, in_two_push}
use Rattle.shapers_text.proofs.ThaiStretches.{stretches_within}
use Rattle.rustybuzz_shapers.specs.Monotone.{StaysMonotone}
use Rattle.rustybuzz_shapers.proofs.Monotone.{Ordered, all_weaker, to_pairs}

-- lists of places in an order R, one after the other
pub all_append : (P : ℕ → Type 0) (xs ys : List ℕ) → AllByRecursion P xs → AllByRecursion P ys
    → AllByRecursion P (xs ++ ys)
all_append P [] ys own more = more
all_append P (x ∷ xs) ys own more = (own.0, all_append P xs ys own.1 more)

pub ordered_append : (R : ℕ → ℕ → Type 0) (xs ys : List ℕ) → Ordered R xs → Ordered R ys
    → AllByRecursion (λ x. AllByRecursion (R x) ys) xs → Ordered R (xs ++ ys)
ordered_append R [] ys first second across = second
ordered_append R (x ∷ xs) ys first second across =
    search (arith, all_append, ordered_append R xs ys first.1 second across.1)

-- an order of n places that climbs with them
abbrev Climbs : (ℕ → ℕ → Type 0) → ℕ → Type 0
Climbs R n = (p q : ℕ) → p ≤ q → q < n → R p q

ordered_range : (R : ℕ → ℕ → Type 0) (n : ℕ) → Climbs R n → (a k : ℕ) → a + k ≤ n → Ordered R (range_with_len a k)
ordered_range R n climbs a zero within = tt
ordered_range R n climbs a (suc k) within = (
  all-range (R a) (a + 1) k (λ p low high. climbs a p (omega (arith, low)) (omega (arith, high, within))),
  ordered_range R n climbs (a + 1) k (omega (arith, within)),
)

-- the sources of a text, one more character at the end
sources_push : (us : List ℕ) (u : ℕ) → is_sara_am u ≡ false → sara_am_sources (us ++ u ∷ []) ≡ sara_am_sources us
    ++ length us ∷ []
sources_push = search (arith, enumerate-append, in_two_push, map-append)

-- the sources of a text's front are in order, and are places of it
record Fronted (R : ℕ → ℕ → Type 0) (us : List ℕ) : Type 0 where
  ordered : Ordered R (sara_am_sources us)
  below : AllByRecursion (λ p. p < length us) (sara_am_sources us)

-- and so of the front without its last above-base marks
record Fronts (R : ℕ → ℕ → Type 0) (us : List ℕ) : Type 0 where
  whole : Fronted R us
  before : Fronted R (before_last_stretch is_above_base us)

-- places that a SARA AM moves over
abbrev Together : (ℕ → ℕ → Type 0) → List ℕ → Type 0
Together R all = (xs : List ℕ) (u : ℕ) (ys : List ℕ) → all ≡ xs ++ u ∷ ys → is_sara_am u ≡ true → (q : ℕ)
    → length xs - suffix_len is_above_base xs ≤ q → q < length xs → R (length xs) q

fronted_am : (R : ℕ → ℕ → Type 0) (n : ℕ) → Climbs R n → (us : List ℕ) (u : ℕ) → length us < n → is_sara_am u ≡ true
    → ((q : ℕ) → length us - suffix_len is_above_base us ≤ q → q < length us → R (length us) q)
    → Fronted R (before_last_stretch is_above_base us) → Fronted R (us ++ u ∷ [])
fronted_am R n climbs us u inside am near f =
    let k = length us in
    let w = suffix_len is_above_base us in
    let few = suffix_len-le-length is_above_base us in
    let more = length_push us u in
    let b = before_last_stretch is_above_base us in
    let short : length b ≡ k - w = search (arith, length-take-le) in
    let run = range_with_len (k - w) w in
    let src = sara_am_sources b in
    let last = (k ∷ run) ++ k ∷ [] in
    let front : AllByRecursion (R k) (run ++ k ∷ []) =
    all_append (R k) run (k ∷ [])
    (all-range (R k) (k - w) w (λ p low high. near p low (omega (arith, high, few)))) (
      climbs k k (omega arith) inside,
      tt,
    ) in
    let here : Ordered R last = (
      front,
      ordered_append R run (k ∷ []) (ordered_range R n climbs (k - w) w (omega (arith, few, inside))) (tt, tt)
          (all-range (λ p. AllByRecursion (R p) (k ∷ [])) (k - w) w (λ p low high. (
            climbs p k (omega (arith, high, few)) inside,
            tt,
          ))),
    ) in
    let places : (P : ℕ → Type 0) → ((p : ℕ) → k - w ≤ p → p ≤ k → P p) → AllByRecursion P last =
    λ P each. (
      each k (omega arith) (omega arith),
      all_append P run (k ∷ []) (all-range P (k - w) w (λ p low high. each p low (omega (arith, high, few))))
          (each k (omega arith) (omega arith), tt),
    ) in
    subst (λ ps. Ordered R ps × AllByRecursion (λ p. p < length (us ++ u ∷ [])) ps → Fronted R (us ++ u ∷ []))
    (
    search (
      arith,
      enumerate-append us (u ∷ []),
      in_two_at place_rule (enumerate_from 0 us) (length us, u) [] am,
      map-append,
      before_last_stretch-enumerate_from is_above_base 0 us,
      places-last_stretch is_above_base us,
    ))
    (λ both. record { ordered = both.0; below = both.1 }) (
      ordered_append R src last f.ordered here (all_weaker (λ p. p < length b) (λ p. AllByRecursion (R p) last)
          (λ p low. places (R p)
          (λ q least most. climbs p q (omega (arith, low, short, least)) (omega (arith, most, inside)))) src f.below),
      all_append (λ p. p < length (us ++ u ∷ [])) src last
          (all_weaker (λ p. p < length b) (λ p. p < length (us ++ u ∷ [])) (λ p low. omega (arith, low, short, more))
          src f.below) (places (λ p. p < length (us ++ u ∷ [])) (λ p least most. omega (arith, most, more))),
    )

fronts_push : (R : ℕ → ℕ → Type 0) (all : List ℕ) → Climbs R (length all) → Together R all → (us : List ℕ) (u : ℕ)
    → ((ys : List ℕ) → all ≡ us ++ ys → Fronts R us) → (ys : List ℕ) → all ≡ (us ++ u ∷ []) ++ ys
    → Fronts R (us ++ u ∷ [])
fronts_push R all climbs near us u earlier ys split =
    let text = split ∙ append_assoc us (u ∷ []) ys in
    let f = earlier (u ∷ ys) text in
    let inside : length us < length all = search (arith, length-append) in
    let whole =
    elim (is_sara_am u) as (λ b. is_sara_am u ≡ b → Fronted R (us ++ u ∷ [])) [
      | true ↦ λ am. fronted_am R (length all) climbs us u inside am (near us u ys text am) f.before
      | false ↦ λ other. search (arith, sources_push, ordered_append, all_weaker, all_append, length_push)
    ] refl in
    record {
      whole = whole;
      before =
          elim (is_above_base u) as (λ b. is_above_base u ≡ b
          → Fronted R (before_last_stretch is_above_base (us ++ u ∷ []))) [
            | true ↦ λ mark. subst (Fronted R) (sym (before_last_run_yes is_above_base us u mark)) f.before
            | false ↦ λ letter. subst (Fronted R) (sym (before_last_run_no is_above_base us u letter)) whole
          ] refl;
    }

sources_ordered : (R : ℕ → ℕ → Type 0) (all : List ℕ) → Climbs R (length all) → Together R all
    → Ordered R (sara_am_sources all) × AllByRecursion (λ p. p < length all) (sara_am_sources all)
sources_ordered R all climbs near =
    let nothing : Fronted R [] = record { ordered = tt; below = tt } in
    let f = from_end (λ us. (ys : List ℕ) → all ≡ us ++ ys
    → Fronts R us) (λ ys split. record { whole = nothing; before = nothing }) (fronts_push R all climbs near)
    all [] (sym (append-nil all)) in
    search arith

-- the clusters at those places
all_picked : (P : ℕ → Type 0) (ps cs : List ℕ) → AllByRecursion (λ p. P (get_or cs p 0)) ps
    → AllByRecursion (λ p. p < length cs) ps → AllByRecursion P (pick ps cs)
all_picked P [] cs own below = tt
all_picked P (p ∷ ps) cs own below =
    search (arith, pick-within 0 p ps cs below.0, own.0, all_picked P ps cs own.1 below.1)

picked : (S : ℕ → ℕ → Type 0) (ps cs : List ℕ) → Ordered (λ p q. S (get_or cs p 0) (get_or cs q 0)) ps
    → AllByRecursion (λ p. p < length cs) ps → Ordered S (pick ps cs)
picked S [] cs ordered below = tt
picked S (p ∷ ps) cs ordered below = search (
  arith,
  pick-within 0 p ps cs below.0,
  all_picked (S (get_or cs p 0)) ps cs ordered.0 below.1,
  picked S ps cs ordered.1 below.1,
)

-- a SARA AM and the marks that its NIKHAHIT passes share a cluster
ends : (sts : List (ℕ × ℕ)) (k : ℕ) (st : ℕ × ℕ) → get_or sts k st ≡ st → ((get_or sts k st).0 ≡ st.0)
    × ((get_or sts k st).1 ≡ st.1)
ends = search arith

passed_share : (level : BufferClusterLevel) → merges level ≡ true
    → (gs : Glyphs) (xs : List ℕ) (u : ℕ) (ys : List ℕ) → characters gs ≡ xs ++ u ∷ ys
    → is_sara_am u ≡ true → (q : ℕ) → length xs - suffix_len is_above_base xs ≤ q → q < length xs
    → get_or (joined_all level (sara_am_stretches level (characters gs)) (clusters gs)) q 0
    ≡ get_or (joined_all level (sara_am_stretches level (characters gs)) (clusters gs)) (length xs) 0
passed_share level m gs xs u ys split am q low high =
    let n = length xs in
    let w = suffix_len is_above_base xs in
    let st : ℕ × ℕ = (n - w, n + 1) in
    let sts = sara_am_stretches level (characters gs) in
    let merged : Contains (stretches_at level n u w) st = let test =
    lt-ltb 0 w (omega (arith, low, high)) in rw (am, test) (0, omega arith, refl) in
    let there =
    subst (λ vs. Contains (sara_am_stretches level vs) st) (sym split)
    (Contains-flat_map _ (each_after [] (xs ++ u ∷ ys)) (xs, u) st (Contains-each_after [] xs u ys) merged) in
    let (first, second) = ends sts there.0 st there.2 in
    let long = length-map gs (λ (g : Glyph). g.cluster) in
    let inside : n < length (clusters gs) =
    omega (
      arith,
      long,
      sym (length-map gs (λ (g : Glyph). g.glyph_id)) ∙ ap length split,
      length-append xs (u ∷ ys),
    ) in
    let held = held_by sts there.0 st there.1 n q (omega (arith, first)) (omega (arith, second))
    (omega (arith, first, low)) (omega (arith, second, high)) in
    held_share level m sts (clusters gs) (subst (λ k. EndWithin k sts) (sym long) (stretches_within level gs)) n q
    inside (omega (arith, inside, high)) held q (omega arith) (omega arith)

pub thai_monotone : (level : BufferClusterLevel) → merges level ≡ true → (gs : Glyphs) (js : List ℕ)
    → ClustersMade level (sara_am_stretches level (characters gs)) (sara_am_sources (characters gs)) (clusters gs) js
    → StaysMonotone (clusters gs) js
thai_monotone level m gs js made =
    let us = characters gs in
    let cs = clusters gs in
    let sts = sara_am_stretches level us in
    let M = joined_all level sts cs in
    let long = length-map gs (λ (g : Glyph). g.cluster) in
    let chars = length-map gs (λ (g : Glyph). g.glyph_id) in
    let within = subst (λ k. EndWithin k sts) (sym long) (stretches_within level gs) in
    let ordered : (S : ℕ → ℕ → Type 0) → ((a : ℕ) → S a a)
    → ((p q : ℕ) → p < q → q < length M → S (get_or M p 0) (get_or M q 0)) → length M ≡ length cs
    → Ordered S js = λ S same climbs as_long.
    let R : ℕ → ℕ → Type 0 = λ p q. S (get_or M p 0) (get_or M q 0) in
    let all = sources_ordered R us (search arith)
    (λ xs u ys split am q low high. subst (λ c. S (get_or M (length xs) 0) c)
    (sym (passed_share level m gs xs u ys split am q low high)) (same (get_or M (length xs) 0))) in
    subst (Ordered S) (sym made.clusters_are) (picked S (sara_am_sources us) M all.0
    (all_weaker (λ p. p < length us) (λ p. p < length M) (λ p low. omega (arith, low, long, chars, as_long))
    (sara_am_sources us) all.1)) in (
      λ up. to_pairs (λ a b. a ≤ b) js (ordered (λ a b. a ≤ b) (λ a. omega arith) (λ p q less most.
          (stays_rising level sts cs within up) p q 0 less most)
          (exact_cuts level m sts cs within (inl up)).same_length),
      λ down. to_pairs (λ a b. b ≤ a) js (ordered (λ a b. b ≤ a) (λ a. omega arith) (λ p q less most.
          (stays_falling level sts cs within down) p q 0 less most)
          (exact_cuts level m sts cs within (inr down)).same_length),
    )
