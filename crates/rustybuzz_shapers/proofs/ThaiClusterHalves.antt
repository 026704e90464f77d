-- A Thai text cut in halves that share no cluster: their clusters.
use Rattle.std.proofs.Common.{ℕ, suc, ◌+◌, ◌-◌, ◌<◌, ◌≤◌, ◌≡◌, Bool, true, false, List, [], ◌∷◌, ◌++◌, length, refl, sym, ap, ◌∙◌, arith, subst}
use Rattle.std.specs.Prelude.{if◌then◌else◌}
use Rattle.std.specs.List.{range_with_len, suffix_len}
use Rattle.std.proofs.lemmas.Bool.{lt-ltb}
use Rattle.std.proofs.lemmas.List.{append-nil, append_assoc, length-append, length-map, map-append, take_all}
use Rattle.std.proofs.lemmas.List.Concat.{flat_map-append}
use Rattle.std.proofs.lemmas.List.FromFn.{length-range_with_len}
use Rattle.std.proofs.lemmas.List.Sums.{suffix_len-le-length}
use Rattle.shapers_buffer.specs.Glyphs.{Glyph, Glyphs}
use Rattle.shapers_buffer.specs.declared.buffer.level.BufferClusterLevel.{BufferClusterLevel}
use Rattle.shapers_buffer.specs.Clusters.{merge_all}
use Rattle.shapers_buffer.specs.Glyph.{characters, clusters}
use Rattle.shapers_buffer.specs.Lists.{each_after}
use Rattle.shapers_buffer.specs.Places.{pick}
use Rattle.shapers_buffer.proofs.ListLaws.{suffix_len_stop}
use Rattle.shapers_buffer.proofs.MappedLists.{all-range}
use Rattle.shapers_buffer.proofs.Picks.{pick-range}
use Rattle.shapers_clusters.specs.Cuts.{EndWithin, ShareNone}
use Rattle.shapers_clusters.specs.Steps.{FitsStep, Step, after_step, after_steps, shifted, widened}
use Rattle.shapers_clusters.proofs.Halves.{halves}
use Rattle.shapers_clusters.proofs.Merging.{length-merge_all, merge_all-append}
use Rattle.shapers_clusters.proofs.Widened.{range-three}
use Rattle.shapers_text.specs.Thai.{glyph_rule, glyphs_in_two, is_above_base, is_sara_am, sara_am_stretches, stretch_of_sara_am, stretches_at, stretches_of_each}
use Rattle.shapers_text.specs.ThaiForms.{preprocessed_text}
use Rattle.shapers_text.proofs.ThaiFormWalks.{forms_hold}
use Rattle.shapers_text.proofs.ThaiStretches.{characters-merge_all, stretches_within}
use Rattle.rustybuzz_shapers.proofs.ThaiHalves.{cut_at}

-- MERGES of halves that share no cluster
-- the step that merges, and moves nothing
abbrev pub merging : ℕ → List (ℕ × ℕ) → Step
merging n sts = record { merged_first = sts; places = range_with_len 0 n; merged_then = [] }

pub merging_fits : (n : ℕ) (sts : List (ℕ × ℕ)) → EndWithin n sts → FitsStep n (merging n sts)
merging_fits n sts within =
    search (arith, length-range_with_len 0 n, all-range (λ p. p < n) 0 n (λ p low high. omega (arith, high)))

all_picked : (n : ℕ) (gs : Glyphs) → length gs ≡ n → pick (range_with_len 0 n) gs ≡ gs
all_picked n gs same = pick-range 0 n gs (omega (arith, same)) ∙ take_all n gs (omega (arith, same))

only_merged : (level : BufferClusterLevel) (n : ℕ) (sts : List (ℕ × ℕ)) (gs : Glyphs) → length gs ≡ n
    → EndWithin n sts → after_step level (merging n sts) gs ≡ merge_all level sts gs
only_merged level n sts gs same within =
    all_picked n (merge_all level sts gs)
    (length-merge_all level sts gs (subst (λ k. EndWithin k sts) (sym same) within) ∙ same)

none_added : (n : ℕ) → 0 + n ≡ n
none_added = omega arith

none_taken : (n : ℕ) → n - 0 ≡ n
none_taken = omega arith

pub unshifted : (sts : List (ℕ × ℕ)) → shifted 0 sts ≡ sts
unshifted [] = refl
unshifted (st ∷ sts) = search (arith, none_added, unshifted sts)

shifted_within : (s n : ℕ) (sts : List (ℕ × ℕ)) → EndWithin n sts → EndWithin (s + n) (shifted s sts)
shifted_within s n [] within = tt
shifted_within s n (st ∷ sts) within = search (arith, shifted_within s n sts within.1)

widened_is : (s e n : ℕ) (sts : List (ℕ × ℕ)) → s ≤ e → e ≤ n → widened s e n (merging (e - s) sts)
    ≡ merging n (shifted s sts)
widened_is = search (arith, range-three)

pub merged_halves : (level : BufferClusterLevel) (one two : List (ℕ × ℕ)) (gs hs : Glyphs)
    → EndWithin (length gs) one → EndWithin (length hs) two → ShareNone gs hs
    → merge_all level (one ++ shifted (length gs) two) (gs ++ hs) ≡ merge_all level one gs ++ merge_all level two hs
merged_halves level one two gs hs first second none =
    let a = length gs in
    let n = a + length hs in
    let long : length (gs ++ hs) ≡ n = length-append gs hs in
    let b : n - a ≡ length hs = omega arith in
    let wide : EndWithin n one = grown one first in
    let there = shifted_within a (length hs) two second in
    let mid = merge_all level one (gs ++ hs) in
    let ms : length mid ≡ n = length-merge_all level one (gs ++ hs) (subst (λ k. EndWithin k one) (sym long) wide)
    ∙ long in
    merge_all-append level one (shifted a two) (gs ++ hs)
    ∙ sym (only_merged level n (shifted a two) mid ms there)
    ∙ ap (after_step level (merging n (shifted a two))) (sym (only_merged level n one (gs ++ hs) long wide))
    ∙ ap (λ (step : Step). after_steps level (merging n one ∷ step ∷ []) (gs ++ hs))
    (sym (widened_is a n n two (omega arith) (omega arith)))
    ∙ ap (λ (sts : List (ℕ × ℕ)). after_steps level (merging n sts ∷ widened a n n (merging (n - a) two) ∷ []) (gs ++ hs))
    (sym (unshifted one))
    ∙ ap (λ (step : Step). after_steps level (step ∷ widened a n n (merging (n - a) two) ∷ []) (gs ++ hs))
    (sym (widened_is 0 a n one (omega arith) (omega arith)))
    ∙ ap (λ (m : ℕ). after_steps level (widened 0 a n (merging m one) ∷ widened a n n (merging (n - a) two) ∷ [])
    (gs ++ hs)) (none_taken a)
    ∙ halves level a n (merging a one ∷ []) (merging (n - a) two ∷ []) gs hs refl refl (merging_fits a one first, tt)
    (merging_fits (n - a) two (subst (λ k. EndWithin k two) (sym b) second), tt) none
    ∙ ap (λ xs. xs ++ after_steps level (merging (n - a) two ∷ []) hs) (only_merged level a one gs refl first)
    ∙ ap (λ xs. merge_all level one gs ++ xs)
    (only_merged level (n - a) two hs (sym b) (subst (λ k. EndWithin k two) (sym b) second))
  where
    grown : (sts : List (ℕ × ℕ)) → EndWithin (length gs) sts → EndWithin (length gs + length hs) sts
    grown [] within = tt
    grown (st ∷ sts) within = (omega (arith, within.0), grown sts within.1)

-- STRETCHES of Thai: those of the second half are shifted
one_stretch : (b c : Bool) (n l k : ℕ) → k ≤ l → 0 < l
    → (if b then (n + l - k, n + l + 1) ∷ [] else if c then (n + l - 1, n + l + 1) ∷ [] else [])
    ≡ shifted n (if b then (l - k, l + 1) ∷ [] else if c then (l - 1, l + 1) ∷ [] else [])
one_stretch false false n l k few some = refl
one_stretch _ _ n l k few some = search arith

same_stretch : (level : BufferClusterLevel) (n l k : ℕ) → k ≤ l → 0 < l → stretch_of_sara_am level (n + l) k
    ≡ shifted n (stretch_of_sara_am level l k)
same_stretch = search (arith, lt-ltb, one_stretch)

at_place : (level : BufferClusterLevel) (am : Bool) (n l k : ℕ) → k ≤ l → 0 < l
    → (if am then stretch_of_sara_am level (n + l) k else [])
    ≡ shifted n (if am then stretch_of_sara_am level l k else [])
at_place level true n l k few some = same_stretch level n l k few some
at_place level false n l k few some = refl

each_shifted : (level : BufferClusterLevel) (us : List ℕ) (v : ℕ) (ms vs : List ℕ) → is_above_base v ≡ false
    → stretches_of_each level (each_after (us ++ v ∷ ms) vs)
    ≡ shifted (length us) (stretches_of_each level (each_after (v ∷ ms) vs))
each_shifted level us v ms [] low = refl
each_shifted level us v ms (w ∷ vs) low =
    let n = length us in
    let l = suc (length ms) in
    let k = suffix_len is_above_base ms in
    let few : k ≤ l = search (arith, suffix_len-le-length) in
    let own = stretches_at level l w k in
    ap (λ sts. sts ++ (stretches_of_each level (each_after ((us ++ v ∷ ms) ++ w ∷ []) vs)))
    (search (arith, length-append, suffix_len_stop, at_place))
    ∙ ap (λ b. shifted n own ++ stretches_of_each level (each_after b vs)) (append_assoc us (v ∷ ms) (w ∷ []))
    ∙ ap (λ sts. shifted n own ++ sts) (each_shifted level us v (ms ++ w ∷ []) vs low) ∙ sym
    (map-append (λ (st : ℕ × ℕ). (n + st.0, n + st.1)) own (stretches_of_each level (each_after (v ∷ (ms ++ w ∷ []))
    vs)))
    ∙ ap (λ p. shifted n (stretches_at level l w p ++ stretches_of_each level (each_after (v ∷ (ms ++ w ∷ [])) vs)))
    (sym (suffix_len_stop is_above_base [] v ms low))

pub each_after-append : (before us vs : List ℕ) → each_after before (us ++ vs) ≡ each_after before us
    ++ each_after (before ++ us) vs
each_after-append before [] vs = cc (append-nil before)
each_after-append before (u ∷ us) vs = search (arith, append_assoc, each_after-append (before ++ u ∷ []) us vs)

none_first : (level : BufferClusterLevel) (n v k : ℕ) → is_sara_am v ≡ false → stretches_at level n v k ≡ []
none_first level n v k other = cc

-- THE REWRITING
two_halves : (gs ms : Glyphs) (h : Glyph) (hs : Glyphs)
    → characters ms ≡ characters (h ∷ hs) → is_above_base h.glyph_id ≡ false → is_sara_am h.glyph_id ≡ false
    → glyphs_in_two (gs ++ ms) ≡ glyphs_in_two gs ++ glyphs_in_two ms
two_halves gs [] h hs same low other = absurd cc
two_halves gs (m ∷ ms) h hs same low other =
    let first : m.glyph_id ≡ h.glyph_id = cc in
    (cut_at glyph_rule gs m ms (ap is_above_base first ∙ low) (ap is_sara_am first ∙ other)).whole

plain_halves : (has : ℕ → Bool) (level : BufferClusterLevel) (gs : Glyphs) (h : Glyph)
    (hs : Glyphs) → is_above_base h.glyph_id ≡ false → is_sara_am h.glyph_id ≡ false
    → ShareNone gs (h ∷ hs) → preprocessed_text false has level (gs ++ h ∷ hs) ≡ preprocessed_text false has level gs
    ++ preprocessed_text false has level (h ∷ hs)
plain_halves has level gs h hs low other none =
    let one = sara_am_stretches level (characters gs) in
    let two = sara_am_stretches level (characters (h ∷ hs)) in
    search (
      arith,
      map-append (λ (g : Glyph). g.glyph_id) gs (h ∷ hs),
      each_after-append,
      flat_map-append,
      none_first,
      each_shifted,
      length-map gs (λ (g : Glyph). g.glyph_id),
      merged_halves level one two gs (h ∷ hs) (stretches_within level gs) (stretches_within level (h ∷ hs)) none,
      two_halves (merge_all level one gs) (merge_all level two (h ∷ hs)) h hs
          (characters-merge_all level two (h ∷ hs)) low other,
    )

-- the clusters are those without the forms
formless : (forms has_forms : Bool) (has : ℕ → Bool) (level : BufferClusterLevel) (gs : Glyphs) → forms ≡ has_forms
    → clusters (preprocessed_text forms has level gs) ≡ clusters (preprocessed_text false has level gs)
formless forms true has level gs is = ap (λ b. clusters (preprocessed_text b has level gs)) is
    ∙ (forms_hold has level gs).clusters_stay
formless forms false has level gs is = cc

pub thai_clusters_halves : (forms : Bool) (has : ℕ → Bool) (level : BufferClusterLevel) (gs : Glyphs)
    (h : Glyph) (hs : Glyphs) → is_above_base h.glyph_id ≡ false → is_sara_am h.glyph_id ≡ false
    → ShareNone gs (h ∷ hs) → clusters (preprocessed_text forms has level (gs ++ h ∷ hs))
    ≡ clusters (preprocessed_text forms has level gs) ++ clusters (preprocessed_text forms has level (h ∷ hs))
thai_clusters_halves forms has level gs h hs low other none = cc (
  formless forms forms has level (gs ++ h ∷ hs) refl,
  plain_halves has level gs h hs low other none,
  map-append (λ (g : Glyph). g.cluster) (preprocessed_text false has level gs)
      (preprocessed_text false has level (h ∷ hs)),
  formless forms forms has level gs refl,
  formless forms forms has level (h ∷ hs) refl,
)
