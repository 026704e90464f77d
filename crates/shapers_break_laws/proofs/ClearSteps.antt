-- A place that is clear after a reordering was clear before it.
use Rattle.std.proofs.Common.{ℕ, ◌%◌, ◌-◌, ◌<◌, ◌≤◌, ◌≡◌, ◌≢◌, ◌==◌, max, Bool, true, false, ◌&&◌, ◌||◌, List, [], ◌∷◌, length, get_or, refl, sym, ap, ◌∙◌, subst, arith, inl, inr}
use Rattle.std.specs.List.{All, AllByRecursion, list_any, range_with_len}
use Rattle.std.specs.List.Sorted.{IsPermutation}
use Rattle.std.proofs.lemmas.Bool.{cases_lt, and_from, and_parts, eq-eqb, eqb-true, both_ways, false_from_ne_true, or_left, or_from}
use Rattle.std.proofs.lemmas.List.{get_or-map, length-map}
use Rattle.std.proofs.lemmas.List.Elements.{All-from_get_or, All-head, All-tail, AllZip-get_or}
use Rattle.std.proofs.lemmas.List.Folds.{list_any_at}
use Rattle.std.proofs.lemmas.List.FromFn.{length-range_with_len}
use Rattle.std.proofs.lemmas.List.Sorted.{All-permutation, IsPermutation-sym}
use Rattle.shapers_buffer.specs.Glyphs.{Glyph, Glyphs}
use Rattle.shapers_buffer.specs.Glyph.{clusters, default_glyph}
use Rattle.shapers_buffer.specs.declared.buffer.level.BufferClusterLevel.{BufferClusterLevel}
use Rattle.shapers_buffer.specs.Clusters.{merges}
use Rattle.shapers_buffer.specs.Places.{pick}
use Rattle.shapers_clusters.specs.Breaks.{greater, is_unsafe}
use Rattle.shapers_clusters.specs.Cuts.{ExactCuts, IsFalling, IsMonotone, IsRising}
use Rattle.shapers_clusters.specs.Flags.{FlagsFall, bit_at}
use Rattle.shapers_clusters.specs.Steps.{MovesMerged, Permutes, Step, all_first, old_places}
use Rattle.shapers_clusters.specs.Laws.{ReorderedHold}
use Rattle.shapers_clusters.proofs.Cuts.{falling_to, rising_to}
use Rattle.shapers_clusters.proofs.Moves.{length-old_places, merged_fits, within-old_places}
use Rattle.shapers_clusters.proofs.Permuted.{moved-permuted, picked-permuted}
use Rattle.shapers_clusters.proofs.Picks.{get_or-pick, length-pick, within_at}
use Rattle.shapers_clusters.proofs.Proved.{reordered_hold}
use Rattle.shapers_break_laws.specs.ClearSteps.{ClearBeforeLaw, ClearWasClear}

-- places on both sides of a cut get clusters of their own side
behind_cut : (cs : List ℕ) (sts : List (ℕ × ℕ)) (js : List ℕ) → ExactCuts cs sts js → (p a : ℕ) → 0 < p → p < length cs
    → get_or js (p - 1) 0 ≢ get_or js p 0 → p ≤ a → a < length cs → (q : ℕ) × (p ≤ q) × (q < length cs) ×
    (get_or js a 0 ≡ get_or cs q 0)
behind_cut cs sts js x p a z l ne low high =
    let r = x.reached a high in
    let cut = (x.cuts p z l).0 ne in
    let q = r.0 in
    let far : p ≤ q = elim (cases_lt q p) [
      | inl less ↦ absurd (both_ways _ cut (r.2 p (omega arith) (omega arith)))
      | inr more ↦ more
    ] in
    (q, far, r.1, r.3)

before_cut : (cs : List ℕ) (sts : List (ℕ × ℕ)) (js : List ℕ) → ExactCuts cs sts js → (p a : ℕ) → 0 < p → p < length cs
    → get_or js (p - 1) 0 ≢ get_or js p 0 → a < p → (q : ℕ) × (q < p) × (get_or js a 0 ≡ get_or cs q 0)
before_cut cs sts js x p a z l ne low =
    let r = x.reached a (omega arith) in
    let cut = (x.cuts p z l).0 ne in
    let q = r.0 in
    let near : q < p = elim (cases_lt q p) [
      | inl less ↦ less
      | inr more ↦ absurd (both_ways _ cut (r.2 p (omega arith) (omega arith)))
    ] in
    (q, near, r.3)

falls : (cs : List ℕ) (sts : List (ℕ × ℕ)) (js : List ℕ) → ExactCuts cs sts js → (a : ℕ) → a < length cs
    → get_or js a 0 ≤ get_or cs a 0
falls cs sts js x a l = x.least a a l l (λ k b c. absurd (omega arith))

-- the greater cluster at a cut stays, and so do all that were in it
pub record Stays (cs js : List ℕ) (p : ℕ) : Type 0 where
  pub greatest : max (get_or js (p - 1) 0) (get_or js p 0) ≡ max (get_or cs (p - 1) 0) (get_or cs p 0)
  pub each : (k : ℕ) → k < length cs → get_or cs k 0 ≡ max (get_or cs (p - 1) 0) (get_or cs p 0) → get_or js k 0
      ≡ get_or cs k 0

differ_before : (cs : List ℕ) (sts : List (ℕ × ℕ)) (js : List ℕ) → ExactCuts cs sts js → (p : ℕ) → 0 < p
    → p < length cs → get_or js (p - 1) 0 ≢ get_or js p 0 → get_or cs (p - 1) 0 ≢ get_or cs p 0
differ_before cs sts js x p z l ne same =
    let cut = (x.cuts p z l).0 ne in
    both_ways _ cut (or_left _ _ (eq-eqb (get_or cs (p - 1) 0) (get_or cs p 0) same))

stays_up : (cs : List ℕ) (sts : List (ℕ × ℕ)) (js : List ℕ) → ExactCuts cs sts js → IsRising cs → (p : ℕ) → 0 < p
    → p < length cs → get_or js (p - 1) 0 ≢ get_or js p 0 → Stays cs js p
stays_up cs sts js x up p z l ne =
    let old = differ_before cs sts js x p z l ne in
    let step = rising_to cs up (p - 1) p (omega arith) l in
    let (q, far, ql, is) = behind_cut cs sts js x p p z l ne (omega arith) l in
    let least = rising_to cs up p q far ql in
    let own = falls cs sts js x p l in
    let before = falls cs sts js x (p - 1) (omega arith) in
    record {
      greatest = omega arith;
      each = λ k kl e. elim (cases_lt k p) [
        | inl less ↦ let low = rising_to cs up k (p - 1) (omega arith) (omega arith) in absurd (omega arith)
        | inr more ↦
            let (r, rf, rl, rs) = behind_cut cs sts js x p k z l ne more kl in
            let bound = rising_to cs up p r rf rl in
            let fell = falls cs sts js x k kl in
            omega arith
      ];
    }

stays_down : (cs : List ℕ) (sts : List (ℕ × ℕ)) (js : List ℕ) → ExactCuts cs sts js → IsFalling cs → (p : ℕ) → 0 < p
    → p < length cs → get_or js (p - 1) 0 ≢ get_or js p 0 → Stays cs js p
stays_down cs sts js x down p z l ne =
    let old = differ_before cs sts js x p z l ne in
    let step = falling_to cs down (p - 1) p (omega arith) l in
    let (q, near, is) = before_cut cs sts js x p (p - 1) z l ne (omega arith) in
    let least = falling_to cs down q (p - 1) (omega arith) (omega arith) in
    let own = falls cs sts js x (p - 1) (omega arith) in
    let behind = falls cs sts js x p l in
    record {
      greatest = omega arith;
      each = λ k kl e. elim (cases_lt k p) [
        | inl less ↦
            let (r, rn, rs) = before_cut cs sts js x p k z l ne less in
            let bound = falling_to cs down r (p - 1) (omega arith) (omega arith) in
            let fell = falls cs sts js x k kl in
            omega arith
        | inr more ↦ let low = falling_to cs down p k more kl in absurd (omega arith)
      ];
    }

pub stays : (cs : List ℕ) (sts : List (ℕ × ℕ)) (js : List ℕ) → ExactCuts cs sts js → IsMonotone cs → (p : ℕ) → 0 < p
    → p < length cs → get_or js (p - 1) 0 ≢ get_or js p 0 → Stays cs js p
stays cs sts js x h p z l ne = elim h [
  | inl up ↦ stays_up cs sts js x up p z l ne
  | inr down ↦ stays_down cs sts js x down p z l ne
]

-- masks with the same glyph flags are unsafe alike
bits_same : (a b : ℕ) → b % 8 ≡ a % 8 → (bit_at 0 b ≡ bit_at 0 a) × (bit_at 2 b ≡ bit_at 2 a)
bits_same a b e = (omega arith, omega arith)

unsafe_same : (g h : Glyph) → h.mask % 8 ≡ g.mask % 8 → is_unsafe h ≡ is_unsafe g
unsafe_same g h e =
    let (a, b) = bits_same g.mask h.mask e in
    ap (λ k. k == 1 || bit_at 2 h.mask == 1) a ∙ ap (λ k. bit_at 0 g.mask == 1 || k == 1) b

-- whether a glyph of this cluster is unsafe
abbrev is_flagged : ℕ → Glyph → Bool
is_flagged c g = g.cluster == c && is_unsafe g

cluster_at : (gs : Glyphs) (k : ℕ) → k < length gs → get_or (clusters gs) k 0 ≡
    (get_or gs k default_glyph).cluster
cluster_at gs k h = get_or-map (λ (g : Glyph). g.cluster) gs k default_glyph 0 h

none_any : {X : Type 0} (test : X → Bool) (xs : List X) → All (λ x. test x ≡ false) xs → list_any test xs ≡ false
none_any test [] h = refl
none_any test (x ∷ xs) h = or_from _ _ (All-head (λ x. test x ≡ false) x xs h)
    (none_any test xs (All-tail (λ x. test x ≡ false) x xs h))

pub clear_before_held : (view : Glyph → Glyph) (level : BufferClusterLevel) (steps : List Step)
    (gs ms : Glyphs) → merges level ≡ true → IsMonotone (clusters gs) → AllByRecursion
    (MovesMerged (length gs)) steps → AllByRecursion (Permutes (length gs)) steps
    → ReorderedHold view level steps gs ms → ClearWasClear gs ms
clear_before_held view level steps gs ms m mono moves permutes hold p z l clear =
    let n = length gs in
    let cs = clusters gs in
    let js = clusters ms in
    let count = length-map gs (λ (g : Glyph). g.cluster) in
    let long = hold.glyphs.same_length in
    let merged = hold.where_merging m in
    let x = merged.exact mono in
    let st = stays cs (all_first steps) js x mono p z (omega arith) clear.differ in
    let c = greater gs p in
    let d = greater ms p in
    let olds = old_places n steps in
    let fit = merged_fits n steps moves in
    let within = within-old_places n steps in
    let many = length-old_places n steps fit in
    let old : Glyphs = pick olds gs in
    let moved : IsPermutation gs old = picked-permuted n olds gs refl within
    (moved-permuted n steps (range_with_len 0 n) (length-range_with_len 0 n) fit permutes) in
    let as_many : length old ≡ n = length-pick olds gs within ∙ many in
    let P : Glyph → Type 0 = λ g. is_flagged c g ≡ false in
    let each : (i : ℕ) → i < length old → P (get_or old i default_glyph) = λ i il.
    let k = get_or olds i 0 in
    let kl : k < n = within_at n olds within i (omega arith) in
    let g = get_or gs k default_glyph in
    let h = get_or ms i default_glyph in
    let from : get_or old i default_glyph ≡ g = get_or-pick default_glyph olds gs within i (omega arith) in
    let same_olds : get_or (old_places (length cs) steps) i 0 ≡ k = ap (λ t. get_or (old_places t steps) i 0) count in
    let shares : get_or js k 0 ≡ get_or js i 0 = subst (λ t. get_or js t 0 ≡ get_or js i 0) same_olds
    (merged.cluster_law i (omega arith) (get_or (old_places (length cs) steps) i 0) (omega arith) (omega arith)) in
    let here : get_or cs k 0 ≡ g.cluster = cluster_at gs k kl in
    let there : get_or js i 0 ≡ h.cluster = cluster_at ms i (omega arith) in
    let fallen = AllZip-get_or FlagsFall old ms i default_glyph default_glyph hold.glyphs.falls il in
    subst P (sym from) (false_from_ne_true (is_flagged c g) (λ flagged.
    let (in_c, bad) = and_parts (g.cluster == c) (is_unsafe g) flagged in
    let own : g.cluster ≡ c = eqb-true g.cluster c in_c in
    let kept : get_or js k 0 ≡ get_or cs k 0 = st.each k (omega arith) (here ∙ own) in
    let same : h.cluster ≡ g.cluster = sym there ∙ sym shares ∙ kept ∙ here in
    let flags = fallen.kept (subst (λ (t : Glyph). h.cluster ≡ t.cluster) (sym from) same) in
    let still : is_unsafe h ≡ true = unsafe_same g h
    (subst (λ (t : Glyph). h.mask % 8 ≡ t.mask % 8) from flags) ∙ bad in
    both_ways _ clear.unflagged (list_any_at (is_flagged d) ms i default_glyph (omega arith)
    (and_from (h.cluster == d) (is_unsafe h) (eq-eqb h.cluster d (same ∙ own ∙ sym st.greatest)) still)))) in
    record {
      differ = differ_before cs (all_first steps) js x p z (omega arith) clear.differ;
      unflagged = none_any (is_flagged c) gs (All-permutation P old gs (IsPermutation-sym gs old moved)
          (All-from_get_or P old default_glyph each));
    }

pub clear_before : ClearBeforeLaw
clear_before view hides level steps gs ms m mono moves permutes result = clear_before_held view level steps gs ms m
    mono moves permutes (reordered_hold view hides level steps gs ms moves permutes result)
