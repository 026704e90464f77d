-- Merges leave in each run of a cluster a glyph that was in it before, with its flags.
use Rattle.std.proofs.Common.{ℕ, ◌+◌, ◌-◌, ◌<◌, ◌≤◌, ◌≡◌, List, [], ◌∷◌, length, get_or, refl, sym, ap, ◌∙◌, subst, arith, inl, inr}
use Rattle.std.specs.List.{AllByRecursion}
use Rattle.std.proofs.lemmas.Bool.{cases_lt}
use Rattle.std.proofs.lemmas.Bool.Decides.{nat_tests}
use Rattle.std.proofs.lemmas.List.{get_or-map, length-map}
use Rattle.std.proofs.lemmas.List.Elements.{AllZip-get_or}
use Rattle.shapers_buffer.specs.Glyphs.{Glyph, Glyphs}
use Rattle.shapers_buffer.specs.declared.buffer.level.BufferClusterLevel.{BufferClusterLevel}
use Rattle.shapers_buffer.specs.Clusters.{in_cluster, merge, merge_all}
use Rattle.shapers_buffer.specs.Glyph.{clusters, default_glyph}
use Rattle.shapers_buffer.specs.Places.{pick}
use Rattle.shapers_clusters.specs.Cuts.{EndWithin, ShareCluster}
use Rattle.shapers_clusters.specs.Flags.{FallsTo}
use Rattle.shapers_clusters.specs.Steps.{FitsStep, Step, after_step}
use Rattle.shapers_clusters.proofs.ClusterMerges.{clusters-merge}
use Rattle.shapers_clusters.proofs.Falls.{merge-falls}
use Rattle.shapers_clusters.proofs.Merging.{length-merge}
use Rattle.shapers_clusters.proofs.Neighbours.{left_to, right_from}
use Rattle.shapers_clusters.proofs.Picks.{get_or-pick, length-pick, within_at}
use Rattle.shapers_clusters.proofs.Spread.{Spread, joined_cases}

-- P holds of each glyph
abbrev pub AllAt : (Glyph → Type 0) → Glyphs → Type 0
AllAt P gs = (i : ℕ) → i < length gs → P (get_or gs i default_glyph)

-- of a glyph in the run of place i, whose glyphs are all in one cluster
pub record Keeper (P : Glyph → Type 0) (gs : Glyphs) (i : ℕ) : Type 0 where
  pub at : ℕ
  pub within : at < length gs
  pub shares : ShareCluster (clusters gs) i at
  pub holds : P (get_or gs at default_glyph)

abbrev pub HaveKeepers : (Glyph → Type 0) → Glyphs → Type 0
HaveKeepers P gs = (i : ℕ) → i < length gs → Keeper P gs i

pub own_keepers : (P : Glyph → Type 0) (gs : Glyphs) → AllAt P gs → HaveKeepers P gs
own_keepers P gs all i l = record {
  at = i;
  within = l;
  shares = λ r a b. let e : r ≡ i = omega arith in ap (λ k. get_or (clusters gs) k 0) e;
  holds = all i l;
}

-- the same of clusters alone: in the run of each place one of which Q holds
record KeptIn (Q : ℕ → Type 0) (cs js : List ℕ) (i : ℕ) : Type 0 where
  at : ℕ
  within : at < length cs
  shares : ShareCluster js i at
  same : get_or js at 0 ≡ get_or cs at 0
  holds : Q at

-- a run doesn't reach over an end of what merges
not_left : (s e : ℕ) (cs js : List ℕ) (f : Spread s e cs js) (i k : ℕ) → i < f.low → f.low ≤ k → ShareCluster cs i k → ⊥
not_left s e cs js f i k a b share = f.left_edge (omega arith)
    (share (f.low - 1) (omega arith) (omega arith) ∙ sym (share f.low (omega arith) (omega arith))
    ∙ left_to s e cs js f f.low (omega arith) f.low_within)

not_left_back : (s e : ℕ) (cs js : List ℕ) (f : Spread s e cs js) (i k : ℕ) → k < f.low → f.low ≤ i
    → ShareCluster cs i k → ⊥
not_left_back s e cs js f i k a b share = f.left_edge (omega arith)
    (share (f.low - 1) (omega arith) (omega arith) ∙ sym (share f.low (omega arith) (omega arith))
    ∙ left_to s e cs js f f.low (omega arith) f.low_within)

not_right : (s e : ℕ) (cs js : List ℕ) (f : Spread s e cs js) → s + 1 < e → (i k : ℕ) → f.high ≤ i → i < length cs
    → k < f.high → ShareCluster cs i k → ⊥
not_right s e cs js f h i k a l b share =
    let w = f.high_within in
    f.right_edge (omega arith)
    (share f.high (omega arith) (omega arith) ∙ sym (share (f.high - 1) (omega arith) (omega arith))
    ∙ right_from s e cs js f (f.high - 1) (omega arith) (omega arith))

not_right_back : (s e : ℕ) (cs js : List ℕ) (f : Spread s e cs js) → s + 1 < e → (i k : ℕ) → f.high ≤ k → k < length cs
    → i < f.high → ShareCluster cs i k → ⊥
not_right_back s e cs js f h i k a l b share =
    let w = f.high_within in
    f.right_edge (omega arith)
    (share f.high (omega arith) (omega arith) ∙ sym (share (f.high - 1) (omega arith) (omega arith))
    ∙ right_from s e cs js f (f.high - 1) (omega arith) (omega arith))

-- a merge keeps in its run the glyph that was of the least cluster, and others keep theirs
abbrev InRuns : (ℕ → Type 0) → List ℕ → Type 0
InRuns Q cs = (i : ℕ) → i < length cs → (k : ℕ) × (k < length cs) × ShareCluster cs i k × Q k

kept_in_spread : (Q : ℕ → Type 0) (s e : ℕ) (cs js : List ℕ) → Spread s e cs js → s + 1 < e → InRuns Q cs → (i : ℕ)
    → i < length cs → KeptIn Q cs js i
kept_in_spread Q s e cs js f h runs i l =
    let lw = f.low_within in
    let hw = f.high_within in
    let he = f.high_end in
    elim (cases_lt i f.low) [
      | inl front ↦
          let (k, kl, share, q) = runs i l in
          let near : k < f.low = elim (cases_lt k f.low)
          [ inl a ↦ a | inr a ↦ absurd (not_left s e cs js f i k front a share) ] in
          record {
            at = k;
            within = kl;
            shares = λ r a b. f.before r (omega arith) ∙ share r a b ∙ sym (f.before i front);
            same = f.before k near;
            holds = q;
          }
      | inr a ↦ elim (cases_lt i f.high) [
        | inl b ↦
            let from = f.at_from in
            let to = f.at_to in
            let (k, kl, share, q) = runs f.at (omega arith) in
            let low : f.low ≤ k = elim (cases_lt k f.low)
            [ inl c ↦ absurd (not_left_back s e cs js f f.at k c (omega arith) share) | inr c ↦ c ] in
            let high : k < f.high = elim (cases_lt k f.high)
            [ inl c ↦ c | inr c ↦ absurd (not_right_back s e cs js f h f.at k c kl (omega arith) share) ] in
            record {
              at = k;
              within = kl;
              shares = λ r c d. f.inside r (omega arith) (omega arith) ∙ sym (f.inside i a b);
              same = f.inside k low high ∙ sym f.at_is ∙ sym (share k (omega arith) (omega arith));
              holds = q;
            }
        | inr behind ↦
            let (k, kl, share, q) = runs i l in
            let far : f.high ≤ k = elim (cases_lt k f.high)
            [ inl c ↦ absurd (not_right s e cs js f h i k behind l c share) | inr c ↦ c ] in
            record {
              at = k;
              within = kl;
              shares = λ r c d. f.behind r (omega arith) ∙ share r c d ∙ sym (f.behind i behind);
              same = f.behind k far;
              holds = q;
            }
      ]
    ]

-- so of glyphs, whose flags stay unless they fall
pub cluster_at : (gs : Glyphs) (k : ℕ) → k < length gs → get_or (clusters gs) k 0 ≡
    (get_or gs k default_glyph).cluster
cluster_at gs k h = get_or-map (λ (g : Glyph). g.cluster) gs k default_glyph 0 h

in_own_cluster : (g : Glyph) → in_cluster g.cluster g ≡ g
in_own_cluster g = grind (arith, nat_tests)

pub unfallen : (g h : Glyph) → FallsTo g h → h.cluster ≡ g.cluster → h ≡ g
unfallen g h falls same = falls.1 ∙ ap (λ c. in_cluster c g) same ∙ in_own_cluster g

pub keepers-merge : (P : Glyph → Type 0) (level : BufferClusterLevel) (s e : ℕ) (gs : Glyphs)
    → e ≤ length gs → HaveKeepers P gs → HaveKeepers P (merge level s e gs)
keepers-merge P level s e gs l have =
    let d = default_glyph in
    let cs = clusters gs in
    let ms = merge level s e gs in
    let n : length cs ≡ length gs = length-map gs (λ g. g.cluster) in
    let many : length ms ≡ length gs = length-merge level s e gs l in
    let is = clusters-merge level s e gs in
    let falls = merge-falls level s e gs l in
    let Q : ℕ → Type 0 = λ k. P (get_or gs k d) in
    let R : List ℕ → Type 0 = λ js. (i : ℕ) → i < length cs → KeptIn Q cs js i in
    let runs : InRuns Q cs = λ i il.
    let k = have i (omega arith) in
    let kw = k.within in
    (k.at, omega arith, k.shares, k.holds) in
    let still : R cs = λ i il.
    let (k, kl, share, q) = runs i il in
    record { at = k; within = kl; shares = share; same = refl; holds = q } in
    let kept : R (clusters ms) = subst R (sym is)
    (joined_cases R level s e cs (omega arith) (λ _. still)
    (λ js m h f. kept_in_spread Q s e cs js f (omega arith) runs)) in
    λ i il.
    let k = kept i (omega arith) in
    let kw = k.within in
    let kl : k.at < length gs = omega arith in
    let g = get_or gs k.at d in
    let h = get_or ms k.at d in
    let fallen = AllZip-get_or FallsTo gs ms k.at d d falls kl in
    let same : h.cluster ≡ g.cluster = sym (cluster_at ms k.at (omega arith)) ∙ k.same ∙ cluster_at gs k.at kl in
    record {
      at = k.at;
      within = omega arith;
      shares = k.shares;
      holds = subst P (sym (unfallen g h fallen same)) k.holds;
    }

pub keepers-merge_all : (P : Glyph → Type 0) (level : BufferClusterLevel) (sts : List (ℕ × ℕ))
    (gs : Glyphs) → EndWithin (length gs) sts → HaveKeepers P gs → HaveKeepers P (merge_all level sts gs)
keepers-merge_all P level [] gs h have = have
keepers-merge_all P level (st ∷ sts) gs h have =
    let W : ℕ → Type 0 = λ n. EndWithin n sts in
    let many = length-merge level st.0 st.1 gs h.0 in
    keepers-merge_all P level sts (merge level st.0 st.1 gs) (subst W (sym many) h.1)
    (keepers-merge P level st.0 st.1 gs h.0 have)

-- moves keep what holds of each glyph
pub all_picked : (P : Glyph → Type 0) (places : List ℕ) (gs : Glyphs) → AllByRecursion
    (λ p. p < length gs) places → AllAt P gs → AllAt P (pick places gs)
all_picked P places gs within all i l =
    let d = default_glyph in
    let many : length (pick places gs) ≡ length places = length-pick places gs within in
    subst P (sym (get_or-pick d places gs within i (omega arith)))
    (all (get_or places i 0) (within_at (length gs) places within i (omega arith)))

-- a step that only moves, and one that merges then
pub all_moved : (P : Glyph → Type 0) (level : BufferClusterLevel) (step : Step) (gs : Glyphs)
    → FitsStep (length gs) step → step.merged_first ≡ [] → step.merged_then ≡ [] → AllAt P gs
    → AllAt P (after_step level step gs)
all_moved P level step gs fits first then all =
    let V : List (ℕ × ℕ) → List (ℕ × ℕ) → Type 0 = λ x y.
    AllAt P (merge_all level y (pick step.places (merge_all level x gs))) in
    subst (λ x. V x step.merged_then) (sym first)
    (subst (V []) (sym then) (all_picked P step.places gs fits.within all))

pub keepers_moved : (P : Glyph → Type 0) (level : BufferClusterLevel) (step : Step)
    (gs : Glyphs) → FitsStep (length gs) step → step.merged_first ≡ [] → AllAt P gs
    → HaveKeepers P (after_step level step gs)
keepers_moved P level step gs fits first all =
    let W : ℕ → Type 0 = λ n. EndWithin n step.merged_then in
    let ps = pick step.places gs in
    let many : length ps ≡ length gs = length-pick step.places gs fits.within ∙ fits.as_many in
    subst (λ x. HaveKeepers P (merge_all level step.merged_then (pick step.places (merge_all level x gs)))) (sym first)
    (keepers-merge_all P level step.merged_then ps (subst W (sym many) fits.then_within)
    (own_keepers P ps (all_picked P step.places gs fits.within all)))
