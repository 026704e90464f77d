-- The walk over the left matras of a syllable, step by step.
use Rattle.shapers_buffer.proofs.MappedLists.{enumerate-append}
use Rattle.std.proofs.Common.{◌≡◌, ℕ, ◌+◌, ◌-◌, ◌<◌, ◌≤◌, true, false, not, [], ◌∷◌, ◌++◌, map, filter, length, take, drop, get_or, reverse, sym, ap, subst, ◌∙◌, arith, length-append}
use Rattle.std.specs.List.{list_all}
use Rattle.std.proofs.lemmas.List.{map-append}
use Rattle.std.proofs.lemmas.List.Sums.{fold-append}
use Rattle.shapers_buffer.specs.Glyphs.{Glyph, Glyphs}
use Rattle.shapers_buffer.specs.declared.buffer.level.BufferClusterLevel.{BufferClusterLevel}
use Rattle.shapers_buffer.specs.Lists.{first_last}
use Rattle.shapers_buffer.specs.Glyph.{default_glyph}
use Rattle.shapers_buffer.specs.Clusters.{has_cluster, in_one_cluster, merge, merges, stretch_of, with_stretch}
use Rattle.shapers_buffer.specs.ClusterRanges.{none_below}
use Rattle.shapers_buffer.proofs.ClusterLemmas.{get_or-stretch, length-stretch, three_parts}
use Rattle.shapers_buffer.proofs.OneCluster.{cluster_at, in_cluster_stays}
use Rattle.shapers_clusters.specs.Steps.{Step, after_step, after_steps, widened}
use Rattle.shapers_indic.specs.Glyphs.{passes}
use Rattle.shapers_indic_final.specs.declared.ot_shaper_indic_final.left_matras.MergedRanges.{MergedRanges}
use Rattle.shapers_indic_final.specs.FinalMatras.{is_left, matra_step}
use Rattle.shapers_indic_final.specs.LeftMatraWalk.{Merged, as_partitioned, gone, has_gone, has_stayed, merge_stretch, staying, steps_to}
use Rattle.shapers_indic_final.proofs.FinalPlacing.{lefts_from, lefts_no, lefts_yes, numbered_steps}
use Rattle.shapers_indic_final.specs.Proved.FinalSteps.{matra_stepped}
use Rattle.shapers_buffer.proofs.RunLemmas.{none_of_cluster}
use Rattle.shapers_indic_final.proofs.LeftMatraPlaces.{chosen-all, chosen-none, chosen-one, chosen-same, chosen-split, gone_same}
use Rattle.shapers_indic_final.proofs.LeftMatraSplit.{gone_more}
use Rattle.shapers_indic_final.proofs.LeftMatraSteps.{Fits, Lies, length-partitioned, one_more}
use Rattle.shapers_indic.proofs.PlaceSearch.{passes_there, places_none}

-- The left matras from place i to top have gone, and the next one goes to the target.
pub record Walked (level : BufferClusterLevel) (e s i top p b : ℕ) (runs : MergedRanges) (gs : Glyphs) : Type
    0 where
  pub target : ℕ
  pub partitioned : as_partitioned level (s + i) (s + top) (s + p) runs gs ≡ after_steps level
      (map (widened s e (length gs)) (numbered_steps (e - s) b (p - 1) (lefts_from i top (stretch_of s e gs)))) gs
  pub goes : target ≡ p - 1 - length (lefts_from i top (stretch_of s e gs))
  pub behind : i ≤ target
  pub count : s + target + 1 + length (gone (s + i) (s + top) gs 0 (s + p)) ≡ s + p
  pub fits : merges level ≡ true → Fits (s + i) (s + top) (s + p) runs gs

pub record Walk (s i top p b : ℕ) (runs : MergedRanges) (gs : Glyphs) : Type 0 where
  pub lies : Lies (s + p) (s + b) runs gs
  pub walked : (level : BufferClusterLevel) (e : ℕ) → s + b ≤ e → e ≤ length gs
      → (merges level ≡ true → in_one_cluster (stretch_of (s + p) (s + b) gs) ≡ true)
      → Walked level e s i top p b runs gs

none_gone : (top j : ℕ) (gs : Glyphs) → has_gone top top gs j ≡ false
none_gone = search arith

own_stays : (level : BufferClusterLevel) (m : ℕ) (gs : Glyphs)
    → (merges level ≡ true → list_all (has_cluster m) gs ≡ true) → merge_stretch level m gs ≡ gs
own_stays = search (arith, in_cluster_stays)

one_of : (g : Glyph) → list_all (has_cluster g.cluster) (g ∷ []) ≡ true
one_of = search arith

-- in places of the whole buffer
start_as : (level : BufferClusterLevel) (top p b : ℕ) (runs : MergedRanges) (gs : Glyphs) → top < p → p < b
    → b ≤ length gs → runs.start ≡ p - 1 → runs.before ≡ (get_or gs (p - 1) default_glyph).cluster → runs.end ≡ b
    → runs.cluster ≡ (get_or gs p default_glyph).cluster
    → (merges level ≡ true → in_one_cluster (stretch_of p b gs) ≡ true)
    → (as_partitioned level top top p runs gs ≡ gs) × (gone top top gs 0 p ≡ [])
    × (merges level ≡ true → Fits top top p runs gs)
start_as level top p b runs gs h l w start before end cluster one =
    let g = get_or gs (p - 1) default_glyph in
    let t = has_stayed top top gs in
    let yes : (j : ℕ) → has_stayed top top gs j ≡ true = search arith in
    let none : gone top top gs 0 p ≡ [] = search (arith, chosen-none) in
    let last : staying top top gs runs.start p ≡ g ∷ [] = search (arith, chosen-one) in
    let all : merges level ≡ true → list_all (has_cluster runs.cluster) (stretch_of p b gs) ≡ true =
    search (arith, cluster_at) in
    let same : staying top top gs 0 runs.start ++ merge_stretch level runs.before (staying top top gs runs.start p) ≡ take p gs =
    ap (λ xs. staying top top gs 0 runs.start ++ xs) (own_stays level runs.before (staying top top gs runs.start p)
    (λ on. ap (λ m. list_all (has_cluster m) (staying top top gs runs.start p)) before
    ∙ ap (list_all (has_cluster g.cluster)) last ∙ one_of g))
    ∙ sym (chosen-split t gs 0 runs.start p (omega arith) (omega arith))
    ∙ chosen-all t gs 0 p (omega arith) (omega arith) (λ j a z. yes j) ∙ (ap (λ m. take m gs) (omega arith)) in
    let rest : merge_stretch level runs.cluster (gone top top gs 0 p ++ stretch_of p runs.end gs) ++ drop runs.end gs
    ≡ stretch_of p b gs ++ drop b gs =
    ap (λ xs. merge_stretch level runs.cluster (xs ++ stretch_of p runs.end gs) ++ drop runs.end gs) none
    ∙ ap (λ n. merge_stretch level runs.cluster (stretch_of p n gs) ++ drop n gs) end
    ∙ ap (λ xs. xs ++ drop b gs) (own_stays level runs.cluster (stretch_of p b gs) all) in (
      ap (λ xs. xs ++ (merge_stretch level runs.cluster (gone top top gs 0 p ++ stretch_of p runs.end gs) ++ drop runs.end gs))
          same ∙ ap (λ xs. take p gs ++ xs) rest ∙ three_parts p b gs (omega arith),
      none,
      λ on. record {
        before = ap (λ m. none_below m (staying top top gs runs.start p)) before ∙ ap (none_below g.cluster) last
            ∙ none_of_cluster g.cluster g.cluster (g ∷ []) (omega arith) (one_of g);
        least = ap (λ xs. none_below runs.cluster (xs ++ stretch_of p runs.end gs)) none
            ∙ ap (λ n. none_below runs.cluster (stretch_of p n gs)) end
            ∙ none_of_cluster runs.cluster runs.cluster (stretch_of p b gs) (omega arith) (all on);
      },
    )

pub walk_start : (s top p b : ℕ) (runs : MergedRanges) (gs : Glyphs) → top < p → p < b → s + b ≤ length gs
    → runs.start ≡ s + p - 1 → runs.before ≡ (get_or gs (s + p - 1) default_glyph).cluster → runs.end ≡ s + b
    → runs.cluster ≡ (get_or gs (s + p) default_glyph).cluster → Walk s top top p b runs gs
walk_start s top p b runs gs h l w start before end cluster = record {
  lies = record { start = omega arith; from = omega arith; end = omega arith };
  walked = λ level e v z one.
      let part = stretch_of s e gs in
      let st = start_as level (s + top) (s + p) (s + b) runs gs (omega arith) (omega arith) w start before end cluster
      one in
      let none = ap (λ qs. reverse (filter (passes is_left part) qs)) (places_none top top (omega arith)) in
      record {
        target = p - 1;
        partitioned = st.0 ∙ sym
            (ap (λ qs. after_steps level (map (widened s e (length gs)) (numbered_steps (e - s) b (p - 1) qs)) gs) none);
        goes = ((omega arith)) ∙ sym (ap (λ qs. p - 1 - length qs) none);
        behind = omega arith;
        count = ap (λ xs. s + (p - 1) + 1 + length xs) st.1 ∙ omega arith;
        fits = st.2;
      };
}

-- what is read at a place
read_at : (s e k : ℕ) (gs : Glyphs) → s + k < e → e ≤ length gs → passes is_left (stretch_of s e gs) k
    ≡ is_left (get_or gs (s + k) default_glyph)
read_at s e k gs h w = let n = length-stretch s e gs w in search (arith, passes_there, get_or-stretch)

pub walk_no : (s i k top p b : ℕ) (runs : MergedRanges) (gs : Glyphs) → k + 1 ≡ i → i ≤ top → top < p → p < b
    → s + b ≤ length gs → is_left (get_or gs (s + k) default_glyph) ≡ false → Walk s i top p b runs gs
    → Walk s k top p b runs gs
walk_no s i k top p b runs gs one h l m w fails so =
    let same : (j : ℕ) → has_gone (s + i) (s + top) gs j ≡ has_gone (s + k) (s + top) gs j =
    λ j. ap (λ n. has_gone n (s + top) gs j) (omega arith) ∙ gone_same (s + k) (s + top) j gs (omega arith)
    (passes_there is_left gs (s + k) default_glyph (omega arith) ∙ fails) in
    let st : (a z : ℕ) → staying (s + i) (s + top) gs a z ≡ staying (s + k) (s + top) gs a z =
    λ a z. chosen-same (has_stayed (s + i) (s + top) gs) (has_stayed (s + k) (s + top) gs) gs a z
    (λ j x y. ap not (same j)) in
    let go =
    chosen-same (has_gone (s + i) (s + top) gs) (has_gone (s + k) (s + top) gs) gs 0 (s + p) (λ j x y. same j) in
    record {
      lies = so.lies;
      walked = λ level e v z all.
          let part = stretch_of s e gs in
          let wd = so.walked level e v z all in
          let before = wd.behind in
          let rest = merge_stretch level runs.cluster (gone (s + k) (s + top) gs 0 (s + p) ++ stretch_of (s + p) runs.end gs)
          ++ drop runs.end gs in
          let kept : as_partitioned level (s + i) (s + top) (s + p) runs gs
          ≡ as_partitioned level (s + k) (s + top) (s + p) runs gs =
          ap (λ xs. (staying (s + i) (s + top) gs 0 runs.start ++ merge_stretch level runs.before (staying (s + i) (s + top) gs
          runs.start (s + p))) ++ (merge_stretch level runs.cluster (xs ++ stretch_of (s + p) runs.end gs) ++ drop runs.end gs))
          go ∙ ap (λ xs. (xs ++ merge_stretch level runs.before (staying (s + i) (s + top) gs runs.start (s + p))) ++ rest)
          (st 0 runs.start)
          ∙ ap (λ xs. (staying (s + k) (s + top) gs 0 runs.start ++ merge_stretch level runs.before xs) ++ rest)
          (st runs.start (s + p)) in
          let lf = ap (λ j. lefts_from j top part) (sym one)
          ∙ sym (lefts_no k top part (omega arith) (read_at s e k gs (omega arith) z ∙ fails)) in
          record {
            target = wd.target;
            partitioned = sym kept ∙ wd.partitioned
                ∙ ap (λ qs. after_steps level (map (widened s e (length gs)) (numbered_steps (e - s) b (p - 1) qs)) gs) lf;
            goes = wd.goes ∙ ap (λ qs. p - 1 - length qs) lf;
            behind = omega arith;
            count = sym (ap (λ xs. s + wd.target + 1 + length xs) go) ∙ wd.count;
            fits = λ on. let f = wd.fits on in record {
              before = sym (ap (none_below runs.before) (st runs.start (s + p))) ∙ f.before;
              least = sym (ap (λ xs. none_below runs.cluster (xs ++ stretch_of (s + p) runs.end gs)) go) ∙ f.least;
            };
          };
    }

pub walk_yes : (s i k top p b : ℕ) (old new : MergedRanges) (gs : Glyphs) → k + 1 ≡ i → i ≤ top → top < p → p < b
    → s + b ≤ length gs → is_left (get_or gs (s + k) default_glyph) ≡ true → Merged (s + k) (s + top) old new gs
    → new.end ≤ length gs → Lies (s + p) (s + b) new gs → Walk s i top p b old gs → Walk s k top p b new gs
walk_yes s i k top p b old new gs one h l m w holds r within lies so =
    let left = passes_there is_left gs (s + k) default_glyph (omega arith) ∙ holds in
    let up : s + i ≡ s + k + 1 = omega arith in
    record {
      lies = lies;
      walked = λ level e v z all.
          let part = stretch_of s e gs in
          let wd = so.walked level e v z all in
          let V = as_partitioned level (s + k + 1) (s + top) (s + p) old gs in
          let count = sym (ap (λ n. s + wd.target + 1 + length (gone n (s + top) gs 0 (s + p))) up) ∙ wd.count in
          let on = one_more level (s + k) (s + top) (s + p) (s + b) (s + wd.target) old new gs (omega arith)
          (omega arith) (omega arith) so.lies left r count
          (λ y. subst (λ n. Fits n (s + top) (s + p) old gs) up (wd.fits y)) lies in
          let qs = lefts_from i top part in
          let more = ap (λ j. lefts_from j top part ++ k ∷ []) (sym one)
          ∙ sym (lefts_yes k top part (omega arith) (read_at s e k gs (omega arith) z ∙ holds)) in
          let long = length-partitioned level (s + k + 1) (s + top) (s + p) (s + b) old gs (omega arith) so.lies in
          let W : Step → Step = λ t. widened s e (length gs) t in
          let step = matra_step (e - s) b k wd.target in
          let steps = numbered_steps (e - s) b (p - 1) qs in
          let many : length (qs ++ k ∷ []) ≡ length qs + 1 = length-append qs (k ∷ []) in
          let goes = wd.goes in
          let stepped : merge level (s + wd.target) (s + b) (with_stretch (s + k) (s + wd.target + 1) first_last V)
          ≡ after_step level (widened s e (length V) (matra_step (e - s) b k wd.target)) V =
          matra_stepped level s e b k wd.target V (omega arith) (omega arith) (omega arith) in
          record {
            target = wd.target - 1;
            partitioned = sym on.0 ∙ stepped ∙ ap (λ n. after_step level (widened s e n step) V) long
                ∙ ap (after_step level (W step))
                (sym (ap (λ n. as_partitioned level n (s + top) (s + p) old gs) up) ∙ wd.partitioned)
                ∙ sym (fold-append (λ gs step. after_step level step gs) gs (map W steps) (W step ∷ []))
                ∙ sym (ap (λ sts. after_steps level sts gs) (map-append W steps (step ∷ [])))
                ∙ ap (λ sts. after_steps level (map W sts) gs)
                (ap (λ j. steps ++ matra_step (e - s) b k j ∷ []) goes ∙ sym (search (enumerate-append, map-append)) ∙ ap (numbered_steps (e - s) b (p - 1)) more);
            goes = ((omega arith)) ∙ ap (λ qs. p - 1 - length qs) more;
            behind = omega arith;
            count = omega (arith, ap length (gone_more (s + k) (s + top) (s + p) gs (omega arith) (omega arith) (omega arith) left));
            fits = on.1;
          };
    }

pub walk_end : (s i top p b : ℕ) (runs : MergedRanges) (gs : Glyphs) → i ≡ 0 → Walk s i top p b runs gs
    → (level : BufferClusterLevel) (e : ℕ) → s + b ≤ e → e ≤ length gs
    → (merges level ≡ true → in_one_cluster (stretch_of (s + p) (s + b) gs) ≡ true)
    → as_partitioned level s (s + top) (s + p) runs gs
    ≡ after_steps level (map (widened s e (length gs)) (steps_to top (p - 1) b (stretch_of s e gs))) gs
walk_end s i top p b runs gs none so level e v z all =
    let at : s + i ≡ s = omega arith in search (arith, (so.walked level e v z all).partitioned, length-stretch s e gs z)
