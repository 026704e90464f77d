-- The last left matra moved, and then those before it at once: the buffer after these.
use Rattle.std.proofs.Common.{◌≡◌, ℕ, ◌+◌, ◌-◌, ◌<◌, ◌≤◌, true, false, List, [], ◌∷◌, ◌++◌, map, filter, length, take, drop, get_or, refl, sym, ap, ◌∙◌, arith, length-append}
use Rattle.std.specs.List.{enumerate_from, list_any}
use Rattle.shapers_buffer.specs.Glyphs.{Glyphs}
use Rattle.shapers_buffer.specs.declared.buffer.level.BufferClusterLevel.{BufferClusterLevel}
use Rattle.shapers_buffer.specs.Lists.{first_last}
use Rattle.shapers_buffer.specs.Buffer.{Buffer}
use Rattle.shapers_buffer.specs.Clusters.{in_one_cluster, merge, merges, stretch_of, with_stretch}
use Rattle.shapers_buffer.specs.Glyph.{default_glyph}
use Rattle.shapers_clusters.specs.Steps.{Step, after_step, after_steps, widened}
use Rattle.shapers_indic.specs.Glyphs.{passes, places}
use Rattle.shapers_indic_final.specs.FinalMatras.{is_left, left_places, matra_step, partition_steps}
use Rattle.shapers_indic_final.specs.declared.ot_shaper_indic_final.left_matras.MergedRanges.{MergedRanges}
use Rattle.shapers_indic_final.specs.LeftMatraWalk.{as_partitioned, gone, has_stayed, merge_stretch, staying, steps_to}
use Rattle.std.proofs.lemmas.List.Folds.{list_any_at}
use Rattle.std.proofs.lemmas.List.{get_or-drop, get_or-take, reverse-append}
use Rattle.shapers_buffer.specs.declared.buffer.level.BufferClusterLevel.TheVariants.{Characters}
use Rattle.shapers_buffer.proofs.ClusterLemmas.{length-stretch, three_parts}
use Rattle.shapers_indic_final.proofs.FinalPlacing.{left_read, lefts_from, lefts_yes, length-matra}
use Rattle.shapers_indic_final.specs.Proved.FinalSteps.{length-moved, matra_stepped}
use Rattle.shapers_buffer.proofs.OneCluster.{one_merged}
use Rattle.shapers_indic_final.proofs.LeftMatrasListed.{parted_written}
use Rattle.shapers_indic_final.proofs.LeftMatraPlaces.{filter-split, filter_none, same_filter}
use Rattle.shapers_indic_final.proofs.LeftMatraSplit.{length-merge_stretch}
use Rattle.shapers_indic_final.proofs.LeftMatraSteps.{Lies, length-partitioned, parted_off}
use Rattle.shapers_indic.proofs.PlaceSearch.{passes_there}

-- the buffer after the move and the two writes
pub written_there : (old mid one new : Buffer) (s top p b at len : ℕ) (runs : MergedRanges) → s ≤ p → p ≤ b
    → Lies p b runs old.glyphs
    → mid ≡ record old {
      glyphs = staying s top old.glyphs 0 p ++ (gone s top old.glyphs 0 p ++ drop p old.glyphs);
      places = mid.places;
    } → at ≡ s + length (filter (has_stayed s top old.glyphs) (places s p))
    → len ≡ length (filter (has_stayed s top old.glyphs) (places runs.start p))
    → one ≡ record mid { glyphs = with_stretch (at - len) at (merge_stretch mid.level runs.before) mid.glyphs }
    → new ≡ record one { glyphs = with_stretch at runs.end (merge_stretch one.level runs.cluster) one.glyphs }
    → new ≡ record old { glyphs = as_partitioned old.level s top p runs old.glyphs; places = new.places }
written_there old mid one new s top p b at len runs h l lies moved to many first second = second
    ∙ ap (λ (x : Buffer). (record x { glyphs = with_stretch at runs.end (merge_stretch x.level runs.cluster) x.glyphs })) first
    ∙ ap
    (λ (x : Buffer). let y : Buffer = record x {
      glyphs = with_stretch at runs.end (merge_stretch x.level runs.cluster)
          (with_stretch (at - len) at (merge_stretch x.level runs.before) x.glyphs);
    } in y) moved ∙ ap (λ (gs : Glyphs). (record old { glyphs = gs; places = mid.places }))
    ((parted_written old.level s top p b at len runs old.glyphs h l lies to many).2)
    ∙ ap (λ (qs : List ℕ). (record old { glyphs = as_partitioned old.level s top p runs old.glyphs; places = qs }))
    (sym cc)

pub written_long : (old new : Buffer) (s top p b : ℕ) (runs : MergedRanges) → p ≤ b → Lies p b runs old.glyphs
    → new ≡ record old { glyphs = as_partitioned old.level s top p runs old.glyphs; places = new.places }
    → length new.glyphs ≡ length old.glyphs
written_long = search (arith, length-partitioned)

-- some glyphs put into a cluster are as many
pub length-put_in : (level : BufferClusterLevel) (m s e : ℕ) (gs : Glyphs) → s ≤ e
    → length (with_stretch s e (merge_stretch level m) gs) ≡ length gs
length-put_in level m s e gs h =
    let A = take s gs in
    let B = stretch_of s e gs in
    let C = drop e gs in
    cc (
      length-append A (merge_stretch level m B ++ C),
      length-append (merge_stretch level m B) C,
      length-merge_stretch level m B,
      length-append B C,
      length-append A (B ++ C),
      three_parts s e gs h,
    )

-- so are the glyphs moved
pub moved_long : (s top p b : ℕ) (runs : MergedRanges) (gs : Glyphs) → p ≤ b → Lies p b runs gs
    → length (staying s top gs 0 p ++ (gone s top gs 0 p ++ drop p gs)) ≡ length gs
moved_long s top p b runs gs l lies =
    cc (parted_off Characters s top p b runs gs l lies refl, length-partitioned Characters s top p b runs gs l lies)

-- no left matra in front, no steps
none_there : (xs : Glyphs) (j : ℕ) → j < length xs → list_any is_left xs ≡ false
    → is_left (get_or xs j default_glyph) ≡ false
none_there xs j l none = search (arith, list_any_at)

pub read_part : (s e j : ℕ) (gs : Glyphs) → s + j < e → e ≤ length gs
    → passes is_left (stretch_of s e gs) j ≡ is_left (get_or gs (s + j) default_glyph)
read_part = search (arith, passes_there, length-stretch, get_or-take, get_or-drop)

pub no_lefts : (s e top : ℕ) (gs : Glyphs) → s + top ≤ e → e ≤ length gs
    → list_any is_left (stretch_of s (s + top) gs) ≡ false → left_places top (stretch_of s e gs) ≡ []
no_lefts s e top gs h w none =
    search (arith, filter_none, read_part, get_or-take, get_or-drop, none_there, length-stretch)

pub one_there : (level : BufferClusterLevel) (s e : ℕ) (gs hs : Glyphs) → gs ≡ hs
    → (merges level ≡ true → in_one_cluster (stretch_of s e hs) ≡ true) → merges level ≡ true
    → in_one_cluster (stretch_of s e gs) ≡ true
one_there level s e gs hs same one m = cc (one m)

-- what the walk found, of glyphs that are those of the buffer
pub found : (level : BufferClusterLevel) (s e top p b : ℕ) (runs : MergedRanges) (gs hs : Glyphs) → gs ≡ hs
    → as_partitioned level s (s + top) (s + p) runs gs
    ≡ after_steps level (map (widened s e (length gs)) (steps_to top (p - 1) b (stretch_of s e gs))) gs
    → as_partitioned level s (s + top) (s + p) runs hs
    ≡ after_steps level (map (widened s e (length hs)) (steps_to top (p - 1) b (stretch_of s e hs))) hs
found = search arith

-- the steps of matras of which the last one goes first
shifted_steps : (n b p j : ℕ) (qs : List ℕ) → map (λ t. matra_step n b t.1 (p - t.0)) (enumerate_from (j + 1) qs)
    ≡ map (λ t. matra_step n b t.1 (p - 1 - t.0)) (enumerate_from j qs)
shifted_steps n b p j [] = refl
shifted_steps n b p j (q ∷ qs) = search (arith, shifted_steps n b p (j + 1) qs)

pub first_step : (n b p k : ℕ) (qs : List ℕ) → map (λ t. matra_step n b t.1 (p - t.0)) (enumerate_from 0 (k ∷ qs))
    ≡ matra_step n b k p ∷ map (λ t. matra_step n b t.1 (p - 1 - t.0)) (enumerate_from 0 qs)
first_step = search (arith, shifted_steps)

-- the last left matra, and those before it
pub last_left : (k p : ℕ) (part : Glyphs) → k < p → passes is_left part k ≡ true
    → lefts_from (k + 1) p part ≡ [] → left_places p part ≡ k ∷ left_places k part
last_left k p part h holds none =
    let t = passes is_left part in
    cc (
      filter-split t 0 k p (omega arith) (omega arith),
      reverse-append (filter t (places 0 k)) (filter t (places k p)),
      lefts_yes k p part h holds,
    )

-- after a merge its stretch is in one cluster
one_few : (xs : Glyphs) → length xs ≤ 1 → in_one_cluster xs ≡ true
one_few [] l = refl
one_few (x ∷ []) l = grind arith
one_few (x ∷ (y ∷ ys)) l = absurd (omega arith)

one_merge : (level : BufferClusterLevel) (s e : ℕ) (gs : Glyphs) → s < e → e ≤ length gs
    → merges level ≡ true → in_one_cluster (stretch_of s e (merge level s e gs)) ≡ true
one_merge = search (arith, one_merged)

one_moved : (level : BufferClusterLevel) (s e b k p : ℕ) (gs : Glyphs) → k ≤ p → p < b → s + b ≤ e
    → e ≤ length gs → merges level ≡ true → in_one_cluster
    (stretch_of (s + p) (s + b) (after_step level (widened s e (length gs) (matra_step (e - s) b k p)) gs)) ≡ true
one_moved level s e b k p gs h l v w m =
    let moved = with_stretch (s + k) (s + p + 1) first_last gs in
    cc (
      matra_stepped level s e b k p gs h (omega arith) w,
      one_merge level (s + p) (s + b) moved (omega arith)
          (omega (arith, length-moved (s + k) (s + p + 1) gs (omega arith))) m,
    )

-- the buffer after the move of the last left matra
pub first_moved : (old now mid : Buffer) (s e b k p : ℕ) → now ≡ old
    → mid ≡ record now {
      glyphs = after_step now.level (widened s e (length now.glyphs) (matra_step (e - s) b k p)) now.glyphs;
      places = mid.places;
    }
    → mid ≡ record old {
      glyphs = after_step old.level (widened s e (length old.glyphs) (matra_step (e - s) b k p)) old.glyphs;
      places = mid.places;
    }
first_moved old now mid s e b k p same is = cc

pub moved_as_long : (old mid : Buffer) (s e b k p : ℕ) → k ≤ p → p < b → s + b ≤ e → e ≤ length old.glyphs
    → mid ≡ record old {
      glyphs = after_step old.level (widened s e (length old.glyphs) (matra_step (e - s) b k p)) old.glyphs;
      places = mid.places;
    } → length mid.glyphs ≡ length old.glyphs
moved_as_long = search (arith, length-matra)

pub one_in : (old mid : Buffer) (s e b k p : ℕ) → k ≤ p → p < b → s + b ≤ e → e ≤ length old.glyphs
    → mid ≡ record old {
      glyphs = after_step old.level (widened s e (length old.glyphs) (matra_step (e - s) b k p)) old.glyphs;
      places = mid.places;
    } → merges mid.level ≡ true → in_one_cluster (stretch_of (s + p) (s + b) mid.glyphs) ≡ true
one_in = search (arith, one_moved)

-- the first step and the others
pub both_moved : (old mid new : Buffer) (s e b k p : ℕ) → k < p → p < b → s + b ≤ e → e ≤ length old.glyphs
    → passes is_left (stretch_of s e old.glyphs) k ≡ true → lefts_from (k + 1) p (stretch_of s e old.glyphs) ≡ []
    → mid ≡ record old {
      glyphs = after_step old.level (widened s e (length old.glyphs) (matra_step (e - s) b k p)) old.glyphs;
      places = mid.places;
    }
    → new ≡ record mid {
      glyphs = after_steps mid.level
          (map (widened s e (length mid.glyphs)) (steps_to k (p - 1) b (stretch_of s e mid.glyphs))) mid.glyphs;
      places = new.places;
    } → new
    ≡ record old {
      glyphs = after_steps old.level
          (map (widened s e (length old.glyphs)) (partition_steps p b (stretch_of s e old.glyphs))) old.glyphs;
      places = new.places;
    }
both_moved old mid new s e b k p h l v w holds none first rest =
    let gs = old.glyphs in
    let part = stretch_of s e gs in
    let step = matra_step (e - s) b k p in
    let W : Step → Step = λ t. widened s e (length gs) t in
    let is : mid.glyphs ≡ after_step old.level (W step) gs = cc in
    let long : length mid.glyphs ≡ length gs = search (arith, length-matra) in
    let S = map (λ t. matra_step (e - s) b t.1 (p - 1 - t.0)) (enumerate_from 0 (left_places k part)) in
    let others : steps_to k (p - 1) b (stretch_of s e mid.glyphs) ≡ S = ap
    (λ q. map (λ t. matra_step q b t.1 (p - 1 - t.0)) (enumerate_from 0 (left_places k (stretch_of s e mid.glyphs))))
    (search (arith, length-stretch))
    ∙ ap (λ qs. map (λ t. matra_step (e - s) b t.1 (p - 1 - t.0)) (enumerate_from 0 qs))
    (search (arith, same_filter, read_part, left_read)) in
    let all : partition_steps p b part ≡ step ∷ S =
    ap (λ q. map (λ t. matra_step q b t.1 (p - t.0)) (enumerate_from 0 (left_places p part)))
    (length-stretch s e gs w)
    ∙ ap (λ qs. map (λ t. matra_step (e - s) b t.1 (p - t.0)) (enumerate_from 0 qs)) (last_left k p part h holds none)
    ∙ first_step (e - s) b p k (left_places k part) in
    rest ∙ ap
    (λ (sts : List Step). let y : Buffer = record mid {
      glyphs = after_steps mid.level (map (widened s e (length mid.glyphs)) sts) mid.glyphs;
      places = new.places;
    } in y) others ∙ ap
    (λ (q : ℕ). let y : Buffer = record mid {
      glyphs = after_steps mid.level (map (widened s e q) S) mid.glyphs;
      places = new.places;
    } in y) long
    ∙ ap (λ (x : Buffer). (record x { glyphs = after_steps x.level (map W S) x.glyphs; places = new.places })) first
    ∙ ap (λ (sts : List Step). (record old { glyphs = after_steps old.level (map W sts) gs; places = new.places }))
    (sym all)

-- one matra alone is one step
pub alone_stepped : (s e b k p : ℕ) (gs : Glyphs) → k < p → s + p ≤ e → e ≤ length gs
    → passes is_left (stretch_of s e gs) k ≡ true → lefts_from (k + 1) p (stretch_of s e gs) ≡ []
    → list_any is_left (stretch_of s (s + k) gs) ≡ false
    → partition_steps p b (stretch_of s e gs) ≡ matra_step (e - s) b k p ∷ []
alone_stepped s e b k p gs h l w holds none few =
    let part = stretch_of s e gs in
    let only : left_places p part ≡ k ∷ [] =
    last_left k p part h holds none ∙ ap (λ qs. k ∷ qs) (no_lefts s e k gs (omega arith) w few) in
    ap (λ q. map (λ t. matra_step q b t.1 (p - t.0)) (enumerate_from 0 (left_places p part))) (length-stretch s e gs w)
    ∙ ap (λ qs. map (λ t. matra_step (e - s) b t.1 (p - t.0)) (enumerate_from 0 qs)) only
    ∙ ap (λ j. matra_step (e - s) b k j ∷ []) (omega arith)
