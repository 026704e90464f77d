-- Changes behind groups that are shown: what they make of the glyphs with these groups in their clusters.
use Rattle.std.proofs.Common.{ℕ, ◌+◌, ◌-◌, ◌<◌, ◌≤◌, ◌≡◌, ◌⊎◌, inl, inr, List, [], ◌∷◌, ◌++◌, map, length, take, drop, refl, sym, ◌∙◌, ap, subst, arith, append_assoc, length-append, length-take, length-drop}
use Rattle.std.specs.Prelude.{true}
use Rattle.std.specs.List.{AllZip}
use Rattle.std.proofs.lemmas.List.{append-nil, drop-drop, drop_at, length-map, take-append-drop, take-take, take_at}
use Rattle.shapers_buffer.specs.Glyphs.{Glyph, Glyphs}
use Rattle.shapers_buffer.specs.declared.buffer.level.BufferClusterLevel.{BufferClusterLevel}
use Rattle.shapers_buffer.specs.ClusterRanges.{none_below}
use Rattle.shapers_buffer.specs.Clusters.{first_cluster, in_cluster, least, stretch_of}
use Rattle.shapers_buffer.specs.Glyph.{clusters, plain}
use Rattle.shapers_clusters.specs.CarriedGroups.{AreCarried, AreShown, EndsAbove, LeastIn, StandFor, StopsBefore, groups_len, fallen_groups, first_group_cluster, grouped, last_groups, len_of, read_back, shown_groups, spread_groups, with_groups}
use Rattle.shapers_clusters.specs.declared.carried_groups.CarriedGroups.{CarriedGroups}
use Rattle.shapers_buffer.specs.declared.buffer.group_room.ClusterGroup.{ClusterGroup}
use Rattle.shapers_clusters.specs.Steps.{FitSteps, Step, after_steps, widened}
use Rattle.shapers_clusters.proofs.CarriedGroups.{From, Keeps, NotAbove, Spreads, from_of_least, length-spread, spread_append, steps_keep, steps_spread}
use Rattle.shapers_clusters.proofs.Falls.{in_cluster-same}
use Rattle.shapers_clusters.proofs.FloodsBack.{Change}
use Rattle.shapers_clusters.proofs.GroupWalk.{grouped-append, least_behind, length-grouped, len_of-append}

-- the glyphs of these groups, which begin the list
abbrev pub cut_up : List ClusterGroup → Glyphs → List Glyphs
cut_up [] gs = []
cut_up (group ∷ groups) gs = take group.len gs ∷ cut_up groups (drop group.len gs)

length-cut_up : (groups : List ClusterGroup) (gs : Glyphs) → length (cut_up groups gs) ≡ length groups
length-cut_up [] gs = refl
length-cut_up (group ∷ groups) gs = cc (length-cut_up groups (drop group.len gs))

all_of-cut_up : (groups : List ClusterGroup) (gs : Glyphs) → len_of groups ≤ length gs →
    groups_len (cut_up groups gs) ≡ len_of groups
all_of-cut_up [] gs within = refl
all_of-cut_up (group ∷ groups) gs within =
    search (arith, length-take, all_of-cut_up groups (drop group.len gs) (omega (arith, length-drop group.len gs)))

-- glyphs in the clusters of groups
abbrev StandAs : List ClusterGroup → Glyphs → Type 0
StandAs groups gs = map (λ (g : Glyph). g.cluster) gs ≡ map (λ (group : ClusterGroup). group.cluster) groups

heads : {X : Type 0} (x y : X) (xs ys : List X) → x ∷ xs ≡ y ∷ ys → (x ≡ y) × (xs ≡ ys)
heads x y xs ys same = (ap (λ l. first_or x l) same, ap (drop 1) same)
  where
    first_or : {X : Type 0} → X → List X → X
    first_or d [] = d
    first_or d (x ∷ xs) = x

spread_cut : (groups : List ClusterGroup) (reps gs rest : Glyphs) → StandAs groups reps →
    spread_groups (cut_up groups gs) (reps ++ rest) ≡ grouped groups gs ++ rest
spread_cut [] [] gs rest stood = refl
spread_cut (group ∷ groups) (g ∷ reps) gs rest stood =
    let (one, more) = heads g.cluster group.cluster (map (λ (g : Glyph). g.cluster) reps) (map (λ (group :
    ClusterGroup). group.cluster) groups) stood in
    search (arith, append_assoc, spread_cut groups reps (drop group.len gs) rest more)
spread_cut _ _ gs rest stood = absurd (cc)

stand_cut : (groups : List ClusterGroup) (reps gs rest : Glyphs) → StandAs groups reps →
    len_of groups ≤ length gs → LeastIn groups gs → StandFor (cut_up groups gs) (reps ++ rest)
stand_cut [] reps gs rest stood within all = tt
stand_cut (group ∷ groups) [] gs rest stood within all = absurd (cc)
stand_cut (group ∷ groups) (g ∷ reps) gs rest stood within all =
    let (one, more) = heads g.cluster group.cluster (map (λ (g : Glyph). g.cluster) reps) (map (λ (group :
    ClusterGroup). group.cluster) groups) stood in
    search (
      arith,
      length-take,
      stand_cut groups reps (drop group.len gs) rest more (omega (arith, length-drop group.len gs)) all.1,
    )

shown_as : (groups : List ClusterGroup) (gs : Glyphs) → length groups ≤ length gs →
    StandAs groups (take (length groups) (shown_groups groups gs))
shown_as [] gs many = refl
shown_as (group ∷ groups) [] many = absurd (omega arith)
shown_as (group ∷ groups) (g ∷ gs) many = cc (shown_as groups gs (omega arith))

shown_rest : (groups : List ClusterGroup) (gs : Glyphs) → length groups ≤ length gs →
    drop (length groups) (shown_groups groups gs) ≡ drop (length groups) gs
shown_rest [] gs many = refl
shown_rest (group ∷ groups) [] many = absurd (omega arith)
shown_rest (group ∷ groups) (g ∷ gs) many = shown_rest groups gs (omega arith)

-- each glyph as a group
abbrev alone : Glyphs → List Glyphs
alone gs = map (λ (g : Glyph). g ∷ []) gs

all_of-alone : (gs : Glyphs) → groups_len (alone gs) ≡ length gs
all_of-alone [] = refl
all_of-alone (g ∷ gs) = omega (arith, all_of-alone gs)

in_own_cluster : (g : Glyph) → in_cluster g.cluster g ≡ g
in_own_cluster g = in_cluster-same g

spread_alone : (gs rest : Glyphs) → spread_groups (alone gs) (gs ++ rest) ≡ gs ++ rest
spread_alone [] rest = refl
spread_alone (g ∷ gs) rest = cc (in_own_cluster g, spread_alone gs rest)

stand_alone : (gs rest : Glyphs) → StandFor (alone gs) (gs ++ rest)
stand_alone [] rest = tt
stand_alone (g ∷ gs) rest = ((omega arith, own g), stand_alone gs rest)
  where
    own : (g : Glyph) → none_below g.cluster (g ∷ []) ≡ true
    own g = grind arith

-- what they are read as
clusters_alone : (gs xs : Glyphs) → length gs ≡ length xs →
    map (λ (g : Glyph). g.cluster) (spread_groups (alone gs) xs) ≡ map (λ (g : Glyph). g.cluster) xs
clusters_alone [] [] many = refl
clusters_alone (g ∷ gs) (x ∷ xs) many = search (arith, clusters_alone gs xs (omega arith))
clusters_alone _ _ many = absurd (omega arith)

pub read_clusters : (xs ys : Glyphs) (groups : List ClusterGroup) →
    map (λ (g : Glyph). g.cluster) xs ≡ map (λ (g : Glyph). g.cluster) ys → read_back xs groups ≡ read_back ys groups
read_clusters [] [] groups same = refl
read_clusters (x ∷ xs) (y ∷ ys) [] same = refl
read_clusters (x ∷ xs) (y ∷ ys) (group ∷ groups) same =
    let (one, more) = heads x.cluster y.cluster (map (λ (g : Glyph). g.cluster) xs) (map (λ (g :
    Glyph). g.cluster) ys) same in
    cc (read_clusters xs ys groups more)
read_clusters _ _ groups same = absurd (cc)

spread_read : (groups : List ClusterGroup) (reps new gs : Glyphs) → StandAs groups reps →
    AllZip NotAbove reps new → grouped (read_back new groups) gs ≡ spread_groups (cut_up groups gs) new
spread_read [] [] [] gs stood lower = refl
spread_read [] [] (n ∷ new) gs stood lower = absurd lower
spread_read (group ∷ groups) (g ∷ reps) [] gs stood lower = absurd lower
spread_read (group ∷ groups) (g ∷ reps) (n ∷ new) gs stood lower =
    let (one, more) = heads g.cluster group.cluster (map (λ (g : Glyph). g.cluster) reps) (map (λ (group :
    ClusterGroup). group.cluster) groups) stood in
    search (arith, spread_read groups reps new (drop group.len gs) more lower.1)
spread_read _ _ new gs stood lower = absurd (cc)

-- the glyphs before a place, those of groups in their clusters
abbrev pub groups_in_front : CarriedGroups → List ClusterGroup → Glyphs → Glyphs
groups_in_front it groups gs = take it.start gs ++ grouped groups (drop it.start gs)

-- A CHANGE of n glyphs, which merges none before place first or from place end on: the same of fewer glyphs, where
-- only `count` stand before that place, each for a group.
pub record ChangesBehind (first end n count : ℕ) (over : Change) : Type 0 where
  pub change : Change
  pub spreads : Spreads first count (n - first) over change
  pub keeps : (low : ℕ) → Keeps low count (count + (end - first)) (count + (n - first)) change

-- steps over a stretch are one
pub steps_behind : (level : BufferClusterLevel) (first end n count : ℕ) (steps : List Step) → first ≤ end → end ≤ n →
    0 < count → FitSteps (end - first) steps →
    ChangesBehind first end n count (after_steps level (map (widened first end n) steps))
steps_behind level first end n count steps order within some fit =
    let e = end - first in
    let m = n - first in
    let placed : (a b c x y z : ℕ) → a ≡ x → b ≡ y → c ≡ z →
    after_steps level (map (widened a b c) steps) ≡ after_steps level (map (widened x y z) steps) =
    λ a b c x y z p q r. cc in
    let change = after_steps level (map (widened count (count + e) (count + m)) steps) in
    record {
      change = change;
      spreads = subst (λ f. Spreads first count m f change)
          (placed (first + 0) (first + e) (first + m) first end n (omega arith) (omega arith) (omega arith))
          (subst (Spreads first count m (after_steps level (map (widened (first + 0) (first + e) (first + m)) steps)))
          (placed (count + 0) (count + e) (count + m) count (count + e) (count + m) (omega arith) refl refl)
          (steps_spread level first count 0 e m steps some (omega arith) (omega arith)
          (subst (λ k. FitSteps k steps) (omega arith) fit)));
      keeps = λ low. steps_keep level low count e (count + m) steps some (omega arith) fit;
    }

-- What it makes of the glyphs with the groups in their clusters, by what it makes of those that are shown.
pub record ChangedBehind (before : CarriedGroups) (count : ℕ) (between meant new : Glyphs) : Type 0 where
  pub same_length : length new ≡ length between
  pub front : take (before.end - count - 1) new ≡ take (before.end - count - 1) between
  pub meant_is : meant ≡ groups_in_front before (fallen_groups count before new) between ++ drop before.end new

pub changed_behind : (first end count : ℕ) (over : Change) (before after : CarriedGroups)
    (between hs : Glyphs) → first ≤ end → end ≤ length between →
    ChangesBehind first end (length between) count over → AreCarried before between → before.end ≡ first → 0 < count →
    count ≤ length before.groups.items → AreShown count before between after hs →
    ((first_group_cluster (last_groups count before) < least (clusters (stretch_of first end between)))
    ⊎ ((count ≡ length before.groups.items) × EndsAbove (first_group_cluster before.groups.items)
    (take before.start between))) → ChangedBehind before count between (over (with_groups before between)) (over hs)
changed_behind first end count over before after between hs order within changes fits at some many is stops =
    let items = before.groups.items in
    let n = length items in
    let front = take (n - count) items in
    let last = drop (n - count) items in
    let e = end - first in
    let m = length between - first in
    let place = before.end - count in
    let span = fits.span in
    let room = is.room in
    let up : place + count ≡ before.end = omega arith in
    let whole : items ≡ front ++ last = sym (take-append-drop (n - count) items) in
    let ln : length last ≡ count = omega (arith, length-drop (n - count) items) in
    let lens : len_of items ≡ len_of front + len_of last = ap len_of whole ∙ len_of-append front last in
    let D = drop before.start between in
    let dn : length D ≡ length between - before.start = length-drop before.start between in
    let B = drop (len_of front) D in
    let bn : length B ≡ length between - before.start - len_of front = length-drop (len_of front) D
    ∙ ap (λ k. k - len_of front) dn in
    let rest = drop first between in
    let rest_n : length rest ≡ m = length-drop first between in
    -- those that are shown
    let tail = drop place between in
    let tail_n : length tail ≡ count + m = length-drop place between ∙ omega arith in
    let reps = take count (shown_groups last tail) in
    let shown_n : length (shown_groups last tail) ≡ length tail = long last tail (omega arith) in
    let reps_n : length reps ≡ count = omega (arith, length-take count (shown_groups last tail)) in
    let behind : drop count (shown_groups last tail) ≡ rest =
    cc (shown_rest last tail (omega arith), drop-drop count place between) in
    let ys = reps ++ rest in
    let ys_is : ys ≡ shown_groups last tail = cc (take-append-drop count (shown_groups last tail)) in
    let yn : length ys ≡ count + m = length-append reps rest ∙ omega arith in
    let stood : StandAs last reps = cc (shown_as last tail (omega arith)) in
    let low_front = take place hs in
    let hn : length hs ≡ length between = sym (length-map hs plain) ∙ ap length is.view ∙ length-map between plain in
    let front_n : length low_front ≡ place = omega (arith, length-take place hs) in
    let hs_is : low_front ++ ys ≡ hs = cc (take-append-drop place hs) in
    -- the groups
    let P = take before.start between ++ grouped front D in
    let Gs = cut_up last B in
    let gn : length Gs ≡ count = length-cut_up last B ∙ ln in
    let pn : length P + groups_len Gs ≡ first = omega (arith, length-append (take before.start between) (grouped front D), length-take before.start between, length-grouped front D (omega arith), all_of-cut_up last B (omega arith)) in
    let meant : P ++ spread_groups Gs ys ≡ with_groups before between =
    cc (
      spread_cut last reps B rest stood,
      append_assoc (take before.start between) (grouped front D) (grouped last B ++ rest),
      append_assoc (grouped front D) (grouped last B) rest,
      grouped-append front last D,
    ) in
    let stand : StandFor Gs ys = stand_cut last reps B rest stood (omega arith)
    (least_behind front last D (subst (λ l. LeastIn l D) whole fits.least)) in
    let change = changes.change in
    let c_long : (count + e) - count ≡ e = omega arith in
    let spreads = changes.spreads in
    let one = spreads P Gs ys pn gn yn stand in
    let two = spreads low_front (alone reps) ys
    (omega (arith, all_of-alone reps)) (length-map reps (λ g. g ∷ []) ∙ reps_n) yn (stand_alone reps rest) in
    let new = change ys in
    -- they stop there
    let first_is : first_cluster ys ≡ first_group_cluster last = first_of_reps reps rest last stood (omega arith) in
    let until : StopsBefore P ys new × StopsBefore low_front ys new = elim stops [
      | inl below ↦
          let mid : stretch_of count (count + e) ys ≡ stretch_of first end between =
          ap (λ k. take k (drop count ys)) c_long ∙ ap (take e) (drop_at reps rest count reps_n) in
          let low = least (clusters (stretch_of first end between)) in
          let keeps = changes.keeps low ys yn (subst (From low) (sym mid) (from_of_least (stretch_of first end between)))
          (omega arith) in
          let same = keeps.first in
          (inr same, inr same)
      | inr above ↦
          let gone : n - count ≡ 0 = omega arith in
          let none : front ≡ [] = ap (λ k. take k items) gone in
          let start_P : P ≡ take before.start between =
          ap (λ l. take before.start between ++ grouped l D) none ∙ append-nil (take before.start between) in
          let all : last ≡ items = ap (λ k. drop k items) gone in
          let c_is : first_group_cluster items ≡ first_cluster ys = sym (first_is ∙ ap first_group_cluster all) in (
            inl (subst (λ l. EndsAbove (first_cluster ys) l) (sym start_P)
                (subst (λ c. EndsAbove c (take before.start between)) c_is above.1)),
            inl (subst (λ c. EndsAbove c low_front) c_is is.above),
          )
    ] in
    let new_n = one.same_length in
    let Y = over hs in
    let y_is : Y ≡ low_front ++ spread_groups (alone reps) new = cc (spread_alone reps rest, two.is until.1) in
    let reps_new = take count new in
    let rn : length reps_new ≡ count = omega (arith, length-take count new) in
    let an : length (alone reps) ≡ count = length-map reps (λ g. g ∷ []) ∙ reps_n in
    let new_is : new ≡ reps_new ++ drop count new = sym (take-append-drop count new) in
    let parts : Y ≡ low_front ++ (spread_groups (alone reps) reps_new ++ drop count new) =
    cc (spread_append (alone reps) reps_new (drop count new) (omega arith)) in
    let sn : length (spread_groups (alone reps) reps_new) ≡ count =
    length-spread (alone reps) reps_new (omega arith) ∙ all_of-alone reps ∙ reps_n in
    let from : drop place Y ≡ spread_groups (alone reps) reps_new ++ drop count new =
    cc (drop_at low_front (spread_groups (alone reps) reps_new ++ drop count new) place front_n) in
    let size : before.end - place ≡ count = omega arith in
    let S = stretch_of place before.end Y in
    let s_is : S ≡ spread_groups (alone reps) reps_new =
    cc (take_at (spread_groups (alone reps) reps_new) (drop count new) count sn) in
    let after_is : drop before.end Y ≡ drop count new =
    cc (drop-drop count place Y, drop_at (spread_groups (alone reps) reps_new) (drop count new) count sn) in
    let read : read_back S last ≡ read_back reps_new last =
    read_clusters S reps_new last (ap (map (λ (g : Glyph). g.cluster)) s_is
    ∙ clusters_alone reps reps_new (omega arith)) in
    let lower : AllZip NotAbove reps reps_new =
    subst (λ l. AllZip NotAbove l reps_new) (ap (λ k. take k ys) gn ∙ take_at reps rest count reps_n)
    (subst (λ k. AllZip NotAbove (take (length Gs) ys) (take k new)) gn one.lower) in
    let F = fallen_groups count before Y in
    let made : grouped F D ≡ grouped front D ++ spread_groups Gs reps_new =
    cc (grouped-append front (read_back S last) D, spread_read last reps reps_new B stood lower) in
    record {
      same_length = ap length parts ∙ length-append low_front (spread_groups (alone reps) reps_new ++ drop count new)
          ∙ omega (
            arith,
            length-append (spread_groups (alone reps) reps_new) (drop count new),
            length-drop count new,
          );
      front = sym (take-take (place - 1) place Y (omega arith))
          ∙ ap (take (place - 1)) (ap (take place) parts
          ∙ take_at low_front (spread_groups (alone reps) reps_new ++ drop count new) place front_n)
          ∙ take-take (place - 1) place hs (omega arith) ∙ is.front;
      meant_is = cc (one.is until.0, spread_append Gs reps_new (drop count new) (omega arith), append_assoc P (spread_groups Gs reps_new) (drop count new), append_assoc (take before.start between) (grouped front D) (spread_groups Gs reps_new));
    }
  where
    long : (groups : List ClusterGroup) (gs : Glyphs) → length groups ≤ length gs →
        length (shown_groups groups gs) ≡ length gs
    long [] gs few = refl
    long (group ∷ groups) [] few = absurd (omega arith)
    long (group ∷ groups) (g ∷ gs) few = omega (arith, long groups gs (omega arith))

    first_of_reps : (reps rest : Glyphs) (groups : List ClusterGroup) → StandAs groups reps → 0 < length reps →
        first_cluster (reps ++ rest) ≡ first_group_cluster groups
    first_of_reps [] rest groups stood more = absurd (omega arith)
    first_of_reps (g ∷ reps) rest [] stood more = absurd (cc)
    first_of_reps (g ∷ reps) rest (group ∷ groups) stood more =
        (heads g.cluster group.cluster (map (λ (g : Glyph). g.cluster) reps)
        (map (λ (group : ClusterGroup). group.cluster) groups) stood).0
