-- Merges and moves behind groups of glyphs: as if one glyph stood for each of them.
use Rattle.std.proofs.Common.{ℕ, zero, suc, ◌+◌, ◌-◌, ◌<◌, ◌≤◌, ◌≡◌, ◌≢◌, ◌==◌, ◌&&◌, ◌⊎◌, Bool, inl, inr, if◌then◌else◌, nat_lt, not, true, false, List, [], ◌∷◌, ◌++◌, map, length, get_or, reverse, take, drop, refl, sym, ◌∙◌, ap, subst, arith, append_assoc, length-append, length-take, length-drop}
use Rattle.std.specs.List.{AllByRecursion, AllZip, list_all}
use Rattle.std.proofs.lemmas.List.{length-map, length-reverse, reverse-reverse, drop-drop, drop-take, drop_at, take-append-drop, take-append-le, take-take, take_at}
use Rattle.std.proofs.Math.Bool.{and-true}
use Rattle.std.proofs.lemmas.Bool.{cases_Bool, eqb-true}
use Rattle.shapers_buffer.specs.Glyphs.{Glyph, Glyphs}
use Rattle.shapers_buffer.specs.declared.buffer.level.BufferClusterLevel.{BufferClusterLevel}
use Rattle.shapers_buffer.specs.ClusterRanges.{none_below}
use Rattle.shapers_buffer.specs.Glyph.{clusters}
use Rattle.shapers_buffer.specs.Clusters.{least, first_cluster, last_cluster, has_cluster, in_cluster, flooded, merge, merge_all, merges, stretch_of, with_stretch}
use Rattle.shapers_buffer.specs.Places.{pick}
use Rattle.shapers_buffer.proofs.ClusterLemmas.{flood_merged, length-stretch, merge_is, three_parts}
use Rattle.shapers_buffer.proofs.OneCluster.{all_in_cluster, first_of_front, last_of_end, last_stays, length-flooded}
use Rattle.shapers_buffer.proofs.RunLemmas.{ended_all, none_lower, puts_twice}
use Rattle.shapers_clusters.specs.CarriedGroups.{EndsAbove, StandFor, StopsBefore, groups_len, spread_groups}
use Rattle.shapers_clusters.specs.Cuts.{EndWithin}
use Rattle.shapers_clusters.specs.Flags.{FallsTo}
use Rattle.shapers_clusters.specs.Steps.{Step, after_step, after_steps, FitsStep, FitSteps, shifted, widened}
use Rattle.shapers_clusters.proofs.Appended.{assembled, flooded-same, two_sides}
use Rattle.shapers_clusters.proofs.FloodsBack.{Change, back_stays, back_within, first_taken, flooded_back}
use Rattle.shapers_clusters.proofs.ClusterMerges.{least-among, least-le}
use Rattle.shapers_clusters.proofs.Falls.{all_append, all_over, all_reverse, all_weaker, merge-falls}
use Rattle.shapers_clusters.proofs.Halves.{Each, drop-past, each-drop, each-pick, each-reverse, each-take, shifted-twice, take-past}
use Rattle.shapers_clusters.proofs.Merging.{length-merge, merge_cases}
use Rattle.shapers_clusters.proofs.Picks.{length-pick}
use Rattle.shapers_clusters.proofs.Widened.{fits-widened, pick-widened}

first_in : (c : ℕ) (gs : Glyphs) → 0 < length gs → list_all (has_cluster c) gs ≡ true → first_cluster gs ≡ c
first_in c [] some all = absurd (omega arith)
first_in c (g ∷ gs) some all = search arith

least-first : (gs : Glyphs) → 0 < length gs → least (clusters gs) ≤ first_cluster gs
least-first [] some = absurd (omega arith)
least-first (g ∷ gs) some = least-le (clusters (g ∷ gs)) 0 (omega arith)

-- THE FLOOD to the left runs over a group where it runs over the glyph that stands for it
back_group : (c m : ℕ) (P G : Glyphs) (g : Glyph) → m ≤ c → 0 < length G → none_below g.cluster G ≡ true
    → flooded_back c m (P ++ map (in_cluster g.cluster) G) ≡ (if g.cluster == c then flooded_back c m P else P)
    ++ map (in_cluster (first_cluster (flooded_back c m (g ∷ [])))) G
back_group c m P G g low some none = elim (cases_Bool (g.cluster == c)) [
  | inl same ↦
      let is : g.cluster ≡ c = eqb-true g.cluster c same in
      let put = map (in_cluster g.cluster) G in
      let all : list_all (has_cluster c) put ≡ true =
      ap (λ k. list_all (has_cluster k) put) (sym is) ∙ all_in_cluster g.cluster G in
      let own : first_cluster (flooded_back c m (g ∷ [])) ≡ m = rw same (put_into m g) in
      ended_all c m P put all
      ∙ ap (λ l. flooded_back c m P ++ l) (puts_twice m g.cluster G (omega arith) none)
      ∙ ap (λ b. (if b then flooded_back c m P else P) ++ map (in_cluster m) G) (sym same)
      ∙ ap (λ k. (if g.cluster == c then flooded_back c m P else P) ++ map (in_cluster k) G) (sym own)
  | inr other ↦
      let put = map (in_cluster g.cluster) G in
      let own : first_cluster (flooded_back c m (g ∷ [])) ≡ g.cluster = rw other refl in
      let last : last_cluster put ≢ c = λ is. differ other (sym (last_put g.cluster G some) ∙ is) in
      back_stays c m (P ++ put) (λ _. λ is. last (sym (last_of_end P put (omega (arith, length-map G (in_cluster g.cluster)))) ∙ is))
      ∙ ap (λ b. (if b then flooded_back c m P else P) ++ put) (sym other)
      ∙ ap (λ k. (if g.cluster == c then flooded_back c m P else P) ++ map (in_cluster k) G) (sym own)
]
  where
    put_into : (m : ℕ) (g : Glyph) → (in_cluster m g).cluster ≡ m
    put_into m g = elim (cases_Bool (g.cluster == m)) [
      | inl same ↦ rw same (eqb-true g.cluster m same)
      | inr other ↦ rw other refl
    ]

    differ : (g.cluster == c) ≡ false → g.cluster ≢ c
    differ other is = grind arith

    last_put : (k : ℕ) (G : Glyphs) → 0 < length G → last_cluster (map (in_cluster k) G) ≡ k
    last_put k G some = last_stays k (map (in_cluster k) G) (omega (arith, length-map G (in_cluster k)))
        (all_in_cluster k G)

and_none : (a : Bool) → (a && false) ≡ false
and_none true = refl
and_none false = refl

spread_one : (G : Glyphs) (Gs : List Glyphs) (xs ys : Glyphs) →
    length xs ≡ 1 → spread_groups (G ∷ Gs) (xs ++ ys) ≡ map (in_cluster (first_cluster xs)) G ++ spread_groups Gs ys
spread_one G Gs (x ∷ []) ys one = refl
spread_one G Gs _ ys one = absurd (omega arith)

-- over all groups: before them it goes on where all is in its cluster
pub back_spread : (c m : ℕ) (Gs : List Glyphs) (P ys : Glyphs) → m ≤ c →
    StandFor Gs ys → flooded_back c m (P ++ spread_groups Gs ys)
    ≡ (if list_all (has_cluster c) ys then flooded_back c m P else P) ++ spread_groups Gs (flooded_back c m ys)
back_spread c m [] P ys low stand = elim (cases_Bool (list_all (has_cluster c) ys)) [
  | inl all ↦ cc (ended_all c m P ys all, ended_all c m [] ys all)
  | inr other ↦ search (arith, back_within)
]
back_spread c m (G ∷ Gs) P [] low stand = absurd stand
back_spread c m (G ∷ Gs) P (g ∷ ys) low stand =
    let put = map (in_cluster g.cluster) G in
    let go : Bool → Glyphs → Glyphs = λ b p. if b then flooded_back c m p else p in
    let on : flooded_back c m (P ++ spread_groups (G ∷ Gs) (g ∷ ys))
    ≡ go (list_all (has_cluster c) ys) (P ++ put) ++ spread_groups Gs (flooded_back c m ys) =
    search (arith, append_assoc, back_spread c m Gs (P ++ put) ys low stand.1) in
    elim (cases_Bool (list_all (has_cluster c) ys)) [
      | inl all ↦
          let one = flooded_back c m (g ∷ []) in
          cc (
            back_group c m P G g low stand.0.0 stand.0.1,
            append_assoc (go (g.cluster == c) P) (map (in_cluster (first_cluster one)) G)
                (spread_groups Gs (flooded_back c m ys)),
            spread_one G Gs one (flooded_back c m ys) (search arith),
            ended_all c m (g ∷ []) ys all,
            ended_all c m [] ys all,
            and-true (g.cluster == c),
          )
      | inr other ↦
          cc (
            append_assoc P put (spread_groups Gs (flooded_back c m ys)),
            back_within c m (g ∷ []) ys other,
            and_none (g.cluster == c),
          )
    ]

-- PLACES behind the groups
pub spread_append : (Gs : List Glyphs) (xs ys : Glyphs) → length Gs ≤ length xs →
    spread_groups Gs (xs ++ ys) ≡ spread_groups Gs xs ++ ys
spread_append [] xs ys many = refl
spread_append (G ∷ Gs) [] ys many = absurd (omega arith)
spread_append (G ∷ Gs) (x ∷ xs) ys many = search (append_assoc, spread_append Gs xs ys (omega arith))

stand_front : (Gs : List Glyphs) (xs ys : Glyphs) → length Gs ≤ length xs → StandFor Gs (xs ++ ys) → StandFor Gs xs
stand_front [] xs ys many stand = tt
stand_front (G ∷ Gs) [] ys many stand = absurd (omega arith)
stand_front (G ∷ Gs) (x ∷ xs) ys many stand = (stand.0, stand_front Gs xs ys (omega arith) stand.1)

pub stand_with : (Gs : List Glyphs) (xs ys : Glyphs) → StandFor Gs xs → StandFor Gs (xs ++ ys)
stand_with [] xs ys stand = tt
stand_with (G ∷ Gs) [] ys stand = absurd stand
stand_with (G ∷ Gs) (x ∷ xs) ys stand = (stand.0, stand_with Gs xs ys stand.1)

pub length-spread : (Gs : List Glyphs) (ys : Glyphs) → length Gs ≡ length ys →
    length (spread_groups Gs ys) ≡ groups_len Gs
length-spread [] [] many = refl
length-spread (G ∷ Gs) (y ∷ ys) many = search (length-append, length-map, length-spread Gs ys (omega arith))
length-spread _ _ many = absurd (omega arith)

-- a list by those that stand for groups, and the rest
pub record Placed (P : Glyphs) (Gs : List Glyphs) (ys : Glyphs)
    (k j i : ℕ) : Type 0 where
  pub front : take (k + i) (P ++ spread_groups Gs ys) ≡ P ++ spread_groups Gs (take (j + i) ys)
  pub rest : drop (k + i) (P ++ spread_groups Gs ys) ≡ drop (j + i) ys
  pub long : length (P ++ spread_groups Gs ys) ≡ k + (length ys - j)

pub put_in_place : (P : Glyphs) (Gs : List Glyphs) (ys : Glyphs) (k j i : ℕ) → length P + groups_len Gs ≡ k
    → length Gs ≡ j → j ≤ length ys → Placed P Gs ys k j i
put_in_place P Gs ys k j i kn jn many =
    let reps = take j ys in
    let behind = drop j ys in
    let rn : length reps ≡ j = omega (arith, length-take j ys) in
    let front = P ++ spread_groups Gs reps in
    let fn : length front ≡ k = search (arith, length-append, length-spread) in
    search (
      arith,
      take-append-drop j ys,
      spread_append Gs reps behind (omega arith),
      append_assoc P (spread_groups Gs reps) behind,
      take-past k i front behind fn,
      append_assoc P (spread_groups Gs reps) (take i behind),
      spread_append Gs reps (take i behind) (omega arith),
      take-past j i reps behind rn,
      drop-past k i front behind fn,
      drop-past j i reps behind rn,
      length-append front behind,
      length-drop j ys,
    )

zip_drop : {X : Type 0} (R : X → X → Type 0) (n : ℕ) (xs ys : List X) → AllZip R xs ys →
    AllZip R (drop n xs) (drop n ys)
zip_drop R zero xs ys all = all
zip_drop R (suc n) [] [] all = tt
zip_drop R (suc n) (x ∷ xs) (y ∷ ys) all = zip_drop R n xs ys all.1
zip_drop R (suc n) _ _ all = absurd all

zip_take : {X : Type 0} (R : X → X → Type 0) (n : ℕ) (xs ys : List X) → AllZip R xs ys →
    AllZip R (take n xs) (take n ys)
zip_take R zero xs ys all = tt
zip_take R (suc n) [] [] all = tt
zip_take R (suc n) (x ∷ xs) (y ∷ ys) all = (all.0, zip_take R n xs ys all.1)
zip_take R (suc n) _ _ all = absurd all

-- A change of a list of j + n glyphs, of which j stand for groups, and of k + n glyphs with these groups in
-- their place.
abbrev pub NotAbove : Glyph → Glyph → Type 0
NotAbove g h = h.cluster ≤ g.cluster

not_above : (gs : Glyphs) → AllZip NotAbove gs gs
not_above [] = tt
not_above (g ∷ gs) = (omega arith, not_above gs)

pub record Spread (Gs : List Glyphs) (P ys all new : Glyphs) : Type 0 where
  pub same_length : length new ≡ length ys
  pub stand : StandFor Gs new
  pub falls : first_cluster new ≤ first_cluster ys
  pub lower : AllZip NotAbove (take (length Gs) ys) (take (length Gs) new)
  pub is : StopsBefore P ys new → all ≡ P ++ spread_groups Gs new

abbrev pub Spreads : ℕ → ℕ → ℕ → Change → Change → Type 0
Spreads k j n over change = (P : Glyphs) (Gs : List Glyphs) (ys : Glyphs) →
    length P + groups_len Gs ≡ k → length Gs ≡ j → length ys ≡ j + n → StandFor Gs ys →
    Spread Gs P ys (over (P ++ spread_groups Gs ys)) (change ys)

stand_fallen : (Gs : List Glyphs) (ys zs : Glyphs) → AllZip FallsTo ys zs → StandFor Gs ys → StandFor Gs zs
stand_fallen [] ys zs falls stand = tt
stand_fallen (G ∷ Gs) [] zs falls stand = absurd stand
stand_fallen (G ∷ Gs) (y ∷ ys) [] falls stand = absurd falls
stand_fallen (G ∷ Gs) (y ∷ ys) (z ∷ zs) falls stand = search (none_lower, stand_fallen Gs ys zs falls.1 stand.1)

-- where the flood runs over all that stand for groups, it stops there
stops : (c m : ℕ) (P ys zs : Glyphs) → 0 < length ys → (list_all (has_cluster c) ys ≡ true →
    StopsBefore P ys (map (in_cluster m) ys ++ zs)) →
    (if list_all (has_cluster c) ys then flooded_back c m P else P) ≡ P
stops c m P = search (arith, back_stays, flooded-same, reverse-reverse)

pub merge_spreads : (level : BufferClusterLevel) (k j s e n : ℕ) → 0 < j → e ≤ n →
    Spreads k j n (merge level (k + s) (k + e)) (merge level (j + s) (j + e))
merge_spreads level k j s e n some within P Gs ys kn jn yn stand =
    let i : (k + e) - (k + s) ≡ (j + e) - (j + s) = omega arith in
    let all = P ++ spread_groups Gs ys in
    let falls = merge-falls level (j + s) (j + e) ys (omega arith) in
    let R : Glyphs → Glyphs → Type 0 = λ x y. StopsBefore P ys y → x ≡ P ++ spread_groups Gs y in
    record {
      same_length = search (arith, length-merge);
      stand = search stand_fallen;
      falls = search arith;
      lower = search (arith, zip_take, all_weaker);
      is = λ until. merge_is level (k + s) (k + e) all
          ∙ ap (λ d. if merges level && not (nat_lt d 2) then flood_merged (k + s) (k + e) all else all) i ∙ subst
          (R (if merges level && not (nat_lt ((j + e) - (j + s)) 2) then flood_merged (k + s) (k + e) all else all))
          (sym (merge_is level (j + s) (j + e) ys))
          (two_sides ((j + e) - (j + s)) (merges level) R (flood_merged (k + s) (k + e) all) all (flood_merged (j + s) (j
          + e) ys) ys (λ _. refl) (λ two. λ until. let mid = stretch_of (j + s) (j + e) ys in let t = take (j + s) ys in
          let c = first_cluster mid in let m = least (clusters mid) in let tail = map (in_cluster m) mid ++ flooded
          (last_cluster mid) m (drop (j + e) ys) in let back = flooded_back c m t in let tn : length t ≡ j + s = omega
          (arith, length-take (j + s) ys) in let bn : length back ≡ length t = omega (
            arith,
            length-reverse (flooded c m (reverse t)),
            length-flooded c m (reverse t),
            length-reverse t,
          ) in let at = put_in_place P Gs ys k j s kn jn
          (omega arith) in ap (λ x. assembled x (stretch_of (k + s) (k + e) all) (drop (k + e) all)) at.front ∙ ap (λ x.
          assembled (P ++ spread_groups Gs t) x (drop (k + e) all)) (ap (λ d. take d (drop (k + s) all)) i ∙ ap (take ((j
          + e) - (j + s))) at.rest) ∙ ap (λ x. assembled (P ++ spread_groups Gs t) mid x) (put_in_place P Gs ys k j e kn
          jn (omega arith)).rest ∙ ap (λ l. l ++ tail) (back_spread c m Gs P t (least-first mid (omega (
            arith,
            length-stretch (j + s) (j + e) ys (omega arith),
          ))) (stand_front Gs t (drop (j + s) ys) (omega arith) (subst
          (StandFor Gs) (sym (take-append-drop (j + s) ys)) stand)) ∙ ap (λ p. p ++ spread_groups Gs back) (stops c m P t
          tail (omega arith) (λ full. let own : back ≡ map (in_cluster m) t = ended_all c m [] t full in let from :
          first_cluster t ≡ first_cluster ys = first_taken (j + s) ys (omega arith) in subst (λ l. StopsBefore P t (l ++
          tail)) own (subst (λ f. EndsAbove f P ⊎ (first_cluster (back ++ tail) ≡ f)) (sym from) until)))) ∙ append_assoc
          P (spread_groups Gs back) tail ∙ ap (λ l. P ++ l) (sym (spread_append Gs back tail (omega arith))))) until;
    }

-- one change after another
pub spreads_then : (k j n : ℕ) (over change then_over then_change : Change) → Spreads k j n over change →
    Spreads k j n then_over then_change → Spreads k j n (λ gs. then_over (over gs)) (λ gs. then_change (change gs))
spreads_then k j n over change then_over then_change first second P Gs ys kn jn yn stand =
    let one = first P Gs ys kn jn yn stand in
    let mid = change ys in
    let two = second P Gs mid kn jn (one.same_length ∙ yn) one.stand in
    let lower = two.falls in
    record {
      same_length = search arith;
      stand = two.stand;
      falls = omega arith;
      lower = search (arith, all_over);
      is = λ until.
          let there : StopsBefore P mid
          (then_change mid) = elim until [
            | inl above ↦ inl (λ some. omega arith)
            | inr same ↦ inr (omega arith)
          ] in
          cc (one.is (elim until [ inl above ↦ inl above | inr same ↦ inr (omega arith) ]), two.is there);
    }

pub spreads_nothing : (k j n : ℕ) → Spreads k j n (λ gs. gs) (λ gs. gs)
spreads_nothing k j n P Gs = search (arith, not_above)

-- stretches that merge behind those that stand for groups
pub merge_all_spreads : (level : BufferClusterLevel) (k j n : ℕ) (sts : List (ℕ × ℕ)) → 0 < j → EndWithin n sts →
    Spreads k j n (merge_all level (shifted k sts)) (merge_all level (shifted j sts))
merge_all_spreads level k j n [] some within = spreads_nothing k j n
merge_all_spreads level k j n (st ∷ sts) some within =
    spreads_then k j n (merge level (k + st.0) (k + st.1)) (merge level (j + st.0) (j + st.1))
    (merge_all level (shifted k sts)) (merge_all level (shifted j sts)) (search merge_spreads)
    (merge_all_spreads level k j n sts some within.1)

-- a stretch behind them that changes, and stays as long
pub stretch_spreads : (k j s e n : ℕ) (f : Change) → 0 < j → s ≤ e → e ≤ n →
    ((xs : Glyphs) → length xs ≡ e - s → length (f xs) ≡ e - s) →
    Spreads k j n (with_stretch (k + s) (k + e) f) (with_stretch (j + s) (j + e) f)
stretch_spreads k j s e n f some order within long P Gs ys kn jn yn stand =
    let all = P ++ spread_groups Gs ys in
    let at = put_in_place P Gs ys k j s kn jn (omega arith) in
    let t = take (j + s) ys in
    let mid = stretch_of (j + s) (j + e) ys in
    let rest = drop (j + e) ys in
    let tail = f mid ++ rest in
    let tn : length t ≡ j + s = omega (arith, length-take (j + s) ys) in
    let mn : length (f mid) ≡ e - s = long mid (length-stretch (j + s) (j + e) ys (omega arith) ∙ omega arith) in
    let first : first_cluster (t ++ tail) ≡ first_cluster ys =
    first_of_front t tail (omega arith) ∙ first_taken (j + s) ys (omega arith) in
    let front : take (length Gs) (t ++ tail) ≡ take (length Gs) ys =
    take-append-le (length Gs) t tail (omega arith) ∙ take-take (length Gs) (j + s) ys (omega arith) in
    let middle : stretch_of (k + s) (k + e) all ≡ mid = ap (λ d. take d (drop (k + s) all)) (omega arith)
    ∙ ap (take ((j + e) - (j + s))) at.rest in
    record {
      same_length = omega (arith, length-append t tail, length-append (f mid) rest, length-drop (j + e) ys);
      stand = stand_with Gs t tail
          (stand_front Gs t (drop (j + s) ys) (omega arith) (subst (StandFor Gs) (sym (take-append-drop (j + s) ys))
          stand));
      falls = omega arith;
      lower = subst (AllZip NotAbove (take (length Gs) ys)) (sym front) (not_above (take (length Gs) ys));
      is = λ until. cc ((put_in_place P Gs ys k j e kn jn (omega arith)).rest, append_assoc P (spread_groups Gs t) tail, spread_append Gs t tail (omega arith));
    }

-- glyphs that move behind them
pick_stretch : (a s e n : ℕ) (step : Step) (xs : Glyphs) → s ≤ e → e ≤ n → FitsStep (e - s) step → length xs ≡ a + n
    → pick (widened (a + s) (a + e) (a + n) step).places xs ≡ with_stretch (a + s) (a + e) (pick step.places) xs
pick_stretch a s e n step xs order within fits xn =
    cc (pick-widened (a + s) (a + e) step xs (omega arith) (omega arith) (subst (λ d. AllByRecursion (λ p. p < d)
    step.places) (sym (omega arith)) fits.within))

pick_spreads : (k j s e n : ℕ) (step : Step) → 0 < j → s ≤ e → e ≤ n → FitsStep (e - s) step →
    Spreads k j n (pick (widened (k + s) (k + e) (k + n) step).places)
    (pick (widened (j + s) (j + e) (j + n) step).places)
pick_spreads k j s e n step some order within fits P Gs ys kn jn yn stand =
    let at = put_in_place P Gs ys k j s kn jn (omega arith) in
    search (
      pick_stretch k s e n step (P ++ spread_groups Gs ys) order within fits (omega arith),
      pick_stretch j s e n step ys order within fits yn,
      stretch_spreads k j s e n (pick step.places) some order within
          (λ xs xn. length-pick step.places xs (subst (λ d. AllByRecursion (λ p. p < d) step.places) (sym xn)
          fits.within) ∙ fits.as_many) P Gs ys kn jn yn stand,
    )

step_spreads : (level : BufferClusterLevel) (k j s e n : ℕ) (step : Step) → 0 < j → s ≤ e → e ≤ n →
    FitsStep (e - s) step → Spreads k j n (after_step level (widened (k + s) (k + e) (k + n) step))
    (after_step level (widened (j + s) (j + e) (j + n) step))
step_spreads level k j s e n step some order within fits =
    let wide = fits-widened s e n step order within fits in
    let merging : (sts : List (ℕ × ℕ)) → EndWithin n (shifted s sts) →
    Spreads k j n (merge_all level (shifted (k + s) sts)) (merge_all level (shifted (j + s) sts)) = λ sts ends.
    search (
      arith,
      shifted-twice k s sts,
      shifted-twice j s sts,
      merge_all_spreads level k j n (shifted s sts) some ends,
    ) in
    let move = pick (widened (j + s) (j + e) (j + n) step).places in
    let move_over = pick (widened (k + s) (k + e) (k + n) step).places in
    spreads_then k j n (λ gs. move_over (merge_all level (shifted (k + s) step.merged_first) gs))
    (λ gs. move (merge_all level (shifted (j + s) step.merged_first) gs))
    (merge_all level (shifted (k + s) step.merged_then)) (merge_all level (shifted (j + s) step.merged_then))
    (spreads_then k j n (merge_all level (shifted (k + s) step.merged_first))
    (merge_all level (shifted (j + s) step.merged_first)) move_over move
    (merging step.merged_first wide.first_within) (search pick_spreads)) (merging step.merged_then wide.then_within)

-- steps over a stretch behind them
pub steps_spread : (level : BufferClusterLevel) (k j s e n : ℕ) (steps : List Step) → 0 < j → s ≤ e → e ≤ n →
    FitSteps (e - s) steps → Spreads k j n (after_steps level (map (widened (k + s) (k + e) (k + n)) steps))
    (after_steps level (map (widened (j + s) (j + e) (j + n)) steps))
steps_spread level k j s e n [] some order within fits = spreads_nothing k j n
steps_spread level k j s e n (step ∷ steps) some order within fits =
    spreads_then k j n (after_step level (widened (k + s) (k + e) (k + n) step))
    (after_step level (widened (j + s) (j + e) (j + n) step))
    (after_steps level (map (widened (k + s) (k + e) (k + n)) steps))
    (after_steps level (map (widened (j + s) (j + e) (j + n)) steps)) (search step_spreads)
    (steps_spread level k j s e n steps some order within fits.1)

-- BELOW ALL CLUSTERS of the stretch that the steps change no glyph changes
abbrev StaysOnSide : ℕ → Glyph → Glyph → Type 0
StaysOnSide low g h = (g.cluster < low → h.cluster ≡ g.cluster) × (low ≤ g.cluster → low ≤ h.cluster)

abbrev pub From : ℕ → Glyphs → Type 0
From low gs = Each (λ c. low ≤ c) gs

stay_there : (low : ℕ) (gs : Glyphs) → AllZip (StaysOnSide low) gs gs
stay_there low [] = tt
stay_there low (g ∷ gs) = search (stay_there low gs)

pub cluster_put : (m : ℕ) (g : Glyph) → (in_cluster m g).cluster ≡ m
cluster_put = search arith

put_on_side : (low m : ℕ) (g : Glyph) → low ≤ m → low ≤ g.cluster → StaysOnSide low g (in_cluster m g)
put_on_side = search arith

flood_on_side : (low c m : ℕ) (gs : Glyphs) → low ≤ c → low ≤ m → AllZip (StaysOnSide low) gs (flooded c m gs)
flood_on_side low c m [] from to = tt
flood_on_side low c m (g ∷ gs) from to = search (arith, stay_there, flood_on_side low c m gs from to)

put_all_on_side : (low m : ℕ) (gs : Glyphs) → low ≤ m → From low gs →
    AllZip (StaysOnSide low) gs (map (in_cluster m) gs)
put_all_on_side low m [] to from = tt
put_all_on_side low m (g ∷ gs) to from = (put_on_side low m g to from.0, put_all_on_side low m gs to from.1)

from_least : (low : ℕ) (gs : Glyphs) → 0 < length gs → From low gs → low ≤ least (clusters gs)
from_least low gs some from =
    let n = length-map gs (λ (g : Glyph). g.cluster) in
    let (i, inside, is) = least-among (clusters gs) (omega arith) in
    let at = from_at low gs i from (omega arith) in
    omega arith
  where
    from_at : (low : ℕ) (gs : Glyphs) (i : ℕ) → From low gs → i < length gs →
        low ≤ get_or (clusters gs) i 0
    from_at low [] i from inside = absurd (omega arith)
    from_at low (g ∷ gs) zero from inside = from.0
    from_at low (g ∷ gs) (suc i) from inside = from_at low gs i from.1 (omega arith)

from_first : (low : ℕ) (gs : Glyphs) → 0 < length gs → From low gs → low ≤ first_cluster gs
from_first low [] some from = absurd (omega arith)
from_first low (g ∷ gs) some from = from.0

merge_on_side : (level : BufferClusterLevel) (low s e : ℕ) (gs : Glyphs) → e ≤ length gs →
    (1 < e - s → From low (stretch_of s e gs)) → AllZip (StaysOnSide low) gs (merge level s e gs)
merge_on_side level low s e gs within from =
    merge_cases (AllZip (StaysOnSide low) gs) level s e gs (stay_there low gs) (λ two.
    let R = StaysOnSide low in
    let mid = stretch_of s e gs in
    let c = first_cluster mid in
    let d = last_cluster mid in
    let m = least (clusters mid) in
    let some : 0 < length mid = search (arith, length-stretch) in
    let high = from two in
    let to = from_least low mid some high in
    let t = take s gs in
    search (
      arith,
      three_parts s e gs (omega arith),
      all_append R t (reverse (flooded c m (reverse t))) (mid ++ drop e gs)
          (map (in_cluster m) mid ++ flooded d m (drop e gs))
          (subst (λ l. AllZip R l (reverse (flooded c m (reverse t)))) (reverse-reverse t) (all_reverse R (reverse t)
          (flooded c m (reverse t)) (flood_on_side low c m (reverse t) (from_first low mid some high) to)))
          (all_append R mid (map (in_cluster m) mid) (drop e gs) (flooded d m (drop e gs)) (put_all_on_side low m mid
          to high) (flood_on_side low d m (drop e gs) (search (arith, length-reverse, each-reverse)) to)),
    ))

first_on_side : (low : ℕ) (gs hs : Glyphs) → AllZip (StaysOnSide low) gs hs → first_cluster gs < low →
    first_cluster hs ≡ first_cluster gs
first_on_side low [] [] all less = refl
first_on_side low (g ∷ gs) (h ∷ hs) all less = all.0.0 less
first_on_side low _ _ all less = absurd all

from_on_side : (low : ℕ) (gs hs : Glyphs) → AllZip (StaysOnSide low) gs hs → From low gs → From low hs
from_on_side low [] [] all from = tt
from_on_side low (g ∷ gs) (h ∷ hs) all from = (all.0.1 from.0, from_on_side low gs hs all.1 from.1)
from_on_side low _ _ all from = absurd all

-- a change that leaves the first glyph's cluster, if all from a to b are in clusters above it
pub record KeepsFirst (low a b : ℕ) (gs new : Glyphs) : Type 0 where
  pub same_length : length new ≡ length gs
  pub first : first_cluster new ≡ first_cluster gs
  pub from : From low (stretch_of a b new)

sides_keep : (low a b : ℕ) (gs new : Glyphs) → length new ≡ length gs →
    AllZip (StaysOnSide low) gs new → From low (stretch_of a b gs) → first_cluster gs < low → KeepsFirst low a b gs new
sides_keep low a b gs new long sides from less = search (
  arith,
  from_on_side low (stretch_of a b gs) (stretch_of a b new)
      (zip_take (StaysOnSide low) (b - a) (drop a gs) (drop a new) (zip_drop (StaysOnSide low) a gs new sides)) from,
)

abbrev pub Keeps : ℕ → ℕ → ℕ → ℕ → Change → Type 0
Keeps low a b n change = (gs : Glyphs) → length gs ≡ n → From low (stretch_of a b gs) →
    first_cluster gs < low → KeepsFirst low a b gs (change gs)

-- one that changes no cluster
pub clusters_keep : (low a b n : ℕ) (change : Change) →
    ((gs : Glyphs) → clusters (change gs) ≡ clusters gs) → Keeps low a b n change
clusters_keep low a b n change same gs gn from less =
    let long : length (change gs) ≡ length gs = cc (
      length-map (change gs) (λ (g : Glyph). g.cluster),
      same gs,
      length-map gs (λ (g : Glyph). g.cluster),
    ) in
    sides_keep low a b gs (change gs) long (sides low gs (change gs) (sym (same gs))) from less
  where
    sides : (low : ℕ) (gs hs : Glyphs) → clusters gs ≡ clusters hs → AllZip (StaysOnSide low) gs hs
    sides low [] [] same = tt
    sides low [] (h ∷ hs) same = absurd (cc)
    sides low (g ∷ gs) [] same = absurd (cc)
    sides low (g ∷ gs) (h ∷ hs) same =
        let one : g.cluster ≡ h.cluster = cc in
        (((λ less. sym one), (λ high. omega arith)), sides low gs hs cc)

pub keeps_then : (low a b n : ℕ) (change after : Change) → Keeps low a b n change → Keeps low a b n after →
    Keeps low a b n (λ gs. after (change gs))
keeps_then = search arith

pub keeps_nothing : (low a b n : ℕ) → Keeps low a b n (λ gs. gs)
keeps_nothing = search arith

merge_keeps : (level : BufferClusterLevel) (low a s e b n : ℕ) → e ≤ b → a + b ≤ n →
    Keeps low a (a + b) n (merge level (a + s) (a + e))
merge_keeps level low a s e b n order within gs gn from less =
    let part : 1 < (a + e) - (a + s) → From low (stretch_of (a + s) (a + e) gs) = λ two. let is : stretch_of (a + s) (a + e) gs ≡ drop s (take e (take b (drop a gs))) =
    ap (λ i. take i (drop (a + s) gs)) (omega arith) ∙ ap (take (e - s)) (sym (drop-drop s a gs))
    ∙ sym (drop-take s (e - s) (drop a gs)) ∙ ap (λ i. drop s (take i (drop a gs))) (omega arith)
    ∙ ap (drop s) (sym (take-take e b (drop a gs) order)) in
    search (arith, each-drop, each-take) in
    sides_keep low a (a + b) gs (merge level (a + s) (a + e) gs) (search (arith, length-merge))
    (search (arith, merge_on_side)) from less

pub merge_all_keeps : (level : BufferClusterLevel) (low a b n : ℕ) (sts : List (ℕ × ℕ)) → a + b ≤ n → EndWithin b sts →
    Keeps low a (a + b) n (merge_all level (shifted a sts))
merge_all_keeps level low a b n [] within ends = keeps_nothing low a (a + b) n
merge_all_keeps level low a b n (st ∷ sts) within ends =
    keeps_then low a (a + b) n (merge level (a + st.0) (a + st.1)) (merge_all level (shifted a sts))
    (search merge_keeps) (merge_all_keeps level low a b n sts within ends.1)

pick_keeps : (low a b n : ℕ) (step : Step) → 0 < a → a + b ≤ n → FitsStep b step →
    Keeps low a (a + b) n (pick (widened a (a + b) n step).places)
pick_keeps low a b n step some within fits gs gn from less =
    let long : (a + b) - a ≡ b = omega arith in
    let t = take a gs in
    let mid = stretch_of a (a + b) gs in
    let inside : AllByRecursion (λ p. p < (a + b) - a) step.places =
    subst (λ d. AllByRecursion (λ p. p < d) step.places) (sym long) fits.within in
    let picked = pick step.places mid in
    let within_mid : AllByRecursion (λ p. p < length mid) step.places =
    subst (λ d. AllByRecursion (λ p. p < d) step.places) (sym (search (arith, length-stretch))) fits.within in
    let pn : length picked ≡ b = search length-pick in
    let tn : length t ≡ a = omega (arith, length-take a gs) in
    let wide = fits-widened a (a + b) n step (omega arith) within (subst (λ d. FitsStep d step) (sym long) fits) in
    search (
      arith,
      length-pick (widened a (a + b) n step).places gs
          (subst (λ d. AllByRecursion (λ p. p < d) (widened a (a + b) n step).places) (sym gn) wide.within),
      pick-widened a (a + b) step gs (omega arith) (omega arith) inside,
      drop_at t (picked ++ drop (a + b) gs) a tn,
      take_at picked (drop (a + b) gs) ((a + b) - a) (omega arith),
      each-pick (λ c. low ≤ c) step.places mid within_mid from,
    )

pub steps_keep : (level : BufferClusterLevel) (low a b n : ℕ) (steps : List Step) → 0 < a → a + b ≤ n →
    FitSteps b steps → Keeps low a (a + b) n (after_steps level (map (widened a (a + b) n) steps))
steps_keep level low a b n [] some within fits = keeps_nothing low a (a + b) n
steps_keep level low a b n (step ∷ steps) some within fits =
    let move = pick (widened a (a + b) n step).places in
    keeps_then low a (a + b) n (after_step level (widened a (a + b) n step))
    (after_steps level (map (widened a (a + b) n) steps))
    (keeps_then low a (a + b) n (λ gs. move (merge_all level (shifted a step.merged_first) gs))
    (merge_all level (shifted a step.merged_then))
    (keeps_then low a (a + b) n (merge_all level (shifted a step.merged_first)) move (search merge_all_keeps)
    (search pick_keeps)) (search merge_all_keeps)) (steps_keep level low a b n steps some within fits.1)

-- all of a stretch are in its least cluster or above
pub from_of_least : (gs : Glyphs) → From (least (clusters gs)) gs
from_of_least gs = each (least (clusters gs)) gs (λ i inside. least-le (clusters gs) i inside)
  where
    each : (low : ℕ) (gs : Glyphs) → ((i : ℕ) → i < length (clusters gs) →
        low ≤ get_or (clusters gs) i 0) → From low gs
    each low [] all = tt
    each low (g ∷ gs) all = (all 0 (omega arith), each low gs (λ i inside. all (suc i) (omega arith)))
