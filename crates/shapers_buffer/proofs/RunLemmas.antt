-- Runs of one cluster that merges make, and that are written behind the last of them.
use Rattle.std.proofs.Common.{◌≡◌, ◌<◌, ◌≤◌, ℕ, suc, ◌+◌, ◌-◌, ◌==◌, inl, inr, Bool, true, List, [], ◌∷◌, ◌++◌, min, map, length, take, drop, reverse, refl, sym, ap, subst, ◌∙◌, append_assoc, arith, length-append, length-drop, length-take-le}
use Rattle.std.specs.Prelude.{fold, nat_le}
use Rattle.std.specs.List.{list_all, prefix_len}
use Rattle.std.proofs.lemmas.List.{length-map, map-append, reverse-append, reverse-reverse, drop-drop, take-take, take_at, drop_at, drop_all, take_all, append-nil, take-append-drop, take-append-le}
use Rattle.std.proofs.lemmas.List.Folds.{list_all-append}
use Rattle.std.proofs.lemmas.List.Sums.{suffix_len-le-length}
use Rattle.std.proofs.lemmas.Bool.{and_parts, cases_Bool, eqb-true, leb-true, le-leb}
use Rattle.std.proofs.lemmas.Grind.{fold-append}
use Rattle.shapers_buffer.specs.Glyphs.{Glyph, Glyphs}
use Rattle.shapers_buffer.specs.Glyph.{clusters}
use Rattle.shapers_buffer.specs.Clusters.{least, first_cluster, last_cluster, has_cluster, in_cluster, flooded, merged, stretch_of, with_stretch}
use Rattle.shapers_buffer.specs.ClusterRanges.{none_below}
use Rattle.shapers_buffer.specs.RangeWalk.{equal_before, equal_behind}
use Rattle.shapers_buffer.specs.Lists.{last_stretch}
use Rattle.shapers_buffer.proofs.ListLaws.{from_end, last_run_no, last_run_yes}
use Rattle.shapers_buffer.proofs.ClusterLemmas.{flooded-parts, flooded_before, flooded_itself, length-stretch, merged_is, stretch_widened, stretched_parts, three_parts}
use Rattle.shapers_buffer.proofs.OneCluster.{all_in_cluster, in_cluster_stays, last_of_end, least_stays, one_stays, stretch_in_two}

pub put_twice : (m c : ℕ) (g : Glyph) → m ≤ c → c ≤ g.cluster → in_cluster m (in_cluster c g) ≡ in_cluster m g
put_twice = search arith

pub puts_twice : (m c : ℕ) (gs : Glyphs) → m ≤ c → none_below c gs ≡ true
    → map (in_cluster m) (map (in_cluster c) gs) ≡ map (in_cluster m) gs
puts_twice m c [] h none = refl
puts_twice m c (g ∷ gs) h none =
    search (arith, put_twice, puts_twice m c gs h (and_parts (nat_le c g.cluster) (none_below c gs) none).1)

-- none below a number that is lower, or the least
pub none_lower : (m c : ℕ) (gs : Glyphs) → m ≤ c → none_below c gs ≡ true → none_below m gs ≡ true
none_lower m c [] h none = refl
none_lower m c (g ∷ gs) h none =
    search (arith, le-leb, refl, none_lower m c gs h (and_parts (nat_le c g.cluster) (none_below c gs) none).1)

pub none_of_cluster : (m c : ℕ) (gs : Glyphs) → m ≤ c → list_all (has_cluster c) gs ≡ true → none_below m gs ≡ true
none_of_cluster m c [] h all = refl
none_of_cluster m c (g ∷ gs) h all = search (
  arith,
  le-leb,
  refl,
  none_of_cluster m c gs h (and_parts (g.cluster == c) (list_all (has_cluster c) gs) all).1,
)

none_in_fold : (m b : ℕ) (gs : Glyphs) → m ≤ fold min b (clusters gs) → (m ≤ b) × (none_below m gs ≡ true)
none_in_fold m b [] h = (h, refl)
none_in_fold m b (g ∷ gs) h = let (low, rest) = none_in_fold m (min b g.cluster) gs h in search (arith, le-leb, refl)

none_below_least : (m : ℕ) (gs : Glyphs) → m ≤ least (clusters gs) → none_below m gs ≡ true
none_below_least m [] h = refl
none_below_least m (g ∷ gs) h = let (low, rest) = none_in_fold m g.cluster gs h in search arith

last_not_below : (m : ℕ) (gs : Glyphs) → 0 < length gs → none_below m gs ≡ true → m ≤ last_cluster gs
last_not_below m [] some none = absurd (omega arith)
last_not_below m (g ∷ []) some none = search (arith, leb-true, and_parts)
last_not_below m (g ∷ (k ∷ gs)) some none = search (
  arith,
  last_of_end (g ∷ []) (k ∷ gs) (omega arith),
  last_not_below m (k ∷ gs) (omega arith) (and_parts (nat_le m g.cluster) (none_below m (k ∷ gs)) none).1,
)

-- the glyphs of a cluster that end a list, or open it
last_run_passes : (test : Glyph → Bool) (gs : Glyphs) → list_all test (last_stretch test gs) ≡ true
last_run_passes test =
    from_end (λ gs. list_all test (last_stretch test gs) ≡ true) refl (λ gs g here. elim (cases_Bool (test g)) [
      | inl passes ↦ ap (list_all test) (last_run_yes test gs g passes)
          ∙ list_all-append test (last_stretch test gs) (g ∷ []) ∙ rw (here, passes) refl
      | inr fails ↦ ap (list_all test) (last_run_no test gs g fails)
    ])

pub first_run_passes : (test : Glyph → Bool) (gs : Glyphs) → list_all test (take (prefix_len test gs) gs) ≡ true
first_run_passes test [] = refl
first_run_passes test (g ∷ gs) = elim (cases_Bool (test g)) [
  | inl passes ↦
      let n : prefix_len test (g ∷ gs) ≡ suc (prefix_len test gs) = rw passes (omega arith) in
      search (arith, refl, first_run_passes test gs)
  | inr fails ↦
      search (arith, refl)
]

-- a flood by the places that it reaches
reaches_behind : (c m : ℕ) (gs : Glyphs)
    → flooded c m gs ≡ map (in_cluster m) (take (equal_behind c m gs) gs) ++ drop (equal_behind c m gs) gs
reaches_behind = search (arith, flooded_itself, refl, flooded-parts)

-- a flood to the left takes in all that end the list and are in its cluster
ended_push : (c m : ℕ) (g : Glyph) (gs : Glyphs) → (g.cluster == c) ≡ true
    → reverse (flooded c m (reverse (gs ++ g ∷ []))) ≡ reverse (flooded c m (reverse gs)) ++ in_cluster m g ∷ []
ended_push c m g gs h =
    cc (reverse-append gs (g ∷ []), reverse-append (in_cluster m g ∷ []) (flooded c m (reverse gs)))

pub ended_all : (c m : ℕ) (before gs : Glyphs) → list_all (has_cluster c) gs ≡ true
    → reverse (flooded c m (reverse (before ++ gs))) ≡ reverse (flooded c m (reverse before)) ++ map (in_cluster m) gs
ended_all c m before [] all = search (arith, append-nil)
ended_all c m before (g ∷ gs) all = search (
  arith,
  append_assoc,
  ended_push,
  ended_all c m (before ++ g ∷ []) gs (and_parts (g.cluster == c) (list_all (has_cluster c) gs) all).1,
)

-- the least of glyphs in one cluster and others behind them
least_of_two : (c b : ℕ) (bs : List ℕ) → fold min (min c b) bs ≡ min (fold min b bs) c
least_of_two c b [] = omega arith
least_of_two c b (x ∷ bs) = search (arith, least_of_two c (min b x) bs)

first_in : (c : ℕ) (gs : Glyphs) → 0 < length gs → list_all (has_cluster c) gs ≡ true → first_cluster gs ≡ c
first_in c [] some all = absurd (omega arith)
first_in c (g ∷ gs) some all = search (arith, eqb-true, and_parts)

least_with : (c : ℕ) (gs hs : Glyphs) → 0 < length gs → 0 < length hs → list_all (has_cluster c) gs ≡ true
    → least (clusters (gs ++ hs)) ≡ min (least (clusters hs)) c
least_with c (g ∷ gs) (h ∷ hs) some more all =
    search (arith, map-append, fold-append, eqb-true, least_stays, least_of_two)
least_with c _ _ some more all = absurd (omega arith)

-- the merge of the end of glyphs in one cluster with others behind them
floods_joined : (c m : ℕ) (before front back more behind : Glyphs) → list_all (has_cluster c) front ≡ true
    → list_all (has_cluster c) back ≡ true → 0 < length back → 0 < length more → m ≡ min (least (clusters more)) c
    → reverse (flooded (first_cluster (back ++ more)) (least (clusters (back ++ more))) (reverse (before ++ front)))
    ++ (map (in_cluster (least (clusters (back ++ more)))) (back ++ more)
    ++ flooded (last_cluster (back ++ more)) (least (clusters (back ++ more))) behind)
    ≡ reverse (flooded c m (reverse before))
    ++ (map (in_cluster m) ((front ++ back) ++ more) ++ flooded (last_cluster more) m behind)
floods_joined = search (arith, first_in, least_with, last_of_end, ended_all, append_assoc, map-append)

-- a list of glyphs with a run in its cluster, in its parts: what stands before the place s of
-- the run in it, and what from there on to its end
record Cut (a b c s : ℕ) (gs : Glyphs) : Type 0 where
  pub front : Glyphs
  pub back : Glyphs
  pub run : front ++ back ≡ map (in_cluster c) (stretch_of a b gs)
  pub first : list_all (has_cluster c) front ≡ true
  pub second : list_all (has_cluster c) back ≡ true
  pub as_long : length back ≡ b - s
  pub before : take s (with_stretch a b (map (in_cluster c)) gs) ≡ take a gs ++ front
  pub behind : drop s (with_stretch a b (map (in_cluster c)) gs) ≡ back ++ drop b gs

cut : (a b c s : ℕ) (gs : Glyphs) → a ≤ s → s ≤ b → b ≤ length gs → Cut a b c s gs
cut a b c s gs h l within =
    let all = map (in_cluster c) (stretch_of a b gs) in
    let front = take (s - a) (map (in_cluster c) (stretch_of a b gs)) in
    let back = drop (s - a) (map (in_cluster c) (stretch_of a b gs)) in
    let run = take-append-drop (s - a) all in
    let size : length (map (in_cluster c) (stretch_of a b gs)) ≡ b - a = length-map (stretch_of a b gs) (in_cluster c)
    ∙ length-stretch a b gs within in
    let one : length front ≡ s - a = length-take-le (s - a) all (omega arith) in
    let lead : length (take a gs) ≡ a = length-take-le a gs (omega arith) in
    let n : length (take a gs ++ front) ≡ s = omega (arith, length-append (take a gs) front) in
    let both = and_parts (list_all (has_cluster c) front) (list_all (has_cluster c) back)
    (sym (list_all-append (has_cluster c) front back) ∙ ap (list_all (has_cluster c)) run
    ∙ all_in_cluster c (stretch_of a b gs)) in
    let whole =
    ap (λ l. take a gs ++ (l ++ drop b gs)) (sym run) ∙ ap (λ l. take a gs ++ l) (append_assoc front back (drop b gs))
    ∙ sym (append_assoc (take a gs) front (back ++ drop b gs)) in
    record {
      front = front;
      back = back;
      run = run;
      first = both.0;
      second = both.1;
      as_long = omega (arith, length-drop (s - a) all);
      before = ap (take s) whole ∙ take_at (take a gs ++ front) (back ++ drop b gs) s n;
      behind = ap (drop s) whole ∙ drop_at (take a gs ++ front) (back ++ drop b gs) s n;
    }

-- a merge from a place of the run to one behind it
merged_in_run : (a b c s e m : ℕ) (gs : Glyphs) → a ≤ s → s < b → b < e → e ≤ length gs
    → none_below c (stretch_of a b gs) ≡ true → m ≡ min (least (clusters (stretch_of b e gs))) c
    → merged s e (with_stretch a b (map (in_cluster c)) gs) ≡ reverse (flooded c m (reverse (take a gs)))
    ++ (map (in_cluster m) (stretch_of a e gs) ++ flooded (last_cluster (stretch_of b e gs)) m (drop e gs))
merged_in_run a b c s e m gs from inside further within none is =
    let hs = with_stretch a b (map (in_cluster c)) gs in
    let more = stretch_of b e gs in
    let behind = drop e gs in
    let k = cut a b c s gs from (omega arith) (omega arith) in
    let new : length (stretch_of b e gs) ≡ e - b = length-stretch b e gs within in
    let n : length (k.back ++ more) ≡ e - s = omega (arith, length-append k.back more) in
    search (
      arith,
      merged_is s e hs (omega arith),
      k.before,
      drop-drop (e - s) s hs,
      k.behind,
      drop-drop (e - b) b gs,
      take-append-drop (e - b) (drop b gs),
      append_assoc k.back more behind,
      drop_at,
      take_at (k.back ++ more) behind (e - s) n,
      floods_joined c m (take a gs) k.front k.back more behind k.first k.second (omega (arith, k.as_long))
          (omega arith) is,
      k.run,
      map-append (in_cluster m) (map (in_cluster c) (stretch_of a b gs)) more,
      puts_twice m c (stretch_of a b gs) (omega arith) none,
      map-append (in_cluster m) (stretch_of a b gs) more,
      stretch_in_two a b e gs (omega arith) (omega arith),
    )

before_within : (c m : ℕ) (gs : Glyphs) → equal_before c m gs ≤ length gs
before_within = search (arith, suffix_len-le-length)

-- the run that it makes
reached : (c l m a e : ℕ) (gs : Glyphs) → a ≤ e → e ≤ length gs
    → with_stretch (a - equal_before c m (take a gs)) (e + equal_behind l m (drop e gs)) (map (in_cluster m)) gs
    ≡ reverse (flooded c m (reverse (take a gs))) ++ (map (in_cluster m) (stretch_of a e gs) ++ flooded l m (drop e gs))
reached = search (
  arith,
  stretched_parts,
  length-take-le,
  before_within,
  flooded_itself,
  reverse-reverse,
  refl,
  take_all,
  drop_all,
  append-nil,
  flooded_before,
  take-take,
  reaches_behind,
)

pub grown_merged : (a b c s e k m l j : ℕ) (gs : Glyphs) → a ≤ s → s < b → b < e → e ≤ length gs
    → none_below c (stretch_of a b gs) ≡ true → m ≡ min (least (clusters (stretch_of b e gs))) c
    → l ≡ last_cluster (stretch_of b e gs) → k ≡ equal_before c m (take a gs) → j ≡ equal_behind l m (drop e gs)
    → with_stretch (a - k) (e + j) (map (in_cluster m)) gs ≡ merged s e (with_stretch a b (map (in_cluster c)) gs)
grown_merged a b c s e k m l j gs from inside further within none = search (arith, reached, merged_in_run)

-- none of its glyphs has a cluster below the run's
pub grown_least : (a b c e k m l j : ℕ) (gs : Glyphs) → a < b → b < e → e ≤ length gs
    → none_below c (stretch_of a b gs) ≡ true → m ≡ min (least (clusters (stretch_of b e gs))) c
    → l ≡ last_cluster (stretch_of b e gs) → k ≡ equal_before c m (take a gs) → j ≡ equal_behind l m (drop e gs)
    → none_below m (stretch_of (a - k) (e + j) gs) ≡ true
grown_least a b c e k m l j gs some further within none is last before behind =
    let n : length (take a gs) ≡ a = length-take-le a gs (omega arith) in
    let new : length (stretch_of b e gs) ≡ e - b = length-stretch b e gs within in
    let low : m ≤ c = omega arith in
    let not_last = subst (λ i. m ≤ i) (sym last) (last_not_below m (stretch_of b e gs) (omega arith)
    (none_below_least m (stretch_of b e gs) (omega arith))) in
    search (
      arith,
      stretch_widened a e k j gs (omega arith) (omega (arith, before_within)),
      list_all-append (λ g. nat_le m g.cluster) (drop (a - k) (take a gs)) (stretch_of a e gs ++ take j (drop e gs)),
      list_all-append (λ g. nat_le m g.cluster) (stretch_of a e gs) (take j (drop e gs)),
      drop_all,
      none_of_cluster m c (last_stretch (has_cluster c) (take a gs)) low (last_run_passes (has_cluster c) (take a gs)),
      stretch_in_two a b e gs (omega arith) (omega arith),
      list_all-append (λ g. nat_le m g.cluster) (stretch_of a b gs) (stretch_of b e gs),
      none_lower m c (stretch_of a b gs) low none,
      none_below_least m (stretch_of b e gs) (omega arith),
      refl,
      none_of_cluster m l (take (prefix_len (has_cluster l) (drop e gs)) (drop e gs)) not_last
          (first_run_passes (has_cluster l) (drop e gs)),
    )

-- a merge inside the run changes nothing
all_in_front : (test : Glyph → Bool) (n : ℕ) (gs : Glyphs) → list_all test gs ≡ true
    → list_all test (take n gs) ≡ true
all_in_front test n gs all =
    (and_parts (list_all test (take n gs)) (list_all test (drop n gs))
    (sym (list_all-append test (take n gs) (drop n gs)) ∙ ap (list_all test) (take-append-drop n gs) ∙ all)).0

pub merged_inside_run : (a b c s e : ℕ) (gs : Glyphs) → a ≤ s → s < e → e ≤ b → b ≤ length gs
    → with_stretch a b (map (in_cluster c)) gs ≡ merged s e (with_stretch a b (map (in_cluster c)) gs)
merged_inside_run a b c s e gs from some to within =
    let hs = with_stretch a b (map (in_cluster c)) gs in
    let part : stretch_of s e hs ≡ take (e - s)
    (cut a b c s gs from (omega arith) within).back = search (arith, take-append-le) in
    let all : list_all (has_cluster c) (stretch_of s e hs) ≡ true = search (arith, all_in_front) in
    let size : length (stretch_of s e hs) ≡ e - s =
    search (arith, length-take-le) in
    search (arith, merged_is, one_stays, three_parts)

-- the run with glyphs behind it that are in its cluster
pub reaching_same : (a b c n : ℕ) (gs : Glyphs) → a ≤ b → b ≤ n → list_all (has_cluster c) (stretch_of b n gs) ≡ true
    → with_stretch a n (map (in_cluster c)) gs ≡ with_stretch a b (map (in_cluster c)) gs
reaching_same a b c n gs h l all =
    let more = stretch_of b n gs in
    search (
      arith,
      stretch_in_two a b n gs h l,
      map-append (in_cluster c) (stretch_of a b gs) more,
      in_cluster_stays c more all,
      append_assoc,
      drop-drop (n - b) b gs,
      take-append-drop (n - b) (drop b gs),
    )

pub reaching_least : (a b c n : ℕ) (gs : Glyphs) → a ≤ b → b ≤ n → none_below c (stretch_of a b gs) ≡ true
    → list_all (has_cluster c) (stretch_of b n gs) ≡ true → none_below c (stretch_of a n gs) ≡ true
reaching_least a b c n gs h l none all = search (
  arith,
  stretch_in_two a b n gs h l,
  list_all-append,
  none_of_cluster c c (stretch_of b n gs) (omega arith) all,
  refl,
)
