-- What one merge does to clusters, place by place.
use Rattle.std.proofs.Common.{ℕ, zero, suc, ◌+◌, ◌-◌, ◌<◌, ◌≤◌, ◌≡◌, ◌≢◌, Bool, true, false, if◌then◌else◌, nat_lt, not, ◌&&◌, ◌⊎◌, inl, List, [], ◌∷◌, ◌++◌, map, length, get_or, reverse, take, drop, refl, sym, ◌∙◌, ap, subst, arith, length-append, length-take, length-drop}
use Rattle.std.proofs.lemmas.List.{length-reverse, length-map, get_or-reverse, get_or_append_left, get_or-append_right, get_or-take, get_or-drop}
use Rattle.shapers_buffer.specs.declared.buffer.level.BufferClusterLevel.{BufferClusterLevel}
use Rattle.shapers_buffer.specs.Clusters.{least, merges, stretch_of}
use Rattle.shapers_clusters.specs.ClusterMerges.{joined}
use Rattle.shapers_clusters.proofs.ClusterMerges.{opening_run, flood, spreading, joined_is, opening-at, flood-is, least-le, least-among}

-- A merge of s..e: all of low..high gets the least cluster m of s..e, of which `at` is a place, and the rest stays.
-- low..high reaches as far as the clusters of the stretch's ends do.
pub record Spread (s e : ℕ) (cs js : List ℕ) : Type 0 where
  pub low : ℕ
  pub high : ℕ
  pub m : ℕ
  pub at : ℕ
  pub low_within : low ≤ s
  pub high_within : e ≤ high
  pub high_end : high ≤ length cs
  pub same_length : length js ≡ length cs
  pub inside : (p : ℕ) → low ≤ p → p < high → get_or js p 0 ≡ m
  pub before : (p : ℕ) → p < low → get_or js p 0 ≡ get_or cs p 0
  pub behind : (p : ℕ) → high ≤ p → get_or js p 0 ≡ get_or cs p 0
  pub left : (p : ℕ) → low ≤ p → p < s → get_or cs p 0 ≡ get_or cs s 0
  pub right : (p : ℕ) → e ≤ p → p < high → get_or cs p 0 ≡ get_or cs (e - 1) 0
  pub left_edge : 0 < low → get_or cs (low - 1) 0 ≢ get_or cs s 0
  pub right_edge : high < length cs → get_or cs high 0 ≢ get_or cs (e - 1) 0
  pub at_from : s ≤ at
  pub at_to : at < e
  pub at_is : get_or cs at 0 ≡ m
  pub least_is : (p : ℕ) → s ≤ p → p < e → m ≤ get_or cs p 0

first_part : (a b c : List ℕ) (p : ℕ) → p < length a → get_or (a ++ (b ++ c)) p 0 ≡ get_or a p 0
first_part a b c p h = get_or_append_left a (b ++ c) 0 p h

pub second_part : (a b c : List ℕ) (p : ℕ) → length a ≤ p → p < length a + length b
    → get_or (a ++ (b ++ c)) p 0 ≡ get_or b (p - length a) 0
second_part = search (arith, get_or-append_right, get_or_append_left)

third_part : (a b c : List ℕ) (p : ℕ) → length a + length b ≤ p
    → get_or (a ++ (b ++ c)) p 0 ≡ get_or c (p - (length a + length b)) 0
third_part = search (arith, get_or-append_right)

reversed-at : (xs : List ℕ) (n p : ℕ) → length xs ≡ n → p < n → get_or (reverse xs) p 0 ≡ get_or xs (n - 1 - p) 0
reversed-at = search (arith, get_or-reverse)

-- the flood in front of place s
record Left (c m s : ℕ) (cs ls : List ℕ) : Type 0 where
  low : ℕ
  within : low ≤ s
  same_length : length ls ≡ s
  new : (p : ℕ) → low ≤ p → p < s → get_or ls p 0 ≡ m
  old : (p : ℕ) → low ≤ p → p < s → get_or cs p 0 ≡ c
  rest : (p : ℕ) → p < low → get_or ls p 0 ≡ get_or cs p 0
  edge : 0 < low → get_or cs (low - 1) 0 ≢ c

front_reversed-at : (s : ℕ) (cs : List ℕ) (p : ℕ) → s ≤ length cs → p < s → get_or (reverse (take s cs)) (s - 1 - p) 0
    ≡ get_or cs p 0
front_reversed-at s cs p l h = search (
  arith,
  reversed-at (take s cs) s (s - 1 - p) (omega (arith, length-take s cs)) (omega arith),
  get_or-take s cs p 0 h,
)

left-is : (c m s : ℕ) (cs : List ℕ) → s ≤ length cs → Left c m s cs (reverse (flood c m (reverse (take s cs))))
left-is c m s cs l =
    let f = flood-is c m (reverse (take s cs)) in
    let ys = flood c m (reverse (take s cs)) in
    let k = f.same_length ∙ (search (arith, length-take, length-reverse)) in
    record {
      low = s - f.end;
      within = omega arith;
      same_length = length-reverse ys ∙ k;
      new = λ p a b. reversed-at ys s p k b ∙ f.new (s - 1 - p) (omega arith);
      old = search (arith, front_reversed-at);
      rest = search (arith, reversed-at, front_reversed-at);
      edge = λ h e. f.edge (omega arith) (ap (λ k. get_or (reverse (take s cs)) k 0)
          (sym (omega arith)) ∙ front_reversed-at s cs (s - f.end - 1) l (omega arith) ∙ e);
    }

-- the flood behind place e
record Right (c m e : ℕ) (cs rs : List ℕ) : Type 0 where
  high : ℕ
  within : e ≤ high
  end : high ≤ length cs
  same_length : length rs ≡ length cs - e
  new : (p : ℕ) → e ≤ p → p < high → get_or rs (p - e) 0 ≡ m
  old : (p : ℕ) → e ≤ p → p < high → get_or cs p 0 ≡ c
  rest : (p : ℕ) → high ≤ p → get_or rs (p - e) 0 ≡ get_or cs p 0
  edge : high < length cs → get_or cs high 0 ≢ c

behind-at : (e : ℕ) (cs : List ℕ) (p : ℕ) → e ≤ p → get_or (drop e cs) (p - e) 0 ≡ get_or cs p 0
behind-at = search (arith, get_or-drop)

right-is : (c m e : ℕ) (cs : List ℕ) → e ≤ length cs → Right c m e cs (flood c m (drop e cs))
right-is c m e cs l =
    let f = flood-is c m (drop e cs) in
    let n = length-drop e cs in
    record {
      high = e + f.end;
      within = omega arith;
      end = omega arith;
      same_length = f.same_length ∙ n;
      new = λ p a b. f.new (p - e) (omega arith);
      old = search (arith, behind-at);
      rest = search (arith, behind-at);
      edge = λ h q. f.edge (omega arith) (ap (λ k. get_or (drop e cs) k 0) (sym
          (omega arith)) ∙ behind-at e cs (e + f.end) (omega arith) ∙ q);
    }

pub map-constant : (m : ℕ) (xs : List ℕ) (p : ℕ) → p < length xs → get_or (map (λ _. m) xs) p 0 ≡ m
map-constant m [] p h = absurd (omega arith)
map-constant m (x ∷ xs) zero h = refl
map-constant m (x ∷ xs) (suc p) h = map-constant m xs p (omega arith)

pub stretch-at : (s e : ℕ) (cs : List ℕ) (k : ℕ) → k < e - s → get_or (stretch_of s e cs) k 0 ≡ get_or cs (s + k) 0
stretch-at = search (get_or-take, get_or-drop)

pub length-stretch : (s e : ℕ) (cs : List ℕ) → e ≤ length cs → length (stretch_of s e cs) ≡ e - s
length-stretch = search (arith, length-take, length-drop)

spread_from : (m s e : ℕ) (cs middle ls rs : List ℕ) (at : ℕ) → s < e → e ≤ length cs → length middle ≡ e - s → s ≤ at
    → at < e → get_or cs at 0 ≡ m → ((p : ℕ) → s ≤ p → p < e → m ≤ get_or cs p 0) → Left (get_or cs s 0) m s cs ls
    → Right (get_or cs (e - 1) 0) m e cs rs → Spread s e cs (ls ++ (map (λ _. m) middle ++ rs))
spread_from m s e cs middle ls rs at h w n at_from at_to at_is least_is l r =
    let b = map (λ (x : ℕ). m) middle in
    let bn : length b ≡ e - s = length-map middle (λ x. m) ∙ n in
    record {
      low = l.low;
      high = r.high;
      m = m;
      at = at;
      low_within = l.within;
      high_within = r.within;
      high_end = r.end;
      same_length = search (arith, length-append);
      inside = search (arith, first_part, second_part, map-constant, third_part);
      before = search (arith, first_part);
      behind = search (arith, third_part);
      left = l.old;
      right = r.old;
      left_edge = l.edge;
      right_edge = r.edge;
      at_from = at_from;
      at_to = at_to;
      at_is = at_is;
      least_is = least_is;
    }

-- what one merge of two places or more does
pub spread : (s e : ℕ) (cs : List ℕ) → 1 < e - s → e ≤ length cs → Spread s e cs (spreading s e cs)
spread s e cs h w =
    let middle = stretch_of s e cs in
    let n = length-stretch s e cs w in
    let (k, kn, ke) = least-among middle (omega arith) in
    let first : opening_run middle ≡ get_or cs s 0 = search (arith, opening-at, stretch-at) in
    let last : opening_run (reverse middle) ≡ get_or cs (e - 1) 0 =
    search (arith, reversed-at middle (e - s) 0 n (omega arith), stretch-at s e cs (e - s - 1 - 0) (omega arith)) in
    spread_from (least middle) s e cs middle _ _ (s + k) (omega arith) w n (omega arith) (omega arith)
    (search (arith, stretch-at))
    (λ p a b. let i : s + (p - s) ≡ p = omega arith in let q = stretch-at s e cs (p - s) (omega arith)
    ∙ ap (λ k. get_or cs k 0) i in let z = least-le middle (p - s) (omega arith) in omega arith)
    (search (arith, left-is)) (search (arith, right-is))

two_cases : (n : ℕ) (a : Bool) {X : Type 0} (P : X → Type 0) (x y : X) → ((a ≡ false) ⊎ (n < 2) → P y)
    → (a ≡ true → 1 < n → P x) → P (if a && not (nat_lt n 2) then x else y)
two_cases n true P x y here there = grind arith
two_cases n false P x y here there = here (inl refl)

-- a merge does nothing, or spreads
pub joined_cases : (P : List ℕ → Type 0) (level : BufferClusterLevel) (s e : ℕ) (cs : List ℕ) → e ≤ length cs
    → ((merges level ≡ false) ⊎ (e - s < 2) → P cs)
    → ((js : List ℕ) → merges level ≡ true → 1 < e - s → Spread s e cs js → P js) → P (joined level s e cs)
joined_cases P level s e cs w here there =
    subst P (sym (joined_is level s e cs)) (two_cases (e - s) (merges level) P (spreading s e cs) cs here
    (λ a h. there (spreading s e cs) a h (spread s e cs h w)))
