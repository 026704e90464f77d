-- Glyphs whose clusters occur nowhere else in the text merge and move as they would alone.
use Rattle.std.proofs.Common.{ℕ, zero, suc, ◌+◌, ◌-◌, ◌<◌, ◌≤◌, ◌≡◌, ◌≢◌, ◌&&◌, not, nat_lt, if◌then◌else◌, List, [], ◌∷◌, ◌++◌, map, length, get_or, slice_index, reverse, take, drop, refl, sym, ◌∙◌, ap, subst, arith, append_assoc, length-take, length-drop}
use Rattle.std.specs.List.{All, AllByRecursion, Contains, sum_by, range_with_len}
use Rattle.std.proofs.lemmas.List.{append-nil, map-append, length-map, length-reverse, reverse-append, reverse-reverse, take_at, drop_at, drop-drop, take-take, drop-take, take-append-drop, get_or_default, take-append-le, drop-append-le}
use Rattle.std.proofs.lemmas.List.Sums.{sum_by-cons, fold-append}
use Rattle.std.proofs.lemmas.List.Elements.{All-head, All-tail, All-nil, All-from_get_or, All-contains_itself}
use Rattle.shapers_buffer.specs.Glyphs.{Glyphs}
use Rattle.shapers_buffer.specs.declared.buffer.level.BufferClusterLevel.{BufferClusterLevel}
use Rattle.shapers_buffer.specs.Glyph.{clusters}
use Rattle.shapers_buffer.specs.Clusters.{least, first_cluster, last_cluster, flooded, merge, merge_all, merges}
use Rattle.shapers_clusters.proofs.Merging.{length-merge, length-merge_all}
use Rattle.shapers_clusters.specs.Cuts.{EndWithin, ShareNone}
use Rattle.shapers_buffer.specs.Places.{pick}
use Rattle.shapers_clusters.specs.Steps.{Step, after_step, after_steps, FitsStep, FitSteps, shifted, widened, steps_along}
use Rattle.shapers_clusters.proofs.Picks.{length-pick, pick-map}
use Rattle.shapers_clusters.proofs.Moves.{clusters-merge_all, clusters-after_steps, all-joined, all-joined_steps, all-picked}
use Rattle.shapers_clusters.proofs.Widened.{pick-parts, fits-widened, range-append, map-range, all_along}
use Rattle.shapers_clusters.proofs.Falls.{flooded-miss}
use Rattle.shapers_clusters.proofs.Appended.{assembled, two_sides}
use Rattle.shapers_buffer.proofs.ClusterLemmas.{flood_merged, merge_is}

-- P holds of the cluster of each glyph
abbrev pub Each : (ℕ → Type 0) → Glyphs → Type 0
Each P gs = AllByRecursion (λ g. P g.cluster) gs

-- a flood stops where no glyph has its cluster
flooded-stops : (c m : ℕ) (gs : Glyphs) → Each (λ k. k ≡ c → ⊥) gs → flooded c m gs ≡ gs
flooded-stops c m [] h = refl
flooded-stops c m (g ∷ gs) h = flooded-miss c m g gs h.0

flooded-front : (c m : ℕ) (gs hs : Glyphs) → Each (λ k. k ≡ c → ⊥) hs → flooded c m (gs ++ hs) ≡ flooded c m gs ++ hs
flooded-front c m [] hs h = flooded-stops c m hs h
flooded-front c m (g ∷ gs) hs h = search (arith, flooded-front c m gs hs h)

pub each-append : (P : ℕ → Type 0) (gs hs : Glyphs) → Each P gs → Each P hs → Each P (gs ++ hs)
each-append P [] hs h i = i
each-append P (g ∷ gs) hs h i = (h.0, each-append P gs hs h.1 i)

pub each-reverse : (P : ℕ → Type 0) (gs : Glyphs) → Each P gs → Each P (reverse gs)
each-reverse P [] h = tt
each-reverse P (g ∷ gs) h =
    search (reverse-append (g ∷ []) gs, each-append P (reverse gs) (g ∷ []) (each-reverse P gs h.1) (h.0, tt))

pub each-take : (P : ℕ → Type 0) (n : ℕ) (gs : Glyphs) → Each P gs → Each P (take n gs)
each-take P (suc n) (g ∷ gs) h = (h.0, each-take P n gs h.1)
each-take P _ _ h = tt

pub each-drop : (P : ℕ → Type 0) (n : ℕ) (gs : Glyphs) → Each P gs → Each P (drop n gs)
each-drop P zero gs h = h
each-drop P (suc n) [] h = tt
each-drop P (suc n) (g ∷ gs) h = each-drop P n gs h.1

each-first : (P : ℕ → Type 0) (gs : Glyphs) → 0 < length gs → Each P gs → P (first_cluster gs)
each-first P [] l h = absurd (omega arith)
each-first P (g ∷ gs) l h = h.0

-- what isn't P isn't one that is
each-other : (P : ℕ → Type 0) (c : ℕ) → P c → (gs : Glyphs) → Each (λ k. P k → ⊥) gs → Each (λ k. k ≡ c → ⊥) gs
each-other P c p [] h = tt
each-other P c p (g ∷ gs) h = search (arith, each-other P c p gs h.1)

assembled-behind : (P : ℕ → Type 0) (front middle rest hs : Glyphs) → 0 < length middle → Each P middle
    → Each (λ k. P k → ⊥) hs → assembled front middle (rest ++ hs) ≡ assembled front middle rest ++ hs
assembled-behind P front middle rest hs l p h =
    let m = least (clusters middle) in
    let last : P (last_cluster middle) = each-first P (reverse middle) (omega (arith, length-reverse middle))
    (each-reverse P middle p) in
    search (arith, flooded-front, each-other, append_assoc)

assembled-before : (P : ℕ → Type 0) (hs front middle rest : Glyphs) → 0 < length middle → Each P middle
    → Each (λ k. P k → ⊥) hs → assembled (hs ++ front) middle rest ≡ hs ++ assembled front middle rest
assembled-before P =
    search (arith, reverse-append, flooded-front, each-reverse, each-other, reverse-reverse, append_assoc)

-- a merge of glyphs whose clusters don't occur behind them, or not before them
merge-behind : (P : ℕ → Type 0) (level : BufferClusterLevel) (s e : ℕ) (gs hs : Glyphs) → e ≤ length gs
    → Each P gs → Each (λ k. P k → ⊥) hs → merge level s e (gs ++ hs) ≡ merge level s e gs ++ hs
merge-behind P level s e gs hs l p h =
    merge_is level s e (gs ++ hs)
    ∙ two_sides (e - s) (merges level) (λ x y. x ≡ y ++ hs) (flood_merged s e (gs ++ hs)) (gs ++ hs)
    (flood_merged s e gs) gs refl
    (λ two. search (arith, take-append-le, drop-append-le, length-drop, assembled-behind, each-take, each-drop)) ∙ ap (λ l. l ++ hs) (sym (merge_is level s e gs))

pub take-past : {X : Type 0} (a k : ℕ) (xs ys : List X) → length xs ≡ a → take (a + k) (xs ++ ys) ≡ xs ++ take k ys
take-past a k xs ys e =
    sym (take-append-drop a (take (a + k) (xs ++ ys))) ∙ ap (λ l. l ++ drop a (take (a + k) (xs ++ ys)))
    (take-take a (a + k) (xs ++ ys) (omega arith) ∙ take_at xs ys a e)
    ∙ ap (λ l. xs ++ l) (drop-take a k (xs ++ ys) ∙ ap (take k) (drop_at xs ys a e))

pub drop-past : {X : Type 0} (a k : ℕ) (xs ys : List X) → length xs ≡ a → drop (a + k) (xs ++ ys) ≡ drop k ys
drop-past a k xs ys e = cc (drop-drop k a (xs ++ ys), drop_at xs ys a e)

merge-before : (P : ℕ → Type 0) (level : BufferClusterLevel) (a s e : ℕ) (hs gs rest : Glyphs)
    → length hs ≡ a → e ≤ length gs → Each P gs → Each (λ k. P k → ⊥) hs
    → merge level (a + s) (a + e) (hs ++ (gs ++ rest)) ≡ hs ++ merge level s e (gs ++ rest)
merge-before P level a s e hs gs rest n l p h =
    let ts = gs ++ rest in
    let ws = hs ++ (gs ++ rest) in
    merge_is level (a + s) (a + e) ws
    ∙ ap (λ k. if merges level && not (nat_lt k 2) then flood_merged (a + s) (a + e) ws else ws) (omega arith)
    ∙ two_sides (e - s) (merges level) (λ x y. x ≡ hs ++ y) (flood_merged (a + s) (a + e) ws) ws (flood_merged s e ts)
    ts refl
    (λ two. search (
      arith,
      take-past,
      drop-past,
      assembled-before,
      drop-append-le,
      take-append-le,
      length-drop,
      length-take,
      each-take,
      each-drop,
    )) ∙ ap (λ l. hs ++ l) (sym (merge_is level s e ts))

each_of : (P : ℕ → Type 0) (gs : Glyphs) → All P (clusters gs) → Each P gs
each_of P [] h = tt
each_of P (g ∷ gs) h = search (All-head, each_of P gs (All-tail P g.cluster (clusters gs) h))

all_of : (P : ℕ → Type 0) (gs : Glyphs) → Each P gs → All P (clusters gs)
all_of P [] h = All-nil P
all_of P (g ∷ gs) h = search (arith, all_of P gs h.1)

ends : (sts : List (ℕ × ℕ)) (gs : Glyphs) → EndWithin (length gs) sts → EndWithin (length (clusters gs)) sts
ends = search length-map

each-merge_all : (P : ℕ → Type 0) (level : BufferClusterLevel) (sts : List (ℕ × ℕ)) (gs : Glyphs)
    → EndWithin (length gs) sts → Each P gs → Each P (merge_all level sts gs)
each-merge_all P level sts gs w p =
    each_of P (merge_all level sts gs) (subst (All P) (sym (clusters-merge_all level sts gs))
    (all-joined P level sts (clusters gs) (ends sts gs w) (all_of P gs p)))

-- merges in a text of which only this part has clusters that are P
merge_all-alone : (P : ℕ → Type 0) (level : BufferClusterLevel) (a : ℕ) (sts : List (ℕ × ℕ))
    (before gs behind : Glyphs) → length before ≡ a → EndWithin (length gs) sts → Each P gs
    → Each (λ k. P k → ⊥) before → Each (λ k. P k → ⊥) behind
    → merge_all level (shifted a sts) (before ++ (gs ++ behind)) ≡ before ++ (merge_all level sts gs ++ behind)
merge_all-alone P level a [] before gs behind n w p h i = refl
merge_all-alone P level a (st ∷ sts) before gs behind n w p h i = search (
  arith,
  merge-before,
  merge-behind,
  merge_all-alone P level a sts before (merge level st.0 st.1 gs) behind n
      (subst (λ n. EndWithin n sts) (sym (length-merge level st.0 st.1 gs w.0)) w.1)
      (each-merge_all P level (st ∷ []) gs (w.0, tt) p) h i,
)

pub each-pick : (P : ℕ → Type 0) (ps : List ℕ) (gs : Glyphs) → AllByRecursion (λ p. p < length gs) ps
    → Each P gs → Each P (pick ps gs)
each-pick P ps gs w p = search (each_of P (pick ps gs)
    (subst (All P) (pick-map (λ g. g.cluster) ps gs) (all-picked P ps (clusters gs) (search length-map) (all_of P gs p))))

after_step-alone : (P : ℕ → Type 0) (level : BufferClusterLevel) (s e n : ℕ) (step : Step)
    (before gs behind : Glyphs) → s ≤ e → length before ≡ s → length gs ≡ e - s → e + length behind ≡ n
    → FitsStep (e - s) step → Each P gs → Each (λ k. P k → ⊥) before → Each (λ k. P k → ⊥) behind
    → (after_step level (widened s e n step) (before ++ (gs ++ behind)) ≡ before ++ (after_step level step gs ++ behind))
    × (length (after_step level step gs) ≡ e - s) × Each P (after_step level step gs)
after_step-alone P level s e n step before gs behind le a b c f p h i =
    let first = subst (λ n. EndWithin n step.merged_first) (sym b) f.first_within in
    let ms = merge_all level step.merged_first gs in
    let mn : length ms ≡ e - s = search length-merge_all in
    let within = subst (λ n. AllByRecursion (λ p. p < n) step.places) (sym mn) f.within in
    let ps = pick step.places ms in
    let pp = each-pick P step.places ms within (each-merge_all P level step.merged_first gs first p) in
    let last = subst (λ n. EndWithin n step.merged_then) (sym
    (length-pick step.places ms within ∙ f.as_many)) f.then_within in
    search (merge_all-alone P level s step.merged_first before gs behind a first p h i, pick-parts s e n step before ms behind le a mn c f, merge_all-alone P level s step.merged_then before ps behind a last pp h i, length-merge_all level step.merged_then ps last, length-pick step.places ms within, each-merge_all P level step.merged_then ps last pp)

after_steps-alone : (P : ℕ → Type 0) (level : BufferClusterLevel) (s e n : ℕ) (steps : List Step)
    (before gs behind : Glyphs) → s ≤ e → length before ≡ s → length gs ≡ e - s → e + length behind ≡ n
    → FitSteps (e - s) steps → Each P gs → Each (λ k. P k → ⊥) before → Each (λ k. P k → ⊥) behind
    → after_steps level (map (widened s e n) steps) (before ++ (gs ++ behind))
    ≡ before ++ (after_steps level steps gs ++ behind)
after_steps-alone P level s e n [] before gs behind le a b c f p h i = refl
after_steps-alone P level s e n (step ∷ steps) before gs behind le a b c f p h i =
    let (is, many, each) = after_step-alone P level s e n step before gs behind le a b c f.0 p h i in
    cc (after_steps-alone P level s e n steps before (after_step level step gs) behind le a many c f.1 each h i)

apart : (gs hs : Glyphs) → ShareNone gs hs → Each (λ k. Contains (clusters gs) k → ⊥) hs
apart gs hs h =
    let gn = length-map gs (λ g. g.cluster) in
    let hn = length-map hs (λ g. g.cluster) in
    each_of (λ k. Contains (clusters gs) k
    → ⊥) hs (All-from_get_or (λ k. Contains (clusters gs) k → ⊥) (clusters hs) 0 (λ j l c.
    h c.0 j (omega arith) (omega arith) (get_or_default (clusters gs) c.0 0 (get_or (clusters hs) j 0) c.1 ∙ c.2)))

-- steps over glyphs that share no cluster with those before and behind: as over these glyphs alone
pub steps_alone : (level : BufferClusterLevel) (s e n : ℕ) (steps : List Step) (before gs behind : Glyphs)
    → s ≤ e → length before ≡ s → length gs ≡ e - s → e + length behind ≡ n → FitSteps (e - s) steps
    → ShareNone gs before → ShareNone gs behind → after_steps level (map (widened s e n) steps) (before ++ (gs ++ behind))
    ≡ before ++ (after_steps level steps gs ++ behind)
steps_alone level s e n steps before gs behind le a b c f h i =
    after_steps-alone (Contains (clusters gs)) level s e n steps before gs behind le a b c f
    (search (each_of, All-contains_itself)) (apart gs before h) (apart gs behind i)

-- two halves that share no cluster: steps over each, one after another, give the halves' results joined
pub halves : (level : BufferClusterLevel) (a n : ℕ) (xs ys : List Step) (gs hs : Glyphs) → length gs ≡ a
    → a + length hs ≡ n → FitSteps a xs → FitSteps (n - a) ys → ShareNone gs hs
    → after_steps level (map (widened 0 a n) xs ++ map (widened a n n) ys) (gs ++ hs) ≡ after_steps level xs gs
    ++ after_steps level ys hs
halves level a n xs ys gs hs ga hn f g h =
    let first = (let i : a ≡ a - 0 = omega arith in subst (λ k. FitSteps k xs) i f) in
    let later : (i j : ℕ) → i < length hs → j < length gs → slice_index (clusters hs) i ≢ slice_index (clusters gs) j
    = search arith in
    let before = after_steps level xs gs in
    let cn : length (clusters gs) ≡ a = search length-map in
    let P : ℕ → Type 0 = λ k. Contains (clusters hs) k → ⊥ in
    let still = all-joined_steps P level a xs (clusters gs) cn f (all_of P gs (apart hs gs later)) in
    let is = clusters-after_steps level xs gs in
    let A : List ℕ → Type 0 = All P in
    let many : length before ≡ a = sym (length-map before (λ g. g.cluster)) ∙ ap length is ∙ still.0 in
    cc (
      append-nil hs,
      fold-append (λ gs step. after_step level step gs) (gs ++ (hs ++ [])) (map (widened 0 a n) xs)
          (map (widened a n n) ys),
      steps_alone level 0 a n xs [] gs (hs ++ []) (omega arith) refl (omega arith)
          (omega (arith, ap length (append-nil hs))) first (λ i j il jl. absurd (omega arith))
          (λ i j il jl. let Q : Glyphs → Type 0 = λ ts. (j : ℕ) → j < length ts → slice_index (clusters
          gs) i ≢ slice_index (clusters ts) j in subst Q (sym (append-nil hs)) (λ j jl. h i j il jl) j jl),
      after_steps-alone (Contains (clusters hs)) level a n n ys before hs [] (omega arith) many (omega arith)
          (omega arith) g (each_of (Contains (clusters hs)) hs (All-contains_itself (clusters hs)))
          (each_of P before (subst A (sym is) still.1)) tt,
      append-nil (after_steps level ys hs),
    )

-- a step over a stretch of a stretch
pub shifted-twice : (a s : ℕ) (sts : List (ℕ × ℕ)) → shifted a (shifted s sts) ≡ shifted (a + s) sts
shifted-twice a s [] = refl
shifted-twice a s (st ∷ sts) = search (arith, shifted-twice a s sts)

added-twice : (a s : ℕ) (ps : List ℕ) → map (λ p. a + p) (map (λ p. s + p) ps) ≡ map (λ p. a + s + p) ps
added-twice a s [] = refl
added-twice a s (p ∷ ps) = search (arith, added-twice a s ps)

pub ranges-join : (a b j k l : ℕ) → a + j ≡ b → j + k ≡ l
    → range_with_len a j ++ range_with_len b k ≡ range_with_len a l
ranges-join a b j k l e f = cc (range-append a j k)

widened-places : (a b n s e : ℕ) (ps : List ℕ) → s ≤ e → e ≤ b - a → a ≤ b → b ≤ n → range_with_len 0 a
    ++ (map (λ p. a + p) (range_with_len 0 s ++ (map (λ p. s + p) ps ++ range_with_len e (b - a - e)))
    ++ range_with_len b (n - b)) ≡ range_with_len 0 (a + s)
    ++ (map (λ p. a + s + p) ps ++ range_with_len (a + e) (n - (a + e)))
widened-places a b n s e ps h i j k =
    let rest = range_with_len b (n - b) in
    let x = range_with_len (a + 0) s in
    let y = map (λ p. a + s + p) ps in
    let z = range_with_len (a + e) (b - a - e) in
    cc (
      map-append (λ p. a + p) (range_with_len 0 s) (map (λ p. s + p) ps ++ range_with_len e (b - a - e)),
      map-range a 0 s,
      map-append (λ p. a + p) (map (λ p. s + p) ps) (range_with_len e (b - a - e)),
      added-twice a s ps,
      map-range a e (b - a - e),
      append_assoc x (y ++ z) rest,
      append_assoc y z rest,
      append_assoc (range_with_len 0 a) x (y ++ (z ++ rest)),
      ranges-join 0 (a + 0) a s (a + s) (omega arith) refl,
      ranges-join (a + e) b (b - a - e) (n - b) (n - (a + e)) (omega arith) (omega arith),
    )

map-widened : (a b n s k : ℕ) (steps : List Step) → s + k ≤ b - a → a ≤ b → b ≤ n
    → map (widened a b n) (map (widened s (s + k) (b - a)) steps) ≡ map (widened (a + s) (a + s + k) n) steps
map-widened a b n s k [] h i j = refl
map-widened a b n s k (step ∷ steps) h i j =
    search (arith, shifted-twice, widened-places, map-widened a b n s k steps h i j)

-- the steps of neighbouring stretches within a half, as those within the whole
pub along-widened : (a b n s : ℕ) (pieces : List (ℕ × List Step)) → s + sum_by (λ piece. piece.0) pieces ≤ b - a → a ≤ b
    → b ≤ n → map (widened a b n) (steps_along (b - a) s pieces) ≡ steps_along n (a + s) pieces
along-widened a b n s [] l i j = refl
along-widened a b n s (piece ∷ rest) l i j =
    let k = sum_by-cons (λ piece. piece.0) piece rest in
    search (arith, map-append, map-widened, along-widened a b n (s + piece.0) rest (omega arith) i j)

pub along-append : (n s : ℕ) (ps qs : List (ℕ × List Step)) → steps_along n s (ps ++ qs) ≡ steps_along n s ps
    ++ steps_along n (s + sum_by (λ piece. piece.0) ps) qs
along-append n s [] qs = search arith
along-append n s (p ∷ ps) qs =
    let k = sum_by-cons (λ piece. piece.0) p ps in search (arith, append_assoc, along-append n (s + p.0) ps qs)

-- a text cut between two stretches, into halves that share no cluster: its steps give the halves' results joined
pub halves_along : (level : BufferClusterLevel) (ps qs : List (ℕ × List Step)) (gs hs : Glyphs)
    → sum_by (λ piece. piece.0) ps ≡ length gs → sum_by (λ piece. piece.0) qs ≡ length hs
    → AllByRecursion (λ piece. FitSteps piece.0 piece.1) ps → AllByRecursion (λ piece. FitSteps piece.0 piece.1) qs
    → ShareNone gs hs → after_steps level (steps_along (length gs + length hs) 0 (ps ++ qs)) (gs ++ hs)
    ≡ after_steps level (steps_along (length gs) 0 ps) gs ++ after_steps level (steps_along (length hs) 0 qs) hs
halves_along level ps qs gs hs a b f g h =
    let xs = steps_along (length gs) 0 ps in
    let ys = steps_along (length gs + length hs - length gs) 0 qs in
    search (
      arith,
      along-append (length gs + length hs) 0 ps qs,
      along-widened 0 (length gs) (length gs + length hs) 0 ps (omega arith) (omega arith) (omega arith),
      along-widened (length gs) (length gs + length hs) (length gs + length hs) 0 qs (omega arith) (omega arith)
          (omega arith),
      halves level (length gs) (length gs + length hs) xs ys gs hs refl refl
          (all_along FitsStep fits-widened (length gs) 0 ps (omega arith) f)
          (all_along FitsStep fits-widened (length gs + length hs - length gs) 0 qs (omega arith) g) h,
    )
