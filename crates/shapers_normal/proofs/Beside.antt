-- Changes of a text that stay within a part of it, whose clusters the rest lacks.
use Rattle.std.proofs.Common.{◌≡◌, ◌+◌, ◌-◌, ◌<◌, ◌≤◌, ℕ, Bool, true, false, cond, eqb, List, [], ◌∷◌, ◌++◌, length, map, take, drop, get_or, refl, sym, ap, ◌∙◌, subst, arith, append_assoc, length-drop}
use Rattle.std.specs.List.{All, AllByRecursion, fold, range_with_len}
use Rattle.std.proofs.Math.Seq.{drop-append-add, take-append-add}
use Rattle.std.proofs.lemmas.List.{append-nil, drop-append-le, length-append, length-map, take-append-le}
use Rattle.std.proofs.lemmas.List.Elements.{All-cons, All-get_or, All-head, All-nil, All-tail}
use Rattle.std.proofs.lemmas.List.FromFn.{length-range_with_len}
use Rattle.shapers_buffer.specs.Glyphs.{Glyphs}
use Rattle.shapers_buffer.specs.declared.buffer.level.BufferClusterLevel.{BufferClusterLevel}
use Rattle.shapers_buffer.specs.Clusters.{least, merge, merges, stretch_of, with_stretch}
use Rattle.shapers_buffer.specs.Glyph.{clusters}
use Rattle.shapers_buffer.specs.GlyphFlags.{flagged, unsafe_inside, with_bits, with_bits_off}
use Rattle.shapers_buffer.proofs.ClusterLemmas.{length-stretch}
use Rattle.shapers_buffer.proofs.MappedLists.{all-range}
use Rattle.shapers_clusters.specs.Cuts.{ShareNone}
use Rattle.shapers_clusters.specs.Steps.{Step, FitsStep, after_steps, widened}
use Rattle.shapers_clusters.proofs.Halves.{Each, each-append, each-drop, each-take, steps_alone}
use Rattle.shapers_clusters.proofs.Merging.{length-merge}
use Rattle.shapers_clusters.proofs.Moves.{all-joined, clusters-merge_all}
use Rattle.shapers_clusters.proofs.Picks.{pick-all}
use Rattle.shapers_clusters.proofs.Widened.{range-three}
use Rattle.shapers_normal.specs.Sorting.{stay_together}
use Rattle.shapers_normal.proofs.Runs.{length-changed}

abbrev pub Not : (ℕ → Type 0) → ℕ → Type 0
Not P k = P k → ⊥

-- ---- what holds of each cluster

pub each_of : (P : ℕ → Type 0) (gs : Glyphs) → All P (clusters gs) → Each P gs
each_of P [] h = tt
each_of P (g ∷ gs) h = (All-head P g.cluster (clusters gs) h, each_of P gs (All-tail P g.cluster (clusters gs) h))

pub all_of : (P : ℕ → Type 0) (gs : Glyphs) → Each P gs → All P (clusters gs)
all_of P [] h = All-nil P
all_of P (g ∷ gs) h = All-cons P g.cluster (clusters gs) h.0 (all_of P gs h.1)

each-flagged : (P : ℕ → Type 0) (bits m : ℕ) (gs : Glyphs) → Each P gs
    → Each P (map (with_bits_off bits m) gs)
each-flagged P bits m [] h = tt
each-flagged P bits m (g ∷ gs) h = (
  elim (eqb g.cluster m) as (λ b. P (cond b g (with_bits bits g)).cluster)
      [ true ↦ h.0 | false ↦ h.0 ],
  each-flagged P bits m gs h.1,
)

pub share_none : (P : ℕ → Type 0) (gs hs : Glyphs) → Each P gs → Each (Not P) hs → ShareNone gs hs
share_none P gs hs p n = λ i j il jl same.
    let one : P (get_or (clusters gs) i 0) =
    All-get_or P (clusters gs) i 0 (omega (arith, length-map gs (λ g. g.cluster))) (all_of P gs p) in
    let other : Not P (get_or (clusters hs) j 0) =
    All-get_or (Not P) (clusters hs) j 0 (omega (arith, length-map hs (λ g. g.cluster)))
    (all_of (Not P) hs n) in
    other (subst P same one)

-- ---- local changes

-- A change of glyphs, and the same with its places so much further on, over lists of at least n
-- glyphs: it keeps their number and what holds of each cluster, and glyphs of other clusters on both
-- sides stay.
pub record Local (n : ℕ) (P : ℕ → Type 0) (f : Glyphs → Glyphs) (at : ℕ
    → Glyphs → Glyphs) : Type 0 where
  pub same_length : (gs : Glyphs) → n ≤ length gs → length (f gs) ≡ length gs
  pub kept : (gs : Glyphs) → n ≤ length gs → Each P gs → Each P (f gs)
  pub alone : (before gs behind : Glyphs) → n ≤ length gs → Each P gs → Each (Not P) before
      → Each (Not P) behind → at (length before) (before ++ (gs ++ behind)) ≡ before ++ (f gs ++ behind)

-- the change itself, where nothing stands before the glyphs
pub alone_in_front : (n : ℕ) (P : ℕ → Type 0) (f : Glyphs → Glyphs) (at : ℕ
    → Glyphs → Glyphs) → Local n P f at → ((gs : Glyphs) → at 0 gs ≡ f gs)
    → (gs behind : Glyphs) → n ≤ length gs → Each P gs → Each (Not P) behind
    → f (gs ++ behind) ≡ f gs ++ behind
alone_in_front n P f at l start gs behind long p other = sym (start (gs ++ behind)) ∙ l.alone
    [] gs behind long p tt other

pub alone_behind : (n : ℕ) (P : ℕ → Type 0) (f : Glyphs → Glyphs) (at : ℕ
    → Glyphs → Glyphs) → Local n P f at → (before gs : Glyphs) → n ≤ length gs
    → Each P gs → Each (Not P) before → at (length before) (before ++ gs) ≡ before ++ f gs
alone_behind n P f at l before gs long p other =
    ap (λ xs. at (length before) (before ++ xs)) (sym (append-nil gs))
    ∙ l.alone before gs [] long p other tt
    ∙ ap (λ xs. before ++ xs) (append-nil (f gs))

pub local_then : (n : ℕ) (P : ℕ → Type 0) (f h : Glyphs → Glyphs) (fat hat : ℕ
    → Glyphs → Glyphs) → Local n P f fat → Local n P h hat
    → Local n P (λ gs. h (f gs)) (λ k gs. hat k (fat k gs))
local_then n P f h fat hat one two = record {
  same_length = λ gs long. two.same_length (f gs) (omega (arith, one.same_length gs long)) ∙ one.same_length gs long;
  kept = λ gs long p. two.kept (f gs) (omega (arith, one.same_length gs long)) (one.kept gs long p);
  alone = λ before gs behind long p x y.
      ap (hat (length before)) (one.alone before gs behind long p x y)
      ∙ two.alone before (f gs) behind (omega (arith, one.same_length gs long)) (one.kept gs long p) x y;
}

pub local_nothing : (n : ℕ) (P : ℕ → Type 0) → Local n P (λ gs. gs) (λ k gs. gs)
local_nothing n P =
    record { same_length = λ gs long. refl; kept = λ gs long p. p; alone = λ before gs behind long p x y. refl }

pub local_fold : {X : Type 0} (n : ℕ) (P : ℕ → Type 0) (Q : X → Type 0) (op : X → Glyphs
    → Glyphs) (at : ℕ → X → Glyphs → Glyphs)
    → ((x : X) → Q x → Local n P (op x) (λ k. at k x)) → (xs : List X) → AllByRecursion Q xs
    → Local n P (λ gs. fold (λ gs x. op x gs) gs xs) (λ k gs. fold (λ gs x. at k x gs) gs xs)
local_fold n P Q op at each [] all = local_nothing n P
local_fold n P Q op at each (x ∷ xs) all =
    local_then n P (op x) (λ gs. fold (λ gs x. op x gs) gs xs) (λ k. at k x) (λ k gs. fold (λ gs x. at k x gs) gs xs)
    (each x all.0) (local_fold n P Q op at each xs all.1)

-- the same change, with its places written otherwise
pub local_as : (n : ℕ) (P : ℕ → Type 0) (f : Glyphs → Glyphs) (at also : ℕ
    → Glyphs → Glyphs) → Local n P f at
    → ((k : ℕ) (gs : Glyphs) → also k gs ≡ at k gs) → Local n P f also
local_as n P f at also l same = record {
  same_length = l.same_length;
  kept = l.kept;
  alone = λ before gs behind m p x y. same (length before) (before ++ (gs ++ behind))
      ∙ l.alone before gs behind m p x y;
}

-- the change where a test holds, which doesn't depend on the text
pub local_when : (n : ℕ) (P : ℕ → Type 0) (b : Bool) (f : Glyphs → Glyphs) (at : ℕ
    → Glyphs → Glyphs) → (b ≡ true → Local n P f at)
    → Local n P (λ gs. cond b (f gs) gs) (λ k gs. cond b (at k gs) gs)
local_when n P true f at l = l refl
local_when n P false f at l = local_nothing n P

-- ---- stretches

-- a stretch of a part, and what stands beside it
pub within_part : {X : Type 0} (s e : ℕ) (before gs behind : List X) → s ≤ e → e ≤ length gs
    → stretch_of (length before + s) (length before + e) (before ++ (gs ++ behind)) ≡ stretch_of s e gs
within_part s e before gs behind order long =
    let many : length before + e - (length before + s) ≡ e - s = omega arith in
    ap (λ n. take n (drop (length before + s) (before ++ (gs ++ behind)))) many
    ∙ ap (take (e - s)) (drop-append-add before (gs ++ behind) s ∙ drop-append-le s gs behind (omega arith))
    ∙ take-append-le (e - s) (drop s gs) behind (omega (arith, length-drop s gs))

changed_part : {X : Type 0} (s e : ℕ) (f : List X → List X) (before gs behind : List X) → s ≤ e → e ≤ length gs
    → with_stretch (length before + s) (length before + e) f (before ++ (gs ++ behind))
    ≡ before ++ (with_stretch s e f gs ++ behind)
changed_part s e f before gs behind order long =
    let whole = before ++ (gs ++ behind) in
    let middle = f (stretch_of s e gs) in
    ap (λ xs. xs ++ (f (stretch_of (length before + s) (length before + e) whole) ++ drop (length before + e) whole))
    (take-append-add before (gs ++ behind) s ∙ ap (λ xs. before ++ xs) (take-append-le s gs behind (omega arith)))
    ∙ ap (λ xs. (before ++ take s gs) ++ (f xs ++ drop (length before + e) whole))
    (within_part s e before gs behind order long)
    ∙ ap (λ xs. (before ++ take s gs) ++ (middle ++ xs)) (drop-append-add before (gs ++ behind) e
    ∙ drop-append-le e gs behind long)
    ∙ append_assoc before (take s gs) (middle ++ (drop e gs ++ behind))
    ∙ ap (λ xs. before ++ (take s gs ++ xs)) (sym (append_assoc middle (drop e gs) behind))
    ∙ ap (λ xs. before ++ xs) (sym (append_assoc (take s gs) (middle ++ drop e gs) behind))

pub local_stretch : (P : ℕ → Type 0) (s e n : ℕ) (f : Glyphs → Glyphs) → s ≤ e → e ≤ n
    → ((xs : Glyphs) → length (f xs) ≡ length xs)
    → ((xs : Glyphs) → Each P xs → Each P (f xs))
    → Local n P (with_stretch s e f) (λ k. with_stretch (k + s) (k + e) f)
local_stretch P s e n f order within long keeps = record {
  same_length =
      λ gs m. length-changed s e f gs order (omega arith) (long (stretch_of s e gs)
      ∙ length-stretch s e gs (omega arith));
  kept = λ gs m p.
      each-append P (take s gs) (f (stretch_of s e gs) ++ drop e gs) (each-take P s gs p)
      (each-append P (f (stretch_of s e gs)) (drop e gs)
      (keeps (stretch_of s e gs) (each-take P (e - s) (drop s gs) (each-drop P s gs p))) (each-drop P e gs p));
  alone = λ before gs behind m p x y. changed_part s e f before gs behind order (omega arith);
}

-- ---- merges and flags

-- a merge as a step
abbrev merge_step : ℕ → ℕ → ℕ → Step
merge_step s e n = record { merged_first = (s, e) ∷ []; places = range_with_len 0 n; merged_then = [] }

as_step : (level : BufferClusterLevel) (s e : ℕ) (gs : Glyphs) → e ≤ length gs
    → after_steps level (merge_step s e (length gs) ∷ []) gs ≡ merge level s e gs
as_step level s e gs within = pick-all (length gs) (merge level s e gs) (length-merge level s e gs within)

pub merge_alone : (P : ℕ → Type 0) (level : BufferClusterLevel) (s e : ℕ) (before gs behind : Glyphs)
    → e ≤ length gs → Each P gs → Each (Not P) before → Each (Not P) behind
    → merge level (length before + s) (length before + e) (before ++ (gs ++ behind))
    ≡ before ++ (merge level s e gs ++ behind)
merge_alone P level s e before gs behind within p x y =
    let a = length before in
    let b = a + length gs in
    let n = b + length behind in
    let whole = before ++ (gs ++ behind) in
    let wide : length gs ≡ b - a = omega arith in
    let all : length whole ≡ n = length-append before (gs ++ behind) ∙ omega (arith, length-append gs behind) in
    let step = merge_step s e (length gs) in
    let fits : FitsStep (b - a) step = record {
      as_many = length-range_with_len 0 (length gs) ∙ wide;
      within = all-range (λ p. p < b - a) 0 (length gs) (λ p low high. omega arith);
      first_within = (omega arith, tt);
      then_within = tt;
    } in
    let make : List ℕ → Step = λ ps. record { merged_first = (a + s, a + e) ∷ []; places = ps; merged_then = [] } in
    let same : widened a b n step ≡ merge_step (a + s) (a + e) n =
    ap (λ k. make (range_with_len 0 a ++ (map (λ p. a + p) (range_with_len 0 k) ++ range_with_len b (n - b)))) wide
    ∙ ap make (sym (range-three a b n (omega arith) (omega arith))) in
    sym (as_step level (a + s) (a + e) whole (omega (arith, all)))
    ∙ ap (λ k. after_steps level (merge_step (a + s) (a + e) k ∷ []) whole) all
    ∙ ap (λ st. after_steps level (st ∷ []) whole) (sym same)
    ∙ steps_alone level a b n (step ∷ []) before gs behind (omega arith) refl wide refl (fits, tt)
    (share_none P gs before p x) (share_none P gs behind p y)
    ∙ ap (λ xs. before ++ (xs ++ behind)) (as_step level s e gs within)

pub each-merge : (P : ℕ → Type 0) (level : BufferClusterLevel) (s e : ℕ) (gs : Glyphs) → e ≤ length gs
    → Each P gs → Each P (merge level s e gs)
each-merge P level s e gs within p =
    let Q : List ℕ → Type 0 = All P in
    each_of P (merge level s e gs)
    (subst Q (sym (clusters-merge_all level ((s, e) ∷ []) gs))
    (all-joined P level ((s, e) ∷ []) (clusters gs) (omega (arith, length-map gs (λ g. g.cluster)), tt)
    (all_of P gs p)))

pub local_merge : (P : ℕ → Type 0) (level : BufferClusterLevel) (s e n : ℕ) → e ≤ n
    → Local n P (merge level s e) (λ k. merge level (k + s) (k + e))
local_merge P level s e n within = record {
  same_length = λ gs m. length-merge level s e gs (omega arith);
  kept = λ gs m p. each-merge P level s e gs (omega arith) p;
  alone = λ before gs behind m p x y. merge_alone P level s e before gs behind (omega arith) p x y;
}

local_flags : (P : ℕ → Type 0) (s e n : ℕ) → s ≤ e → e ≤ n
    → Local n P (unsafe_inside s e) (λ k. unsafe_inside (k + s) (k + e))
local_flags P s e n order within =
    local_stretch P s e n (flagged 3) order within (λ xs. length-map xs (with_bits_off 3 (least (clusters xs))))
    (λ xs p. each-flagged P 3 (least (clusters xs)) xs p)

local_by : (n : ℕ) (P : ℕ → Type 0) (b : Bool) (f h : Glyphs → Glyphs) (fat hat : ℕ
    → Glyphs → Glyphs) → Local n P f fat → Local n P h hat
    → Local n P (λ gs. cond b (f gs) (h gs)) (λ k gs. cond b (fat k gs) (hat k gs))
local_by n P true f h fat hat one two = one
local_by n P false f h fat hat one two = two

pub local_together : (P : ℕ → Type 0) (level : BufferClusterLevel) (s e n : ℕ) → s ≤ e → e ≤ n
    → Local n P (stay_together level s e) (λ k. stay_together level (k + s) (k + e))
local_together P level s e n order within =
    local_by n P (merges level) (merge level s e) (unsafe_inside s e) (λ k. merge level (k + s) (k + e))
    (λ k. unsafe_inside (k + s) (k + e)) (local_merge P level s e n within) (local_flags P s e n order within)
