-- Texts whose clusters rise, or fall: glyphs that go, come several times, or change their cluster for
-- no other.
use Rattle.std.proofs.Common.{◌≡◌, ◌+◌, ◌≤◌, ℕ, zero, suc, inl, inr, List, [], ◌∷◌, ◌++◌, take, drop, get_or, set, refl, sym, ap, subst, arith}
use Rattle.std.specs.List.{AllPairs, flat_map}
use Rattle.std.proofs.lemmas.List.{drop-drop, take-append-drop}
use Rattle.std.proofs.lemmas.List.Kept.{AllPairs-cons}
use Rattle.shapers_buffer.specs.Glyphs.{Glyph, Glyphs}
use Rattle.shapers_buffer.specs.Glyph.{clusters}
use Rattle.shapers_clusters.specs.Cuts.{IsMonotone}
use Rattle.shapers_clusters.proofs.Halves.{Each, each-append, each-drop}
use Rattle.shapers_normal.proofs.Beside.{all_of, each_of}

-- R holds of each glyph's cluster and each later one's
abbrev pub Pairs : (ℕ → ℕ → Type 0) → Glyphs → Type 0
Pairs R [] = Unit {0}
Pairs R (g ∷ gs) = Each (R g.cluster) gs × Pairs R gs

-- of each of the one list and each of the other
abbrev pub Cross : (ℕ → ℕ → Type 0) → Glyphs → Glyphs → Type 0
Cross R gs hs = Each (λ k. Each (R k) hs) gs

pub from_pairs : (R : ℕ → ℕ → Type 0) (gs : Glyphs) → Pairs R gs → AllPairs R (clusters gs)
from_pairs R [] p = λ i j d before within. absurd (omega arith)
from_pairs R (g ∷ gs) p = AllPairs-cons R g.cluster (clusters gs) (all_of (R g.cluster) gs p.0) (from_pairs R gs p.1)

pub to_pairs : (R : ℕ → ℕ → Type 0) (gs : Glyphs) → AllPairs R (clusters gs) → Pairs R gs
to_pairs R [] h = tt
to_pairs R (g ∷ gs) h = (
  each_of (R g.cluster) gs (λ j d within. h 0 (suc j) d (omega arith) (omega arith)),
  to_pairs R gs
      (λ i j d before within. h (suc i) (suc j) d (omega arith) (omega arith)),
)

-- ---- lists put together

each-first : (P : ℕ → Type 0) (gs hs : Glyphs) → Each P (gs ++ hs) → Each P gs
each-first P [] hs p = tt
each-first P (g ∷ gs) hs p = (p.0, each-first P gs hs p.1)

each-last : (P : ℕ → Type 0) (gs hs : Glyphs) → Each P (gs ++ hs) → Each P hs
each-last P [] hs p = p
each-last P (g ∷ gs) hs p = each-last P gs hs p.1

pub pairs-append : (R : ℕ → ℕ → Type 0) (gs hs : Glyphs) → Pairs R gs → Pairs R hs → Cross R gs hs
    → Pairs R (gs ++ hs)
pairs-append R [] hs p q x = q
pairs-append R (g ∷ gs) hs p q x = (each-append (R g.cluster) gs hs p.0 x.0, pairs-append R gs hs p.1 q x.1)

pub pairs-first : (R : ℕ → ℕ → Type 0) (gs hs : Glyphs) → Pairs R (gs ++ hs) → Pairs R gs
pairs-first R [] hs p = tt
pairs-first R (g ∷ gs) hs p = (each-first (R g.cluster) gs hs p.0, pairs-first R gs hs p.1)

pub pairs-last : (R : ℕ → ℕ → Type 0) (gs hs : Glyphs) → Pairs R (gs ++ hs) → Pairs R hs
pairs-last R [] hs p = p
pairs-last R (g ∷ gs) hs p = pairs-last R gs hs p.1

pub pairs-cross : (R : ℕ → ℕ → Type 0) (gs hs : Glyphs) → Pairs R (gs ++ hs) → Cross R gs hs
pairs-cross R [] hs p = tt
pairs-cross R (g ∷ gs) hs p = (each-last (R g.cluster) gs hs p.0, pairs-cross R gs hs p.1)

pub each_as : (P Q : ℕ → Type 0) (gs : Glyphs) → ((k : ℕ) → P k → Q k) → Each P gs → Each Q gs
each_as P Q [] f p = tt
each_as P Q (g ∷ gs) f p = (f g.cluster p.0, each_as P Q gs f p.1)

pub pairs-drop : (R : ℕ → ℕ → Type 0) (n : ℕ) (gs : Glyphs) → Pairs R gs → Pairs R (drop n gs)
pairs-drop R zero gs p = p
pairs-drop R (suc n) [] p = tt
pairs-drop R (suc n) (g ∷ gs) p = pairs-drop R n gs p.1

-- a glyph goes
pub pairs-without : (R : ℕ → ℕ → Type 0) (i : ℕ) (gs : Glyphs) → Pairs R gs
    → Pairs R (take i gs ++ drop (i + 1) gs)
pairs-without R i gs p =
    let whole : Pairs R (take i gs ++ drop i gs) = subst (Pairs R) (sym (take-append-drop i gs)) p in
    let rest : drop 1 (drop i gs) ≡ drop (i + 1) gs = drop-drop 1 i gs in
    let last : Pairs R (drop (i + 1) gs) = pairs-drop R (i + 1) gs p in
    pairs-append R (take i gs) (drop (i + 1) gs) (pairs-first R (take i gs) (drop i gs) whole) last
    (each_as (λ k. Each (R k) (drop i gs)) (λ k. Each (R k) (drop (i + 1) gs)) (take i gs)
    (λ k e. subst (λ xs. Each (R k) xs) rest (each-drop (R k) 1 (drop i gs) e))
    (pairs-cross R (take i gs) (drop i gs) whole))

-- ---- groups that become others

abbrev pub together : List Glyphs → Glyphs
together groups = flat_map (λ group. group) groups

-- whatever holds of each cluster of a group still does
abbrev pub KeepsEach : (Glyphs → Glyphs) → Type 1
KeepsEach f = (P : ℕ → Type 0) (group : Glyphs) → Each P group → Each P (f group)

each_together : (f : Glyphs → Glyphs) → KeepsEach f
    → (P : ℕ → Type 0) (groups : List Glyphs) → Each P (together groups) → Each P (flat_map f groups)
each_together f keeps P [] p = tt
each_together f keeps P (group ∷ groups) p =
    each-append P (f group) (flat_map f groups) (keeps P group (each-first P group (together groups) p))
    (each_together f keeps P groups (each-last P group (together groups) p))

pub pairs_together : (R : ℕ → ℕ → Type 0) (f : Glyphs → Glyphs) → KeepsEach f
    → ((group : Glyphs) → Pairs R group → Pairs R (f group)) → (groups : List Glyphs)
    → Pairs R (together groups) → Pairs R (flat_map f groups)
pairs_together R f keeps each [] p = tt
pairs_together R f keeps each (group ∷ groups) p =
    let rest = together groups in
    let new = flat_map f groups in
    pairs-append R (f group) new (each group (pairs-first R group rest p))
    (pairs_together R f keeps each groups (pairs-last R group rest p))
    (keeps (λ k. Each (R k) new) group
    (each_as (λ k. Each (R k) rest) (λ k. Each (R k) new) group (λ k e. each_together f keeps (R k) groups e)
    (pairs-cross R group rest p)))

-- ---- clusters that rise or fall

pub mono_by : (gs hs : Glyphs) → ((R : ℕ → ℕ → Type 0) → ((k : ℕ) → R k k) → Pairs R gs → Pairs R hs)
    → IsMonotone (clusters gs) → IsMonotone (clusters hs)
mono_by gs hs f (inl rises) = let R : ℕ → ℕ → Type 0 =
    λ a b. a ≤ b in inl (from_pairs R hs (f R (λ k. omega arith) (to_pairs R gs rises)))
mono_by gs hs f (inr falls) = let R : ℕ → ℕ → Type 0 =
    λ a b. b ≤ a in inr (from_pairs R hs (f R (λ k. omega arith) (to_pairs R gs falls)))

-- the same clusters
pub pairs_same : (R : ℕ → ℕ → Type 0) (gs hs : Glyphs) → clusters hs ≡ clusters gs → Pairs R gs
    → Pairs R hs
pairs_same R gs hs same p = to_pairs R hs (subst (AllPairs R) (sym same) (from_pairs R gs p))

pub clusters-set : (i : ℕ) (g : Glyph) (gs : Glyphs) → g.cluster ≡ (get_or gs i g).cluster
    → clusters (set gs i g) ≡ clusters gs
clusters-set i g [] same = refl
clusters-set zero g (h ∷ gs) same = ap (λ k. k ∷ clusters gs) same
clusters-set (suc i) g (h ∷ gs) same = ap (λ ks. h.cluster ∷ ks) (clusters-set i g gs same)
