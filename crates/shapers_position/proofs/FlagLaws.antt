-- The laws of flags that clusters share, group after group.
use Rattle.std.proofs.Common.{◌≡◌, ◌≢◌, ℕ, zero, suc, ◌+◌, ◌-◌, ◌%◌, ◌<◌, ◌≤◌, ◌==◌, max, Bool, true, false, ◌||◌, ◌&&◌, cond, List, [], ◌∷◌, ◌++◌, get_or, length, map, take, drop, refl, sym, ap, subst, ◌∙◌, arith}
use Rattle.std.specs.Int.Bits.{bit_or, or_self}
use Rattle.std.specs.Prelude.{fold}
use Rattle.std.specs.List.{AllByRecursion, list_any, prefix_len}
use Rattle.std.proofs.lemmas.Bool.{eqb-true}
use Rattle.std.proofs.lemmas.List.{drop_at, length-drop, length-map, length-take-le, map-append, take-append-drop, take_at}
use Rattle.std.proofs.lemmas.List.Folds.{list_any-append}
use Rattle.std.proofs.lemmas.List.Sums.{prefix_len-le-length}
use Rattle.shapers_buffer.specs.declared.buffer.flags.BufferFlags.{BufferFlags}
use Rattle.shapers_buffer.specs.Glyphs.{Glyph, Glyphs}
use Rattle.shapers_buffer.specs.Buffer.{flags_tatweel, has_flag}
use Rattle.shapers_buffer.specs.Clusters.{has_cluster}
use Rattle.shapers_buffer.specs.Glyph.{clusters}
use Rattle.shapers_buffer.proofs.MappedLists.{map-hidden, prefix_len-map}
use Rattle.shapers_clusters.specs.Breaks.{IsClear, greater, is_unsafe}
use Rattle.shapers_position.specs.ClusterFlags.{flags_wanted, flags_of, flags_propagated, flags_shared, with_flags}
use Rattle.shapers_position.proofs.ClusterGroups.{opens_with_group}
use Rattle.shapers_position.proofs.FlagSets.{flags_put, flags_small, flags_unsafe, kept_again, kept_small, kept_unsafe, put_twice, unsafe_flags, unsafe_put}
use Rattle.std.specs.List.{flat_map}

-- how many of the glyphs behind g are in its cluster
abbrev pub more : Glyph → Glyphs → ℕ
more g gs = prefix_len (has_cluster g.cluster) gs

-- the flags that the group that begins a text gets
abbrev pub opening_flags : BufferFlags → Glyph → Glyphs → ℕ
opening_flags wanted g gs = flags_wanted wanted (flags_of (g ∷ take (more g gs) gs))

pub opening_small : (wanted : BufferFlags) (g : Glyph) (gs : Glyphs) →
    opening_flags wanted g gs < 8
opening_small wanted g gs = kept_small wanted (flags_of (g ∷ take (more g gs) gs))
    (flags_small (g ∷ take (more g gs) gs))

-- a law of texts by their groups
pub by_groups : (Q : Glyphs → Type 0) → Q [] →
    ((g : Glyph) (gs : Glyphs) → Q (drop (more g gs) gs) → Q (g ∷ gs)) →
    (n : ℕ) (gs : Glyphs) → length gs ≤ n → Q gs
by_groups Q none next zero [] few = none
by_groups Q none next zero (g ∷ gs) few = absurd (omega arith)
by_groups Q none next (suc n) [] few = none
by_groups Q none next (suc n) (g ∷ gs) few = next g gs
    (by_groups Q none next n (drop (more g gs) gs) (omega (arith, length-drop (more g gs) gs)))

-- what becomes of a text that isn't empty
pub opens : (wanted : BufferFlags) (g : Glyph) (gs : Glyphs) →
    let j = opening_flags wanted g gs in
    flags_propagated wanted (g ∷ gs) ≡ with_flags j g ∷
    (map (with_flags j) (take (more g gs) gs) ++ flags_propagated wanted (drop (more g gs) gs))
opens wanted g gs = ap (flat_map (flags_shared wanted)) (opens_with_group g gs)

-- ---- what doesn't read the flags stays

pub map-propagated : {X : Type 0} (f : Glyph → X) →
    ((k : ℕ) (g : Glyph) → k < 8 → f (with_flags k g) ≡ f g) →
    (wanted : BufferFlags) (gs : Glyphs) → map f (flags_propagated wanted gs) ≡ map f gs
map-propagated f keeps wanted gs =
    by_groups (λ gs. map f (flags_propagated wanted gs) ≡ map f gs) refl (λ g gs behind.
    let k = more g gs in
    let j = opening_flags wanted g gs in
    let small = opening_small wanted g gs in
    ap (map f) (opens wanted g gs)
    ∙ ap (λ x. x ∷ map f (map (with_flags j) (take k gs) ++ flags_propagated wanted (drop k gs))) (keeps j g small)
    ∙ ap (λ xs. f g ∷ xs)
    (map-append f (map (with_flags j) (take k gs)) (flags_propagated wanted (drop k gs))
    ∙ ap (λ xs. xs ++ map f (flags_propagated wanted (drop k gs)))
    (map-hidden f (with_flags j) (λ g. keeps j g small) (take k gs))
    ∙ ap (λ xs. map f (take k gs) ++ xs) behind
    ∙ sym (map-append f (take k gs) (drop k gs))
    ∙ ap (map f) (take-append-drop k gs)))
    (length gs) gs (omega arith)

pub clusters-propagated : (wanted : BufferFlags) (gs : Glyphs) →
    clusters (flags_propagated wanted gs) ≡ clusters gs
clusters-propagated wanted gs = map-propagated (λ g. g.cluster) (λ k g small. refl) wanted gs

pub length-propagated : (wanted : BufferFlags) (gs : Glyphs) →
    length (flags_propagated wanted gs) ≡ length gs
length-propagated wanted gs =
    sym (length-map (flags_propagated wanted gs) (λ (g : Glyph). g.cluster))
    ∙ ap length (clusters-propagated wanted gs) ∙ length-map gs (λ (g : Glyph). g.cluster)

-- ---- a second time

flags_same : (j : ℕ) (gs : Glyphs) → j < 8 →
    fold (λ f (g : Glyph). bit_or f (g.mask % 8)) j (map (with_flags j) gs) ≡ j
flags_same j [] small = refl
flags_same j (g ∷ gs) small =
    ap (λ k. fold (λ f (g : Glyph). bit_or f (g.mask % 8)) k (map (with_flags j) gs))
    (ap (bit_or j) (flags_put j g small) ∙ or_self j) ∙ flags_same j gs small

flags_of_shared : (j : ℕ) (g : Glyph) (gs : Glyphs) → j < 8 →
    flags_of (map (with_flags j) (g ∷ gs)) ≡ j
flags_of_shared j g gs small =
    ap (λ k. fold (λ f (g : Glyph). bit_or f (g.mask % 8)) k (map (with_flags j) gs)) (flags_put j g small)
    ∙ flags_same j gs small

-- as many glyphs behind the first are of its cluster as before
more_same : (wanted : BufferFlags) (g : Glyph) (gs : Glyphs) →
    let j = opening_flags wanted g gs in
    prefix_len (has_cluster g.cluster) (map (with_flags j) (take (more g gs) gs) ++ flags_propagated wanted
    (drop (more g gs) gs)) ≡ more g gs
more_same wanted g gs =
    let k = more g gs in
    let j = opening_flags wanted g gs in
    let c = g.cluster in
    let behind = map (with_flags j) (take k gs) ++ flags_propagated wanted (drop k gs) in
    let same : clusters behind ≡ clusters gs =
    map-append (λ (g : Glyph). g.cluster) (map (with_flags j) (take k gs))
    (flags_propagated wanted (drop k gs))
    ∙ ap (λ xs. xs ++ clusters (flags_propagated wanted (drop k gs)))
    (map-hidden (λ (g : Glyph). g.cluster) (with_flags j) (λ g. refl) (take k gs))
    ∙ ap (λ xs. clusters (take k gs) ++ xs) (clusters-propagated wanted (drop k gs))
    ∙ sym (map-append (λ (g : Glyph). g.cluster) (take k gs) (drop k gs))
    ∙ ap clusters (take-append-drop k gs) in
    sym (prefix_len-map (λ n. n == c) (λ (g : Glyph). g.cluster) behind)
    ∙ ap (prefix_len (λ n. n == c)) same
    ∙ prefix_len-map (λ n. n == c) (λ (g : Glyph). g.cluster) gs

pub again : (wanted : BufferFlags) → has_flag flags_tatweel wanted ≡ false → (gs : Glyphs) →
    flags_propagated wanted (flags_propagated wanted gs) ≡ flags_propagated wanted gs
again wanted unasked gs =
    by_groups (λ gs. flags_propagated wanted (flags_propagated wanted gs) ≡ flags_propagated wanted gs) refl
    (λ g gs last.
    let k = more g gs in
    let j = opening_flags wanted g gs in
    let small = opening_small wanted g gs in
    let front = map (with_flags j) (take k gs) in
    let rest = flags_propagated wanted (drop k gs) in
    let s = with_flags j g in
    let long : length front ≡ k = length-map (take k gs) (with_flags j)
    ∙ length-take-le k gs (prefix_len-le-length (has_cluster g.cluster) gs) in
    let firsts : take (more s (front ++ rest)) (front ++ rest) ≡ front =
    ap (λ n. take n (front ++ rest)) (more_same wanted g gs) ∙ take_at front rest k long in
    let lasts : drop (more s (front ++ rest)) (front ++ rest) ≡ rest =
    ap (λ n. drop n (front ++ rest)) (more_same wanted g gs) ∙ drop_at front rest k long in
    let flags : opening_flags wanted s (front ++ rest) ≡ j =
    ap (λ xs. flags_wanted wanted (flags_of (s ∷ xs))) firsts
    ∙ ap (flags_wanted wanted) (flags_of_shared j g (take k gs) small)
    ∙ kept_again wanted unasked (flags_of (g ∷ take k gs)) (flags_small (g ∷ take k gs)) in
    ap (flags_propagated wanted) (opens wanted g gs)
    ∙ opens wanted s (front ++ rest)
    ∙ ap (λ n. with_flags n s ∷ (map (with_flags n)
    (take (more s (front ++ rest)) (front ++ rest)) ++ flags_propagated wanted
    (drop (more s (front ++ rest)) (front ++ rest)))) flags
    ∙ ap (λ xs. with_flags j s ∷ (map (with_flags j) xs ++ flags_propagated wanted
    (drop (more s (front ++ rest)) (front ++ rest)))) firsts
    ∙ ap (λ xs. with_flags j s ∷ (map (with_flags j) front ++ flags_propagated wanted xs)) lasts
    ∙ ap (λ x. x ∷ (map (with_flags j) front ++ flags_propagated wanted rest)) (put_twice j g small)
    ∙ ap (λ xs. s ∷ (xs ++ flags_propagated wanted rest))
    (map-hidden (with_flags j) (with_flags j) (λ g. put_twice j g small) (take k gs))
    ∙ ap (λ xs. s ∷ (front ++ xs)) last
    ∙ sym (opens wanted g gs))
    (length gs) gs (omega arith)

-- ---- whether a glyph of a cluster is unsafe

or_twice : (b : Bool) → (b || b) ≡ b
or_twice true = refl
or_twice false = refl

or_end : (b : Bool) → (b || false) ≡ b
or_end true = refl
or_end false = refl

and_none : (b : Bool) → false ≡ (b && false)
and_none true = refl
and_none false = refl

-- a glyph of cluster c that is unsafe
abbrev pub unsafe_at : ℕ → Glyph → Bool
unsafe_at c g = g.cluster == c && is_unsafe g

any_shared : (j : ℕ) (g : Glyph) (gs : Glyphs) → j < 8 →
    list_any is_unsafe (map (with_flags j) (g ∷ gs)) ≡ unsafe_flags j
any_shared j g [] small = ap (λ b. b || false) (unsafe_put j g small) ∙ or_end (unsafe_flags j)
any_shared j g (h ∷ gs) small =
    ap (λ b. is_unsafe (with_flags j g) || b) (any_shared j h gs small)
    ∙ ap (λ b. b || unsafe_flags j) (unsafe_put j g small) ∙ or_twice (unsafe_flags j)

-- glyphs that are all of one cluster
parts : (b u us : Bool) → ((b && u) || (b && us)) ≡ (b && (u || us))
parts true u us = refl
parts false u us = refl

any_at : (c d : ℕ) (gs : Glyphs) → AllByRecursion (λ g. g.cluster ≡ d) gs →
    list_any (unsafe_at c) gs ≡ (d == c && list_any is_unsafe gs)
any_at c d [] all = and_none (d == c)
any_at c d (g ∷ gs) all =
    ap (λ n. (n == c && is_unsafe g) || list_any (unsafe_at c) gs) all.0
    ∙ ap (λ b. (d == c && is_unsafe g) || b) (any_at c d gs all.1)
    ∙ parts (d == c) (is_unsafe g) (list_any is_unsafe gs)

pub run_is : (c : ℕ) (gs : Glyphs) →
    AllByRecursion (λ g. g.cluster ≡ c) (take (prefix_len (has_cluster c) gs) gs)
run_is c [] = tt
run_is c (g ∷ gs) =
    let k = prefix_len (has_cluster c) gs in
    let one : 1 + k ≡ suc k = omega arith in
    let by : (b : Bool) → has_cluster c g ≡ b → AllByRecursion (λ g. g.cluster ≡ c)
    (take (cond b (1 + k) 0) (g ∷ gs)) = λ b.
    elim b as (λ b. has_cluster c g ≡ b → AllByRecursion (λ g. g.cluster ≡ c) (take (cond b (1 + k) 0) (g ∷ gs))) [
      | true ↦ λ e. (let P : ℕ → Type 0 = λ n. AllByRecursion (λ g. g.cluster ≡ c) (take n (g ∷ gs)) in subst P
          (sym one) (eqb-true g.cluster c e, run_is c gs))
      | false ↦ λ e. tt
    ] in
    by (has_cluster c g) refl

shared_is : (j c : ℕ) (gs : Glyphs) → AllByRecursion (λ g. g.cluster ≡ c) gs →
    AllByRecursion (λ g. g.cluster ≡ c) (map (with_flags j) gs)
shared_is j c [] all = tt
shared_is j c (g ∷ gs) all = (all.0, shared_is j c gs all.1)

any_kept : (wanted : BufferFlags) (c : ℕ) (gs : Glyphs) →
    list_any (unsafe_at c) (flags_propagated wanted gs) ≡ list_any (unsafe_at c) gs
any_kept wanted c gs =
    by_groups (λ gs. list_any (unsafe_at c) (flags_propagated wanted gs) ≡ list_any (unsafe_at c) gs) refl (λ g gs last.
    let k = more g gs in
    let j = opening_flags wanted g gs in
    let d = g.cluster in
    let group = g ∷ take k gs in
    let rest = drop k gs in
    let all : AllByRecursion (λ h. h.cluster ≡ d) group = (refl, run_is d gs) in
    let here : list_any (unsafe_at c) (map (with_flags j) group) ≡ list_any (unsafe_at c) group =
    any_at c d (map (with_flags j) group) (shared_is j d group all)
    ∙ ap (λ b. d == c && b) (any_shared j g (take k gs) (opening_small wanted g gs)
    ∙ kept_unsafe wanted (flags_of group) (flags_small group) ∙ flags_unsafe group)
    ∙ sym (any_at c d group all) in
    ap (list_any (unsafe_at c)) (opens wanted g gs)
    ∙ list_any-append (unsafe_at c) (map (with_flags j) group) (flags_propagated wanted rest)
    ∙ ap (λ b. b || list_any (unsafe_at c) (flags_propagated wanted rest)) here
    ∙ ap (λ b. list_any (unsafe_at c) group || b) last
    ∙ sym (list_any-append (unsafe_at c) group rest)
    ∙ ap (λ xs. list_any (unsafe_at c) (g ∷ xs)) (take-append-drop k gs))
    (length gs) gs (omega arith)

-- a place is clear after it as before
pub clear_from : (wanted : BufferFlags) (gs : Glyphs) (p : ℕ) →
    IsClear (flags_propagated wanted gs) p → IsClear gs p
clear_from wanted gs p clear =
    let ms = flags_propagated wanted gs in
    let same = clusters-propagated wanted gs in
    record {
      differ = subst (λ cs. get_or cs (p - 1) 0 ≢ get_or cs p 0) same clear.differ;
      unflagged = sym (any_kept wanted (greater gs p) gs)
          ∙ ap (λ (cs : List ℕ). list_any (unsafe_at (max (get_or cs (p - 1) 0) (get_or cs p 0))) ms) (sym same)
          ∙ clear.unflagged;
    }

pub clear_to : (wanted : BufferFlags) (gs : Glyphs) (p : ℕ) → IsClear gs p →
    IsClear (flags_propagated wanted gs) p
clear_to wanted gs p clear =
    let ms = flags_propagated wanted gs in
    let same = clusters-propagated wanted gs in
    record {
      differ = subst (λ cs. get_or cs (p - 1) 0 ≢ get_or cs p 0) (sym same) clear.differ;
      unflagged = ap (λ (cs : List ℕ). list_any (unsafe_at (max (get_or cs (p - 1) 0) (get_or cs p 0))) ms) same
          ∙ any_kept wanted (greater gs p) gs ∙ clear.unflagged;
    }
