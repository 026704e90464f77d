-- Laws of the placement list: what is read, and what is written.
use Prim.Native.Nat.compare
use Rattle.std.proofs.Common.{◌≡◌, ℕ, zero, suc, ◌+◌, ◌-◌, ◌<◌, ◌≤◌, ◌==◌, if◌then◌else◌, List, [], ◌∷◌, ◌++◌, length, take, get_or, set, slice_set, replicate, refl, sym, ap, ◌∙◌, arith, length-append}
use Rattle.std.specs.List.{All, range_with_len}
use Rattle.std.proofs.lemmas.List.{ext_get_or, get_or-take, get_or-drop, take_more, take_more_set}
use Rattle.std.proofs.lemmas.List.Elements.{filter_map-append}
use Rattle.std.proofs.lemmas.List.FromFn.{length-range_with_len, get_or-range_with_len, length-map-range_with_len, get_or-map-range_with_len}
use Rattle.std.proofs.lemmas.List.Sorted.{All-permutation}
use Rattle.std.proofs.lemmas.Option.{slice_get-get_or}
use Rattle.std.proofs.lemmas.Bool.Decides.{nat_tests}
use Rattle.std.proofs.lemmas.List.{length-replicate}
use Rattle.shapers_buffer.specs.Places.{without_last_zeros, with_place, place_at, listed, pick, ListsEachOnce, PlacesAreWritten}
use Rattle.shapers_buffer.specs.Clusters.{stretch_of}
use Rattle.shapers_buffer.proofs.ClusterLemmas.{length-stretch}

pub no_zeros : (n : ℕ) → without_last_zeros (replicate n 0) ≡ []
no_zeros zero = refl
no_zeros (suc n) = cc (no_zeros n)

pub without_last_zeros-append : (ps : List ℕ) (n : ℕ) → without_last_zeros (ps ++ replicate n 0) ≡ without_last_zeros ps
without_last_zeros-append [] n = no_zeros n
without_last_zeros-append (p ∷ ps) n = cc (without_last_zeros-append ps n)

pub place_at-without_last_zeros : (ps : List ℕ) (i : ℕ) → place_at (without_last_zeros ps) i ≡ place_at ps i
place_at-without_last_zeros [] i = refl
place_at-without_last_zeros (p ∷ ps) i = search (arith, place_at-without_last_zeros ps)

-- what reads the same is the same list
reads_nothing : (ps : List ℕ) → ((i : ℕ) → place_at ps i ≡ 0) → without_last_zeros ps ≡ []
reads_nothing [] none = refl
reads_nothing (p ∷ ps) none = cc (reads_nothing ps (λ i. none (suc i)), none 0)

pub same_reads : (ps qs : List ℕ) → ((i : ℕ) → place_at ps i ≡ place_at qs i)
    → without_last_zeros ps ≡ without_last_zeros qs
same_reads [] qs same = search (arith, reads_nothing)
same_reads (p ∷ ps) [] same = reads_nothing (p ∷ ps) same
same_reads (p ∷ ps) (q ∷ qs) same = cc (same_reads ps qs (λ i. same (suc i)), same 0)

-- reading behind a write, and in a list with zeros at its end
read_set : (ps : List ℕ) (i p j : ℕ) → i < length ps → place_at (slice_set ps i p) j
    ≡ (if j == i then p else place_at ps j)
read_set [] i p j h = absurd (omega arith)
read_set (q ∷ ps) zero p zero h = refl
read_set (q ∷ ps) (suc i) p (suc j) h = search (arith, read_set ps i p j (omega arith), compare.suc-suc)
read_set (q ∷ ps) _ p _ h = search (arith, nat_tests, refl)

read_zeros : (n i : ℕ) → place_at (replicate n 0) i ≡ 0
read_zeros (suc n) (suc i) = read_zeros n i
read_zeros _ _ = refl

read_padded : (ps : List ℕ) (n i : ℕ) → place_at (ps ++ replicate n 0) i ≡ place_at ps i
read_padded [] n i = read_zeros n i
read_padded (p ∷ ps) n zero = refl
read_padded (p ∷ ps) n (suc i) = read_padded ps n i

long_enough : (ps : List ℕ) (i : ℕ) → i < length (ps ++ replicate (suc i) 0)
long_enough = search (arith, length-append, length-replicate)

pub places_are_written : PlacesAreWritten
places_are_written = search (arith, place_at-without_last_zeros, read_set, long_enough, read_padded)

-- a list with a place written, but for its last zeros
pub set-without_last_zeros : (ps : List ℕ) (i p : ℕ) → i < length ps → without_last_zeros (slice_set ps i p)
    ≡ with_place i p (without_last_zeros ps)
set-without_last_zeros ps i p h =
    same_reads (slice_set ps i p) (slice_set (without_last_zeros ps ++ replicate (suc i) 0) i p) (λ j.
    search (arith, read_set, read_padded, place_at-without_last_zeros, long_enough))

-- what is listed, read off a list that is long enough

listed_at : (s e : ℕ) (ps : List ℕ) (k : ℕ) → k < e - s → get_or (listed s e (without_last_zeros ps)) k 0
    ≡ get_or (stretch_of s e ps) k 0
listed_at = search (arith, get_or-map-range_with_len, place_at-without_last_zeros, get_or-take, get_or-drop)

pub listed-stretch : (s e : ℕ) (ps : List ℕ) → s ≤ e → e ≤ length ps → listed s e (without_last_zeros ps)
    ≡ stretch_of s e ps
listed-stretch s e ps h l =
    let n = length-map-range_with_len (place_at (without_last_zeros ps)) s (e - s) in
    ext_get_or 0 (listed s e (without_last_zeros ps)) (stretch_of s e ps) (n ∙ sym (length-stretch s e ps l))
    (λ k i. search (arith, listed_at))

-- places that are each listed once lie within
range_within : (s e n : ℕ) → s ≤ e → e ≤ n → All (λ p. p < n) (range_with_len s (e - s))
range_within = search (arith, get_or-range_with_len, length-range_with_len)

pub listed_within : (s e n : ℕ) (places : List ℕ) → s ≤ e → e ≤ n → ListsEachOnce s e places
    → All (λ p. p < n) (listed s e places)
listed_within = search (arith, All-permutation, range_within)

-- one more glyph picked
pub gather_more : {X : Type 0} (d : X) (xs to : List X) (places : List ℕ) (i : ℕ) → i < length places → i < length to
    → get_or places i 0 < length xs → take i to ≡ pick (take i places) xs
    → take (i + 1) (set to i (get_or xs (get_or places i 0) d)) ≡ pick (take (i + 1) places) xs
gather_more d xs to places i h l inside done =
    let p = get_or places i 0 in
    take_more_set to i (get_or xs p d) l ∙ ap (λ ys. ys ++ get_or xs p d ∷ []) done
    ∙ sym (search (arith, filter_map-append, slice_get-get_or)) ∙ ap (λ ps. pick ps xs) (sym (take_more places i 0 h))
