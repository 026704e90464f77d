-- Laws of mapped and of numbered lists.
use Rattle.std.proofs.Common.{◌≡◌, ℕ, zero, suc, ◌-◌, ◌+◌, ◌<◌, ◌≤◌, Bool, List, [], ◌∷◌, ◌++◌, length, map, flat_map, take, drop, reverse, refl, sym, ap, subst, ◌∙◌, arith}
use Rattle.std.specs.List.{list_any, suffix_len, prefix_len, enumerate_from, range_with_len, AllByRecursion, Contains, take-map}
use Rattle.std.proofs.lemmas.List.{append_assoc, append-nil, get_or-map, length_push, reverse-append, map_push, length-map, drop-map}
use Rattle.std.proofs.lemmas.List.Elements.{Contains-append_left, Contains-append_right}
use Rattle.std.proofs.lemmas.List.FromFn.{length-enumerate_from}
use Rattle.std.proofs.lemmas.List.Sums.{suffix_len-le-length}
use Rattle.shapers_buffer.specs.Lists.{cut_after, last_stretch, before_last_stretch, each_after}

pub map-reverse : {X Y : Type 0} (f : X → Y) (xs : List X) → map f (reverse xs) ≡ reverse (map f xs)
map-reverse f [] = refl
map-reverse f (x ∷ xs) =
    search (arith, reverse-append (x ∷ []) xs, map_push, map-reverse f xs, reverse-append (f x ∷ []) (map f xs))

-- changes that a view doesn't see, and that it sees as they are
pub map-hidden : {X Y : Type 0} (view : X → Y) (f : X → X) → ((x : X) → view (f x) ≡ view x) → (xs : List X)
    → map view (map f xs) ≡ map view xs
map-hidden view f hides [] = refl
map-hidden view f hides (x ∷ xs) = cc (hides x, map-hidden view f hides xs)

pub map-seen : {X : Type 0} (view f : X → X) → ((x : X) → view (f x) ≡ f (view x)) → (xs : List X)
    → map view (map f xs) ≡ map f (map view xs)
map-seen view f same [] = refl
map-seen view f same (x ∷ xs) = cc (same x, map-seen view f same xs)

-- the longest front and the longest end of a mapped list, and what stands before it
pub prefix_len-map : {X Y : Type 0} (test : Y → Bool) (f : X → Y) (xs : List X)
    → prefix_len test (map f xs) ≡ prefix_len (λ x. test (f x)) xs
prefix_len-map test f [] = refl
prefix_len-map test f (x ∷ xs) = cc (prefix_len-map test f xs)

pub prefix_len-seen : {X : Type 0} (test : X → Bool) (view : X → X) → ((x : X) → test (view x) ≡ test x) → (xs : List X)
    → prefix_len test (map view xs) ≡ prefix_len test xs
prefix_len-seen test view same [] = refl
prefix_len-seen test view same (x ∷ xs) = cc (same x, prefix_len-seen test view same xs)

pub suffix_len-map : {X Y : Type 0} (test : Y → Bool) (f : X → Y) (xs : List X)
    → suffix_len test (map f xs) ≡ suffix_len (λ x. test (f x)) xs
suffix_len-map test f xs = search (arith, map-reverse f xs, prefix_len-map)

run_start : {X Y : Type 0} (test : Y → Bool) (f : X → Y) (xs : List X) → length (map f xs) - suffix_len test (map f xs)
    ≡ length xs - suffix_len (λ x. test (f x)) xs
run_start = search (arith, length-map, suffix_len-map)

pub last_stretch-map : {X Y : Type 0} (test : Y → Bool) (f : X → Y) (xs : List X)
    → last_stretch test (map f xs) ≡ map f (last_stretch (λ x. test (f x)) xs)
last_stretch-map = search (arith, run_start, drop-map)

pub before_last_stretch-map : {X Y : Type 0} (test : Y → Bool) (f : X → Y) (xs : List X) → before_last_stretch test (map f xs)
    ≡ map f (before_last_stretch (λ x. test (f x)) xs)
before_last_stretch-map test f xs = ap (λ n. take n (map f xs)) (run_start test f xs) ∙ take-map f _ xs

pub cut_after-map : {X Y : Type 0} (test : Y → Bool) (f : X → Y) (xs : List X)
    → cut_after test (map f xs) ≡ map (map f) (cut_after (λ x. test (f x)) xs)
cut_after-map test f [] = refl
cut_after-map test f (x ∷ xs) = search (arith, cut_after-map test f xs)

-- numbered lists: their values and their numbers, parts of them
pub values-enumerate_from : {X : Type 0} (n : ℕ) (xs : List X) → map (λ p. p.1) (enumerate_from n xs) ≡ xs
values-enumerate_from n [] = refl
values-enumerate_from n (x ∷ xs) = cc (values-enumerate_from (n + 1) xs)

pub places-enumerate_from : {X : Type 0} (n : ℕ) (xs : List X) → map (λ p. p.0) (enumerate_from n xs)
    ≡ range_with_len n (length xs)
places-enumerate_from n [] = refl
places-enumerate_from n (x ∷ xs) = cc (places-enumerate_from (n + 1) xs)

enumerate_from-append : {X : Type 0} (n : ℕ) (xs ys : List X) → enumerate_from n (xs ++ ys) ≡ enumerate_from n xs
    ++ enumerate_from (n + length xs) ys
enumerate_from-append n [] ys = search arith
enumerate_from-append n (x ∷ xs) ys = search (arith, enumerate_from-append (n + 1) xs ys)

pub enumerate-append : {X : Type 0} (xs ys : List X) → enumerate_from 0 (xs ++ ys) ≡ enumerate_from 0 xs
    ++ enumerate_from (length xs) ys
enumerate-append = search (arith, enumerate_from-append)

pub take-enumerate_from : {X : Type 0} (n k : ℕ) (xs : List X) → take k (enumerate_from n xs)
    ≡ enumerate_from n (take k xs)
take-enumerate_from n (suc k) (x ∷ xs) = cc (take-enumerate_from (n + 1) k xs)
take-enumerate_from n _ _ = refl

pub drop-range : (a n k : ℕ) → drop k (range_with_len a n) ≡ range_with_len (a + k) (n - k)
drop-range a n zero = search arith
drop-range a zero (suc k) = search arith
drop-range a (suc n) (suc k) = search (arith, drop-range (a + 1) n k)

-- the longest end of a numbered list, and what stands before it
numbered_run_start : {X : Type 0} (test : X → Bool) (n : ℕ) (xs : List X)
    → length (enumerate_from n xs) - suffix_len (λ p. test p.1) (enumerate_from n xs) ≡ length xs - suffix_len test xs
numbered_run_start test n xs = omega (
  arith,
  length-enumerate_from n xs,
  sym (suffix_len-map test (λ p. p.1) (enumerate_from n xs)) ∙ ap (suffix_len test) (values-enumerate_from n xs),
)

pub before_last_stretch-enumerate_from : {X : Type 0} (test : X → Bool) (n : ℕ) (xs : List X)
    → before_last_stretch (λ p. test p.1) (enumerate_from n xs) ≡ enumerate_from n (before_last_stretch test xs)
before_last_stretch-enumerate_from = search (arith, numbered_run_start, take-enumerate_from)

pub places-last_stretch : {X : Type 0} (test : X → Bool) (xs : List X)
    → map (λ p. p.0) (last_stretch (λ p. test p.1) (enumerate_from 0 xs))
    ≡ range_with_len (length xs - suffix_len test xs) (suffix_len test xs)
places-last_stretch test xs =
    let start = length xs - suffix_len test xs in
    search (
      arith,
      numbered_run_start test 0 xs,
      drop-map,
      places-enumerate_from 0 xs,
      drop-range 0 (length xs) start,
      suffix_len-le-length test xs,
    )

-- what holds of all, and what is contained, in joined and mapped lists and in ranges
pub all-append : {X : Type 0} (P : X → Type 0) (xs ys : List X) → AllByRecursion P xs → AllByRecursion P ys
    → AllByRecursion P (xs ++ ys)
all-append P [] ys h i = i
all-append P (x ∷ xs) ys h i = (h.0, all-append P xs ys h.1 i)

pub all-mapped : {X Y : Type 0} (P : X → Type 0) (Q : Y → Type 0) (f : X → Y) (xs : List X) → ((x : X) → P x → Q (f x))
    → AllByRecursion P xs → AllByRecursion Q (map f xs)
all-mapped P Q f [] g h = tt
all-mapped P Q f (x ∷ xs) g h = (g x h.0, all-mapped P Q f xs g h.1)

pub all-range : (P : ℕ → Type 0) (a k : ℕ) → ((p : ℕ) → a ≤ p → p < a + k → P p) → AllByRecursion P (range_with_len a k)
all-range P a zero h = tt
all-range P a (suc k) h = search (arith, all-range P (a + 1) k (λ p x y. h p (omega arith) (omega arith)))

pub all-flat_map : {X Y : Type 0} (Q : X → Type 0) (P : Y → Type 0) (f : X → List Y)
    → ((x : X) → Q x → AllByRecursion P (f x)) → (xs : List X) → AllByRecursion Q xs → AllByRecursion P (flat_map f xs)
all-flat_map Q P f each [] all = tt
all-flat_map Q P f each (x ∷ xs) all = search (arith, all-append, all-flat_map Q P f each xs all.1)

pub Contains-flat_map : {X Y : Type 0} (f : X → List Y) (xs : List X) (x : X) (y : Y) → Contains xs x → Contains (f x) y
    → Contains (flat_map f xs) y
Contains-flat_map f [] x y (k, inside, at) among = absurd (omega arith)
Contains-flat_map f (z ∷ xs) x y (zero, inside, at) among =
    Contains-append_left (f z) (flat_map f xs) y (search arith)
Contains-flat_map f (z ∷ xs) x y (suc k, inside, at) among =
    Contains-append_right (f z) (flat_map f xs) y (Contains-flat_map f xs x y (k, omega arith, at) among)

-- each element with what stands before it: one more, one among them, all of them
pub each_after-push : {X : Type 0} (before xs : List X) (x : X) → each_after before (xs ++ x ∷ [])
    ≡ each_after before xs ++ (before ++ xs, x) ∷ []
each_after-push before [] x = cc (append-nil before)
each_after-push before (y ∷ xs) x = search (arith, append_assoc, each_after-push (before ++ y ∷ []) xs x)

pub Contains-each_after : {X : Type 0} (before xs : List X) (x : X) (ys : List X)
    → Contains (each_after before (xs ++ x ∷ ys)) (before ++ xs, x)
Contains-each_after before [] x ys = search (arith, append-nil)
Contains-each_after before (y ∷ xs) x ys =
    let (k, inside, at) =
    subst (λ zs. Contains (each_after (before ++ y ∷ []) (xs ++ x ∷ ys)) (zs, x))
    (append_assoc before (y ∷ []) xs) (Contains-each_after (before ++ y ∷ []) xs x ys) in
    (suc k, omega arith, at)

pub all-each_after : {X : Type 0} (m : ℕ) (before xs : List X) → length before + length xs ≤ m
    → AllByRecursion (λ p. length p.0 < m) (each_after before xs)
all-each_after m before [] within = tt
all-each_after m before (x ∷ xs) within =
    (omega arith, all-each_after m (before ++ x ∷ []) xs (omega (arith, length_push)))

-- whether any element of a mapped list passes
pub list_any-map : {X Y : Type 0} (test : Y → Bool) (f : X → Y) (xs : List X)
    → list_any test (map f xs) ≡ list_any (λ x. test (f x)) xs
list_any-map test f [] = refl
list_any-map test f (x ∷ xs) = cc (list_any-map test f xs)

pub Contains-map : {X Y : Type 0} (f : X → Y) (xs : List X) (x : X) → Contains xs x → Contains (map f xs) (f x)
Contains-map f xs x (k, inside, at) = search (arith, length-map xs f, get_or-map f xs k x (f x) inside)
