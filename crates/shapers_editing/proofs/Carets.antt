-- The laws of caret stops.
use Rattle.std.proofs.Common.{◌≡◌, ℕ, ◌-◌, ◌<◌, ◌≤◌, Bool, true, false, cond, List, [], ◌∷◌, ◌++◌, length, reverse, refl, sym, ap, subst, ◌∙◌, arith}
use Rattle.std.specs.Prelude.{nat_lt, ◌&&◌, slice_get, Option, None, Some}
use Rattle.std.specs.List.{All, AllByRecursion, AllPairs, Contains, list_all}
use Rattle.std.proofs.lemmas.Bool.{lt-ltb, ltb-true}
use Rattle.std.proofs.lemmas.Grind.{reverse_onto}
use Rattle.std.proofs.lemmas.List.{length-append, reverse-reverse}
use Rattle.std.proofs.lemmas.List.Elements.{All-contains, All-contains_itself, All-from_recursion, recursion_from_All}
use Rattle.std.proofs.lemmas.List.Sorted.{Contains-permutation, IsPermutation-reverse}
use Rattle.shapers_buffer.specs.Glyphs.{Glyphs}
use Rattle.shapers_buffer.specs.declared.buffer.level.Direction.{Direction}
use Rattle.shapers_buffer.specs.Glyph.{clusters}
use Rattle.shapers_editing.specs.Carets.{BordersWereBorders, EachClusterStops, StopsMapText, caret_stops, is_backward, lesser, text_clusters}
use Rattle.shapers_editing.proofs.Stops.{In, all-above, at-in, contains-in, each-lesser, in-contains, lesser-all, lesser-rises, one-interval, reached, some-below}

-- clusters in either order are the same clusters
turned-contains : (b : Bool) (cs : List ℕ) (c : ℕ) → Contains cs c → Contains (cond b (reverse cs) cs) c
turned-contains true cs c i = Contains-permutation cs (reverse cs) c (IsPermutation-reverse cs) i
turned-contains false cs c i = i

contains-turned : (b : Bool) (cs : List ℕ) (c : ℕ) → Contains (cond b (reverse cs) cs) c → Contains cs c
contains-turned true cs c i = subst (λ xs. Contains xs c) (reverse-reverse cs)
    (Contains-permutation (reverse cs) (reverse (reverse cs)) c (IsPermutation-reverse (reverse cs)) i)
contains-turned false cs c i = i

turned-all : (P : ℕ → Type 0) (direction : Direction) (gs : Glyphs) → All P (clusters gs)
    → AllByRecursion P (text_clusters direction gs)
turned-all P direction gs a =
    let ts = text_clusters direction gs in
    recursion_from_All P ts (λ k d l. All-contains P (clusters gs) _ a
    (contains-turned (is_backward direction) (clusters gs) _ (All-contains_itself ts k d l)))

pub stops-map : StopsMapText
stops-map direction gs end within =
    let cs = clusters gs in
    let ts = text_clusters direction gs in
    record {
      rising = lesser-rises ts;
      places = All-from_recursion (Contains cs) (lesser ts)
          (lesser-all (Contains cs) ts (turned-all (Contains cs) direction gs (All-contains_itself cs)));
      one = (λ c p i l m. one-interval (lesser ts) end p (lesser-rises ts)
          (lesser-all (λ d. d < end) ts (turned-all (λ d. d < end) direction gs within))
          (reached ts c p (turned-contains (is_backward direction) cs c i) l) m);
    }

-- where clusters rise along the text
stops-each : (direction : Direction) (gs : Glyphs) → AllPairs (λ a b. a ≤ b) (text_clusters direction gs)
    → (c : ℕ) → Contains (clusters gs) c → Contains (caret_stops direction gs) c
stops-each direction gs r c i =
    let ts = text_clusters direction gs in
    in-contains (lesser ts) c (at-in (In (lesser ts)) ts c (each-lesser ts r)
    (contains-in ts c (turned-contains (is_backward direction) (clusters gs) c i)))

pub each-stops : EachClusterStops
each-stops direction gs r = λ k d l. stops-each direction gs r _ (All-contains_itself (clusters gs) k d l)

pub borders-were : BordersWereBorders
borders-were before after old new r none =
    let P : ℕ → Type 0 = λ c. Contains (caret_stops before old) c in
    let ts = text_clusters after new in
    All-from_recursion P (lesser ts) (lesser-all P ts
    (turned-all P after new (λ k d l. stops-each before old r _ (none k d l))))

-- THE WALK: the last stop pushed is the least of the clusters behind
abbrev exceeded : ℕ → List ℕ → Bool
exceeded c [] = true
exceeded c (s ∷ ss) = nat_lt c s

and-same : (a b : Bool) → (b ≡ true → a ≡ true) → (a && b) ≡ b
and-same true b f = refl
and-same false true f = absurd (let h = f refl in cc)
and-same false false f = refl

and-first : (a b : Bool) → (a ≡ true → b ≡ true) → (a && b) ≡ a
and-first true b f = f refl
and-first false b f = refl

all-lifted : (c x : ℕ) (cs : List ℕ) → c < x → AllByRecursion (λ d. x < d) cs → list_all (λ d. nat_lt c d) cs ≡ true
all-lifted c x [] l a = refl
all-lifted c x (d ∷ ds) l a = rw (lt-ltb c d (let m = a.0 in omega arith)) (all-lifted c x ds l a.1)

above-in : (c : ℕ) (cs : List ℕ) (d : ℕ) → list_all (λ e. nat_lt c e) cs ≡ true → In cs d → c < d
above-in c cs d h i = at-in (λ e. c < e) cs d (all-above c cs h) i

pub first-tells : (c : ℕ) (cs : List ℕ) → exceeded c (lesser cs) ≡ list_all (λ d. nat_lt c d) cs
first-tells c [] = refl
first-tells c (x ∷ cs) =
    elim (list_all (λ d. nat_lt x d) cs) as (λ b. list_all (λ d. nat_lt x d) cs ≡ b → exceeded c
    (cond b (x ∷ lesser cs) (lesser cs)) ≡ (nat_lt c x && list_all (λ d. nat_lt c d) cs)) [
      | true ↦ λ h. sym (and-first (nat_lt c x) (list_all (λ d. nat_lt c d) cs)
          (λ l. all-lifted c x cs (ltb-true c x l) (all-above x cs h)))
      | false ↦ λ h. first-tells c cs ∙ sym (and-same (nat_lt c x) (list_all (λ d. nat_lt c d) cs)
          (λ a. let (d, i, l) = some-below x cs h in lt-ltb c x (let m = above-in c cs d a i in omega arith)))
    ] refl

-- what the last stop pushed says
abbrev pub told : ℕ → Option ℕ → Bool
told c None = true
told c (Some s) = nat_lt c s

at-end : (xs : List ℕ) (x : ℕ) → slice_get (xs ++ x ∷ []) (length xs) ≡ Some x
at-end [] x = refl
at-end (y ∷ ys) x = at-end ys x

last-tells : (c : ℕ) (xs : List ℕ) → told c (slice_get (reverse xs) (length (reverse xs) - 1)) ≡ exceeded c xs
last-tells c [] = refl
last-tells c (s ∷ ss) =
    let e : reverse (s ∷ ss) ≡ reverse ss ++ s ∷ [] = reverse_onto ss s [] in
    let n : length (reverse ss ++ s ∷ []) - 1 ≡ length (reverse ss) = omega
    (arith, length-append (reverse ss) (s ∷ [])) in
    ap (λ xs. told c (slice_get xs (length xs - 1))) e
    ∙ ap (λ k. told c (slice_get (reverse ss ++ s ∷ []) k)) n
    ∙ ap (told c) (at-end (reverse ss) s)

pub tells : (c : ℕ) (behind stops : List ℕ) (o : Option ℕ) → o ≡ slice_get stops (length stops - 1) → stops ≡ reverse
    (lesser behind) → told c o ≡ list_all (λ d. nat_lt c d) behind
tells c behind stops o h e =
    ap (told c) (h ∙ ap (λ xs. slice_get xs (length xs - 1)) e)
    ∙ last-tells c (lesser behind)
    ∙ first-tells c behind
