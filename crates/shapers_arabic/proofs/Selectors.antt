-- The flags of selectors, and where the selector rule falls into the halves of a text.
use Rattle.std.proofs.Common.{◌≡◌, ℕ, suc, ◌+◌, ◌-◌, ◌<◌, ◌≤◌, Bool, true, false, cond, eqb, not, ◌&&◌, List, [], ◌∷◌, ◌++◌, length, reverse, refl, sym, ap, ◌∙◌, arith, append_assoc}
use Rattle.std.specs.List.{AllByRecursion, zip}
use Rattle.std.proofs.lemmas.Bool.{eq-eqb}
use Rattle.std.proofs.lemmas.List.{append-nil, length-reverse, reverse-append}
use Rattle.std.proofs.lemmas.List.Folds.{list_any-append}
use Rattle.std.proofs.lemmas.Slice.Zip.{length-zip}
use Rattle.shapers_buffer.specs.GlyphFlags.{FlagCall, UnsafeToBreak}
use Rattle.shapers_clusters.specs.Flags.{InOrder}
use Rattle.shapers_arabic.specs.Joining.{is_selector, form_behind, selected}
use Rattle.shapers_clusters.specs.Breaks.{forbids, IsFree}
use Rattle.shapers_clusters.proofs.ClearPlaces.{held_by_calls}
use Rattle.shapers_arabic.specs.SoundFlags.{selector_flags}
use Rattle.shapers_arabic.proofs.SelectedLists.{selected-append, selected-same, zip-append}
use Rattle.shapers_arabic.proofs.FlaggedPlaces.{past, ahead, or_with}

-- whether a place is a selector whose copied form isn't its own
abbrev copies : List (ℕ × ℕ) → ℕ → ℕ → Bool
copies before c a = is_selector c && not (eqb (form_behind before a) a)

abbrev call : List (ℕ × ℕ) → ℕ → ℕ → List FlagCall
call before c a = cond (copies before c a) (UnsafeToBreak (length before - 1) (suc (length before)) ∷ []) []

selectors-past : (before places : List (ℕ × ℕ)) (p : ℕ) → length before + length places ≤ p
    → held_by_calls p (selector_flags before places) ≡ false
selectors-past before [] p h = refl
selectors-past before ((c, a) ∷ places) p h =
    search (arith, or_with, past, selectors-past ((c, a) ∷ before) places p (omega arith))

selectors-from : (before places : List (ℕ × ℕ)) (p : ℕ) → p < length before
    → held_by_calls p (selector_flags before places) ≡ false
selectors-from before [] p h = refl
selectors-from before ((c, a) ∷ places) p h =
    search (arith, or_with, ahead, selectors-from ((c, a) ∷ before) places p (omega arith))

selectors-here : (before places : List (ℕ × ℕ)) (c a p : ℕ) → 0 < p → p ≡ length before
    → held_by_calls p (selector_flags before ((c, a) ∷ places)) ≡ copies before c a
selectors-here before places c a p pos at =
    list_any-append (forbids p) (call before c a) (selector_flags ((c, a) ∷ before) places)
    ∙ or_with (held_by_calls p (call before c a)) (held_by_calls p (selector_flags ((c, a) ∷ before) places))
    (copies before c a) (search arith) (search (arith, selectors-from))

turned_places : (x : ℕ × ℕ) (xs before : List (ℕ × ℕ)) → reverse xs ++ (x ∷ before) ≡ reverse (x ∷ xs) ++ before
turned_places x xs = search (arith, reverse-append (x ∷ []) xs, append_assoc)

selectors-append : (before xs ys : List (ℕ × ℕ)) → selector_flags before (xs ++ ys) ≡ selector_flags before xs
    ++ selector_flags (reverse xs ++ before) ys
selectors-append before [] ys = refl
selectors-append before ((c, a) ∷ xs) ys = search (arith, turned_places, selectors-append ((c, a) ∷ before) xs ys)

pub selectors-in_order : (before places : List (ℕ × ℕ)) → AllByRecursion InOrder (selector_flags before places)
selectors-in_order before [] = tt
selectors-in_order before ((c, a) ∷ places) = search (arith, selectors-in_order ((c, a) ∷ before) places)

always : (b : Bool) (a : ℕ) → cond b a a ≡ a
always true a = refl
always false a = refl

selected-from : (before places : List (ℕ × ℕ)) (c a : ℕ) → copies before c a ≡ false → selected before ((c, a) ∷ places)
    ≡ selected [] ((c, a) ∷ places)
selected-from = search (arith, always, selected-same)

in-halves : (xs ys : List (ℕ × ℕ)) → 0 < length xs → IsFree (selector_flags [] (xs ++ ys)) (length xs)
    → selected [] (xs ++ ys) ≡ selected [] xs ++ selected [] ys
in-halves xs [] pos free = selected-append [] xs []
in-halves xs ((c, a) ∷ ys) pos free = search (
  arith,
  selected-append,
  append-nil,
  selected-from,
  selectors-here,
  length-reverse,
  selectors-append,
  list_any-append,
  selectors-past,
)

-- characters and forms in two parts
pub selected-halves : (cs ds fs gs : List ℕ) → length fs ≡ length cs → 0 < length cs
    → IsFree (selector_flags [] (zip (cs ++ ds) (fs ++ gs))) (length cs) → selected [] (zip (cs ++ ds) (fs ++ gs))
    ≡ selected [] (zip cs fs) ++ selected [] (zip ds gs)
selected-halves cs ds fs gs same some free =
    let xs = zip cs fs in
    let parts = zip-append cs ds fs gs same in
    let long : length xs ≡ length cs = omega (arith, length-zip cs fs) in
    cc (in-halves xs (zip ds gs) (omega arith) (ap (λ n. held_by_calls n (selector_flags [] (xs ++ zip ds gs))) long
    ∙ ap (λ ps. held_by_calls (length cs) (selector_flags [] ps)) (sym parts) ∙ free))

-- the other way round: where the second half copies nothing from the first, no flag stands between the two
no-copy : (before : List (ℕ × ℕ)) (c a : ℕ) → cond (is_selector c) (form_behind before a) a ≡ cond (is_selector c) a a
    → copies before c a ≡ false
no-copy before c a e =
    elim (is_selector c) as (λ b. cond b (form_behind before a) a ≡ cond b a a
    → (b && not (eqb (form_behind before a) a)) ≡ false) [
      | true ↦ λ f. ap not (eq-eqb (form_behind before a) a f)
      | false ↦ λ f. refl
    ] e

pub selectors-free : (xs ys : List (ℕ × ℕ)) → 0 < length xs → selected (reverse xs ++ []) ys ≡ selected [] ys
    → IsFree (selector_flags [] (xs ++ ys)) (length xs)
selectors-free xs [] pos = search (arith, append-nil, selectors-past)
selectors-free xs ((c, a) ∷ ys) pos =
    let before = reverse xs ++ [] in
    let p = length xs in
    search (
      arith,
      selectors-append,
      list_any-append,
      selectors-past,
      selectors-here before ys c a p pos (sym (ap length (append-nil (reverse xs)) ∙ length-reverse xs)),
      no-copy,
    )
