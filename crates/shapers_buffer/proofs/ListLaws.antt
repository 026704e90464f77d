-- Laws of the words on lists.
use Rattle.std.proofs.Common.{◌≡◌, ◌⊎◌, inl, inr, ℕ, suc, ◌-◌, ◌+◌, ◌<◌, Bool, true, false, cond, ◌||◌, List, [], ◌∷◌, ◌++◌, length, take, drop, reverse, refl, sym, ap, subst, ◌∙◌, arith, length-append}
use Rattle.std.specs.List.{suffix_len, prefix_len, onto_first, list_any, count_by}
use Rattle.std.proofs.lemmas.List.{append_assoc, reverse-append, take-append-le, drop-append-le, take_all, drop_all, take-append-drop, reverse-reverse, length_push}
use Rattle.std.proofs.lemmas.List.Sums.{sum_by-cons, sum_by_push, suffix_len-le-length}
use Rattle.std.proofs.Math.Seq.{drop-append-add, take-append-add}
use Rattle.std.proofs.lemmas.Bool.{or_parts, or_from}
use Rattle.std.proofs.lemmas.List.Folds.{list_any-append}
use Rattle.std.proofs.lemmas.Grind.{reverse_onto}
use Rattle.shapers_buffer.specs.Lists.{cut_after, last_stretch, before_last_stretch}

-- the longest end, where one more element stands at the end
pub suffix_len_yes : {X : Type 0} (test : X → Bool) (xs : List X) (x : X) → test x ≡ true
    → suffix_len test (xs ++ x ∷ []) ≡ 1 + suffix_len test xs
suffix_len_yes test xs x h = rw (reverse-append xs (x ∷ []), h)

pub suffix_len_no : {X : Type 0} (test : X → Bool) (xs : List X) (x : X) → test x ≡ false
    → suffix_len test (xs ++ x ∷ []) ≡ 0
suffix_len_no test xs x h = rw (reverse-append xs (x ∷ []), h)

prefix_len_stop : {X : Type 0} (test : X → Bool) (xs : List X) (a : X) (ys : List X) → test a ≡ false
    → prefix_len test (xs ++ a ∷ ys) ≡ prefix_len test xs
prefix_len_stop test [] a ys h = rw h
prefix_len_stop test (x ∷ xs) a ys h = cc (prefix_len_stop test xs a ys h)

-- what stands before an element that fails doesn't matter
pub suffix_len_stop : {X : Type 0} (test : X → Bool) (xs : List X) (a : X) (ys : List X) → test a ≡ false
    → suffix_len test (xs ++ a ∷ ys) ≡ suffix_len test ys
suffix_len_stop = search (arith, reverse-append, reverse_onto, append_assoc, prefix_len_stop)

pub last_run_yes : {X : Type 0} (test : X → Bool) (xs : List X) (x : X) → test x ≡ true → last_stretch test (xs ++ x ∷ [])
    ≡ last_stretch test xs ++ x ∷ []
last_run_yes = search (arith, length_push, suffix_len_yes, drop-append-le)

pub before_last_run_yes : {X : Type 0} (test : X → Bool) (xs : List X) (x : X) → test x ≡ true
    → before_last_stretch test (xs ++ x ∷ []) ≡ before_last_stretch test xs
before_last_run_yes = search (arith, length_push, suffix_len_yes, take-append-le)

pub last_run_no : {X : Type 0} (test : X → Bool) (xs : List X) (x : X) → test x ≡ false → last_stretch test (xs ++ x ∷ [])
    ≡ []
last_run_no = search (arith, drop_all, suffix_len_no)

pub before_last_run_no : {X : Type 0} (test : X → Bool) (xs : List X) (x : X) → test x ≡ false
    → before_last_stretch test (xs ++ x ∷ []) ≡ xs ++ x ∷ []
before_last_run_no = search (arith, take_all, suffix_len_no)

pub last_run_stop : {X : Type 0} (test : X → Bool) (xs : List X) (a : X) (ys : List X) → test a ≡ false
    → last_stretch test (xs ++ a ∷ ys) ≡ last_stretch test ys
last_run_stop test xs a ys h =
    ap (λ k. drop k (xs ++ a ∷ ys)) (omega (arith, length-append xs (a ∷ ys), suffix_len_stop, suffix_len-le-length))
    ∙ drop-append-add xs (a ∷ ys) (suc (length ys - suffix_len test ys))

pub before_last_run_stop : {X : Type 0} (test : X → Bool) (xs : List X) (a : X) (ys : List X) → test a ≡ false
    → before_last_stretch test (xs ++ a ∷ ys) ≡ xs ++ a ∷ before_last_stretch test ys
before_last_run_stop test xs a ys h =
    ap (λ k. take k (xs ++ a ∷ ys)) (omega (arith, length-append xs (a ∷ ys), suffix_len_stop, suffix_len-le-length))
    ∙ take-append-add xs (a ∷ ys) (suc (length ys - suffix_len test ys))

-- a list that isn't empty has a first piece
onto_first_some : {X : Type 0} (x : X) (pieces : List (List X)) → 0 < length (onto_first x pieces)
onto_first_some x [] = omega arith
onto_first_some x (piece ∷ pieces) = omega arith

cut_after_some : {X : Type 0} (test : X → Bool) (x : X) (xs : List X) → 0 < length (cut_after test (x ∷ xs))
cut_after_some = search (arith, onto_first_some)

cut_after_middle : {X : Type 0} (test : X → Bool) (xs : List X) (a : X) (ys : List X)
    → 0 < length (cut_after test (xs ++ a ∷ ys))
cut_after_middle test [] a ys = cut_after_some test a ys
cut_after_middle test (x ∷ xs) a ys = search (arith, cut_after_some)

onto_first-append : {X : Type 0} (x : X) (pieces rest : List (List X)) → 0 < length pieces
    → onto_first x (pieces ++ rest) ≡ onto_first x pieces ++ rest
onto_first-append x [] rest h = absurd (omega arith)
onto_first-append x (piece ∷ pieces) rest h = refl

-- the text before and after a cut is cut for itself
pub cut_after-append : {X : Type 0} (test : X → Bool) (xs : List X) (a : X) (ys : List X) → test a ≡ true
    → cut_after test (xs ++ a ∷ ys) ≡ cut_after test (xs ++ a ∷ []) ++ cut_after test ys
cut_after-append test [] a ys h = rw h refl
cut_after-append test (x ∷ xs) a ys h =
    search (arith, onto_first-append, cut_after_middle, cut_after-append test xs a ys h)

-- a list none of which passes, and one more element, is one piece
pub cut_after_none : {X : Type 0} (test : X → Bool) (xs : List X) (x : X) → list_any test xs ≡ false
    → cut_after test (xs ++ x ∷ []) ≡ (xs ++ x ∷ []) ∷ []
cut_after_none test [] x h = search arith
cut_after_none test (y ∷ xs) x h =
    let none = (or_parts _ _ h).1 in search (arith, refl, cut_after_none test xs x none)

-- the last element that passes a test, with what stands before it and what after it
pub record LastPass {X : Type 0} (test : X → Bool) (xs : List X) : Type 0 where
  pub before : List X
  pub element : X
  pub after : List X
  pub parts : xs ≡ before ++ element ∷ after
  pub passes : test element ≡ true
  pub none_after : list_any test after ≡ false

pub last_pass : {X : Type 0} (test : X → Bool) (xs : List X) → (list_any test xs ≡ false) ⊎ LastPass test xs
last_pass test [] = inl refl
last_pass test (x ∷ xs) = elim (last_pass test xs) [
  | inr p ↦ inr
      (record {
        before = x ∷ p.before;
        element = p.element;
        after = p.after;
        parts = ap (λ zs. x ∷ zs) p.parts;
        passes = p.passes;
        none_after = p.none_after;
      })
  | inl none ↦ elim (test x) as (λ b. test x ≡ b → ((b || list_any test xs) ≡ false) ⊎ LastPass test (x ∷ xs)) [
    | true ↦ λ h. inr (record { before = []; element = x; after = xs; parts = refl; passes = h; none_after = none })
    | false ↦ λ h. inl none
  ] refl
]

-- parts of a list none of which passes
pub none_in_front : {X : Type 0} (test : X → Bool) (n : ℕ) (xs : List X) → list_any test xs ≡ false
    → list_any test (take n xs) ≡ false
none_in_front test n xs none =
    (or_parts _ _ (sym (list_any-append test (take n xs) (drop n xs)) ∙ ap (list_any test) (take-append-drop n xs)
    ∙ none)).0

pub none_pushed : {X : Type 0} (test : X → Bool) (xs : List X) (x : X) → list_any test xs ≡ false → test x ≡ false
    → list_any test (xs ++ x ∷ []) ≡ false
none_pushed test xs x none = search (arith, list_any-append, or_from)

pub none_before_push : {X : Type 0} (test : X → Bool) (xs : List X) (x : X) → list_any test (xs ++ x ∷ []) ≡ false
    → (list_any test xs ≡ false) × (test x ≡ false)
none_before_push test xs x none =
    let parts = or_parts _ _ (sym (list_any-append test xs (x ∷ [])) ∙ none) in (parts.0, (or_parts _ _ parts.1).0)

-- a list is empty or has a last element
pub record LastOf {X : Type 0} (xs : List X) : Type 0 where
  pub front : List X
  pub last : X
  pub parts : xs ≡ front ++ last ∷ []

pub last_of : {X : Type 0} (xs : List X) → (xs ≡ []) ⊎ LastOf xs
last_of [] = inl refl
last_of (x ∷ xs) = elim (last_of xs) [
  | inl e ↦ inr (record { front = []; last = x; parts = ap (λ zs. x ∷ zs) e })
  | inr p ↦ inr (record { front = x ∷ p.front; last = p.last; parts = ap (λ zs. x ∷ zs) p.parts })
]

-- a law of lists from their ends
back : {X : Type 0} (P : List X → Type 0) → P [] → ((xs : List X) (x : X) → P xs → P (xs ++ x ∷ [])) → (xs : List X)
    → P (reverse xs)
back P start next [] = start
back P start next (x ∷ xs) = search (arith, reverse_onto, back P start next xs)

pub from_end : {X : Type 0} (P : List X → Type 0) → P [] → ((xs : List X) (x : X) → P xs → P (xs ++ x ∷ []))
    → (xs : List X) → P xs
from_end P start next xs = subst P (reverse-reverse xs) (back P start next (reverse xs))

-- one more element counted
pub count_push : {X : Type 0} (test : X → Bool) (xs : List X) (x : X) (b : Bool) → test x ≡ b
    → count_by test (xs ++ x ∷ []) ≡ count_by test xs + cond b 1 0
count_push = search (arith, sum_by_push)

no_one : (b : Bool) (n : ℕ) → cond b 1 0 + n ≡ 0 → b ≡ false
no_one true n h = absurd (omega arith)
no_one false n h = refl

-- none passes exactly if the count is 0
pub none_from_count : {X : Type 0} (test : X → Bool) (xs : List X) → count_by test xs ≡ 0 → list_any test xs ≡ false
none_from_count test [] h = refl
none_from_count test (x ∷ xs) h =
    let both = sym (sum_by-cons (λ y. cond (test y) 1 0) x xs) ∙ h in
    or_from _ _ (no_one (test x) (count_by test xs) both) (none_from_count test xs (omega arith))

pub count_from_none : {X : Type 0} (test : X → Bool) (xs : List X) → list_any test xs ≡ false → count_by test xs ≡ 0
count_from_none test [] h = refl
count_from_none test (x ∷ xs) h =
    sum_by-cons (λ y. cond (test y) 1 0) x xs ∙ ap (λ b. cond b 1 0 + count_by test xs) (or_parts _ _ h).0
    ∙ ap (λ n. 0 + n) (count_from_none test xs (or_parts _ _ h).1)
