-- Laws of opened pieces.
use Rattle.std.proofs.Common.{arith}
use Rattle.std.proofs.Common.{◌≡◌, inl, inr, Bool, true, false, cond, List, [], ◌∷◌, ◌++◌, map, flat_map, reverse, refl, sym, ap, ◌∙◌}
use Rattle.std.specs.List.{list_any}
use Rattle.std.proofs.lemmas.List.{map-append, append_assoc, append-nil, reverse-append, reverse-reverse}
use Rattle.std.proofs.lemmas.List.Concat.{flat_map-append}
use Rattle.std.proofs.lemmas.Grind.{reverse_onto}
use Rattle.shapers_buffer.specs.Lists.{cut_after, changed_back, changed_pieces}
use Rattle.shapers_buffer.proofs.ListLaws.{last_pass, last_of, cut_after-append, cut_after_none, none_pushed, none_before_push}
use Rattle.shapers_buffer.proofs.MappedLists.{map-reverse, cut_after-map}

-- one piece
pub one_piece : {X : Type 0} (test : X → Bool) (rule : List X → X → List X) (xs : List X) (x : X)
    → list_any test xs ≡ false → changed_pieces test rule (xs ++ x ∷ []) ≡ cond (test x) (rule xs x) (xs ++ x ∷ [])
one_piece test rule xs x none =
    search (arith, cut_after_none, append-nil, reverse-append, reverse-reverse, reverse_onto, refl)

-- where none passes, the list stays
pub changed_pieces-none : {X : Type 0} (test : X → Bool) (rule : List X → X → List X) (xs : List X)
    → list_any test xs ≡ false → changed_pieces test rule xs ≡ xs
changed_pieces-none test rule xs none = elim (last_of xs) [
  | inl e ↦ ap (changed_pieces test rule) e ∙ sym e
  | inr p ↦
      let parts = none_before_push test p.front p.last (sym (ap (list_any test) p.parts) ∙ none) in
      ap (changed_pieces test rule) p.parts ∙ one_piece test rule p.front p.last parts.0
      ∙ ap (λ b. cond b (rule p.front p.last) (p.front ++ p.last ∷ [])) parts.1 ∙ sym p.parts
]

-- what stands up to an element that passes, and behind it, is opened for itself
pub changed_pieces-append : {X : Type 0} (test : X → Bool) (rule : List X → X → List X) (xs : List X) (a : X)
    (ys : List X) → test a ≡ true → changed_pieces test rule (xs ++ a ∷ ys) ≡ changed_pieces test rule (xs ++ a ∷ [])
    ++ changed_pieces test rule ys
changed_pieces-append = search (arith, cut_after-append, flat_map-append)

pub changed_pieces-push : {X : Type 0} (test : X → Bool) (rule : List X → X → List X) (xs : List X) (x : X)
    → test x ≡ false → changed_pieces test rule (xs ++ x ∷ []) ≡ changed_pieces test rule xs ++ x ∷ []
changed_pieces-push test rule xs x fails = elim (last_pass test xs) [
  | inl none ↦ search (arith, changed_pieces-none, none_pushed)
  | inr p ↦
      search (arith, append_assoc, changed_pieces-append, changed_pieces-none, none_pushed)
]

-- a rule that f leads to another: the pieces of a mapped list
changed_back-map : {X Y : Type 0} (f : X → Y) (test : Y → Bool) (rule : List X → X → List X) (other : List Y → Y
    → List Y) → ((xs : List X) (x : X) → map f (rule xs x) ≡ other (map f xs) (f x)) → (xs : List X)
    → map f (changed_back (λ x. test (f x)) rule xs) ≡ changed_back test other (map f xs)
changed_back-map f test rule other leads [] = refl
changed_back-map f test rule other leads (x ∷ before) = search (arith, map-reverse, map-reverse f (x ∷ before))

pieces-map : {X Y : Type 0} (f : X → Y) (test : Y → Bool) (rule : List X → X → List X) (other : List Y → Y → List Y)
    → ((xs : List X) (x : X) → map f (rule xs x) ≡ other (map f xs) (f x)) → (pieces : List (List X))
    → map f (flat_map (λ piece. changed_back (λ x. test (f x)) rule (reverse piece)) pieces)
    ≡ flat_map (λ piece. changed_back test other (reverse piece)) (map (map f) pieces)
pieces-map f test rule other leads [] = refl
pieces-map f test rule other leads (piece ∷ pieces) =
    let back = changed_back (λ x. test (f x)) rule in
    search (arith, map-append, pieces-map f test rule other leads pieces, changed_back-map, map-reverse f piece)

pub changed_pieces-map : {X Y : Type 0} (f : X → Y) (test : Y → Bool) (rule : List X → X → List X) (other : List Y → Y
    → List Y) → ((xs : List X) (x : X) → map f (rule xs x) ≡ other (map f xs) (f x)) → (xs : List X)
    → map f (changed_pieces (λ x. test (f x)) rule xs) ≡ changed_pieces test other (map f xs)
changed_pieces-map f test rule other leads xs =
    cc (pieces-map f test rule other leads (cut_after (λ x. test (f x)) xs), cut_after-map test f xs)
