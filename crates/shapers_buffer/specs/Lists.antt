-- Words on lists: cuts, the longest end that passes a test, each element with what stands before
-- it.
use Rattle.std.specs.Prelude.{◌-◌, Bool, List, [], ◌∷◌, ◌++◌, length, take, drop, reverse, flat_map, if◌then◌else◌}
use Rattle.std.specs.List.{suffix_len, onto_first}

-- the list cut after each element that passes the test
abbrev pub cut_after : {X : Type 0} → (X → Bool) → List X → List (List X)
cut_after test [] = []
cut_after test (x ∷ xs) =
    if test x then (x ∷ []) ∷ cut_after test xs else onto_first x (cut_after test xs)

-- the longest end all of which passes the test, and what stands before it
abbrev pub last_stretch : {X : Type 0} → (X → Bool) → List X → List X
last_stretch test xs = drop (length xs - suffix_len test xs) xs

abbrev pub before_last_stretch : {X : Type 0} → (X → Bool) → List X → List X
before_last_stretch test xs = take (length xs - suffix_len test xs) xs

-- a piece, given from its end back: where its last passes the test, what a rule makes of it
abbrev pub changed_back : {X : Type 0} → (X → Bool) → (List X → X → List X) → List X → List X
changed_back test rule [] = []
changed_back test rule (x ∷ before) =
    if test x then rule (reverse before) x else reverse (x ∷ before)

-- the list cut after each element that passes the test, each piece that ends with one by the rule
abbrev pub changed_pieces : {X : Type 0} → (X → Bool) → (List X → X → List X) → List X → List X
changed_pieces test rule xs =
    flat_map (λ piece. changed_back test rule (reverse piece)) (cut_after test xs)

-- each element with what stands before it, where `before` stands before all
abbrev pub each_after : {X : Type 0} → List X → List X → List (List X × X)
each_after before [] = []
each_after before (x ∷ xs) = (before, x) ∷ each_after (before ++ x ∷ []) xs

-- a list with its first element as the last
abbrev pub first_last : {X : Type 0} → List X → List X
first_last [] = []
first_last (x ∷ xs) = xs ++ x ∷ []
