-- Canonical equivalence, by any pairs that characters come apart into and any classes of marks
-- (The Unicode Standard, section 3.7, D68 to D70, and section 3.11).
use Rattle.std.specs.Prelude.{ℕ, zero, suc, ◌≡◌, ◌==◌, Bool, ◌||◌, List, [], ◌∷◌, ◌++◌, Option, if◌then◌else◌}
use Rattle.std.specs.List.{filter, flat_map, range_with_len}
use Rattle.std.specs.Option.{option_map_or}
use Rattle.shapers_normal.specs.Decomposition.{come_off, max_steps}

-- of a character the two that it comes apart into in one step; the second is 0 where there is one
-- alone
abbrev pub CharacterPairs : Type 0
CharacterPairs = ℕ → Option (ℕ × ℕ)

-- a character taken apart in so many steps, each part in its turn
abbrev pub apart_in_steps : CharacterPairs → ℕ → ℕ → List ℕ
apart_in_steps pairs zero c = c ∷ []
apart_in_steps pairs (suc n) c = option_map_or
    (λ p. apart_in_steps pairs n p.0 ++ flat_map (apart_in_steps pairs n) (come_off p.1))
    (pairs c) (c ∷ [])

-- a character taken apart to the end, and a text
abbrev pub full_decomposition : CharacterPairs → ℕ → List ℕ
full_decomposition pairs c = apart_in_steps pairs max_steps c

abbrev pub fully_decomposed : CharacterPairs → List ℕ → List ℕ
fully_decomposed pairs cs = flat_map (full_decomposition pairs) cs

-- the characters of class 0, and of the marks those of one class
abbrev pub is_starter_or_in : (ℕ → ℕ) → ℕ → ℕ → Bool
is_starter_or_in class k c = class c == 0 || class c == k

abbrev pub with_marks_of : (ℕ → ℕ) → ℕ → List ℕ → List ℕ
with_marks_of class k cs = filter (is_starter_or_in class k) cs

-- Two texts are one but for the order of marks: with the marks of any one class alone they are the
-- same. So marks of one class stay in their order, and no mark passes a character of class 0.
abbrev pub SameButForOrder : (ℕ → ℕ) → List ℕ → List ℕ → Type 0
SameButForOrder class cs ds = (k : ℕ) → with_marks_of class k cs ≡ with_marks_of class k ds

-- two texts are canonically equivalent: taken apart to the end they are one but for the order of
-- marks
abbrev pub CanonicallyEquivalent : CharacterPairs → (ℕ → ℕ) → List ℕ → List ℕ → Type 0
CanonicallyEquivalent pairs class cs ds =
    SameButForOrder class (fully_decomposed pairs cs) (fully_decomposed pairs ds)

-- marks class by class, those of one class in their order; classes are bytes
abbrev pub marks_by_class : (ℕ → ℕ) → List ℕ → List ℕ
marks_by_class class ms = flat_map (λ k. filter (λ c. class c == k) ms) (range_with_len 1 255)

-- a text in canonical order: each sequence of marks class by class (D109); first the marks of the
-- sequence so far, and then the text behind them
abbrev pub by_classes_behind : (ℕ → ℕ) → List ℕ → List ℕ → List ℕ
by_classes_behind class ms [] = marks_by_class class ms
by_classes_behind class ms (c ∷ cs) =
    if class c == 0 then marks_by_class class ms ++ c ∷ by_classes_behind class [] cs
    else by_classes_behind class (ms ++ c ∷ []) cs

abbrev pub ordered_by_classes : (ℕ → ℕ) → List ℕ → List ℕ
ordered_by_classes class cs = by_classes_behind class [] cs

-- Texts that are one but for the order of marks are the same in canonical order.
abbrev pub OrdersAlike : Type 0
OrdersAlike = (class : ℕ → ℕ) (cs ds : List ℕ) →
    SameButForOrder class cs ds → ordered_by_classes class cs ≡ ordered_by_classes class ds
