-- Rows for the Indic grammar, by another reading of its rules, which tries all ways to take a text.
use Rattle.std.proofs.Common.{◌≡◌, ℕ, List, [], ◌∷◌, map, refl}
use Rattle.shapers_spans.specs.Indic.{indic_rules, indic_grammar}
use Rattle.shapers_spans.proofs.GrammarRows.{kind_by}
use Rattle.shapers_spans.proofs.Steps.{nullable, same, chain, member, before, insert, union, step}
use Rattle.shapers_spans.proofs.Tables.{first_kind, after}

-- the categories that its rules name, and one that none names
indic_categories : List ℕ
indic_categories = 1 ∷ 2 ∷ 3 ∷ 4 ∷ 5 ∷ 6 ∷ 7 ∷ 8 ∷ 9 ∷ 10 ∷ 11 ∷ 12 ∷ 13 ∷ 14 ∷ 15 ∷ 16 ∷ 17 ∷ 18 ∷ 57 ∷ 0 ∷ []

-- each alone (255: no rule takes it)
indic_alone : map (kind_by indic_grammar) (map (λ (k : ℕ). k ∷ []) indic_categories) ≡ 0 ∷ 1 ∷ 4 ∷ 4 ∷ 255 ∷ 255 ∷ 4 ∷ 4
    ∷ 4 ∷ 2 ∷ 2 ∷ 4 ∷ 4 ∷ 4 ∷ 0 ∷ 4 ∷ 3 ∷ 255 ∷ 5 ∷ 255 ∷ []
unfolding indic_rules indic_grammar kind_by nullable same chain member before insert union step first_kind after
    indic_categories
indic_alone = refl

-- each pair of neighbours: a row for each first category
indic_pairs : map (λ (a : ℕ). map (λ (b : ℕ). kind_by indic_grammar (a ∷ b ∷ [])) indic_categories) indic_categories ≡
    (255 ∷ 255 ∷ 0 ∷ 0 ∷ 255 ∷ 0 ∷ 0 ∷ 0 ∷ 0 ∷ 255 ∷ 255 ∷ 0 ∷ 0 ∷ 255 ∷ 255 ∷ 0 ∷ 255 ∷ 255 ∷ 0 ∷ 255 ∷ []) ∷
    (255 ∷ 255 ∷ 1 ∷ 1 ∷ 255 ∷ 1 ∷ 1 ∷ 1 ∷ 1 ∷ 255 ∷ 255 ∷ 1 ∷ 1 ∷ 255 ∷ 255 ∷ 1 ∷ 255 ∷ 255 ∷ 1 ∷ 255 ∷ []) ∷
    (255 ∷ 255 ∷ 4 ∷ 4 ∷ 255 ∷ 255 ∷ 4 ∷ 4 ∷ 4 ∷ 255 ∷ 255 ∷ 255 ∷ 4 ∷ 255 ∷ 255 ∷ 4 ∷ 255 ∷ 255 ∷ 4 ∷ 255 ∷ []) ∷
    (4 ∷ 255 ∷ 255 ∷ 255 ∷ 4 ∷ 4 ∷ 255 ∷ 4 ∷ 4 ∷ 255 ∷ 255 ∷ 255 ∷ 255 ∷ 255 ∷ 4 ∷ 255 ∷ 255 ∷ 255 ∷ 4 ∷ 255 ∷ []) ∷
    (255 ∷ 255 ∷ 255 ∷ 4 ∷ 255 ∷ 255 ∷ 4 ∷ 4 ∷ 255 ∷ 255 ∷ 255 ∷ 4 ∷ 4 ∷ 255 ∷ 255 ∷ 255 ∷ 255 ∷ 255 ∷ 4 ∷ 255 ∷ []) ∷
    (255 ∷ 255 ∷ 255 ∷ 4 ∷ 255 ∷ 255 ∷ 4 ∷ 4 ∷ 255 ∷ 255 ∷ 255 ∷ 255 ∷ 4 ∷ 255 ∷ 255 ∷ 255 ∷ 255 ∷ 255 ∷ 4 ∷ 255 ∷ []) ∷
    (255 ∷ 255 ∷ 4 ∷ 4 ∷ 255 ∷ 255 ∷ 4 ∷ 4 ∷ 4 ∷ 255 ∷ 255 ∷ 255 ∷ 4 ∷ 255 ∷ 255 ∷ 255 ∷ 255 ∷ 255 ∷ 4 ∷ 255 ∷ []) ∷
    (255 ∷ 255 ∷ 255 ∷ 255 ∷ 4 ∷ 255 ∷ 255 ∷ 4 ∷ 4 ∷ 255 ∷ 255 ∷ 255 ∷ 4 ∷ 255 ∷ 255 ∷ 255 ∷ 255 ∷ 255 ∷ 4 ∷ 255 ∷ []) ∷
    (255 ∷ 255 ∷ 255 ∷ 255 ∷ 255 ∷ 255 ∷ 255 ∷ 255 ∷ 4 ∷ 255 ∷ 255 ∷ 255 ∷ 255 ∷ 255 ∷ 255 ∷ 255 ∷ 255 ∷ 255 ∷ 255 ∷ 255
    ∷ []) ∷
    (255 ∷ 255 ∷ 2 ∷ 2 ∷ 255 ∷ 255 ∷ 2 ∷ 2 ∷ 2 ∷ 255 ∷ 255 ∷ 2 ∷ 2 ∷ 255 ∷ 255 ∷ 2 ∷ 255 ∷ 255 ∷ 2 ∷ 255 ∷ []) ∷
    (255 ∷ 255 ∷ 2 ∷ 2 ∷ 255 ∷ 255 ∷ 2 ∷ 2 ∷ 2 ∷ 255 ∷ 255 ∷ 2 ∷ 2 ∷ 255 ∷ 255 ∷ 2 ∷ 255 ∷ 255 ∷ 2 ∷ 255 ∷ []) ∷
    (255 ∷ 255 ∷ 4 ∷ 4 ∷ 255 ∷ 255 ∷ 4 ∷ 4 ∷ 4 ∷ 255 ∷ 255 ∷ 255 ∷ 4 ∷ 255 ∷ 255 ∷ 4 ∷ 255 ∷ 255 ∷ 4 ∷ 255 ∷ []) ∷
    (255 ∷ 255 ∷ 4 ∷ 4 ∷ 255 ∷ 255 ∷ 4 ∷ 4 ∷ 4 ∷ 255 ∷ 255 ∷ 255 ∷ 4 ∷ 255 ∷ 255 ∷ 255 ∷ 255 ∷ 255 ∷ 4 ∷ 255 ∷ []) ∷
    (0 ∷ 1 ∷ 4 ∷ 4 ∷ 255 ∷ 255 ∷ 4 ∷ 4 ∷ 4 ∷ 2 ∷ 2 ∷ 4 ∷ 4 ∷ 255 ∷ 0 ∷ 4 ∷ 255 ∷ 255 ∷ 4 ∷ 255 ∷ []) ∷
    (255 ∷ 255 ∷ 0 ∷ 0 ∷ 255 ∷ 0 ∷ 0 ∷ 0 ∷ 0 ∷ 255 ∷ 255 ∷ 0 ∷ 0 ∷ 255 ∷ 255 ∷ 0 ∷ 255 ∷ 255 ∷ 0 ∷ 255 ∷ []) ∷
    (255 ∷ 255 ∷ 255 ∷ 4 ∷ 255 ∷ 255 ∷ 4 ∷ 4 ∷ 4 ∷ 255 ∷ 255 ∷ 255 ∷ 4 ∷ 255 ∷ 255 ∷ 255 ∷ 255 ∷ 255 ∷ 4 ∷ 255 ∷ []) ∷
    (255 ∷ 255 ∷ 3 ∷ 255 ∷ 255 ∷ 255 ∷ 255 ∷ 3 ∷ 3 ∷ 255 ∷ 255 ∷ 255 ∷ 255 ∷ 255 ∷ 255 ∷ 255 ∷ 255 ∷ 255 ∷ 3 ∷ 255 ∷ [])
    ∷
    (0 ∷ 255 ∷ 255 ∷ 255 ∷ 255 ∷ 255 ∷ 255 ∷ 255 ∷ 255 ∷ 2 ∷ 255 ∷ 255 ∷ 255 ∷ 255 ∷ 0 ∷ 255 ∷ 255 ∷ 255 ∷ 255 ∷ 255
    ∷ []) ∷
    (255 ∷ 255 ∷ 255 ∷ 255 ∷ 4 ∷ 255 ∷ 255 ∷ 4 ∷ 4 ∷ 255 ∷ 255 ∷ 255 ∷ 4 ∷ 255 ∷ 255 ∷ 255 ∷ 255 ∷ 255 ∷ 4 ∷ 255 ∷ []) ∷
    (255 ∷ 255 ∷ 255 ∷ 255 ∷ 255 ∷ 255 ∷ 255 ∷ 255 ∷ 255 ∷ 255 ∷ 255 ∷ 255 ∷ 255 ∷ 255 ∷ 255 ∷ 255 ∷ 255 ∷ 255 ∷ 255
    ∷ 255 ∷ []) ∷
    []
unfolding indic_rules indic_grammar kind_by nullable same chain member before insert union step first_kind after
    indic_categories
indic_pairs = refl

-- syllables of each rule, short and long, broken ones, and texts that no rule takes
indic_kinds : map (kind_by indic_grammar) (
    (1 ∷ []) ∷
    (1 ∷ 4 ∷ 1 ∷ 4 ∷ 15 ∷ 7 ∷ 7 ∷ 8 ∷ 9 ∷ []) ∷
    (14 ∷ 1 ∷ 4 ∷ 5 ∷ 1 ∷ []) ∷
    (18 ∷ 15 ∷ 6 ∷ 3 ∷ 16 ∷ 7 ∷ 3 ∷ 4 ∷ 8 ∷ []) ∷
    (1 ∷ 4 ∷ 5 ∷ []) ∷
    (2 ∷ []) ∷
    (15 ∷ 4 ∷ 2 ∷ 3 ∷ 7 ∷ 8 ∷ 9 ∷ []) ∷
    (2 ∷ 6 ∷ []) ∷
    (10 ∷ []) ∷
    (14 ∷ 10 ∷ 4 ∷ 1 ∷ 7 ∷ []) ∷
    (15 ∷ 4 ∷ 11 ∷ 12 ∷ 7 ∷ []) ∷
    (11 ∷ []) ∷
    (17 ∷ []) ∷
    (17 ∷ 3 ∷ 8 ∷ 5 ∷ 9 ∷ []) ∷
    (57 ∷ []) ∷
    (3 ∷ []) ∷
    (7 ∷ []) ∷
    (8 ∷ []) ∷
    (9 ∷ []) ∷
    (14 ∷ []) ∷
    (15 ∷ 4 ∷ 7 ∷ []) ∷
    (12 ∷ 3 ∷ 16 ∷ 7 ∷ []) ∷
    (5 ∷ 12 ∷ []) ∷
    (5 ∷ []) ∷
    (6 ∷ []) ∷
    (0 ∷ []) ∷
    (13 ∷ []) ∷
    (5 ∷ 5 ∷ 7 ∷ []) ∷
    (57 ∷ 7 ∷ []) ∷
    []) ≡ 0 ∷ 0 ∷ 255 ∷ 0 ∷ 0 ∷ 1 ∷ 1 ∷ 1 ∷ 2 ∷ 2 ∷ 2 ∷ 2 ∷ 3 ∷ 3 ∷ 5 ∷ 4 ∷ 4 ∷ 4 ∷ 4 ∷ 4 ∷ 4 ∷ 4 ∷ 4 ∷ 255 ∷ 255 ∷ 255
    ∷ 4 ∷ 4 ∷ 255 ∷ []
unfolding indic_rules indic_grammar kind_by nullable same chain member before insert union step first_kind after
indic_kinds = refl
