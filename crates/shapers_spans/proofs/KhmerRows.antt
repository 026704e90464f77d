-- Rows for the Khmer grammar, by another reading of its rules, which tries all ways to take a text.
use Rattle.std.proofs.Common.{◌≡◌, ℕ, List, [], ◌∷◌, map, refl}
use Rattle.shapers_spans.specs.Khmer.{khmer_rules, khmer_grammar}
use Rattle.shapers_spans.proofs.GrammarRows.{kind_by}
use Rattle.shapers_spans.proofs.Steps.{nullable, same, chain, member, before, insert, union, step}
use Rattle.shapers_spans.proofs.Tables.{first_kind, after}

-- the categories that its rules name, and one that none names
khmer_categories : List ℕ
khmer_categories = 1 ∷ 2 ∷ 4 ∷ 5 ∷ 6 ∷ 10 ∷ 11 ∷ 15 ∷ 20 ∷ 21 ∷ 22 ∷ 23 ∷ 25 ∷ 26 ∷ 27 ∷ 0 ∷ []

-- each alone (255: no rule takes it)
khmer_alone : map (kind_by khmer_grammar) (map (λ (k : ℕ). k ∷ []) khmer_categories) ≡ 0 ∷ 0 ∷ 1 ∷ 255 ∷ 255 ∷ 0 ∷ 0 ∷ 0
    ∷ 1 ∷ 1 ∷ 1 ∷ 1 ∷ 1 ∷ 1 ∷ 1 ∷ 255 ∷ []
unfolding khmer_rules khmer_grammar kind_by nullable same chain member before insert union step first_kind after
    khmer_categories
khmer_alone = refl

-- each pair of neighbours: a row for each first category
khmer_pairs : map (λ (a : ℕ). map (λ (b : ℕ). kind_by khmer_grammar (a ∷ b ∷ [])) khmer_categories) khmer_categories ≡
    (255 ∷ 255 ∷ 0 ∷ 255 ∷ 255 ∷ 255 ∷ 255 ∷ 255 ∷ 0 ∷ 0 ∷ 0 ∷ 0 ∷ 0 ∷ 0 ∷ 0 ∷ 255 ∷ []) ∷
    (255 ∷ 255 ∷ 0 ∷ 255 ∷ 255 ∷ 255 ∷ 255 ∷ 255 ∷ 0 ∷ 0 ∷ 0 ∷ 0 ∷ 0 ∷ 0 ∷ 0 ∷ 255 ∷ []) ∷
    (1 ∷ 1 ∷ 255 ∷ 255 ∷ 255 ∷ 255 ∷ 255 ∷ 1 ∷ 255 ∷ 255 ∷ 255 ∷ 255 ∷ 255 ∷ 255 ∷ 255 ∷ 255 ∷ []) ∷
    (255 ∷ 255 ∷ 255 ∷ 255 ∷ 255 ∷ 255 ∷ 255 ∷ 255 ∷ 1 ∷ 255 ∷ 255 ∷ 255 ∷ 255 ∷ 1 ∷ 255 ∷ 255 ∷ []) ∷
    (255 ∷ 255 ∷ 255 ∷ 255 ∷ 255 ∷ 255 ∷ 255 ∷ 255 ∷ 1 ∷ 255 ∷ 255 ∷ 255 ∷ 255 ∷ 1 ∷ 255 ∷ 255 ∷ []) ∷
    (255 ∷ 255 ∷ 0 ∷ 255 ∷ 255 ∷ 255 ∷ 255 ∷ 255 ∷ 0 ∷ 0 ∷ 0 ∷ 0 ∷ 0 ∷ 0 ∷ 0 ∷ 255 ∷ []) ∷
    (255 ∷ 255 ∷ 0 ∷ 255 ∷ 255 ∷ 255 ∷ 255 ∷ 255 ∷ 0 ∷ 0 ∷ 0 ∷ 0 ∷ 0 ∷ 0 ∷ 0 ∷ 255 ∷ []) ∷
    (255 ∷ 255 ∷ 0 ∷ 255 ∷ 255 ∷ 255 ∷ 255 ∷ 255 ∷ 0 ∷ 0 ∷ 0 ∷ 0 ∷ 0 ∷ 0 ∷ 0 ∷ 255 ∷ []) ∷
    (255 ∷ 255 ∷ 255 ∷ 255 ∷ 255 ∷ 255 ∷ 255 ∷ 255 ∷ 255 ∷ 255 ∷ 255 ∷ 1 ∷ 255 ∷ 1 ∷ 1 ∷ 255 ∷ []) ∷
    (255 ∷ 255 ∷ 255 ∷ 255 ∷ 255 ∷ 255 ∷ 255 ∷ 255 ∷ 1 ∷ 255 ∷ 255 ∷ 1 ∷ 255 ∷ 1 ∷ 1 ∷ 255 ∷ []) ∷
    (255 ∷ 255 ∷ 255 ∷ 255 ∷ 255 ∷ 255 ∷ 255 ∷ 255 ∷ 1 ∷ 1 ∷ 255 ∷ 1 ∷ 255 ∷ 1 ∷ 1 ∷ 255 ∷ []) ∷
    (255 ∷ 255 ∷ 255 ∷ 255 ∷ 255 ∷ 255 ∷ 255 ∷ 255 ∷ 255 ∷ 255 ∷ 255 ∷ 255 ∷ 255 ∷ 1 ∷ 1 ∷ 255 ∷ []) ∷
    (255 ∷ 255 ∷ 1 ∷ 255 ∷ 255 ∷ 255 ∷ 255 ∷ 255 ∷ 1 ∷ 1 ∷ 1 ∷ 1 ∷ 255 ∷ 1 ∷ 1 ∷ 255 ∷ []) ∷
    (255 ∷ 255 ∷ 255 ∷ 255 ∷ 255 ∷ 255 ∷ 255 ∷ 255 ∷ 1 ∷ 1 ∷ 1 ∷ 1 ∷ 255 ∷ 1 ∷ 1 ∷ 255 ∷ []) ∷
    (255 ∷ 255 ∷ 255 ∷ 255 ∷ 255 ∷ 255 ∷ 255 ∷ 255 ∷ 255 ∷ 255 ∷ 255 ∷ 255 ∷ 255 ∷ 255 ∷ 1 ∷ 255 ∷ []) ∷
    (255 ∷ 255 ∷ 255 ∷ 255 ∷ 255 ∷ 255 ∷ 255 ∷ 255 ∷ 255 ∷ 255 ∷ 255 ∷ 255 ∷ 255 ∷ 255 ∷ 255 ∷ 255 ∷ []) ∷
    []
unfolding khmer_rules khmer_grammar kind_by nullable same chain member before insert union step first_kind after
    khmer_categories
khmer_pairs = refl

-- syllables of each rule, short and long, broken ones, and texts that no rule takes
khmer_kinds : map (kind_by khmer_grammar) (
    (1 ∷ []) ∷
    (15 ∷ []) ∷
    (2 ∷ []) ∷
    (1 ∷ 4 ∷ 15 ∷ 4 ∷ 1 ∷ 22 ∷ 26 ∷ 20 ∷ 23 ∷ 26 ∷ 4 ∷ 1 ∷ 27 ∷ []) ∷
    (10 ∷ 6 ∷ 25 ∷ []) ∷
    (11 ∷ 4 ∷ 1 ∷ 26 ∷ []) ∷
    (1 ∷ 5 ∷ 25 ∷ 4 ∷ []) ∷
    (4 ∷ []) ∷
    (25 ∷ []) ∷
    (4 ∷ 1 ∷ 20 ∷ 27 ∷ []) ∷
    (26 ∷ []) ∷
    (5 ∷ 26 ∷ []) ∷
    (27 ∷ []) ∷
    (5 ∷ []) ∷
    (0 ∷ []) ∷
    (10 ∷ []) ∷
    []) ≡ 0 ∷ 0 ∷ 0 ∷ 0 ∷ 255 ∷ 0 ∷ 0 ∷ 1 ∷ 1 ∷ 1 ∷ 1 ∷ 1 ∷ 1 ∷ 255 ∷ 255 ∷ 0 ∷ []
unfolding khmer_rules khmer_grammar kind_by nullable same chain member before insert union step first_kind after
khmer_kinds = refl
