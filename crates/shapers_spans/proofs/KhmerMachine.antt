-- Made by checks/machines: the tables are those of the rules.
use Rattle.std.proofs.Common.{◌≡◌, ℕ, ◌+◌, ◌*◌, ◌<◌, Bool, IsTrue, true, refl, List, [], ◌∷◌, get_or, arith, rules, lit<, lit≤, ◌≤◌}
use Rattle.shapers_spans.specs.Cycling.{AreTablesOf, CellCycles, has_cycle}
use Rattle.shapers_spans.proofs.Facts.{entries_below, entries_are, entry-below, dead_ok, dead-ends}
use Rattle.shapers_spans.specs.Re.{Re}
use Rattle.shapers_spans.specs.Grammar.{IsKind, KindsFit}
use Rattle.shapers_spans.specs.Machine.{ends_by, state_behind}
use Rattle.shapers_spans.specs.Khmer.{khmer_rules, khmer_grammar}
use Rattle.shapers_spans.specs.KhmerMachine.{khmer_tables, khmer_cycling}
use Rattle.shapers_spans.specs.declared.khmer.TheConstants.{CLASSES, ROWS}
use Rattle.shapers_spans.proofs.Steps.{nullable, same, chain, member, before, insert, union, step}
use Rattle.shapers_spans.proofs.Tables.{first_kind, kinds_fit}
use Rattle.shapers_spans.proofs.Simulation.{known_states, same_all, below, all_below, zeros, cell_ok, row_ok, state_ok, states_ok, machine_ok, machine-is}
use Rattle.shapers_spans.proofs.CyclingFacts.{cell_cycles, row_cycles, state_cycles, states_cycle, cycling_ok, cell-cycles, state-cycles, state-lives}

-- how what is left of the rules was found: from which state, by which category
found : List (ℕ × ℕ)
found = (0, 0) ∷ (0, 1) ∷ (0, 4) ∷ (0, 5) ∷ (0, 10) ∷ (0, 20) ∷ (0, 21) ∷ (0, 22) ∷ (0, 23) ∷ (0, 25) ∷ (0, 26) ∷ (0, 27) ∷ (2, 4) ∷ (2, 5) ∷ (2, 20) ∷ (2, 21) ∷ (2, 22) ∷ (2, 23) ∷ (2, 25) ∷ (2, 26) ∷ (2, 27) ∷ (3, 1) ∷ (4, 5) ∷ (5, 5) ∷ (5, 25) ∷ (6, 4) ∷ (6, 5) ∷ (6, 26) ∷ (7, 5) ∷ (7, 26) ∷ (8, 5) ∷ (8, 26) ∷ (9, 5) ∷ (13, 1) ∷ (14, 5) ∷ (15, 4) ∷ (15, 5) ∷ (15, 26) ∷ (16, 5) ∷ (16, 26) ∷ (17, 5) ∷ (17, 26) ∷ (18, 5) ∷ (22, 5) ∷ (29, 5) ∷ (31, 5) ∷ (34, 5) ∷ (39, 5) ∷ (41, 5) ∷ []

-- the machine's state for each
states : List ℕ
states = 0 ∷ 32 ∷ 12 ∷ 13 ∷ 1 ∷ 14 ∷ 15 ∷ 16 ∷ 17 ∷ 18 ∷ 19 ∷ 20 ∷ 21 ∷ 22 ∷ 2 ∷ 23 ∷ 24 ∷ 25 ∷ 26 ∷ 14 ∷ 27 ∷ 28 ∷ 29 ∷ 33 ∷ 3 ∷ 30 ∷ 4 ∷ 34 ∷ 15 ∷ 5 ∷ 16 ∷ 6 ∷ 17 ∷ 35 ∷ 31 ∷ 36 ∷ 7 ∷ 37 ∷ 23 ∷ 8 ∷ 24 ∷ 9 ∷ 25 ∷ 38 ∷ 10 ∷ 39 ∷ 40 ∷ 11 ∷ 41 ∷ 42 ∷ []

-- where each category leads
leading : List (List ℕ)
leading =
    (1 ∷ 2 ∷ 2 ∷ 1 ∷ 3 ∷ 4 ∷ 4 ∷ 1 ∷ 1 ∷ 1 ∷ 5 ∷ 5 ∷ 1 ∷ 1 ∷ 1 ∷ 2 ∷ 1 ∷ 1 ∷ 1 ∷ 1 ∷ 6 ∷ 7 ∷ 8 ∷ 9 ∷ 1 ∷ 10 ∷ 11 ∷ 12 ∷ 1 ∷ []) ∷
    (1 ∷ 1 ∷ 1 ∷ 1 ∷ 1 ∷ 1 ∷ 1 ∷ 1 ∷ 1 ∷ 1 ∷ 1 ∷ 1 ∷ 1 ∷ 1 ∷ 1 ∷ 1 ∷ 1 ∷ 1 ∷ 1 ∷ 1 ∷ 1 ∷ 1 ∷ 1 ∷ 1 ∷ 1 ∷ 1 ∷ 1 ∷ 1 ∷ 1 ∷ []) ∷
    (1 ∷ 1 ∷ 1 ∷ 1 ∷ 13 ∷ 14 ∷ 14 ∷ 1 ∷ 1 ∷ 1 ∷ 1 ∷ 1 ∷ 1 ∷ 1 ∷ 1 ∷ 1 ∷ 1 ∷ 1 ∷ 1 ∷ 1 ∷ 15 ∷ 16 ∷ 17 ∷ 18 ∷ 1 ∷ 19 ∷ 20 ∷ 21 ∷ 1 ∷ []) ∷
    (1 ∷ 22 ∷ 22 ∷ 1 ∷ 1 ∷ 1 ∷ 1 ∷ 1 ∷ 1 ∷ 1 ∷ 1 ∷ 1 ∷ 1 ∷ 1 ∷ 1 ∷ 22 ∷ 1 ∷ 1 ∷ 1 ∷ 1 ∷ 1 ∷ 1 ∷ 1 ∷ 1 ∷ 1 ∷ 1 ∷ 1 ∷ 1 ∷ 1 ∷ []) ∷
    (1 ∷ 1 ∷ 1 ∷ 1 ∷ 1 ∷ 23 ∷ 23 ∷ 1 ∷ 1 ∷ 1 ∷ 1 ∷ 1 ∷ 1 ∷ 1 ∷ 1 ∷ 1 ∷ 1 ∷ 1 ∷ 1 ∷ 1 ∷ 6 ∷ 1 ∷ 1 ∷ 1 ∷ 1 ∷ 1 ∷ 11 ∷ 1 ∷ 1 ∷ []) ∷
    (1 ∷ 1 ∷ 1 ∷ 1 ∷ 13 ∷ 24 ∷ 24 ∷ 1 ∷ 1 ∷ 1 ∷ 1 ∷ 1 ∷ 1 ∷ 1 ∷ 1 ∷ 1 ∷ 1 ∷ 1 ∷ 1 ∷ 1 ∷ 15 ∷ 16 ∷ 17 ∷ 18 ∷ 1 ∷ 25 ∷ 20 ∷ 21 ∷ 1 ∷ []) ∷
    (1 ∷ 1 ∷ 1 ∷ 1 ∷ 26 ∷ 27 ∷ 27 ∷ 1 ∷ 1 ∷ 1 ∷ 1 ∷ 1 ∷ 1 ∷ 1 ∷ 1 ∷ 1 ∷ 1 ∷ 1 ∷ 1 ∷ 1 ∷ 1 ∷ 1 ∷ 1 ∷ 9 ∷ 1 ∷ 1 ∷ 28 ∷ 12 ∷ 1 ∷ []) ∷
    (1 ∷ 1 ∷ 1 ∷ 1 ∷ 26 ∷ 29 ∷ 29 ∷ 1 ∷ 1 ∷ 1 ∷ 1 ∷ 1 ∷ 1 ∷ 1 ∷ 1 ∷ 1 ∷ 1 ∷ 1 ∷ 1 ∷ 1 ∷ 6 ∷ 1 ∷ 1 ∷ 9 ∷ 1 ∷ 1 ∷ 30 ∷ 12 ∷ 1 ∷ []) ∷
    (1 ∷ 1 ∷ 1 ∷ 1 ∷ 26 ∷ 31 ∷ 31 ∷ 1 ∷ 1 ∷ 1 ∷ 1 ∷ 1 ∷ 1 ∷ 1 ∷ 1 ∷ 1 ∷ 1 ∷ 1 ∷ 1 ∷ 1 ∷ 6 ∷ 7 ∷ 1 ∷ 9 ∷ 1 ∷ 1 ∷ 32 ∷ 12 ∷ 1 ∷ []) ∷
    (1 ∷ 1 ∷ 1 ∷ 1 ∷ 26 ∷ 33 ∷ 33 ∷ 1 ∷ 1 ∷ 1 ∷ 1 ∷ 1 ∷ 1 ∷ 1 ∷ 1 ∷ 1 ∷ 1 ∷ 1 ∷ 1 ∷ 1 ∷ 1 ∷ 1 ∷ 1 ∷ 1 ∷ 1 ∷ 1 ∷ 9 ∷ 12 ∷ 1 ∷ []) ∷
    (1 ∷ 1 ∷ 1 ∷ 1 ∷ 3 ∷ 4 ∷ 4 ∷ 1 ∷ 1 ∷ 1 ∷ 1 ∷ 1 ∷ 1 ∷ 1 ∷ 1 ∷ 1 ∷ 1 ∷ 1 ∷ 1 ∷ 1 ∷ 6 ∷ 7 ∷ 8 ∷ 9 ∷ 1 ∷ 1 ∷ 11 ∷ 12 ∷ 1 ∷ []) ∷
    (1 ∷ 1 ∷ 1 ∷ 1 ∷ 26 ∷ 4 ∷ 4 ∷ 1 ∷ 1 ∷ 1 ∷ 1 ∷ 1 ∷ 1 ∷ 1 ∷ 1 ∷ 1 ∷ 1 ∷ 1 ∷ 1 ∷ 1 ∷ 6 ∷ 7 ∷ 8 ∷ 9 ∷ 1 ∷ 1 ∷ 11 ∷ 12 ∷ 1 ∷ []) ∷
    (1 ∷ 1 ∷ 1 ∷ 1 ∷ 1 ∷ 1 ∷ 1 ∷ 1 ∷ 1 ∷ 1 ∷ 1 ∷ 1 ∷ 1 ∷ 1 ∷ 1 ∷ 1 ∷ 1 ∷ 1 ∷ 1 ∷ 1 ∷ 1 ∷ 1 ∷ 1 ∷ 1 ∷ 1 ∷ 1 ∷ 1 ∷ 12 ∷ 1 ∷ []) ∷
    (1 ∷ 34 ∷ 34 ∷ 1 ∷ 1 ∷ 1 ∷ 1 ∷ 1 ∷ 1 ∷ 1 ∷ 1 ∷ 1 ∷ 1 ∷ 1 ∷ 1 ∷ 34 ∷ 1 ∷ 1 ∷ 1 ∷ 1 ∷ 1 ∷ 1 ∷ 1 ∷ 1 ∷ 1 ∷ 1 ∷ 1 ∷ 1 ∷ 1 ∷ []) ∷
    (1 ∷ 1 ∷ 1 ∷ 1 ∷ 1 ∷ 35 ∷ 35 ∷ 1 ∷ 1 ∷ 1 ∷ 1 ∷ 1 ∷ 1 ∷ 1 ∷ 1 ∷ 1 ∷ 1 ∷ 1 ∷ 1 ∷ 1 ∷ 15 ∷ 1 ∷ 1 ∷ 1 ∷ 1 ∷ 5 ∷ 20 ∷ 1 ∷ 1 ∷ []) ∷
    (1 ∷ 1 ∷ 1 ∷ 1 ∷ 36 ∷ 37 ∷ 37 ∷ 1 ∷ 1 ∷ 1 ∷ 1 ∷ 1 ∷ 1 ∷ 1 ∷ 1 ∷ 1 ∷ 1 ∷ 1 ∷ 1 ∷ 1 ∷ 1 ∷ 1 ∷ 1 ∷ 18 ∷ 1 ∷ 1 ∷ 38 ∷ 21 ∷ 1 ∷ []) ∷
    (1 ∷ 1 ∷ 1 ∷ 1 ∷ 36 ∷ 39 ∷ 39 ∷ 1 ∷ 1 ∷ 1 ∷ 1 ∷ 1 ∷ 1 ∷ 1 ∷ 1 ∷ 1 ∷ 1 ∷ 1 ∷ 1 ∷ 1 ∷ 15 ∷ 1 ∷ 1 ∷ 18 ∷ 1 ∷ 1 ∷ 40 ∷ 21 ∷ 1 ∷ []) ∷
    (1 ∷ 1 ∷ 1 ∷ 1 ∷ 36 ∷ 41 ∷ 41 ∷ 1 ∷ 1 ∷ 1 ∷ 1 ∷ 1 ∷ 1 ∷ 1 ∷ 1 ∷ 1 ∷ 1 ∷ 1 ∷ 1 ∷ 1 ∷ 15 ∷ 16 ∷ 1 ∷ 18 ∷ 1 ∷ 1 ∷ 42 ∷ 21 ∷ 1 ∷ []) ∷
    (1 ∷ 1 ∷ 1 ∷ 1 ∷ 36 ∷ 43 ∷ 43 ∷ 1 ∷ 1 ∷ 1 ∷ 1 ∷ 1 ∷ 1 ∷ 1 ∷ 1 ∷ 1 ∷ 1 ∷ 1 ∷ 1 ∷ 1 ∷ 1 ∷ 1 ∷ 1 ∷ 1 ∷ 1 ∷ 1 ∷ 18 ∷ 21 ∷ 1 ∷ []) ∷
    (1 ∷ 1 ∷ 1 ∷ 1 ∷ 13 ∷ 24 ∷ 24 ∷ 1 ∷ 1 ∷ 1 ∷ 1 ∷ 1 ∷ 1 ∷ 1 ∷ 1 ∷ 1 ∷ 1 ∷ 1 ∷ 1 ∷ 1 ∷ 15 ∷ 16 ∷ 17 ∷ 18 ∷ 1 ∷ 25 ∷ 20 ∷ 21 ∷ 1 ∷ []) ∷
    (1 ∷ 1 ∷ 1 ∷ 1 ∷ 36 ∷ 24 ∷ 24 ∷ 1 ∷ 1 ∷ 1 ∷ 1 ∷ 1 ∷ 1 ∷ 1 ∷ 1 ∷ 1 ∷ 1 ∷ 1 ∷ 1 ∷ 1 ∷ 15 ∷ 16 ∷ 17 ∷ 18 ∷ 1 ∷ 1 ∷ 20 ∷ 21 ∷ 1 ∷ []) ∷
    (1 ∷ 1 ∷ 1 ∷ 1 ∷ 1 ∷ 1 ∷ 1 ∷ 1 ∷ 1 ∷ 1 ∷ 1 ∷ 1 ∷ 1 ∷ 1 ∷ 1 ∷ 1 ∷ 1 ∷ 1 ∷ 1 ∷ 1 ∷ 1 ∷ 1 ∷ 1 ∷ 1 ∷ 1 ∷ 1 ∷ 1 ∷ 21 ∷ 1 ∷ []) ∷
    (1 ∷ 1 ∷ 1 ∷ 1 ∷ 3 ∷ 44 ∷ 44 ∷ 1 ∷ 1 ∷ 1 ∷ 1 ∷ 1 ∷ 1 ∷ 1 ∷ 1 ∷ 1 ∷ 1 ∷ 1 ∷ 1 ∷ 1 ∷ 6 ∷ 7 ∷ 8 ∷ 9 ∷ 1 ∷ 10 ∷ 11 ∷ 12 ∷ 1 ∷ []) ∷
    (1 ∷ 1 ∷ 1 ∷ 1 ∷ 1 ∷ 23 ∷ 23 ∷ 1 ∷ 1 ∷ 1 ∷ 1 ∷ 1 ∷ 1 ∷ 1 ∷ 1 ∷ 1 ∷ 1 ∷ 1 ∷ 1 ∷ 1 ∷ 1 ∷ 1 ∷ 1 ∷ 1 ∷ 1 ∷ 1 ∷ 11 ∷ 1 ∷ 1 ∷ []) ∷
    (1 ∷ 1 ∷ 1 ∷ 1 ∷ 1 ∷ 35 ∷ 35 ∷ 1 ∷ 1 ∷ 1 ∷ 1 ∷ 1 ∷ 1 ∷ 1 ∷ 1 ∷ 1 ∷ 1 ∷ 1 ∷ 1 ∷ 1 ∷ 15 ∷ 1 ∷ 1 ∷ 1 ∷ 1 ∷ 1 ∷ 20 ∷ 1 ∷ 1 ∷ []) ∷
    (1 ∷ 1 ∷ 1 ∷ 1 ∷ 13 ∷ 24 ∷ 24 ∷ 1 ∷ 1 ∷ 1 ∷ 1 ∷ 1 ∷ 1 ∷ 1 ∷ 1 ∷ 1 ∷ 1 ∷ 1 ∷ 1 ∷ 1 ∷ 15 ∷ 16 ∷ 17 ∷ 18 ∷ 1 ∷ 1 ∷ 20 ∷ 21 ∷ 1 ∷ []) ∷
    (1 ∷ 12 ∷ 12 ∷ 1 ∷ 1 ∷ 1 ∷ 1 ∷ 1 ∷ 1 ∷ 1 ∷ 1 ∷ 1 ∷ 1 ∷ 1 ∷ 1 ∷ 12 ∷ 1 ∷ 1 ∷ 1 ∷ 1 ∷ 1 ∷ 1 ∷ 1 ∷ 1 ∷ 1 ∷ 1 ∷ 1 ∷ 1 ∷ 1 ∷ []) ∷
    (1 ∷ 1 ∷ 1 ∷ 1 ∷ 1 ∷ 27 ∷ 27 ∷ 1 ∷ 1 ∷ 1 ∷ 1 ∷ 1 ∷ 1 ∷ 1 ∷ 1 ∷ 1 ∷ 1 ∷ 1 ∷ 1 ∷ 1 ∷ 1 ∷ 1 ∷ 1 ∷ 1 ∷ 1 ∷ 1 ∷ 28 ∷ 1 ∷ 1 ∷ []) ∷
    (1 ∷ 1 ∷ 1 ∷ 1 ∷ 26 ∷ 27 ∷ 27 ∷ 1 ∷ 1 ∷ 1 ∷ 1 ∷ 1 ∷ 1 ∷ 1 ∷ 1 ∷ 1 ∷ 1 ∷ 1 ∷ 1 ∷ 1 ∷ 1 ∷ 1 ∷ 1 ∷ 9 ∷ 1 ∷ 1 ∷ 28 ∷ 12 ∷ 1 ∷ []) ∷
    (1 ∷ 1 ∷ 1 ∷ 1 ∷ 1 ∷ 45 ∷ 45 ∷ 1 ∷ 1 ∷ 1 ∷ 1 ∷ 1 ∷ 1 ∷ 1 ∷ 1 ∷ 1 ∷ 1 ∷ 1 ∷ 1 ∷ 1 ∷ 6 ∷ 1 ∷ 1 ∷ 1 ∷ 1 ∷ 1 ∷ 30 ∷ 1 ∷ 1 ∷ []) ∷
    (1 ∷ 1 ∷ 1 ∷ 1 ∷ 26 ∷ 29 ∷ 29 ∷ 1 ∷ 1 ∷ 1 ∷ 1 ∷ 1 ∷ 1 ∷ 1 ∷ 1 ∷ 1 ∷ 1 ∷ 1 ∷ 1 ∷ 1 ∷ 6 ∷ 1 ∷ 1 ∷ 9 ∷ 1 ∷ 1 ∷ 30 ∷ 12 ∷ 1 ∷ []) ∷
    (1 ∷ 1 ∷ 1 ∷ 1 ∷ 1 ∷ 46 ∷ 46 ∷ 1 ∷ 1 ∷ 1 ∷ 1 ∷ 1 ∷ 1 ∷ 1 ∷ 1 ∷ 1 ∷ 1 ∷ 1 ∷ 1 ∷ 1 ∷ 6 ∷ 1 ∷ 1 ∷ 1 ∷ 1 ∷ 1 ∷ 32 ∷ 1 ∷ 1 ∷ []) ∷
    (1 ∷ 1 ∷ 1 ∷ 1 ∷ 26 ∷ 31 ∷ 31 ∷ 1 ∷ 1 ∷ 1 ∷ 1 ∷ 1 ∷ 1 ∷ 1 ∷ 1 ∷ 1 ∷ 1 ∷ 1 ∷ 1 ∷ 1 ∷ 6 ∷ 7 ∷ 1 ∷ 9 ∷ 1 ∷ 1 ∷ 32 ∷ 12 ∷ 1 ∷ []) ∷
    (1 ∷ 1 ∷ 1 ∷ 1 ∷ 1 ∷ 33 ∷ 33 ∷ 1 ∷ 1 ∷ 1 ∷ 1 ∷ 1 ∷ 1 ∷ 1 ∷ 1 ∷ 1 ∷ 1 ∷ 1 ∷ 1 ∷ 1 ∷ 1 ∷ 1 ∷ 1 ∷ 1 ∷ 1 ∷ 1 ∷ 9 ∷ 1 ∷ 1 ∷ []) ∷
    (1 ∷ 1 ∷ 1 ∷ 1 ∷ 13 ∷ 47 ∷ 47 ∷ 1 ∷ 1 ∷ 1 ∷ 1 ∷ 1 ∷ 1 ∷ 1 ∷ 1 ∷ 1 ∷ 1 ∷ 1 ∷ 1 ∷ 1 ∷ 15 ∷ 16 ∷ 17 ∷ 18 ∷ 1 ∷ 25 ∷ 20 ∷ 21 ∷ 1 ∷ []) ∷
    (1 ∷ 1 ∷ 1 ∷ 1 ∷ 1 ∷ 35 ∷ 35 ∷ 1 ∷ 1 ∷ 1 ∷ 1 ∷ 1 ∷ 1 ∷ 1 ∷ 1 ∷ 1 ∷ 1 ∷ 1 ∷ 1 ∷ 1 ∷ 1 ∷ 1 ∷ 1 ∷ 1 ∷ 1 ∷ 1 ∷ 20 ∷ 1 ∷ 1 ∷ []) ∷
    (1 ∷ 21 ∷ 21 ∷ 1 ∷ 1 ∷ 1 ∷ 1 ∷ 1 ∷ 1 ∷ 1 ∷ 1 ∷ 1 ∷ 1 ∷ 1 ∷ 1 ∷ 21 ∷ 1 ∷ 1 ∷ 1 ∷ 1 ∷ 1 ∷ 1 ∷ 1 ∷ 1 ∷ 1 ∷ 1 ∷ 1 ∷ 1 ∷ 1 ∷ []) ∷
    (1 ∷ 1 ∷ 1 ∷ 1 ∷ 1 ∷ 37 ∷ 37 ∷ 1 ∷ 1 ∷ 1 ∷ 1 ∷ 1 ∷ 1 ∷ 1 ∷ 1 ∷ 1 ∷ 1 ∷ 1 ∷ 1 ∷ 1 ∷ 1 ∷ 1 ∷ 1 ∷ 1 ∷ 1 ∷ 1 ∷ 38 ∷ 1 ∷ 1 ∷ []) ∷
    (1 ∷ 1 ∷ 1 ∷ 1 ∷ 36 ∷ 37 ∷ 37 ∷ 1 ∷ 1 ∷ 1 ∷ 1 ∷ 1 ∷ 1 ∷ 1 ∷ 1 ∷ 1 ∷ 1 ∷ 1 ∷ 1 ∷ 1 ∷ 1 ∷ 1 ∷ 1 ∷ 18 ∷ 1 ∷ 1 ∷ 38 ∷ 21 ∷ 1 ∷ []) ∷
    (1 ∷ 1 ∷ 1 ∷ 1 ∷ 1 ∷ 48 ∷ 48 ∷ 1 ∷ 1 ∷ 1 ∷ 1 ∷ 1 ∷ 1 ∷ 1 ∷ 1 ∷ 1 ∷ 1 ∷ 1 ∷ 1 ∷ 1 ∷ 15 ∷ 1 ∷ 1 ∷ 1 ∷ 1 ∷ 1 ∷ 40 ∷ 1 ∷ 1 ∷ []) ∷
    (1 ∷ 1 ∷ 1 ∷ 1 ∷ 36 ∷ 39 ∷ 39 ∷ 1 ∷ 1 ∷ 1 ∷ 1 ∷ 1 ∷ 1 ∷ 1 ∷ 1 ∷ 1 ∷ 1 ∷ 1 ∷ 1 ∷ 1 ∷ 15 ∷ 1 ∷ 1 ∷ 18 ∷ 1 ∷ 1 ∷ 40 ∷ 21 ∷ 1 ∷ []) ∷
    (1 ∷ 1 ∷ 1 ∷ 1 ∷ 1 ∷ 49 ∷ 49 ∷ 1 ∷ 1 ∷ 1 ∷ 1 ∷ 1 ∷ 1 ∷ 1 ∷ 1 ∷ 1 ∷ 1 ∷ 1 ∷ 1 ∷ 1 ∷ 15 ∷ 1 ∷ 1 ∷ 1 ∷ 1 ∷ 1 ∷ 42 ∷ 1 ∷ 1 ∷ []) ∷
    (1 ∷ 1 ∷ 1 ∷ 1 ∷ 36 ∷ 41 ∷ 41 ∷ 1 ∷ 1 ∷ 1 ∷ 1 ∷ 1 ∷ 1 ∷ 1 ∷ 1 ∷ 1 ∷ 1 ∷ 1 ∷ 1 ∷ 1 ∷ 15 ∷ 16 ∷ 1 ∷ 18 ∷ 1 ∷ 1 ∷ 42 ∷ 21 ∷ 1 ∷ []) ∷
    (1 ∷ 1 ∷ 1 ∷ 1 ∷ 1 ∷ 43 ∷ 43 ∷ 1 ∷ 1 ∷ 1 ∷ 1 ∷ 1 ∷ 1 ∷ 1 ∷ 1 ∷ 1 ∷ 1 ∷ 1 ∷ 1 ∷ 1 ∷ 1 ∷ 1 ∷ 1 ∷ 1 ∷ 1 ∷ 1 ∷ 18 ∷ 1 ∷ 1 ∷ []) ∷
    (1 ∷ 1 ∷ 1 ∷ 1 ∷ 1 ∷ 23 ∷ 23 ∷ 1 ∷ 1 ∷ 1 ∷ 1 ∷ 1 ∷ 1 ∷ 1 ∷ 1 ∷ 1 ∷ 1 ∷ 1 ∷ 1 ∷ 1 ∷ 6 ∷ 1 ∷ 1 ∷ 1 ∷ 1 ∷ 10 ∷ 11 ∷ 1 ∷ 1 ∷ []) ∷
    (1 ∷ 1 ∷ 1 ∷ 1 ∷ 1 ∷ 45 ∷ 45 ∷ 1 ∷ 1 ∷ 1 ∷ 1 ∷ 1 ∷ 1 ∷ 1 ∷ 1 ∷ 1 ∷ 1 ∷ 1 ∷ 1 ∷ 1 ∷ 1 ∷ 1 ∷ 1 ∷ 1 ∷ 1 ∷ 1 ∷ 30 ∷ 1 ∷ 1 ∷ []) ∷
    (1 ∷ 1 ∷ 1 ∷ 1 ∷ 1 ∷ 46 ∷ 46 ∷ 1 ∷ 1 ∷ 1 ∷ 1 ∷ 1 ∷ 1 ∷ 1 ∷ 1 ∷ 1 ∷ 1 ∷ 1 ∷ 1 ∷ 1 ∷ 1 ∷ 1 ∷ 1 ∷ 1 ∷ 1 ∷ 1 ∷ 32 ∷ 1 ∷ 1 ∷ []) ∷
    (1 ∷ 1 ∷ 1 ∷ 1 ∷ 1 ∷ 35 ∷ 35 ∷ 1 ∷ 1 ∷ 1 ∷ 1 ∷ 1 ∷ 1 ∷ 1 ∷ 1 ∷ 1 ∷ 1 ∷ 1 ∷ 1 ∷ 1 ∷ 15 ∷ 1 ∷ 1 ∷ 1 ∷ 1 ∷ 25 ∷ 20 ∷ 1 ∷ 1 ∷ []) ∷
    (1 ∷ 1 ∷ 1 ∷ 1 ∷ 1 ∷ 48 ∷ 48 ∷ 1 ∷ 1 ∷ 1 ∷ 1 ∷ 1 ∷ 1 ∷ 1 ∷ 1 ∷ 1 ∷ 1 ∷ 1 ∷ 1 ∷ 1 ∷ 1 ∷ 1 ∷ 1 ∷ 1 ∷ 1 ∷ 1 ∷ 40 ∷ 1 ∷ 1 ∷ []) ∷
    (1 ∷ 1 ∷ 1 ∷ 1 ∷ 1 ∷ 49 ∷ 49 ∷ 1 ∷ 1 ∷ 1 ∷ 1 ∷ 1 ∷ 1 ∷ 1 ∷ 1 ∷ 1 ∷ 1 ∷ 1 ∷ 1 ∷ 1 ∷ 1 ∷ 1 ∷ 1 ∷ 1 ∷ 1 ∷ 1 ∷ 42 ∷ 1 ∷ 1 ∷ []) ∷
    []

unfoldable khmer_states : List (List Re)
unfolding found khmer_rules known_states nullable same chain member before insert union step
khmer_states = known_states found (khmer_rules ∷ [])

khmer_machine_ok : machine_ok khmer_states states khmer_tables 28 leading khmer_grammar ≡ true
unfolding khmer_states found states leading khmer_rules khmer_grammar known_states nullable same chain member before insert union step first_kind kinds_fit same_all below all_below zeros cell_ok row_ok state_ok states_ok machine_ok
khmer_machine_ok = refl

khmer_machine-is : (w : List ℕ) → IsKind khmer_grammar w (ends_by khmer_tables 0 w)
khmer_machine-is = machine-is khmer_states states khmer_tables 28 leading khmer_grammar khmer_machine_ok

khmer_rows_ok : entries_below 43 ROWS ≡ true
unfolding entries_below
khmer_rows_ok = refl

khmer_classes_ok : entries_below 12 CLASSES ≡ true
unfolding entries_below
khmer_classes_ok = refl

khmer_dead_ok : dead_ok khmer_tables 32 ≡ true
unfolding dead_ok entries_below entries_are
khmer_dead_ok = refl

khmer_place : (q k : ℕ) → q < 43 → q * 12 + get_or CLASSES k 0 < 516
khmer_place q k h =
    let c : get_or CLASSES k 0 < 12 = entry-below 12 CLASSES k (lit< tt) khmer_classes_ok in
    in_row q (get_or CLASSES k 0) h c
  where
    in_row : (q c : ℕ) → q < 43 → c < 12 → q * 12 + c < 516
    in_row q c h l = omega arith

khmer_kinds_ok : entries_below 16 khmer_grammar.kinds ≡ true
unfolding khmer_grammar entries_below
khmer_kinds_ok = refl

khmer_fit : KindsFit khmer_grammar
unfolding khmer_grammar
khmer_fit = record {
  rules = (λ j. below_16 (get_or khmer_grammar.kinds j 0) (entry-below 16 khmer_grammar.kinds j (lit< tt) khmer_kinds_ok));
  other_fits = lit≤ tt;
}
  where
    below_16 : (k : ℕ) → k < 16 → k ≤ 15
    below_16 k h = omega arith

pub khmer_other : 2 ≡ khmer_grammar.other
unfolding khmer_grammar
khmer_other = refl

khmer_cycling_ok : cycling_ok khmer_tables khmer_cycling 43 ≡ true
unfolding khmer_cycling cell_cycles row_cycles state_cycles states_cycle cycling_ok
khmer_cycling_ok = refl

khmer_cycles : (q k : ℕ) → q < 43 → CellCycles khmer_tables khmer_cycling q k (state_behind khmer_tables q k)
khmer_cycles q k h =
    cell-cycles khmer_tables khmer_cycling 43 khmer_cycling_ok q k h (entry-below 12 CLASSES k (lit< tt) khmer_classes_ok)

pub khmer_are_tables : AreTablesOf khmer_grammar khmer_tables khmer_cycling
unfolding khmer_cycling
khmer_are_tables = record {
  kinds = khmer_machine-is;
  fit = khmer_fit;
  some = lit< tt;
  place = khmer_place;
  next = λ q k. entry-below 43 ROWS (q * 12 + get_or CLASSES k 0) (lit< tt) khmer_rows_ok;
  dead = dead-ends khmer_tables 32 khmer_dead_ok;
  lives = state-lives khmer_tables khmer_cycling 43 khmer_cycling_ok;
  waits = λ q h t. state-cycles khmer_tables khmer_cycling 43 khmer_cycling_ok q h (is-test (has_cycle khmer_cycling q) t);
  cycles = khmer_cycles;
  first_lives = lit< tt;
  first_low = lit≤ tt;
  first_waits = refl;
}
  where
    is-test : (b : Bool) → b ≡ true → IsTrue b
    is-test b e = search rules
