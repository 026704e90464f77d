-- Where sequences of joiners leave a machine by tables: what bounds how often glyphs are read.
use Rattle.std.specs.Prelude.{ℕ, ◌+◌, ◌*◌, ◌<◌, ◌≤◌, ◌≡◌, ◌==◌, ◌⊎◌, nat_lt, Bool, true, false, List, [], None, get_or, length}
use Rattle.shapers_spans.specs.Grammar.{Grammar, IsKind, KindsFit}
use Rattle.shapers_spans.specs.Machine.{Tables, ends_by, state_behind}

-- The dead state, behind which stand the states that cycle; whether each class is that of a joiner;
-- the rank of each state; whether each waits; whether one joiner leads to each from the start, and
-- the state to which two lead.
pub record Cycling : Type 0 where
  pub dead : ℕ
  pub joiners : List ℕ
  pub ranks : List ℕ
  pub waiting : List ℕ
  pub begun : List ℕ
  pub cycled : ℕ

-- whether the category is that of a joiner
abbrev pub joins : Tables → Cycling → ℕ → Bool
joins t f k = get_or f.joiners (get_or t.class_of k 0) 0 == 1

-- how many more states at most come before one in which something ends or that cycles
abbrev pub rank_of : Cycling → ℕ → ℕ
rank_of f q = get_or f.ranks q 0

-- whether joiners alone lead to the state
abbrev pub has_wait : Cycling → ℕ → Bool
has_wait f q = get_or f.waiting q 0 == 1

-- whether joiners lead from the state back to it
abbrev pub has_cycle : Cycling → ℕ → Bool
has_cycle f q = nat_lt f.dead q

-- whether one joiner leads from the start to the state
abbrev pub has_begun : Cycling → ℕ → Bool
has_begun f q = get_or f.begun q 0 == 1

-- Of a state q, and the state p behind it and the category k: how far the ends of rules are, and
-- what joiners do.
pub record CellCycles (t : Tables) (f : Cycling) (q k p : ℕ) : Type 0 where
  pub falls : 0 < rank_of f q → ends_by t p [] ≡ None → has_cycle f p ≡ false →
      rank_of f p < rank_of f q
  pub low : rank_of f p ≤ 2
  pub one : q ≡ 0 → joins t f k ≡ true → has_begun f p ≡ true
  pub begun : has_begun f p ≡ true → (has_cycle f p ≡ false) × (rank_of f p ≤ 1)
  pub two : has_begun f q ≡ true → joins t f k ≡ true →
      (p ≡ f.cycled) × (ends_by t p [] ≡ None)
  pub waits : has_wait f p ≡ true →
      (joins t f k ≡ true) × ((has_wait f q ≡ true) ⊎ (ends_by t q [] ≡ None → ⊥))
  pub stays : has_cycle f q ≡ true → joins t f k ≡ true → p ≡ q

-- The tables are those of a grammar: what ends behind any categories, read from state 0 on, is
-- what the grammar says. Each place that the code reads is in its table; nothing ends from the dead
-- state on; and each cell cycles as it is told.
pub record AreTablesOf (grammar : Grammar) (t : Tables) (f : Cycling) : Type 0 where
  pub kinds : (w : List ℕ) → IsKind grammar w (ends_by t 0 w)
  pub fit : KindsFit grammar
  pub some : 0 < length t.kind_in
  pub place : (q k : ℕ) → q < length t.kind_in →
      q * t.row_len + get_or t.class_of k 0 < length t.rows
  pub next : (q k : ℕ) → state_behind t q k < length t.kind_in
  pub dead : (w : List ℕ) → ends_by t f.dead w ≡ None
  pub lives : (q : ℕ) → q < length t.kind_in → (q == f.dead) ≡ false → 0 < rank_of f q
  pub waits : (q : ℕ) → q < length t.kind_in → has_cycle f q ≡ true → has_wait f q ≡ true
  pub cycles : (q k : ℕ) → q < length t.kind_in → CellCycles t f q k (state_behind t q k)
  pub first_lives : 0 < rank_of f 0
  pub first_low : rank_of f 0 ≤ 2
  pub first_waits : has_wait f 0 ≡ false
