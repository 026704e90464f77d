-- The tables of a lookup's subtables of pairs, as far as they are made.
use Rattle.std.proofs.Common.{ℕ, ◌≡◌, List, length}
use Rattle.opentype_layout.specs.PairTables.{ArePairTables}

pub record ArePairsListed (lookup : List ℕ) (tables : List (List ℕ)) (i : ℕ) : Type 0 where
  pub len : length tables ≡ i
  pub all : ArePairTables lookup tables
