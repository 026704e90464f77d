-- The tables of a lookup's subtables of GPOS, as far as they are made.
use Rattle.std.proofs.Common.{ℕ, ◌≡◌, List, length}
use Rattle.opentype_layout.specs.PositionTables.{ArePositions}
use Rattle.opentype_layout.specs.SubstitutionTables.{Subtable}

pub record ArePositionsListed (lookup : List ℕ) (tables : List Subtable) (i : ℕ) : Type 0 where
  pub len : length tables ≡ i
  pub all : ArePositions lookup tables
