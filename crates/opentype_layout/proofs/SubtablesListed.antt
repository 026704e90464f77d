-- The tables of a lookup's subtables of GSUB, as far as they are made.
use Rattle.std.proofs.Common.{ℕ, ◌≡◌, List, length}
use Rattle.opentype_layout.specs.SubstitutionTables.{AreSubtables, Subtable}

pub record AreSubtablesListed (lookup : List ℕ) (tables : List Subtable) (i : ℕ) : Type 0 where
  pub len : length tables ≡ i
  pub all : AreSubtables lookup tables
