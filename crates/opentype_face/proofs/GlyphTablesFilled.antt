-- Tables of classes and of places, as far as they are filled.
use Rattle.std.proofs.Common.{ℕ, ◌≡◌, List, length}
use Rattle.opentype_face.specs.GlyphTables.{TellsClassDef, TellsCoverage}

pub record HasClasses (bytes : List ℕ) (first : ℕ) (classes : List ℕ) (count : ℕ) : Type 0 where
  pub len : length classes ≡ count
  pub tells : TellsClassDef bytes first classes

pub record HasPlaces (set : List ℕ) (first : ℕ) (places : List ℕ) (count : ℕ) : Type 0 where
  pub len : length places ≡ count
  pub tells : TellsCoverage set first places
