-- Texts in which ligatures of a font leave pieces side by side.
use Rattle.std.specs.Prelude.{ℕ, ◌%◌, ◌<◌, ◌≤◌, ◌≡◌, true, false, List, [], ◌∷◌}
use Rattle.std.specs.List.{AllByRecursion}
use Rattle.shapers_buffer.specs.Buffer.{Buffer}
use Rattle.shapers_buffer.specs.Clusters.{merges}
use Rattle.shapers_buffer.specs.Glyphs.{Glyph, Glyphs}
use Rattle.shapers_buffer.specs.Properties.{component}
use Rattle.shapers_clusters.specs.Breaks.{is_unsafe}
use Rattle.opentype_face.specs.Lookups.{lookup_in, subtables_in, type_in}
use Rattle.shapers_plan.specs.declared.ot_map.lookups.StageLookup.{StageLookup}

-- A glyph stands before another one: its cluster isn't greater; and where both are of one cluster,
-- it is flagged as no place for a break if the other one is.
abbrev pub PrecedesInOrder : Glyph → Glyph → Type 0
PrecedesInOrder g h = (g.cluster ≤ h.cluster)
    × (g.cluster ≡ h.cluster → is_unsafe h ≡ true → is_unsafe g ≡ true)

-- So of all glyphs of a text: clusters rise along it, and the flags of each cluster begin with its
-- first glyph.
abbrev pub AreOrdered : Glyphs → Type 0
AreOrdered [] = Unit {0}
AreOrdered (g ∷ gs) = AllByRecursion (PrecedesInOrder g) gs × AreOrdered gs

-- no glyph is of a ligature's component
abbrev pub HasNoComponents : Glyphs → Type 0
HasNoComponents gs = AllByRecursion (λ g. component g.lig_props ≡ 0) gs

-- A lookup of a plan puts ligatures in, by a font's GSUB: its table has subtables, and all are of
-- type 4. It stays in no syllable, and its mask has no glyph flag.
pub record PutsLigatures (gsub : List ℕ) (lookup : StageLookup) : Type 0 where
  pub some : 0 < subtables_in (lookup_in gsub lookup.index)
  pub types : (i : ℕ) → i < subtables_in (lookup_in gsub lookup.index) →
      type_in 7 (lookup_in gsub lookup.index) i ≡ 4
  pub across : lookup.per_syllable ≡ false
  pub flagless : lookup.mask % 8 ≡ 0

-- A text that takes ligatures piece by piece, at the level of the pieces: it merges clusters, and
-- has no syllables; its clusters rise with their flags in front, and no glyph is of a ligature's
-- component.
pub record TakesLigatures (text b : Buffer) : Type 0 where
  pub level : b.level ≡ text.level
  pub merging : merges b.level ≡ true
  pub cleared : AllByRecursion (λ g. g.syllable ≡ 0) b.glyphs
  pub ordered : AreOrdered b.glyphs
  pub components : HasNoComponents b.glyphs
