-- Words of the code's walk that takes glyphs out: those that stay are moved together over a gap.
use Rattle.std.specs.Prelude.{ℕ, ◌<◌, ◌≤◌, ◌++◌, drop, take}
use Rattle.shapers_buffer.specs.Glyphs.{Glyphs}
use Rattle.shapers_normal.specs.declared.ot_shape_normalize.recomposing.Place.{Place}
use Rattle.shapers_normal.specs.Recomposition.{StarterWalk}

-- the list without what lies from one place to another
abbrev pub over_gap : ℕ → ℕ → Glyphs → Glyphs
over_gap to from gs = take to gs ++ drop from gs

-- the walk that the code has come to
abbrev pub walk_at : Place → Glyphs → StarterWalk
walk_at p gs = record { starter = p.starter; place = p.to; glyphs = over_gap p.to p.from gs }

-- a place of that walk before its end, in so many glyphs
pub record IsPlace (n : ℕ) (p : Place) : Type 0 where
  pub starter : p.starter < p.to
  pub gap : p.to ≤ p.from
  pub inside : p.from < n
