-- Words of the code's moves: a left matra's as a placement; the place that a reph, and a glyph that
-- pref formed, go to.
use Rattle.std.specs.Prelude.{ℕ, ◌+◌, ◌-◌, Option, None, Some, if◌then◌else◌}
use Rattle.shapers_buffer.specs.Glyphs.{Glyphs}
use Rattle.shapers_buffer.specs.declared.buffer.placement.Placement.TheVariants.{Forward, Stays}
use Rattle.shapers_buffer.specs.declared.buffer.placements.Placements.{Placements}
use Rattle.shapers_buffer.specs.declared.buffer.tag.Script.{Script}
use Rattle.shapers_base.specs.declared.plan.indic.RephPosition.{RephPosition}
use Rattle.shapers_indic_final.specs.FinalPref.{formed_pref, pref_target}
use Rattle.shapers_indic_final.specs.FinalReph.{begins_with_reph, reph_target}

-- the glyph of place i of a syllable from s on at its place j, behind others
abbrev pub matra_placements : ℕ → ℕ → ℕ → Placements
matra_placements s i j = record {
  first = Forward (s + i) (s + i + 1) (s + j + 1 - (s + i) - 1);
  second = Stays;
  third = Stays;
}

-- where the reph goes, if one moves
abbrev pub reph_goes : RephPosition → ℕ → Glyphs → Option ℕ
reph_goes position base gs =
    if begins_with_reph gs then Some (reph_target position base gs) else None

-- where a formed glyph goes, and its place
abbrev pub with_target : ℕ → Option ℕ → Option (ℕ × ℕ)
with_target j None = None
with_target j (Some i) = Some (j, i)

abbrev pub pref_goes : ℕ → Option Script → ℕ → Glyphs → Option (ℕ × ℕ)
pref_goes pref script base gs = with_target (pref_target script base gs) (formed_pref pref base gs)
