-- A font file's lookups keep of a text what lookups are to keep.
use Rattle.std.specs.Prelude.{ℕ, ◌≤◌, Bool, true, false, List, if◌then◌else◌}
use Rattle.std.proofs.Common.{arith}
use Rattle.shapers_buffer.specs.Buffer.{Buffer}
use Rattle.shapers_pipeline.specs.Lookups.{LookupGrows, LookupKeeps, PositionKeeps}
use Rattle.opentype_layout.specs.declared.sight.Application.{Application}
use Rattle.opentype_gsub.specs.Substituted.{substituted}
use Rattle.opentype_gsub.specs.declared.pass.LookupUse.{LookupUse}
use Rattle.opentype_gsub.proofs.LawGrows.{glyphs_grow_by}
use Rattle.opentype_gsub.proofs.LawKeeps.{glyphs_keep, others_keep}
use Rattle.opentype_gsub.specs.Growth.{growth_in}
use Rattle.opentype_gpos.specs.Finished.{finished}
use Rattle.opentype_gpos.specs.Along.{positioned}
use Rattle.opentype_gpos.proofs.Keeping.{finish_keeps, position_keeps}

pub substituting_keeps : (gdef gsub : List ℕ) (lookup : LookupUse) (b : Buffer) →
    LookupKeeps b (substituted gdef gsub lookup b)
unfolding substituted
substituting_keeps gdef gsub lookup b = let kept = glyphs_keep gdef gsub lookup b in record {
  others = others_keep gdef gsub lookup b;
  old_clusters = kept.none;
  monotone = kept.mono;
}

at_least_once : (b : Bool) → 1 ≤ (if b then 65536 else 1)
at_least_once true = omega arith
at_least_once false = omega arith

pub substituting_grows : (gdef gsub : List ℕ) (lookup : LookupUse) (b : Buffer) →
    LookupGrows (growth_in gsub lookup.index) b (substituted gdef gsub lookup b)
substituting_grows gdef gsub lookup b = record {
  one = at_least_once _;
  few = glyphs_grow_by gdef gsub lookup b;
}

pub positioning_keeps : (gdef gpos : List ℕ) (index : ℕ) (how : Application) (b : Buffer) →
    PositionKeeps b (positioned gdef gpos index how b)
positioning_keeps gdef gpos index how b =
    let kept = position_keeps gdef gpos index how b in
    record { others = kept.others; glyphs = kept.glyphs; positions = kept.positions }

pub finishing_keeps : (b : Buffer) → PositionKeeps b (finished b)
finishing_keeps b = let kept = finish_keeps b in
    record { others = kept.others; glyphs = kept.glyphs; positions = kept.positions }
