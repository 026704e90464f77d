-- What lookups keep of a text.
use Rattle.std.specs.Prelude.{ℕ, ◌*◌, ◌≤◌, ◌≡◌, List, length}
use Rattle.shapers_buffer.specs.Buffer.{Buffer}
use Rattle.opentype_gsub.specs.Growth.{growth_in}
use Rattle.opentype_gsub.specs.Kept.{KeepsTextClusters}
use Rattle.opentype_gsub.specs.Substituted.{substituted}
use Rattle.opentype_gsub.specs.declared.pass.LookupUse.{LookupUse}

-- only glyphs change, and the record of the text's lookups
abbrev pub OthersLaw : Type 0
OthersLaw = (gdef gsub : List ℕ) (use_of : LookupUse) (b : Buffer) →
    let new = substituted gdef gsub use_of b in
    new ≡ record b { glyphs = new.glyphs; lookups = new.lookups }

-- by any bytes: no cluster is new, and clusters that rise or fall along the text still do
abbrev pub ClusterLaw : Type 0
ClusterLaw = (gdef gsub : List ℕ) (use_of : LookupUse) (b : Buffer) →
    KeepsTextClusters b.level b.glyphs (substituted gdef gsub use_of b).glyphs

-- the text gets at most as many times as long as `growth` says
abbrev pub GrowthLaw : Type 0
GrowthLaw = (gdef gsub : List ℕ) (use_of : LookupUse) (b : Buffer) →
    length (substituted gdef gsub use_of b).glyphs ≤ length b.glyphs * growth_in gsub use_of.index
