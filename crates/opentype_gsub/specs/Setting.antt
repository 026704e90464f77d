-- What a lookup is applied by, and which glyphs it sees.
use Rattle.std.specs.Prelude.{ℕ, ◌==◌, ◌&&◌, not, Bool, false, bit_and, List, if◌then◌else◌}
use Rattle.shapers_buffer.specs.Glyphs.{Glyph}
use Rattle.shapers_buffer.specs.declared.buffer.level.BufferClusterLevel.{BufferClusterLevel}
use Rattle.opentype_layout.specs.Sight.{ignores, sight_of_context, sight_of_input}
use Rattle.opentype_layout.specs.declared.sight.Application.{Application}
use Rattle.opentype_gsub.specs.declared.pass.LookupUse.{LookupUse}
use Rattle.opentype_gsub.specs.declared.pass.Pass.{Pass}
use Rattle.opentype_gsub.specs.declared.pass.Sights.{Sights}

-- the tables, the level of the text's clusters, whether flags of concatenation are wanted, how many
-- glyphs the text had before the lookup, how many it may get, and the lookup of the plan
pub record Setting : Type 0 where
  pub gdef : List ℕ
  pub gsub : List ℕ
  pub level : BufferClusterLevel
  pub concat : Bool
  pub len : ℕ
  pub limit : ℕ
  pub lookup : LookupUse

abbrev pub setting_of : Pass → Setting
setting_of pass = record {
  gdef = pass.classes.gdef.now;
  gsub = pass.gsub.now;
  level = pass.level;
  concat = pass.concat;
  len = pass.len;
  limit = pass.limit;
  lookup = pass.lookup;
}

abbrev pub how_of : LookupUse → Application
how_of use_of = record {
  of_gpos = false;
  mask = use_of.mask;
  auto_zwnj = use_of.auto_zwnj;
  auto_zwj = use_of.auto_zwj;
  per_syllable = use_of.per_syllable;
}

-- what a lookup's table sees from a glyph on
unfoldable pub sights_of : List ℕ → LookupUse → List ℕ → Glyph → Sights
sights_of gdef use_of lookup g = record {
  input = sight_of_input gdef lookup (how_of use_of) g.syllable;
  context = sight_of_context gdef lookup (how_of use_of) g.syllable;
}

-- The same within a syllable, by its number. With 0 this is what the lookup sees wherever it is.
unfoldable pub sights_within : List ℕ → LookupUse → List ℕ → ℕ → Sights
sights_within gdef use_of lookup syllable = record {
  input = sight_of_input gdef lookup (how_of use_of) syllable;
  context = sight_of_context gdef lookup (how_of use_of) syllable;
}

-- the syllable that its rules stay in from a glyph on; 0 for none
abbrev pub syllable_from : LookupUse → Glyph → ℕ
syllable_from use_of g = if use_of.per_syllable then g.syllable else 0

-- whether a lookup's table applies to a glyph: the glyph has a bit of the mask, and isn't ignored
unfoldable pub is_seen : List ℕ → LookupUse → List ℕ → Glyph → Bool
is_seen gdef use_of lookup g =
    let sight = sight_of_input gdef lookup (how_of use_of) 0 in
    not (bit_and g.mask use_of.mask == 0) && not (ignores gdef sight.flag sight.set g)
