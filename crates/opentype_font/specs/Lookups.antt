-- A font file's lookups, as a plan applies them.
use Rattle.std.specs.Prelude.{ℕ, ◌%◌, ◌==◌, ◌&&◌, not, Bool, true, false, List, if◌then◌else◌}
use Rattle.shapers_buffer.specs.Buffer.{Buffer}
use Rattle.shapers_buffer.specs.Glyphs.{Glyph}
use Rattle.shapers_buffer.specs.Properties.{has_bit, is_ignorable}
use Rattle.shapers_buffer.specs.declared.buffer.glyph_props.GlyphProps.{GlyphProps}
use Rattle.shapers_plan.specs.declared.ot_map.lookups.StageLookup.{StageLookup}
use Rattle.shapers_pipeline.specs.Lookups.{LookupRefusals}
use Rattle.opentype_face.specs.Classes.{has_classes, props_of}
use Rattle.opentype_layout.specs.declared.sight.Application.{Application}
use Rattle.opentype_gsub.specs.Substituted.{substituted}
use Rattle.opentype_gsub.specs.declared.pass.LookupUse.{LookupUse}
use Rattle.opentype_gpos.specs.Along.{positioned}

abbrev pub use_for : StageLookup → LookupUse
use_for l = record {
  index = l.index;
  mask = l.mask;
  auto_zwnj = l.auto_zwnj;
  auto_zwj = l.auto_zwj;
  random = l.random;
  per_syllable = l.per_syllable;
}

abbrev pub application_for : StageLookup → Application
application_for l = record {
  of_gpos = true;
  mask = l.mask;
  auto_zwnj = l.auto_zwnj;
  auto_zwj = l.auto_zwj;
  per_syllable = false;
}

-- what a lookup of a plan makes of a text, by the bytes of GDEF and GSUB, or of GDEF and GPOS
abbrev pub substituted_by : List ℕ → List ℕ → StageLookup → Buffer → Buffer
substituted_by gdef gsub l b = substituted gdef gsub (use_for l) b

abbrev pub positioned_by : List ℕ → List ℕ → StageLookup → Buffer → Buffer
positioned_by gdef gpos l b = positioned gdef gpos l.index (application_for l) b

-- a lookup of GSUB may be refused memory, and nothing else
abbrev pub may_lack_memory : StageLookup → Buffer → LookupRefusals
may_lack_memory l b = record { too_long = false; memory = true }

-- a glyph is a mark by the bit of its class
abbrev pub is_gdef_mark : Glyph → Bool
is_gdef_mark g = has_bit 8 g.glyph_props.0

-- The class of a glyph by GDEF. Where a font has no classes a nonspacing mark (category 12) is a
-- mark, unless it need not be drawn, and all else is a base. (HarfBuzz's
-- hb_synthesize_glyph_classes.)
abbrev pub noted_by : List ℕ → Glyph → GlyphProps
noted_by gdef g =
    if has_classes gdef then record { 0 = props_of gdef (g.glyph_id % 65536) }
    else (if (g.unicode_props.0 % 32 == 12) && not (is_ignorable g.unicode_props)
    then record { 0 = 8 } else record { 0 = 2 })
