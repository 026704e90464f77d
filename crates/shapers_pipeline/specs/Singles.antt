-- Single substitutions: one glyph for another, whatever stands beside it (OpenType, GSUB, lookup
-- type 1).
use Rattle.std.specs.Prelude.{◌==◌, bit_and, Bool, true, ◌&&◌, List, find, map, if◌then◌else◌}
use Rattle.std.specs.Option.{option_map_or}
use Rattle.shapers_buffer.specs.Buffer.{Buffer}
use Rattle.shapers_buffer.specs.Properties.{SUBSTITUTED, set_mark}
use Rattle.shapers_buffer.specs.Glyphs.{Glyph}
use Rattle.shapers_plan.specs.declared.ot_map.lookups.StageLookup.{StageLookup}
use Rattle.shapers_pipeline.specs.declared.singles.Single.{Single}

-- whether the entry is one of the lookup, for the glyph
abbrev pub is_single_for : StageLookup → Glyph → Single → Bool
is_single_for lookup g s = s.lookup == lookup.index && s.glyph == g.glyph_id

abbrev pub with_single : Glyph → Single → Glyph
with_single g s =
    record g { glyph_id = s.substitute; glyph_props = set_mark SUBSTITUTED true g.glyph_props }

-- a glyph that has a bit of the lookup's mask, with what the first entry for it puts in its place
abbrev pub single_applied : List Single → StageLookup → Glyph → Glyph
single_applied singles lookup g =
    if bit_and g.mask lookup.mask == 0 then g
    else option_map_or (with_single g) (find (is_single_for lookup g) singles) g

abbrev pub singles_applied : List Single → StageLookup → Buffer → Buffer
singles_applied singles lookup b =
    record b { glyphs = map (single_applied singles lookup) b.glyphs }
