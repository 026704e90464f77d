-- Where a lookup may begin, and what it makes of a text from there on.
use Rattle.std.specs.Prelude.{ℕ, ◌-◌, ◌%◌, ◌==◌, ◌||◌, not, Bool, false, bit_and, is_some, List, length, if◌then◌else◌}
use Rattle.shapers_buffer.specs.Glyphs.{Glyph, Glyphs}
use Rattle.shapers_buffer.specs.declared.buffer.lookup_record.LookupRecord.{LookupRecord}
use Rattle.opentype_face.specs.Firsts.{first_from}
use Rattle.opentype_face.specs.Lookups.{subtables_in, type_in}
use Rattle.opentype_layout.specs.Starts.{starting}
use Rattle.opentype_gsub.specs.Reversed.{lookup_stepped_back, applied_backward}
use Rattle.opentype_gsub.specs.Setting.{Setting}
use Rattle.opentype_gsub.specs.Along.{Along, lookup_stepped, lookup_applied}
use Rattle.opentype_gsub.specs.declared.pass.LookupUse.{LookupUse}

-- Whether a lookup can't begin at a glyph: the glyph has no bit of its mask, or no subtable begins
-- with the glyph.
unfoldable pub is_left : LookupUse → List ℕ → Glyph → Bool
is_left use_of lookup g =
    let starts = starting false lookup (g.glyph_id % 65536) in
    (bit_and g.mask use_of.mask == 0) || not (is_some (first_from (subtables_in lookup) starts 0))

-- a lookup's table along a text from a place on; one of type 8 from the end
unfoldable pub applied_from : Setting → List ℕ → ℕ → Glyphs → LookupRecord → Along
applied_from s lookup first gs r =
    if type_in 7 lookup 0 == 8 then record {
      text = applied_backward (length gs) (lookup_stepped_back s lookup) gs;
      lookups = r;
    }
    else lookup_applied (length gs - first) (lookup_stepped s lookup) gs first r
