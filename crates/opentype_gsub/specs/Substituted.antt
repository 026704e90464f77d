-- What a lookup of GSUB makes of a buffer.
use Rattle.std.specs.Prelude.{ℕ, ◌-◌, ◌*◌, ◌^◌, ◌==◌, max, min, List, length, if◌then◌else◌}
use Rattle.shapers_buffer.specs.Buffer.{Buffer, asks, flags_concat}
use Rattle.shapers_buffer.specs.Glyphs.{Glyphs}
use Rattle.shapers_buffer.specs.declared.buffer.lookup_record.LookupRecord.{LookupRecord}
use Rattle.opentype_face.specs.Lookups.{lookup_in, type_in}
use Rattle.opentype_gsub.specs.Reversed.{lookup_stepped_back, applied_backward}
use Rattle.opentype_gsub.specs.Setting.{Setting}
use Rattle.opentype_gsub.specs.Along.{Along, lookup_stepped, lookup_applied}
use Rattle.opentype_gsub.specs.declared.pass.LookupUse.{LookupUse}

-- how many glyphs a text of so many may get: 256 times as many, and 65,536 at least, but no more
-- than the buffer takes
abbrev pub limit_in : ℕ → ℕ → ℕ
limit_in len max_len = min max_len (max 65536 (min (2 ^ 64 - 1) (len * 256)))

abbrev pub setting_for : List ℕ → List ℕ → LookupUse → Buffer → Setting
setting_for gdef gsub use_of b = record {
  gdef = gdef;
  gsub = gsub;
  level = b.level;
  concat = asks flags_concat b;
  len = length b.glyphs;
  limit = limit_in (length b.glyphs) b.max_len;
  lookup = use_of;
}

-- A lookup's table along a text, in as many steps as there are glyphs. One of type 8 goes from the
-- end, and leaves the record of the text's lookups as it is.
unfoldable pub applied : Setting → Glyphs → LookupRecord → Along
applied s gs r =
    let lookup = lookup_in s.gsub s.lookup.index in
    if type_in 7 lookup 0 == 8 then record {
      text = applied_backward (length gs) (lookup_stepped_back s lookup) gs;
      lookups = r;
    }
    else lookup_applied (length gs) (lookup_stepped s lookup) gs 0 r

-- A buffer's glyphs, and the record of its lookups: the operations that this one leaves, the next
-- one has.
unfoldable pub substituted : List ℕ → List ℕ → LookupUse → Buffer → Buffer
substituted gdef gsub use_of b =
    let it = applied (setting_for gdef gsub use_of b) b.glyphs b.lookups in
    record b { glyphs = it.text; lookups = it.lookups }
