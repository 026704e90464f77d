-- What the lookups of a text leave for those behind them.
use Rattle.std.specs.Prelude.{ℕ, ◌-◌, ◌*◌, ◌^◌, max, min, true}
use Rattle.shapers_buffer.specs.declared.buffer.lookup_record.LookupRecord.{LookupRecord}

-- how many operations a text of so many glyphs has for its lookups: 4,096 a glyph, and at least
-- 65,536
abbrev pub operations_for : ℕ → ℕ
operations_for len = max (min (2 ^ 64 - 1) (len * 4096)) 65536

-- the record before the first lookup: no ligature has a number, and the generator begins with 1
abbrev pub record_for : ℕ → LookupRecord
record_for len = record {
  ligature_serial = 0;
  random_state = 1;
  operations_left = operations_for len;
  is_complete = true;
}
