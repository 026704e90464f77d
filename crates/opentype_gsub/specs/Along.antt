-- A lookup along a text.
use Rattle.std.specs.Prelude.{ℕ, zero, suc, ◌+◌, nat_lt, List, length, Option, None, Some, if◌then◌else◌}
use Rattle.shapers_buffer.specs.Glyphs.{Glyphs}
use Rattle.shapers_buffer.specs.declared.buffer.lookup_record.LookupRecord.{LookupRecord}
use Rattle.opentype_gsub.specs.Applied.{PlaceChange}
use Rattle.opentype_gsub.specs.Machine.{Nested, nested}
use Rattle.opentype_gsub.specs.Setting.{Setting, is_seen}
use Rattle.opentype_layout.specs.Text.{glyph_at}

-- a text, and the record of its lookups
pub record Along : Type 0 where
  pub text : Glyphs
  pub lookups : LookupRecord

-- the place behind what was done; the next one where nothing was
abbrev pub place_behind : ℕ → Option ℕ → ℕ
place_behind at None = at + 1
place_behind at (Some end) = end

abbrev pub went_on : ℕ → Nested → PlaceChange
went_on at n = record { text = n.text; next = place_behind at n.end; lookups = n.lookups }

-- what a lookup's table does at a place, and the next place
unfoldable pub lookup_stepped : Setting → List ℕ → Glyphs → ℕ → LookupRecord → PlaceChange
lookup_stepped s lookup gs at r =
    if is_seen s.gdef s.lookup lookup (glyph_at gs at) then went_on at (nested s lookup gs at r)
    else record { text = gs; next = at + 1; lookups = r }

-- a text from a place on, in at most so many steps
unfoldable pub lookup_applied : ℕ → (Glyphs → ℕ → LookupRecord → PlaceChange) → Glyphs → ℕ →
    LookupRecord → Along
lookup_applied zero f gs at r = record { text = gs; lookups = r }
lookup_applied (suc n) f gs at r =
    if nat_lt at (length gs) then lookup_applied n f (f gs at r).text (f gs at r).next (f gs at
    r).lookups else record { text = gs; lookups = r }
