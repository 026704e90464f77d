-- Type 8, OpenType's Reverse Chained Contexts Single Substitution format 1: one glyph for one, by
-- sets of the glyphs around it. Other lookups can't apply it.
use Rattle.std.specs.Prelude.{ℕ, zero, suc, ◌+◌, ◌*◌, ◌-◌, ◌==◌, not, nat_lt, Bool, false, is_some, List, [], length, slice_set, Option, None, Some, if◌then◌else◌}
use Rattle.std.specs.Option.{option_map}
use Rattle.shapers_buffer.specs.Glyphs.{Glyphs}
use Rattle.opentype_face.specs.Bytes.{u16_in, table_at}
use Rattle.opentype_face.specs.Lookups.{subtable_in, subtables_in, type_in}
use Rattle.opentype_face.specs.Firsts.{first_from}
use Rattle.opentype_layout.specs.Pattern.{is_in_sets, is_number}
use Rattle.opentype_layout.specs.Rules.{Found, Sought, found_at}
use Rattle.opentype_layout.specs.Text.{glyph_at}
use Rattle.opentype_gsub.specs.Applied.{two_byte_number}
use Rattle.opentype_gsub.specs.Decided.{covered_in}
use Rattle.opentype_gsub.specs.Edits.{replaced}
use Rattle.opentype_gsub.specs.Flagged.{unbroken}
use Rattle.opentype_layout.specs.Looking.{all_looked, counted, nothing, swept_before, swept_behind, unjoined}
use Rattle.opentype_gsub.specs.Setting.{Setting, is_seen, sights_of}
use Rattle.opentype_layout.specs.declared.looking.Stretch.{Stretch}
use Rattle.opentype_gsub.specs.declared.pass.Sights.{Sights}
use Rattle.opentype_gsub.specs.declared.reverse.Reversal.{Reversal}

-- the glyphs before and behind the one; each list stands behind its count
unfoldable pub around_in : List ℕ → Sought
around_in bytes =
    let behind_at = 6 + u16_in bytes 4 * 2 in
    record {
      before = is_in_sets (table_at bytes 6) bytes;
      before_count = u16_in bytes 4;
      input = is_number [];
      input_count = 1;
      behind = is_in_sets (table_at bytes (behind_at + 2)) bytes;
      behind_count = u16_in bytes behind_at;
      records = [];
      count = 0;
    }

-- where the count of the glyphs stands that come in, one for each of the set
unfoldable pub glyphs_at : List ℕ → ℕ
glyphs_at bytes =
    let behind_at = 6 + u16_in bytes 4 * 2 in
    behind_at + 2 + u16_in bytes behind_at * 2

-- the glyph that comes in, and the stretch that was looked at
abbrev pub reversal : ℕ → Found → Reversal
reversal to m = record { glyph = to; start = m.start; stop = m.stop }

abbrev pub reversed_at : List ℕ → Sights → List ℕ → Glyphs → ℕ → Option ℕ → Option Reversal
reversed_at gdef sights bytes gs at None = None
reversed_at gdef sights bytes gs at (Some i) =
    if nat_lt i (u16_in bytes (glyphs_at bytes))
    then option_map (reversal (u16_in bytes (glyphs_at bytes + 2 + i * 2)))
    (found_at gdef sights.input sights.context gs at (around_in bytes))
    else None

unfoldable pub reversed_in : List ℕ → Sights → List ℕ → Glyphs → ℕ → Option Reversal
reversed_in gdef sights bytes gs at =
    if u16_in bytes 0 == 1 then reversed_at gdef sights bytes gs at (covered_in bytes
    (two_byte_number gs at)) else None

unfoldable pub nth_reversed : List ℕ → Sights → List ℕ → Glyphs → ℕ → ℕ → Option Reversal
nth_reversed gdef sights lookup gs at i =
    if type_in 7 lookup i == 8 then reversed_in gdef sights (subtable_in 7 lookup i) gs at else None

-- What a subtable looked at that doesn't fit (HarfBuzz): the glyphs before are looked for first,
-- and nothing is flagged where they aren't there.
unfoldable pub reverse_looked : List ℕ → Sights → List ℕ → Glyphs → ℕ → Stretch
reverse_looked gdef sights bytes gs at =
    let rule = around_in bytes in
    let before = swept_before gdef sights.context rule.before rule.before_count gs at in
    let behind = swept_behind gdef sights.context rule.behind rule.behind_count gs (at + 1) in
    if not (before.found == rule.before_count) then nothing at
    else (if behind.found == rule.behind_count then nothing at
    else counted at (length gs) (length gs) (at - before.to) behind.to)

abbrev pub is_replaced : List ℕ → Option ℕ → Bool
is_replaced bytes None = false
is_replaced bytes (Some i) = nat_lt i (u16_in bytes (glyphs_at bytes))

unfoldable pub nth_looked_back : List ℕ → Sights → List ℕ → Glyphs → ℕ → ℕ → Stretch
nth_looked_back gdef sights lookup gs at i =
    let bytes = subtable_in 7 lookup i in
    if not (type_in 7 lookup i == 8) then nothing at
    else (if not (u16_in bytes 0 == 1) then nothing at
    else (if is_replaced bytes (covered_in bytes (two_byte_number gs at))
    then reverse_looked gdef sights bytes gs at else nothing at))

unfoldable pub all_looked_back : List ℕ → Sights → List ℕ → Glyphs → ℕ → Stretch
all_looked_back gdef sights lookup gs at =
    all_looked (subtables_in lookup) (λ i. is_some (nth_reversed gdef sights lookup gs at i))
    (nth_looked_back gdef sights lookup gs at) 0 (nothing at)

unfoldable pub tried_back : Setting → List ℕ → Glyphs → ℕ → Glyphs
tried_back s lookup gs at =
    let sights = sights_of s.gdef s.lookup lookup (glyph_at gs at) in
    if s.concat then unjoined (all_looked_back s.gdef sights lookup gs at) gs else gs

-- another glyph at a place, if there is one, and no break inside what was looked at
abbrev pub with_glyph : List ℕ → Glyphs → ℕ → Option Reversal → Glyphs
with_glyph gdef gs at None = gs
with_glyph gdef gs at (Some it) =
    let flagged = unbroken (length gs) it.start it.stop gs in
    slice_set flagged at (replaced gdef it.glyph 0 (glyph_at flagged at))

-- what a lookup's table does at a place
unfoldable pub lookup_stepped_back : Setting → List ℕ → Glyphs → ℕ → Glyphs
lookup_stepped_back s lookup gs at =
    let sights = sights_of s.gdef s.lookup lookup (glyph_at gs at) in
    let flagged = tried_back s lookup gs at in
    if is_seen s.gdef s.lookup lookup (glyph_at gs at)
    then with_glyph s.gdef flagged at (first_from (subtables_in lookup) (nth_reversed s.gdef sights
    lookup flagged at) 0)
    else gs

-- the places below one, the last of them first
unfoldable pub applied_backward : ℕ → (Glyphs → ℕ → Glyphs) → Glyphs → Glyphs
applied_backward zero f gs = gs
applied_backward (suc n) f gs = applied_backward n f (f gs n)
