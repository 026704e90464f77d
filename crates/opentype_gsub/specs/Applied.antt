-- What a subtable makes of a text and of the record of its lookups, at a place.
use Rattle.std.specs.Prelude.{ℕ, ◌+◌, ◌-◌, ◌*◌, ◌/◌, ◌%◌, ◌==◌, ◌&&◌, ◌≡◌, Bool, false, bit_and, max, nat_lt, List, length, slice_set, Option, None, Some, if◌then◌else◌}
use Rattle.std.specs.List.{remove}
use Rattle.std.specs.Option.{option_and_then, option_map}
use Rattle.shapers_buffer.specs.GlyphFlags.{unsafe_inside}
use Rattle.shapers_buffer.specs.Glyphs.{Glyph, Glyphs}
use Rattle.shapers_buffer.specs.declared.buffer.level.BufferClusterLevel.{BufferClusterLevel}
use Rattle.shapers_buffer.specs.declared.buffer.lookup_record.LookupRecord.{LookupRecord}
use Rattle.opentype_face.specs.Bytes.{u16_in}
use Rattle.opentype_gsub.specs.Decided.{alternate_in, set_for_glyph, single_in}
use Rattle.opentype_gsub.specs.Edits.{count_in, handed_on, last_place, multiplied, replaced}
use Rattle.opentype_gsub.specs.Ligated.{ligated}
use Rattle.opentype_layout.specs.Text.{glyph_at}
use Rattle.opentype_face.specs.Firsts.{first_from}
use Rattle.opentype_face.specs.Lookups.{rule_count_in}
use Rattle.opentype_gsub.specs.Ligatures.{nth_ligature}
use Rattle.opentype_gsub.specs.Setting.{Setting}
use Rattle.opentype_layout.specs.declared.sight.Sight.{Sight}

-- the text afterwards, the place behind what was done, and the record of the text's lookups
pub record PlaceChange : Type 0 where
  pub text : Glyphs
  pub next : ℕ
  pub lookups : LookupRecord

-- a text and its record before and after it, and the place that the code gives then
abbrev pub IsChange : Option PlaceChange → Glyphs → LookupRecord → Glyphs → LookupRecord →
    Option ℕ → Type 0
IsChange change old before new after None =
    (change ≡ None) × ((new ≡ old) × (after ≡ before))
IsChange change old before new after (Some next) =
    change ≡ Some (record { text = new; next = next; lookups = after })

-- something of a text is left undone
abbrev pub incomplete : LookupRecord → LookupRecord
incomplete r = record r { is_complete = false }

-- another glyph in the place of one
abbrev pub put_in : List ℕ → ℕ → Glyphs → LookupRecord → ℕ → PlaceChange
put_in gdef at gs r to = record {
  text = slice_set gs at (replaced gdef to 0 (glyph_at gs at));
  next = at + 1;
  lookups = r;
}

-- the glyphs of a sequence; more than the text may get aren't put in
abbrev pub sequence_put : Setting → ℕ → Glyphs → LookupRecord → List ℕ → PlaceChange
sequence_put s at gs r sequence =
    if count_in sequence == 0 then record {
      text = remove (handed_on s.level at gs) at;
      next = at;
      lookups = r;
    }
    else (if count_in sequence == 1 then put_in s.gdef at gs r (u16_in sequence 2)
    else (if nat_lt (s.limit - length gs) (count_in sequence - 1) then record {
      text = gs;
      next = at + 1;
      lookups = incomplete r;
    }
    else record {
      text = multiplied s.gdef sequence at gs;
      next = at + count_in sequence;
      lookups = r;
    }))

-- a ligature
abbrev pub ligature_put : List ℕ → BufferClusterLevel → ℕ → Glyphs → LookupRecord → ℕ × List ℕ →
    PlaceChange
ligature_put gdef level at gs r it =
    if length it.1 == 0 then put_in gdef at gs r it.0
    else record {
      text = ligated gdef level at it.1 it.0 gs;
      next = last_place at it.1 + 1 - length it.1;
      lookups = r;
    }

abbrev pub two_byte_number : Glyphs → ℕ → ℕ
two_byte_number gs at = (glyph_at gs at).glyph_id % 65536

unfoldable pub single_put : List ℕ → List ℕ → Glyphs → ℕ → LookupRecord → Option PlaceChange
single_put gdef bytes gs at r =
    option_map (put_in gdef at gs r) (single_in bytes (two_byte_number gs at))

unfoldable pub multiple_put : Setting → List ℕ → Glyphs → ℕ → LookupRecord → Option PlaceChange
multiple_put s bytes gs at r =
    option_map (sequence_put s at gs r) (set_for_glyph bytes (two_byte_number gs at))

unfoldable pub alternate_put : List ℕ → List ℕ → ℕ → Glyphs → ℕ → LookupRecord → Option PlaceChange
alternate_put gdef bytes value gs at r =
    option_map (put_in gdef at gs r) (alternate_in bytes (two_byte_number gs at) value)

unfoldable pub ligated_put : List ℕ → BufferClusterLevel → Sight → List ℕ → Glyphs → ℕ →
    LookupRecord → Option PlaceChange
ligated_put gdef level sight bytes gs at r = option_and_then (λ set.
    option_map (ligature_put gdef level at gs r)
    (first_from (rule_count_in set) (nth_ligature gdef sight gs at set) 0))
    (set_for_glyph bytes (two_byte_number gs at))

-- the value of a feature at a glyph: the bits of its mask, of which the lowest counts 1
abbrev pub lowest_bit : ℕ → ℕ
lowest_bit mask = bit_and mask (4294967296 - mask)

abbrev pub value_of : Sight → Glyph → ℕ
value_of sight g = bit_and g.mask sight.mask / max 1 (lowest_bit sight.mask)

-- Whether an alternate is picked at random: the value 255 asks for it, where the plan allows it.
abbrev pub is_random : Bool → Sight → Glyph → Bool
is_random random sight g = random && (value_of sight g == 255)

-- The generator's next state. As in HarfBuzz, the product has 32 bits.
abbrev pub next_state : ℕ → ℕ
next_state state = state * 48271 % 4294967296 % 2147483647

-- One of a set's alternates, by the generator. A break anywhere would change which ones it picks,
-- so none is allowed in the text.
abbrev pub random_of : List ℕ → ℕ → Glyphs → LookupRecord → List ℕ → Option PlaceChange
random_of gdef at gs r set =
    let count = u16_in set 0 in
    let state = next_state r.random_state in
    if count == 0 then None
    else Some (put_in gdef at (unsafe_inside 0 (length gs) gs) (record r { random_state = state })
    (u16_in set ((state % count + 1) * 2)))

unfoldable pub random_put : List ℕ → List ℕ → Glyphs → ℕ → LookupRecord → Option PlaceChange
random_put gdef bytes gs at r =
    option_and_then (random_of gdef at gs r) (set_for_glyph bytes (two_byte_number gs at))

-- the alternate that the value of the feature chooses, or one at random
unfoldable pub chosen_put : Setting → Sight → List ℕ → Glyphs → ℕ → LookupRecord → Option
    PlaceChange
chosen_put s sight bytes gs at r =
    if is_random s.lookup.random sight (glyph_at gs at) then random_put s.gdef bytes gs at r
    else alternate_put s.gdef bytes (value_of sight (glyph_at gs at)) gs at r

-- what a subtable of this type makes of a text
unfoldable pub one_put : Setting → Sight → ℕ → List ℕ → Glyphs → ℕ → LookupRecord → Option
    PlaceChange
one_put s sight kind bytes gs at r =
    if kind == 1 then single_put s.gdef bytes gs at r
    else (if kind == 2 then multiple_put s bytes gs at r
    else (if kind == 3 then chosen_put s sight bytes gs at r
    else (if kind == 4 then ligated_put s.gdef s.level sight bytes gs at r
    else None)))
