-- Rules of contexts and of chained contexts (OpenType, Sequence Context and Chained Sequence
-- Context formats 1 to 3).
use Rattle.std.specs.Prelude.{zero, suc, ◌^◌, ℕ, ◌+◌, ◌-◌, ◌*◌, ◌%◌, ◌==◌, min, nat_lt, is_some, slice_index, length, Bool, true, false, List, [], ◌∷◌, Option, None, Some, if◌then◌else◌}
use Rattle.std.specs.Option.{option_and_then}
use Rattle.shapers_buffer.specs.Glyphs.{Glyphs}
use Rattle.opentype_face.specs.Bytes.{u16_in, table_at}
use Rattle.opentype_face.specs.Glyphs.{class_in, coverage_in}
use Rattle.opentype_layout.specs.declared.rules.Matched.{Matched}
use Rattle.opentype_layout.specs.declared.rules.Rule.{Rule}
use Rattle.opentype_layout.specs.declared.rules.Tables.{Tables}
use Rattle.opentype_layout.specs.declared.sight.Sight.{Sight}
use Rattle.opentype_face.specs.Firsts.{first_from}
use Rattle.opentype_face.specs.Lookups.{rule_count_in}
use Rattle.opentype_layout.specs.Ligatures.{input_in}
use Rattle.opentype_layout.specs.Pattern.{fits, is_in_sets, is_number, next_in, previous_in}
use Rattle.opentype_layout.specs.Text.{glyph_at}

-- ---- what a rule is

-- A rule looks for glyphs before a place, counted backwards, for the rest of its input behind it,
-- and for glyphs behind the input. `input_count` counts the first glyph too, which isn't looked
-- at. Its records have four bytes: a place of the input, and a lookup.
pub record Sought : Type 0 where
  pub before : ℕ → ℕ → Bool
  pub before_count : ℕ
  pub input : ℕ → ℕ → Bool
  pub input_count : ℕ
  pub behind : ℕ → ℕ → Bool
  pub behind_count : ℕ
  pub records : List ℕ
  pub count : ℕ

abbrev pub sought : Rule → Sought
sought rule = record {
  before = fits rule.before;
  before_count = rule.before_count;
  input = fits rule.input;
  input_count = rule.input_count;
  behind = fits rule.behind;
  behind_count = rule.behind_count;
  records = rule.records.now;
  count = rule.count;
}

-- A rule that fits: its records and how many, the places of its input, the place behind the last
-- one; and the stretch of the text that it looked at, from a place on and up to one.
pub record Found : Type 0 where
  pub records : List ℕ
  pub count : ℕ
  pub places : List ℕ
  pub end : ℕ
  pub start : ℕ
  pub stop : ℕ

abbrev pub found : Matched → Found
found it = record {
  records = it.records.now;
  count = it.count;
  places = it.places.items;
  end = it.end;
  start = it.start;
  stop = it.stop;
}

-- ---- where a rule fits

-- The place behind an input: behind the last of the places behind its first one, in 64 bits.
unfoldable pub end_in : ℕ → List ℕ → ℕ
end_in at places =
    min (2 ^ 64 - 1) ((if length places == 0 then at else slice_index places (length places - 1)) +
    1)

-- The place behind so many glyphs, each found from behind the one before on.
unfoldable pub reach_from : ℕ → (ℕ → ℕ → Option ℕ) → ℕ → ℕ → Option ℕ
reach_from zero next k from = Some from
reach_from (suc n) next k from = option_and_then (λ p. reach_from n next (k + 1) (p + 1)) (next k
    from)

-- how far a rule looks behind a place; and before one, by how many glyphs
unfoldable pub reach_behind : List ℕ → Sight → (ℕ → ℕ → Bool) → ℕ → Glyphs → ℕ → Option ℕ
reach_behind gdef sight test count gs from = reach_from count (next_in gdef sight test gs) 0 from

unfoldable pub reach_before : List ℕ → Sight → (ℕ → ℕ → Bool) → ℕ → Glyphs → ℕ → Option ℕ
reach_before gdef sight test count gs at = reach_from count (previous_in gdef sight test gs at) 0 0

abbrev pub with_start : Sought → ℕ → List ℕ → ℕ → Option ℕ → Option Found
with_start rule at places stop None = None
with_start rule at places stop (Some back) = Some (record {
  records = rule.records;
  count = rule.count;
  places = at ∷ places;
  end = end_in at places;
  start = at - back;
  stop = stop;
})

abbrev pub with_stop : List ℕ → Sight → Sought → Glyphs → ℕ → List ℕ → Option ℕ → Option Found
with_stop gdef context rule gs at places None = None
with_stop gdef context rule gs at places (Some stop) =
    with_start rule at places stop (reach_before gdef context rule.before rule.before_count gs at)

-- the rest of a rule whose input is found
unfoldable pub around : List ℕ → Sight → Sought → Glyphs → ℕ → Option (List ℕ) → Option Found
around gdef context rule gs at None = None
around gdef context rule gs at (Some places) =
    with_stop gdef context rule gs at places
    (reach_behind gdef context rule.behind rule.behind_count gs (end_in at places))

-- a rule of 1 to 64 glyphs at a place: its input by one sight, its context by another
unfoldable pub found_at : List ℕ → Sight → Sight → Glyphs → ℕ → Sought → Option Found
found_at gdef input context gs at rule =
    if rule.input_count == 0 then None
    else (if nat_lt 64 rule.input_count then None
    else around gdef context rule gs at (input_in gdef input rule.input (rule.input_count - 1) gs
    at))

-- ---- rules in bytes

-- What the numbers of a rule's lists are: glyphs in format 1, classes of a table in format 2,
-- offsets of sets from the start of a table in format 3.
pub record Kind : Type 0 where
  pub chained : Bool
  pub format : ℕ
  pub before : List ℕ
  pub input : List ℕ
  pub behind : List ℕ

abbrev pub kind : Tables → Kind
kind it = record {
  chained = it.chained;
  format = it.format;
  before = it.before.bytes.now;
  input = it.input.bytes.now;
  behind = it.behind.bytes.now;
}

abbrev pub is_class : List ℕ → List ℕ → ℕ → ℕ → Bool
is_class classes of k glyph = u16_in classes (k * 2) == class_in of glyph

unfoldable pub test_in : ℕ → List ℕ → List ℕ → ℕ → ℕ → Bool
test_in format numbers of =
    if format == 1 then is_number numbers
    else (if format == 2 then is_class numbers of else is_in_sets numbers of)

-- The lists of format 3 begin 2 bytes later, behind the format's number, and its input has the
-- first glyph too, 2 bytes more.
abbrev pub shift_in : ℕ → ℕ
shift_in format = if format == 3 then 2 else 0

-- a rule of a chained context: each list stands behind its count
unfoldable pub chained_in : Kind → List ℕ → Sought
chained_in kind bytes =
    let shift = shift_in kind.format in
    let input_at = shift + 2 + u16_in bytes shift * 2 in
    let behind_at = input_at + shift + u16_in bytes input_at * 2 in
    let records_at = behind_at + 2 + u16_in bytes behind_at * 2 in
    record {
      before = test_in kind.format (table_at bytes (shift + 2)) kind.before;
      before_count = u16_in bytes shift;
      input = test_in kind.format (table_at bytes (input_at + shift + 2)) kind.input;
      input_count = u16_in bytes input_at;
      behind = test_in kind.format (table_at bytes (behind_at + 2)) kind.behind;
      behind_count = u16_in bytes behind_at;
      records = table_at bytes (records_at + 2);
      count = u16_in bytes records_at;
    }

-- a rule of a context: both counts, then both lists
unfoldable pub unchained_in : Kind → List ℕ → Sought
unchained_in kind bytes =
    let shift = shift_in kind.format in
    record {
      before = test_in 1 [] [];
      before_count = 0;
      input = test_in kind.format (table_at bytes (shift + shift + 4)) kind.input;
      input_count = u16_in bytes shift;
      behind = test_in 1 [] [];
      behind_count = 0;
      records = table_at bytes (shift + shift + 2 + u16_in bytes shift * 2);
      count = u16_in bytes (shift + 2);
    }

unfoldable pub rule_in : Kind → List ℕ → Sought
rule_in kind bytes = if kind.chained then chained_in kind bytes else unchained_in kind bytes

-- what rule i of a set comes to
unfoldable pub nth_in : List ℕ → Sight → Sight → Kind → List ℕ → Glyphs → ℕ → ℕ → Option Found
nth_in gdef input context kind set gs at i =
    found_at gdef input context gs at (rule_in kind (table_at set (u16_in set (2 + i * 2))))

-- the first rule of a set that fits
unfoldable pub first_in : List ℕ → Sight → Sight → Kind → List ℕ → Glyphs → ℕ → Option Found
first_in gdef input context kind set gs at =
    first_from (rule_count_in set) (nth_in gdef input context kind set gs at) 0

-- ---- contexts

abbrev pub no_tables : Bool → ℕ → Kind
no_tables chained format = record {
  chained = chained;
  format = format;
  before = [];
  input = [];
  behind = [];
}

-- which tables the numbers of a context's rules refer to
unfoldable pub kind_in : Bool → List ℕ → Kind
kind_in chained bytes =
    let format = u16_in bytes 0 in
    if format == 3 then record {
      chained = chained;
      format = 3;
      before = bytes;
      input = bytes;
      behind = bytes;
    }
    else (if format == 2 then (if chained then record {
      chained = true;
      format = 2;
      before = table_at bytes (u16_in bytes 4);
      input = table_at bytes (u16_in bytes 6);
      behind = table_at bytes (u16_in bytes 8);
    } else record {
      chained = false;
      format = 2;
      before = [];
      input = table_at bytes (u16_in bytes 4);
      behind = [];
    })
    else no_tables chained 1)

-- the set of rules with a number, of those whose count stands at a place
unfoldable pub set_in : List ℕ → ℕ → ℕ → List ℕ
set_in bytes at number =
    if nat_lt number (u16_in bytes at) then table_at bytes (u16_in bytes (at + 2 + number * 2)) else
    []

-- where the count of format 2's sets stands
abbrev pub sets_at : Bool → ℕ
sets_at chained = if chained then 10 else 6

-- where the offset of the set of format 3's first glyph stands
unfoldable pub first_at : Bool → List ℕ → ℕ
first_at chained bytes = if chained then u16_in bytes 2 * 2 + 6 else 6

-- where the offset of the set stands that a context begins with
abbrev pub start_at : Bool → List ℕ → ℕ
start_at chained bytes = if u16_in bytes 0 == 3 then first_at chained bytes else 2

unfoldable pub by_glyphs : List ℕ → Sight → Sight → Kind → List ℕ → Glyphs → ℕ → Option ℕ → Option
    Found
by_glyphs gdef input context kind bytes gs at None = None
by_glyphs gdef input context kind bytes gs at (Some number) =
    first_in gdef input context kind (set_in bytes 4 number) gs at

-- the first rule of a context that fits a place: by its first glyph, or that glyph's class
unfoldable pub context_in : Bool → List ℕ → Sight → Sight → List ℕ → Glyphs → ℕ → Option Found
context_in chained gdef input context bytes gs at =
    let glyph = (glyph_at gs at).glyph_id % 65536 in
    let kind = kind_in chained bytes in
    let format = u16_in bytes 0 in
    let covered = coverage_in (table_at bytes (u16_in bytes 2)) glyph in
    if format == 1 then by_glyphs gdef input context kind bytes gs at covered
    else (if format == 2 then (if is_some covered
    then first_in gdef input context kind (set_in bytes (sets_at chained) (class_in kind.input
    glyph)) gs at
    else None)
    else (if format == 3 then (if is_some (coverage_in (table_at bytes (u16_in bytes (first_at
    chained bytes))) glyph)
    then found_at gdef input context gs at (rule_in kind bytes) else None)
    else None))
