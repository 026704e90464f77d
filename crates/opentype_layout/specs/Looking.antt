-- How far the rules of a lookup look that don't fit: a text that is joined to there may give
-- something else (HarfBuzz, `unsafe_to_concat`).
use Rattle.std.specs.Prelude.{ℕ, zero, suc, ◌+◌, ◌-◌, ◌*◌, ◌==◌, ◌&&◌, ◌||◌, not, min, max, nat_le, nat_lt, Bool, true, is_some, List, [], length, Option, None, Some, if◌then◌else◌}
use Rattle.std.specs.Option.{option_map}
use Rattle.shapers_buffer.specs.Glyphs.{Glyphs}
use Rattle.shapers_buffer.specs.GlyphFlags.{unsafe_to_concat_in}
use Rattle.opentype_face.specs.Bytes.{u16_in, table_at}
use Rattle.opentype_face.specs.Glyphs.{class_in, coverage_in}
use Rattle.opentype_face.specs.Lookups.{rule_count_in}
use Rattle.opentype_layout.specs.Ligatures.{input_in}
use Rattle.opentype_layout.specs.Pattern.{is_number, next_in, previous_in, seen_by}
use Rattle.opentype_layout.specs.Rules.{Kind, Sought, first_at, found_at, kind, kind_in, rule_in, set_in, sets_at}
use Rattle.opentype_layout.specs.Sight.{is_passed}
use Rattle.opentype_layout.specs.Text.{glyph_at}
use Rattle.opentype_layout.specs.declared.sight.Sight.{Sight}
use Rattle.opentype_layout.specs.declared.looking.RuleSet.{RuleSet}
use Rattle.opentype_layout.specs.declared.looking.RuleSet.TheVariants.{Ligatures, One, Rules}
use Rattle.opentype_layout.specs.declared.looking.Stretch.{Stretch}
use Rattle.opentype_layout.specs.declared.looking.Sweep.{Sweep}

-- ---- a search that fails

-- the place behind the first glyph from a place on, of so many, that a search doesn't pass over;
-- behind all of them where it passes over each
unfoldable pub stop_from : ℕ → (ℕ → Option Bool) → ℕ → ℕ
stop_from zero sight at = at
stop_from (suc n) sight at = if is_passed (sight at) then stop_from n sight (at + 1) else at + 1

abbrev pub stop_in : List ℕ → Sight → (ℕ → ℕ → Bool) → Glyphs → ℕ → ℕ → ℕ
stop_in gdef sight test gs k from =
    stop_from (length gs - from) (λ i. seen_by gdef sight test k (glyph_at gs i)) from

-- backwards from a place, by how many glyphs stand between
abbrev pub stop_before : List ℕ → Sight → (ℕ → ℕ → Bool) → Glyphs → ℕ → ℕ → ℕ → ℕ
stop_before gdef sight test gs at k from =
    stop_from (at - from) (λ i. seen_by gdef sight test k (glyph_at gs (at - 1 - i))) from

abbrev pub swept_on : Option ℕ → ℕ → ℕ → (ℕ → Sweep) → Sweep
swept_on None stop k rest = record { to = stop; found = k }
swept_on (Some p) stop k rest = rest p

-- How far a search for so many places goes, from place k of a rule on, and how many it finds.
unfoldable pub swept_from : ℕ → (ℕ → ℕ → Option ℕ) → (ℕ → ℕ → ℕ) → ℕ → ℕ → Sweep
swept_from zero next stop k from = record { to = from; found = k }
swept_from (suc n) next stop k from =
    swept_on (next k from) (stop k from) k (λ p. swept_from n next stop (k + 1) (p + 1))

abbrev pub swept_behind : List ℕ → Sight → (ℕ → ℕ → Bool) → ℕ → Glyphs → ℕ → Sweep
swept_behind gdef sight test count gs from =
    swept_from count (next_in gdef sight test gs) (stop_in gdef sight test gs) 0 from

abbrev pub swept_before : List ℕ → Sight → (ℕ → ℕ → Bool) → ℕ → Glyphs → ℕ → Sweep
swept_before gdef sight test count gs at =
    swept_from count (previous_in gdef sight test gs at) (stop_before gdef sight test gs at) 0 0

-- ---- a rule that doesn't fit

abbrev pub nothing : ℕ → Stretch
nothing at = record { start = at; stop = at }

abbrev pub spanned : Stretch → Stretch → Stretch
spanned a b = record { start = min a.start b.start; stop = max a.stop b.stop }

-- Whether a stretch of so many glyphs is flagged, in a text that has become longer or shorter.
-- Like HarfBuzz, this flags at most 255 glyphs, counted from the first one in the text as it is up
-- to the last one in the text as it was: glyphs that were added count less, removed ones more.
unfoldable pub is_short : ℕ → ℕ → ℕ → Bool
is_short span old_len len = nat_le len (span + old_len) && nat_le (span + old_len - len) 255

-- a stretch, if it isn't too long to be flagged
unfoldable pub counted : ℕ → ℕ → ℕ → ℕ → ℕ → Stretch
counted at old_len len start stop =
    if nat_lt stop start then nothing at
    else (if is_short (stop - start) old_len len then record { start = start; stop = stop }
    else nothing at)

-- Where the input is found, the glyphs behind it are looked for, then those before: HarfBuzz looks
-- at one more before the one where that ends.
unfoldable pub around_looked : List ℕ → Sight → ℕ → Glyphs → ℕ → Sought → ℕ → Stretch
around_looked gdef context old_len gs at rule end =
    let behind = swept_behind gdef context rule.behind rule.behind_count gs end in
    let before = swept_before gdef context rule.before rule.before_count gs at in
    if not (behind.found == rule.behind_count) then counted at (length gs) (length gs) at behind.to
    else (if before.found == rule.before_count then nothing at
    else counted at old_len (length gs) (at - (before.to + 1)) behind.to)

-- the stretch that a rule looked at that doesn't fit
unfoldable pub rule_looked : List ℕ → Sight → Sight → ℕ → Glyphs → ℕ → Sought → Stretch
rule_looked gdef sight context old_len gs at rule =
    let input = swept_behind gdef sight rule.input (rule.input_count - 1) gs (at + 1) in
    if (rule.input_count == 0) || nat_lt 64 rule.input_count then nothing at
    else (if not (is_some (input_in gdef sight rule.input input.found gs at)) then nothing at
    else (if not (input.found == rule.input_count - 1)
    then counted at (length gs) (length gs) at input.to
    else around_looked gdef context old_len gs at rule input.to))

-- ---- the rules that a subtable has for a glyph

-- entry i of a list of offsets behind its count
abbrev pub nth_part : List ℕ → ℕ → List ℕ
nth_part set i = table_at set (u16_in set (2 + i * 2))

-- a ligature as a rule
abbrev pub ligature_sought : List ℕ → Sought
ligature_sought bytes = record {
  before = is_number [];
  before_count = 0;
  input = is_number (table_at bytes 4);
  input_count = u16_in bytes 2;
  behind = is_number [];
  behind_count = 0;
  records = [];
  count = 0;
}

-- how many rules, and each of them
pub record RuleList : Type 0 where
  pub count : ℕ
  pub rule : ℕ → Sought

abbrev pub ligatures_in : List ℕ → RuleList
ligatures_in set = record {
  count = rule_count_in set;
  rule = λ i. ligature_sought (nth_part set i);
}

abbrev pub entries_in : Kind → List ℕ → RuleList
entries_in tables set = record {
  count = rule_count_in set;
  rule = λ i. rule_in tables (nth_part set i);
}

abbrev pub one_in : Kind → List ℕ → RuleList
one_in tables bytes = record { count = 1; rule = λ i. rule_in tables bytes }

unfoldable pub rule_list : RuleSet → RuleList
rule_list (Ligatures set) = ligatures_in set.now
rule_list (Rules tables set) = entries_in (kind tables) set.now
rule_list (One tables bytes) = one_in (kind tables) bytes.now

-- those of a context
unfoldable pub context_rules : Bool → List ℕ → ℕ → Option RuleList
context_rules chained bytes glyph =
    let tables = kind_in chained bytes in
    let format = u16_in bytes 0 in
    let covered = coverage_in (table_at bytes (u16_in bytes 2)) glyph in
    if format == 1 then option_map (λ number. entries_in tables (set_in bytes 4 number)) covered
    else (if format == 2 then (if is_some covered
    then Some (entries_in tables (set_in bytes (sets_at chained) (class_in tables.input glyph)))
    else None)
    else (if format == 3 then (if is_some (coverage_in (table_at bytes (u16_in bytes (first_at
    chained bytes))) glyph) then Some (one_in tables bytes) else None)
    else None))

-- ---- rules in turn

-- what several looked at, up to the first that fits
unfoldable pub all_looked : ℕ → (ℕ → Bool) → (ℕ → Stretch) → ℕ → Stretch → Stretch
all_looked zero fits look i looked = looked
all_looked (suc n) fits look i looked =
    if fits i then spanned looked (look i)
    else all_looked n fits look (i + 1) (spanned looked (look i))

unfoldable pub set_looked : List ℕ → Sight → Sight → ℕ → Glyphs → ℕ → RuleList → Stretch
set_looked gdef sight context old_len gs at rules =
    all_looked rules.count
    (λ i. is_some (found_at gdef sight context gs at (rules.rule i)))
    (λ i. rule_looked gdef sight context old_len gs at (rules.rule i)) 0 (nothing at)

abbrev pub looked_by : List ℕ → Sight → Sight → ℕ → Glyphs → ℕ → Option RuleList → Stretch
looked_by gdef sight context old_len gs at None = nothing at
looked_by gdef sight context old_len gs at (Some rules) =
    set_looked gdef sight context old_len gs at rules

-- no concatenation in a stretch, as far as the text goes
unfoldable pub unjoined : Stretch → Glyphs → Glyphs
unjoined looked gs =
    let end = min (length gs) looked.stop in
    if nat_lt looked.start end then unsafe_to_concat_in true looked.start end gs else gs
