-- Whether a lookup of GSUB would apply to exactly some glyphs, by the bytes of its table.
use Rattle.std.specs.Prelude.{ℕ, ◌+◌, ◌-◌, ◌*◌, min, ◌==◌, ◌&&◌, ◌||◌, not, nat_lt, Bool, false, is_some, length, List, Option, None, Some, slice_index_or, if◌then◌else◌}
use Rattle.shapers_base.specs.declared.font.GlyphId.{GlyphId}
use Rattle.opentype_face.specs.Bytes.{u16_in, table_at}
use Rattle.opentype_face.specs.Glyphs.{class_in, coverage_in}
use Rattle.opentype_face.specs.Lookups.{lookup_in, subtable_in, subtables_in, type_in}
use Rattle.opentype_layout.specs.Pattern.{is_in_sets, is_number}
use Rattle.opentype_layout.specs.Rules.{set_in}
use Rattle.opentype_font.specs.Tests.{all_pass, some_of}

-- the number of a glyph by its place
abbrev pub nth_number : List GlyphId → ℕ → ℕ
nth_number glyphs k = (slice_index_or glyphs k (record { 0 = 0 })).0

-- the place of the first glyph in the set that a subtable begins with
abbrev pub place_of_first : List ℕ → List GlyphId → Option ℕ
place_of_first bytes glyphs = coverage_in (table_at bytes (u16_in bytes 2)) (nth_number glyphs 0)

-- whether the glyphs from one on fit places 0, 1, 2 .. of a rule, by a test
abbrev pub fit_each : (ℕ → ℕ → Bool) → ℕ → List GlyphId → Bool
fit_each test first glyphs = all_pass (length glyphs - first) (λ i. test i (nth_number glyphs
    (first + i)))

-- whether the glyphs behind the first one are these numbers, or have these classes
abbrev pub fit_numbers : List ℕ → Option (List ℕ) → List GlyphId → Bool
fit_numbers numbers None glyphs = fit_each (is_number numbers) 1 glyphs
fit_numbers numbers (Some classes) glyphs =
    fit_each (λ k glyph. u16_in numbers (k * 2) == class_in classes glyph) 1 glyphs

-- how many of a set's rules or ligatures are asked: 256 at most
abbrev pub rule_count : List ℕ → ℕ
rule_count set = min (u16_in set 0) 256

-- one of a set's rules or ligatures
abbrev pub rule_of_set : List ℕ → ℕ → List ℕ
rule_of_set set i = table_at set (u16_in set (2 + i * 2))

-- types 1, 2, 3 and 8: one glyph, which is covered
unfoldable pub one_fits : ℕ → List ℕ → List GlyphId → Bool
one_fits kind bytes glyphs =
    (u16_in bytes 0 == 1 || kind == 1 && (u16_in bytes 0 == 2))
    && (length glyphs == 1) && is_some (place_of_first bytes glyphs)

-- type 4: a ligature of exactly these glyphs
unfoldable pub ligature_fits : List ℕ → List GlyphId → ℕ → Bool
ligature_fits set glyphs i =
    if u16_in (rule_of_set set i) 2 == length glyphs
    then fit_each (is_number (table_at (rule_of_set set i) 4)) 1 glyphs else false

abbrev pub has_ligature : List GlyphId → List ℕ → Bool
has_ligature glyphs set = some_of (rule_count set) (ligature_fits set glyphs)

-- whether the set at a place of a subtable, if there is a place, passes a test
abbrev pub if_set : List ℕ → ℕ → (List ℕ → Bool) → Option ℕ → Bool
if_set bytes at test None = false
if_set bytes at test (Some place) = test (set_in bytes at place)

unfoldable pub ligatures_fit : List ℕ → List GlyphId → Bool
ligatures_fit bytes glyphs =
    if u16_in bytes 0 == 1 then if_set bytes 4 (has_ligature glyphs) (place_of_first bytes glyphs)
    else false

-- type 5: a rule of exactly these glyphs, by their numbers, their classes, or sets
unfoldable pub rule_fits : List ℕ → Option (List ℕ) → List GlyphId → ℕ → Bool
rule_fits set classes glyphs i =
    if u16_in (rule_of_set set i) 0 == length glyphs
    then fit_numbers (table_at (rule_of_set set i) 4) classes glyphs else false

abbrev pub rules_fit : Option (List ℕ) → List GlyphId → List ℕ → Bool
rules_fit classes glyphs set = some_of (rule_count set) (rule_fits set classes glyphs)

unfoldable pub sets_fit : List ℕ → List GlyphId → Bool
sets_fit bytes glyphs =
    if u16_in bytes 2 == length glyphs then fit_each (is_in_sets (table_at bytes 6) bytes) 0 glyphs
    else false

unfoldable pub context_fits : List ℕ → List GlyphId → Bool
context_fits bytes glyphs =
    if u16_in bytes 0 == 1 then if_set bytes 4 (rules_fit None glyphs) (place_of_first bytes glyphs)
    else (if u16_in bytes 0 == 2 then
    (let classes = table_at bytes (u16_in bytes 4) in
    if is_some (place_of_first bytes glyphs)
    then rules_fit (Some classes) glyphs (set_in bytes 6 (class_in classes (nth_number glyphs
    0))) else false)
    else (if u16_in bytes 0 == 3 then sets_fit bytes glyphs else false))

-- whether a rule that looks at so many glyphs before its input and behind is barred, since no
-- glyphs around count
abbrev pub is_barred : Bool → ℕ → ℕ → Bool
is_barred zero_context before behind = zero_context && (not (before == 0) || not (behind == 0))

-- type 6: likewise, and with no context only a rule that has neither glyphs before nor behind
unfoldable pub chained_rule_fits : List ℕ → Option (List ℕ) → List GlyphId → Bool → ℕ → Bool
chained_rule_fits set classes glyphs zero_context i =
    let rule = rule_of_set set i in
    let input = 2 + u16_in rule 0 * 2 in
    let behind = input + u16_in rule input * 2 in
    if is_barred zero_context (u16_in rule 0) (u16_in rule behind) then false
    else (if u16_in rule input == length glyphs
    then fit_numbers (table_at rule (input + 2)) classes glyphs else false)

abbrev pub chained_rules_fit : Option (List ℕ) → List GlyphId → Bool → List ℕ → Bool
chained_rules_fit classes glyphs zero_context set =
    some_of (rule_count set) (chained_rule_fits set classes glyphs zero_context)

unfoldable pub chained_sets_fit : List ℕ → List GlyphId → Bool → Bool
chained_sets_fit bytes glyphs zero_context =
    let input = 4 + u16_in bytes 2 * 2 in
    let behind = input + 2 + u16_in bytes input * 2 in
    if is_barred zero_context (u16_in bytes 2) (u16_in bytes behind) then false
    else (if u16_in bytes input == length glyphs
    then fit_each (is_in_sets (table_at bytes (input + 2)) bytes) 0 glyphs else false)

unfoldable pub chained_fits : List ℕ → List GlyphId → Bool → Bool
chained_fits bytes glyphs zero_context =
    if u16_in bytes 0 == 1 then
    if_set bytes 4 (chained_rules_fit None glyphs zero_context) (place_of_first bytes glyphs)
    else (if u16_in bytes 0 == 2 then
    (let classes = table_at bytes (u16_in bytes 6) in
    if is_some (place_of_first bytes glyphs)
    then chained_rules_fit (Some classes) glyphs zero_context
    (set_in bytes 10 (class_in classes (nth_number glyphs 0))) else false)
    else (if u16_in bytes 0 == 3 then chained_sets_fit bytes glyphs zero_context else false))

-- a subtable by its type; a question of no glyph, or of more than a rule may have, has no answer
unfoldable pub subtable_applies : ℕ → List ℕ → List GlyphId → Bool → Bool
subtable_applies kind bytes glyphs zero_context =
    if (length glyphs == 0) || nat_lt 65535 (length glyphs) then false
    else (if kind == 1 || kind == 2 || kind == 3 || kind == 8 then one_fits kind bytes glyphs
    else (if kind == 4 then ligatures_fit bytes glyphs
    else (if kind == 5 then context_fits bytes glyphs
    else (if kind == 6 then chained_fits bytes glyphs zero_context
    else false))))

abbrev pub nth_applies : List ℕ → List GlyphId → Bool → ℕ → Bool
nth_applies lookup glyphs zero_context i =
    subtable_applies (type_in 7 lookup i) (subtable_in 7 lookup i) glyphs zero_context

-- a lookup: one of its subtables would, of which 256 are asked at most
abbrev pub lookup_applies : List ℕ → List GlyphId → Bool → Bool
lookup_applies lookup glyphs zero_context =
    some_of (min (subtables_in lookup) 256) (nth_applies lookup glyphs zero_context)

abbrev pub would_apply : List ℕ → ℕ → List GlyphId → Bool → Bool
would_apply gsub index glyphs zero_context =
    lookup_applies (lookup_in gsub index) glyphs zero_context
