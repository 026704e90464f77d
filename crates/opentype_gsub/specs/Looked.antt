-- How far the rules of a lookup of GSUB look that don't fit.
use Rattle.std.specs.Prelude.{ℕ, ◌==◌, ◌&&◌, nat_lt, Bool, true, false, is_some, List, length, Option, None, if◌then◌else◌}
use Rattle.std.specs.Option.{option_map}
use Rattle.shapers_buffer.specs.Glyphs.{Glyphs}
use Rattle.opentype_face.specs.Lookups.{subtable_in, subtables_in, type_in}
use Rattle.opentype_layout.specs.Looking.{RuleList, all_looked, context_rules, ligatures_in, looked_by, nothing, unjoined}
use Rattle.opentype_layout.specs.Text.{glyph_at}
use Rattle.opentype_layout.specs.declared.looking.Stretch.{Stretch}
use Rattle.opentype_gsub.specs.Applied.{two_byte_number}
use Rattle.opentype_gsub.specs.Decided.{set_for_glyph}
use Rattle.shapers_buffer.specs.LookupRecords.{record_for}
use Rattle.opentype_gsub.specs.Came.{nth_came}
use Rattle.opentype_gsub.specs.Setting.{Setting, sights_of}
use Rattle.opentype_gsub.specs.declared.pass.Sights.{Sights}

-- the rules that a subtable has for a glyph: ligatures, or those of a context
unfoldable pub rules_in : ℕ → List ℕ → ℕ → Option RuleList
rules_in kind bytes glyph =
    if kind == 4 then option_map ligatures_in (set_for_glyph bytes glyph)
    else (if kind == 5 then context_rules false bytes glyph
    else (if kind == 6 then context_rules true bytes glyph else None))

unfoldable pub subtable_looked : Setting → Sights → List ℕ → Glyphs → ℕ → ℕ → Stretch
subtable_looked s sights lookup gs at i =
    looked_by s.gdef sights.input sights.context s.len gs at
    (rules_in (type_in 7 lookup i) (subtable_in 7 lookup i) (two_byte_number gs at))

-- Whether a subtable does something at a place: the record of the text's lookups doesn't decide it,
-- and may be any one.
abbrev pub nth_comes : Setting → Sights → List ℕ → ℕ → Glyphs → ℕ → Bool
nth_comes s sights lookup at gs i = is_some (nth_came s sights lookup at gs (record_for 0) i)

-- what the subtables of a lookup looked at, up to the first that does something
unfoldable pub lookup_looked : Setting → Sights → List ℕ → Glyphs → ℕ → Stretch
lookup_looked s sights lookup gs at =
    all_looked (subtables_in lookup) (nth_comes s sights lookup at gs)
    (subtable_looked s sights lookup gs at) 0 (nothing at)

-- a text at a place of which a lookup is tried, where such flags are wanted
unfoldable pub tried : Setting → List ℕ → Glyphs → ℕ → Glyphs
tried s lookup gs at =
    let sights = sights_of s.gdef s.lookup lookup (glyph_at gs at) in
    if s.concat && nat_lt at (length gs)
    then unjoined (lookup_looked s sights lookup gs at) gs else gs
