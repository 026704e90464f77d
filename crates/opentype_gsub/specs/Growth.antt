-- How much longer a lookup makes a text.
use Rattle.std.specs.Prelude.{ℕ, ◌==◌, ◌||◌, Bool, is_some, List, Option, None, Some, if◌then◌else◌}
use Rattle.opentype_face.specs.Lookups.{lookup_in, subtables_in, type_in}
use Rattle.opentype_face.specs.Firsts.{first_from}

-- whether a subtable of a type may add glyphs: one of sequences, or of rules, which apply lookups
abbrev pub may_add : ℕ → Bool
may_add kind = (kind == 2) || ((kind == 5) || (kind == 6))

unfoldable pub adding : List ℕ → ℕ → Option ℕ
adding lookup i = if may_add (type_in 7 lookup i) then Some i else None

-- how many times as long it makes a text at most: once, where none of its subtables may add glyphs
abbrev pub growth_in : List ℕ → ℕ → ℕ
growth_in gsub index =
    let lookup = lookup_in gsub index in
    if is_some (first_from (subtables_in lookup) (adding lookup) 0) then 65536 else 1
