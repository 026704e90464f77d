-- What the places of a rule look for.
use Rattle.std.specs.Prelude.{ℕ, zero, suc, ◌+◌, ◌-◌, ◌*◌, ◌%◌, ◌==◌, Bool, is_some, length, List, [], ◌∷◌, Option, Some}
use Rattle.std.specs.Option.{option_and_then, option_map}
use Rattle.shapers_buffer.specs.Glyphs.{Glyph, Glyphs}
use Rattle.opentype_face.specs.Bytes.{u16_in, table_at}
use Rattle.opentype_face.specs.Glyphs.{class_in, coverage_in}
use Rattle.opentype_layout.specs.declared.pattern.Pattern.{Pattern}
use Rattle.opentype_layout.specs.declared.pattern.Pattern.TheVariants.{Glyphs as Numbers, Classes, Sets}
use Rattle.opentype_layout.specs.declared.sight.Sight.{Sight}
use Rattle.opentype_layout.specs.Text.{glyph_at}
use Rattle.opentype_layout.specs.Sight.{next_from, seen_as}

-- whether a glyph is in set k of these, whose offsets are from the start of a table
abbrev pub is_in_sets : List ℕ → List ℕ → ℕ → ℕ → Bool
is_in_sets offsets table k glyph = is_some (coverage_in (table_at table (u16_in offsets (k * 2)))
    glyph)

-- whether a glyph is number k of these
abbrev pub is_number : List ℕ → ℕ → ℕ → Bool
is_number glyphs k glyph = u16_in glyphs (k * 2) == glyph

unfoldable pub fits : Pattern → ℕ → ℕ → Bool
fits (Numbers glyphs) k glyph = is_number glyphs.now k glyph
fits (Classes classes of) k glyph = u16_in classes.now (k * 2) == class_in of.bytes.now glyph
fits (Sets offsets table) k glyph = is_in_sets offsets.now table.now k glyph

unfoldable pub seen_by : List ℕ → Sight → (ℕ → ℕ → Bool) → ℕ → Glyph → Option Bool
seen_by gdef sight test k g = seen_as gdef sight (test k (g.glyph_id % 65536)) g

-- the first glyph from a place on that fits place k of a rule, by a test
abbrev pub next_in : List ℕ → Sight → (ℕ → ℕ → Bool) → Glyphs → ℕ → ℕ → Option ℕ
next_in gdef sight test gs k from =
    next_from (length gs - from) (λ i. seen_by gdef sight test k (glyph_at gs i)) from

-- the nearest one before a place, by how many glyphs stand between
abbrev pub previous_in : List ℕ → Sight → (ℕ → ℕ → Bool) → Glyphs → ℕ → ℕ → ℕ → Option ℕ
previous_in gdef sight test gs at k from =
    next_from (at - from) (λ i. seen_by gdef sight test k (glyph_at gs (at - 1 - i))) from

-- where the places of a rule find their glyphs, from place k on: so many, each behind the one
-- before
unfoldable pub places_from : ℕ → (ℕ → ℕ → Option ℕ) → ℕ → ℕ → Option (List ℕ)
places_from zero next k from = Some []
places_from (suc n) next k from = option_and_then (λ p.
    option_map (λ ps. p ∷ ps) (places_from n next (k + 1) (p + 1))) (next k from)
