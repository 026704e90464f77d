-- The ligature that fits a place of a text.
use Rattle.std.specs.Prelude.{ℕ, ◌+◌, ◌-◌, ◌*◌, ◌==◌, ◌||◌, nat_lt, List, Option, None, if◌then◌else◌}
use Rattle.std.specs.Option.{option_map}
use Rattle.shapers_buffer.specs.Glyphs.{Glyphs}
use Rattle.opentype_face.specs.Bytes.{u16_in, table_at}
use Rattle.opentype_layout.specs.Ligatures.{input_in}
use Rattle.opentype_layout.specs.Pattern.{is_number}
use Rattle.opentype_layout.specs.declared.sight.Sight.{Sight}

-- a ligature, and the places of its glyphs behind the first one, if all are there; of at most 64
unfoldable pub ligature_of : List ℕ → Sight → Glyphs → ℕ → List ℕ → Option (ℕ × List ℕ)
ligature_of gdef sight gs at ligature =
    let count = u16_in ligature 2 in
    if count == 0 || nat_lt 64 count then None
    else option_map (λ ps. (u16_in ligature 0, ps))
    (input_in gdef sight (is_number (table_at ligature 4)) (count - 1) gs at)

abbrev pub nth_ligature : List ℕ → Sight → Glyphs → ℕ → List ℕ → ℕ → Option (ℕ × List ℕ)
nth_ligature gdef sight gs at set i =
    ligature_of gdef sight gs at (table_at set (u16_in set (2 + i * 2)))
