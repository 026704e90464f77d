-- loca and glyf: a glyph's outline and its box.
use Rattle.std.specs.Prelude.{ℕ, Bool, not, ℤ, nat_abs, ◌-ℤ◌, int_lt, ◌+◌, ◌-◌, ◌*◌, ◌/◌, ◌==◌, ◌&&◌, ◌||◌, nat_lt, nat_le, List, [], length, if◌then◌else◌}
use Rattle.opentype_face.specs.Bytes.{i16_in, stretch_bytes, u16_in, u32_in}

-- how many outlines there are, by indexToLocFormat; none in a format that HarfBuzz doesn't know
abbrev pub outline_count_in : List ℕ → List ℕ → ℕ
outline_count_in head loca =
    if nat_lt 1 (u16_in head 50) || nat_lt 1 (u16_in head 52) then 0
    else (if u16_in head 50 == 0 then length loca / 2 - 1 else length loca / 4 - 1)

-- where outline number i begins, and the one before it ends
abbrev pub outline_at : List ℕ → List ℕ → ℕ → ℕ
outline_at head loca i = if u16_in head 50 == 0 then 2 * u16_in loca (i * 2) else u32_in loca (i *
    4)

-- the bytes of an outline, nothing where they aren't in the table
abbrev pub outline_in : List ℕ → List ℕ → List ℕ → ℕ → List ℕ
outline_in head loca glyf glyph =
    let start = outline_at head loca glyph in
    let end = outline_at head loca (glyph + 1) in
    if nat_le start end && nat_le end (length glyf) then stretch_bytes glyf start (end - start)
    else []

-- whether an outline has a box: it has contours
abbrev pub has_box_in : List ℕ → Bool
has_box_in outline = not (nat_lt (length outline) 10 || u16_in outline 0 == 0)

-- the greater and the lesser of the two heights are its top and its bottom; the one of the two
-- places to the right is as far from the other as it is wide
abbrev pub box_top_in : List ℕ → ℤ
box_top_in outline =
    if int_lt (i16_in outline 8) (i16_in outline 4) then i16_in outline 4 else i16_in outline 8

abbrev pub box_bottom_in : List ℕ → ℤ
box_bottom_in outline =
    if int_lt (i16_in outline 8) (i16_in outline 4) then i16_in outline 8 else i16_in outline 4

abbrev pub box_width_in : List ℕ → ℕ
box_width_in outline = nat_abs (i16_in outline 6 -ℤ i16_in outline 2)
