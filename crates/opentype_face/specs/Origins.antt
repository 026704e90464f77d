-- Where the origins of glyphs for vertical text lie, as HarfBuzz has them: by VORG; where there is
-- none, by the tops of outlines and vmtx; and else in the middle of a line.
use Rattle.std.specs.Prelude.{ℕ, zero, suc, ◌+◌, ◌-◌, ◌/◌, ◌%◌, ◌==◌, ◌||◌, nat_lt, nat_le, ℤ, pos, ◌+ℤ◌, ◌-ℤ◌, nat_abs, List, length, Option, None, Some, if◌then◌else◌}
use Rattle.std.specs.Option.{unwrap_or}
use Rattle.opentype_face.specs.Bytes.{i16_in, u16_in}
use Rattle.opentype_face.specs.Firsts.{or_else}
use Rattle.opentype_face.specs.Outlines.{box_bottom_in, box_top_in, has_box_in, outline_in}

-- OpenType, glyf: a composite glyph is a number of contours below 0, a box, and from byte 10 on
-- records of its components: flags, a glyph, two numbers of one or two bytes, and a scale, which is
-- one number, two, or a matrix of four. How long a scale and a record are:
abbrev pub scale_size : ℕ → ℕ
scale_size flags =
    if flags / 0x8 % 2 == 1 then 2
    else (if flags / 0x40 % 2 == 1 then 4 else (if flags / 0x80 % 2 == 1 then 8 else 0))

abbrev pub component_size : ℕ → ℕ
component_size flags = (if flags % 2 == 1 then 8 else 6) + scale_size flags

-- the glyph of a record, if the composite has its metrics (USE_MY_METRICS)
abbrev pub lent_at : List ℕ → ℕ → Option ℕ
lent_at outline at =
    if u16_in outline at / 0x200 % 2 == 1 then Some (u16_in outline (at + 2)) else None

-- the last such glyph of the records from a place on, of so many at most: one of those behind the
-- first (MORE_COMPONENTS), or else its own
unfoldable pub lent_from : ℕ → List ℕ → ℕ → Option ℕ
lent_from zero outline at = None
lent_from (suc n) outline at =
    let flags = u16_in outline at in
    or_else
    (if flags / 0x20 % 2 == 1 then lent_from n outline (at + component_size flags) else None)
    (lent_at outline at)

-- the glyph whose metrics an outline has, other than its own; of 2,048 components at most
abbrev pub lender_in : List ℕ → Option ℕ
lender_in outline =
    if nat_lt (length outline) 10 || nat_lt (u16_in outline 0) 32768 then None
    else lent_from 2048 outline 10

-- the glyph that lends a glyph its metrics, or else itself
abbrev pub lender_of : List ℕ → List ℕ → List ℕ → ℕ → ℕ
lender_of head loca glyf glyph = unwrap_or (lender_in (outline_in head loca glyf glyph)) glyph

-- the glyph that so many steps from each to its lender come to
unfoldable pub measured : ℕ → List ℕ → List ℕ → List ℕ → ℕ → ℕ
measured zero head loca glyf glyph = glyph
measured (suc n) head loca glyf glyph =
    measured n head loca glyf (lender_of head loca glyf glyph)

-- the last number of an outline's box
abbrev pub top_in : List ℕ → ℤ
top_in outline = if nat_lt (length outline) 10 then pos 0 else i16_in outline 8

-- a box of such a top and height in the middle of a line: as far below the top of the line as the
-- box is above its bottom; half a unit is left away
abbrev pub centred_in : ℤ → ℕ → ℕ → ℤ
centred_in top height line =
    if nat_le height line then top +ℤ pos ((line - height) / 2)
    else top -ℤ pos ((height - line + 1) / 2)

-- the same of an outline; one without contours is a box of no height on the base line
abbrev pub centred_outline : List ℕ → ℕ → ℤ
centred_outline outline line =
    if has_box_in outline
    then centred_in (box_top_in outline) (nat_abs (box_top_in outline -ℤ box_bottom_in outline))
    line
    else centred_in (pos 0) 0 line
