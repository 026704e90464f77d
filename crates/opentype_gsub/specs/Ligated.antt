-- Type 4: a ligature in the place of several glyphs, and the marks that belong to it (HarfBuzz,
-- `ligate_input`).
use Rattle.std.specs.Prelude.{ℕ, zero, suc, ◌+◌, ◌-◌, ◌*◌, ◌/◌, ◌%◌, ◌^◌, ◌==◌, ◌&&◌, ◌||◌, not, min, Bool, bit_and, bit_or, List, length, slice_set, if◌then◌else◌}
use Rattle.std.specs.List.{list_all, list_any}
use Rattle.shapers_buffer.specs.Glyphs.{Glyph, Glyphs}
use Rattle.shapers_buffer.specs.Properties.{component, has_bit}
use Rattle.shapers_buffer.specs.declared.buffer.level.BufferClusterLevel.{BufferClusterLevel}
use Rattle.shapers_buffer.specs.declared.buffer.unicode_props.UnicodeProps.{UnicodeProps}
use Rattle.opentype_gsub.specs.Edits.{last_place, merged_up_to, removed_all, replaced}
use Rattle.opentype_gsub.specs.declared.ligating.Counted.{Counted}
use Rattle.opentype_layout.specs.Text.{glyph_at}

-- the number of the ligature that a glyph is or belongs to; 0 for none
abbrev pub ligature_number : Glyph → ℕ
ligature_number g = g.lig_props.0 / 32

-- how many components it has: a ligature as many as it counts, any other glyph one
unfoldable pub components_of : Glyph → ℕ
components_of g =
    if has_bit 4 g.glyph_props.0 && (g.lig_props.0 / 16 % 2 == 1) then g.lig_props.0 % 16 else 1

-- ---- whether marks belong to it, and its number

abbrev pub is_mark_at : Glyphs → ℕ → Bool
is_mark_at gs p = has_bit 8 (glyph_at gs p).glyph_props.0

abbrev pub is_base_at : Glyphs → ℕ → Bool
is_base_at gs p = has_bit 2 (glyph_at gs p).glyph_props.0

unfoldable pub is_of_marks : Glyphs → ℕ → List ℕ → Bool
is_of_marks gs at ps = is_mark_at gs at && list_all (is_mark_at gs) ps

-- of a base and marks
unfoldable pub is_of_base : Glyphs → ℕ → List ℕ → Bool
is_of_base gs at ps = is_base_at gs at && list_all (is_mark_at gs) ps

-- the number of the nearest ligature before a place; 0 where there is none
unfoldable pub number_before : ℕ → Glyphs → ℕ
number_before zero gs = 0
number_before (suc n) gs =
    if ligature_number (glyph_at gs n) == 0 then number_before n gs else ligature_number (glyph_at
    gs n)

-- A ligature's number: 1 to 7 in turn, by the nearest one before it. One of marks, or of a base and
-- marks, has none.
unfoldable pub number_for : Glyphs → ℕ → List ℕ → ℕ
number_for gs at ps =
    if is_of_marks gs at ps || is_of_base gs at ps then 0 else number_before at gs % 7 + 1

-- ---- its components, and the marks among them

-- one more glyph of the ligature: how many components so far, how many the last glyph has, and its
-- number
unfoldable pub counted_too : Counted → Glyph → Counted
counted_too c g = record {
  all = min (2 ^ 64 - 1) (c.all + components_of g);
  last = components_of g;
  number = ligature_number g;
}

-- a mark of the last glyph so far: it stays with its component, or is of the last one
unfoldable pub as_mark : ℕ → Counted → Glyph → Glyph
as_mark number c g =
    let own = component g.lig_props in
    let inside = (if own == 0 then c.last else min own c.last) in
    record g { lig_props = record { 0 = number * 32 + (c.all - c.last + inside) % 16 } }

pub record Marked : Type 0 where
  pub text : Glyphs
  pub counted : Counted

-- the glyph at a place: one of the ligature's, or a mark among them
unfoldable pub marked_one : ℕ → List ℕ → Glyphs → ℕ → Counted → Marked
marked_one number ps gs i c =
    if list_any (λ p. p == i) ps then record { text = gs; counted = counted_too c (glyph_at gs i) }
    else (if number == 0 then record { text = gs; counted = c }
    else record { text = slice_set gs i (as_mark number c (glyph_at gs i)); counted = c })

-- so many glyphs from a place on
unfoldable pub marks_inside : ℕ → ℕ → List ℕ → Glyphs → ℕ → Counted → Marked
marks_inside zero number ps gs i c = record { text = gs; counted = c }
marks_inside (suc n) number ps gs i c =
    marks_inside n number ps (marked_one number ps gs i c).text (i + 1) (marked_one number ps gs i
    c).counted

-- whether a glyph is a mark of the last one's component
unfoldable pub is_of_last : Counted → Glyph → Bool
is_of_last c g = (ligature_number g == c.number) && not (component g.lig_props == 0)

-- the marks behind, of so many glyphs from a place on, that were of the last one
unfoldable pub followed_by_marks : ℕ → ℕ → Counted → Glyphs → ℕ → Glyphs
followed_by_marks zero number c gs i = gs
followed_by_marks (suc n) number c gs i =
    if is_of_last c (glyph_at gs i)
    then followed_by_marks n number c (slice_set gs i (as_mark number c (glyph_at gs i))) (i + 1)
    else gs

unfoldable pub with_followers : Bool → ℕ → Counted → Glyphs → ℕ → Glyphs
with_followers of_marks number c gs from =
    if of_marks || (c.number == 0) then gs else followed_by_marks (length gs - from) number c gs
    from

-- ---- the ligature

-- a non-spacing mark is a letter then
unfoldable pub as_letter : UnicodeProps → UnicodeProps
as_letter props = if props.0 % 32 == 12 then record { 0 = props.0 - 5 } else props

-- its class, where the font has none
abbrev pub guess_for : ℕ → ℕ
guess_for number = if number == 0 then 0 else 4

unfoldable pub ligature_glyph : List ℕ → ℕ → ℕ → ℕ → Glyph → Glyph
ligature_glyph gdef to number count g =
    let r = replaced gdef to (guess_for number) g in
    let props = bit_and (bit_or r.glyph_props.0 32) 65471 in
    record r {
      glyph_props = record { 0 = props };
      lig_props = if number == 0 then r.lig_props else record { 0 = number * 32 + 16 + count % 16 };
      unicode_props = if number == 0 then r.unicode_props else as_letter r.unicode_props;
    }

abbrev pub nothing_counted : Counted
nothing_counted = record { all = 0; last = 0; number = 0 }

-- the glyphs of a ligature before those behind the first one go
unfoldable pub ligature_joined : List ℕ → BufferClusterLevel → ℕ → List ℕ → ℕ → Glyphs → Glyphs
ligature_joined gdef level at ps to gs =
    let last = last_place at ps in
    let ms = merged_up_to level at last gs in
    let number = number_for ms at ps in
    let m = marks_inside (last - at) number ps ms (at + 1) (counted_too nothing_counted (glyph_at
    ms at)) in
    let ts = with_followers (is_of_marks ms at ps) number m.counted m.text (last + 1) in
    slice_set ts at (ligature_glyph gdef to number m.counted.all (glyph_at ms at))

-- one glyph for the one at a place and those at other places behind it
unfoldable pub ligated : List ℕ → BufferClusterLevel → ℕ → List ℕ → ℕ → Glyphs → Glyphs
ligated gdef level at ps to gs = removed_all ps (ligature_joined gdef level at ps to gs)
