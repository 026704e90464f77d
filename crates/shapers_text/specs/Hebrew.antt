-- Hebrew: the order of marks, and the pairs that compose.
use Rattle.std.specs.Prelude.{ℕ, suc, ◌+◌, ◌-◌, ◌==◌, nat_le, Bool, false, not, ◌&&◌, ◌||◌, List, [], ◌∷◌, length, swap, find, Option, None, Some, option_map, if◌then◌else◌}
use Rattle.std.specs.Option.{option_map_or}
use Rattle.shapers_buffer.specs.Glyphs.{Glyphs}
use Rattle.shapers_buffer.specs.Buffer.{Buffer}
use Rattle.shapers_buffer.specs.Clusters.{stretch_of}
use Rattle.shapers_buffer.specs.Properties.{modified_combining_class}
use Rattle.shapers_clusters.specs.Flags.{whole}
use Rattle.shapers_clusters.specs.Laws.{ReorderedHold}
use Rattle.shapers_clusters.specs.Steps.{Step, still_step, swap_step}

-- the classes of patah and qamats, of sheva and hiriq, of meteg and marks below (Unicode's
-- canonical combining classes, as HarfBuzz orders those of Hebrew)
abbrev pub is_patah_or_qamats : ℕ → Bool
is_patah_or_qamats class = class == 20 || class == 21

abbrev pub is_sheva_or_hiriq : ℕ → Bool
is_sheva_or_hiriq class = class == 22 || class == 23

abbrev pub is_meteg_or_below : ℕ → Bool
is_meteg_or_below class = class == 25 || class == 220

-- Whether the first three glyphs are of those classes, one of each, in that order. A glyph of such
-- a class counts as a mark, whatever its category.
abbrev pub begins_triple : Glyphs → Bool
begins_triple (a ∷ (b ∷ (c ∷ gs))) =
    is_patah_or_qamats (modified_combining_class a.unicode_props)
    && is_sheva_or_hiriq (modified_combining_class b.unicode_props)
    && is_meteg_or_below (modified_combining_class c.unicode_props)
begins_triple _ = false

-- the first place at which three neighbours are such marks (HarfBuzz's order of Hebrew marks)
abbrev pub triple_place : Glyphs → Option ℕ
triple_place [] = None
triple_place (g ∷ gs) = if begins_triple (g ∷ gs) then Some 0 else option_map suc (triple_place gs)

-- among the places from start to end, the place of the second of the first three
abbrev pub second_of_triple : ℕ → ℕ → Glyphs → Option ℕ
second_of_triple start end gs =
    option_map (λ i. start + i + 1) (triple_place (stretch_of start end gs))

-- the glyphs with the last two of the first three swapped
abbrev pub marks_swapped : ℕ → ℕ → Glyphs → Glyphs
marks_swapped start end gs =
    option_map_or (λ i. swap gs i (i + 1)) (second_of_triple start end gs) gs

-- the same as a step: the two merge, and then they change places
abbrev pub step_at : ℕ → Option ℕ → Step
step_at n None = still_step n
step_at n (Some i) = swap_step n i

abbrev pub hebrew_mark_step : ℕ → ℕ → Glyphs → Step
hebrew_mark_step start end gs = step_at (length gs) (second_of_triple start end gs)

-- what the reordering promises: no glyph is lost, and the laws of clusters and flags hold
abbrev pub HebrewMarksReordered : ℕ → ℕ → Buffer → Buffer → Type 0
HebrewMarksReordered start end old new =
    ReorderedHold whole old.level (hebrew_mark_step start end old.glyphs ∷ []) old.glyphs new.glyphs

-- a letter, a point, and the form that they compose to (Unicode's presentation forms FB1D to FB4E)
abbrev pub pairs : List (ℕ × ℕ × ℕ)
pairs = (0x05D9, 0x05B4, 0xFB1D) ∷ (0x05F2, 0x05B7, 0xFB1F) ∷ (0x05D0, 0x05B7, 0xFB2E)
    ∷ (0x05D0, 0x05B8, 0xFB2F) ∷ (0x05D5, 0x05B9, 0xFB4B) ∷ (0x05D1, 0x05BF, 0xFB4C)
    ∷ (0x05DB, 0x05BF, 0xFB4D) ∷ (0x05E4, 0x05BF, 0xFB4E) ∷ (0x05E9, 0x05C1, 0xFB2A)
    ∷ (0xFB49, 0x05C1, 0xFB2C) ∷ (0x05E9, 0x05C2, 0xFB2B) ∷ (0xFB49, 0x05C2, 0xFB2D)
    ∷ (0xFB2A, 0x05BC, 0xFB2C) ∷ (0xFB2B, 0x05BC, 0xFB2D) ∷ []

-- the letters without a form with dagesh: het, final mem, final nun, ayin and final tsadi
abbrev pub lacks_dagesh : ℕ → Bool
lacks_dagesh a = a == 0x05D7 || a == 0x05DD || a == 0x05DF || a == 0x05E2 || a == 0x05E5

-- whether a letter and dagesh stand in the row of forms that begins at FB30 with alef (Unicode)
abbrev pub is_in_dagesh_row : ℕ → ℕ → Bool
is_in_dagesh_row a b = b == 0x05BC && (nat_le 0x05D0 a && nat_le a 0x05EA) && not (lacks_dagesh a)

-- the form of a letter and a point: in the row of dagesh, or by the list of pairs
abbrev pub hebrew_form : ℕ → ℕ → Option ℕ
hebrew_form a b =
    if is_in_dagesh_row a b then Some (0xFB30 + (a - 0x05D0))
    else option_map (λ p. p.2) (find (λ p. (p.0 == a) && (p.1 == b)) pairs)

-- the table's composition, else where the font places no marks of its own the form
abbrev pub composed_in_hebrew : Option ℕ → Bool → ℕ → ℕ → Option ℕ
composed_in_hebrew (Some c) places_marks a b = Some c
composed_in_hebrew None places_marks a b = if places_marks then None else hebrew_form a b
