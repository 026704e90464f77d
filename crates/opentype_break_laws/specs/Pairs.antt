-- Pairs that a font's lookups move (type 2 of GPOS), and texts that they move piece by piece.
use Rattle.std.specs.Prelude.{ℕ, ◌+◌, ◌-◌, ◌%◌, ◌==◌, ◌<◌, ◌≤◌, ◌≡◌, ◌&&◌, ◌||◌, not, bit_and, ℤ, Bool, true, false, List, length, Option, None, Some, if◌then◌else◌}
use Rattle.std.specs.Int.{saturate_to_bits}
use Rattle.std.specs.List.{AllByRecursion}
use Rattle.std.specs.Option.{option_and_then, option_map}
use Rattle.shapers_buffer.specs.Buffer.{Buffer}
use Rattle.shapers_buffer.specs.Glyphs.{Glyph, Glyphs}
use Rattle.shapers_buffer.specs.Properties.{is_ignorable}
use Rattle.shapers_buffer.specs.declared.buffer.glyph.GlyphPosition.{GlyphPosition}
use Rattle.shapers_buffer.specs.declared.buffer.level.Direction.{Direction}
use Rattle.shapers_plan.specs.declared.ot_map.lookups.StageLookup.{StageLookup}
use Rattle.opentype_face.specs.Bytes.{table_at, u16_in}
use Rattle.opentype_face.specs.Firsts.{first_from}
use Rattle.opentype_face.specs.Lookups.{lookup_in, mark_set_in, subtable_in, subtables_in, type_in}
use Rattle.opentype_layout.specs.Sight.{flag_in, ignores, sight_of_input}
use Rattle.opentype_layout.specs.Text.{glyph_at}
use Rattle.opentype_layout.specs.declared.sight.Application.{Application}
use Rattle.opentype_gpos.specs.Moved.{does_move, end_behind, is_vertical}
use Rattle.opentype_gpos.specs.Moves.{number_at}
use Rattle.opentype_gpos.specs.Nearby.{next_any}
use Rattle.opentype_gpos.specs.Values.{pair_in, size_of, value_in}
use Rattle.opentype_gpos.specs.declared.moves.PairMove.{PairMove}
use Rattle.opentype_font.specs.Lookups.{application_for}

-- A lookup of a plan moves pairs, by a font's GPOS: all subtables of its table are of type 2. Its
-- mask has no glyph flag, as the masks of features never have.
pub record MovesPairs (gpos : List ℕ) (lookup : StageLookup) : Type 0 where
  pub types : (i : ℕ) → i < subtables_in (lookup_in gpos lookup.index) →
      type_in 9 (lookup_in gpos lookup.index) i ≡ 2
  pub flagless : lookup.mask % 8 ≡ 0

-- ---- the pairs of a text

-- the values of a pair whose second glyph stands at a place, by where they stand in a subtable
abbrev pub pair_by : List ℕ → ℕ → ℕ → PairMove
pair_by bytes second place = record {
  second = second;
  first_value = value_in (table_at bytes place) 0 (u16_in bytes 4);
  second_value = value_in (table_at bytes place) (size_of (u16_in bytes 4)) (u16_in bytes 6);
  has_second = not (u16_in bytes 6 == 0);
}

-- what a table has for two glyphs by their numbers: the values of its first subtable with this pair
abbrev pub pair_for : List ℕ → ℕ → ℕ → ℕ → Option PairMove
pair_for table first number second = first_from (subtables_in table) (λ i.
    option_map (pair_by (subtable_in 9 table i) second) (pair_in (subtable_in 9 table i) first
    number)) 0

-- whether a lookup for a mask sees a glyph: the glyph has a bit of it, and isn't ignored
abbrev pub sees : List ℕ → List ℕ → ℕ → Glyph → Bool
sees gdef table mask g =
    not (bit_and g.mask mask == 0) && not (ignores gdef (flag_in gdef table) (mark_set_in table) g)

-- The pair that a lookup finds at a place of a text: the glyph there, if the lookup sees it, and
-- the next one, which is neither ignored nor passed over.
unfoldable pub pair_seen : List ℕ → List ℕ → Application → Glyphs → ℕ → Option PairMove
pair_seen gdef table how gs at =
    if sees gdef table how.mask (glyph_at gs at)
    then option_and_then (λ second.
    pair_for table (number_at gs at) (number_at gs second) second)
    (next_any gdef (sight_of_input gdef table how 0) gs (at + 1))
    else None

-- Whether no break is allowed inside a pair: it moves a glyph, or the second one has values of its
-- own, and begins no pair then.
abbrev pub holds_together : Direction → PairMove → Bool
holds_together direction pair = pair.has_second
    || (does_move (is_vertical direction) pair.first_value
    || does_move (is_vertical direction) pair.second_value)

-- the place behind such a pair, and behind the next glyph where the second one begins no pair
abbrev pub pair_end : PairMove → Glyphs → ℕ
pair_end pair gs = end_behind (if pair.has_second then pair.second + 1 else pair.second) gs

-- ---- texts

-- a number that 32 bits hold with its sign is the nearest of these numbers to itself
abbrev pub IsOf32Bits : ℤ → Type 0
IsOf32Bits z = saturate_to_bits 31 z ≡ z

-- a position of such numbers, as all positions of buffers are
pub record IsOfNumbers (p : GlyphPosition) : Type 0 where
  pub x_advance : IsOf32Bits p.x_advance
  pub y_advance : IsOf32Bits p.y_advance
  pub x_offset : IsOf32Bits p.x_offset
  pub y_offset : IsOf32Bits p.y_offset

-- A text that a lookup of pairs moves piece by piece: pairs that hold together span at most 255
-- glyphs, as no more are flagged; and inside a pair that doesn't, among the glyphs that it passes
-- over, no other one begins that does.
pub record TakesPairs (gdef gpos : List ℕ) (lookup : StageLookup) (b : Buffer) : Type 0 where
  pub short : (at : ℕ) (pair : PairMove) →
      pair_seen gdef (lookup_in gpos lookup.index) (application_for lookup) b.glyphs at
      ≡ Some pair →
      holds_together b.direction pair ≡ true → pair_end pair b.glyphs - at ≤ 255
  pub idle : (at inside : ℕ) (pair other : PairMove) →
      pair_seen gdef (lookup_in gpos lookup.index) (application_for lookup) b.glyphs at
      ≡ Some pair →
      holds_together b.direction pair ≡ false → at < inside → inside < pair.second →
      pair_seen gdef (lookup_in gpos lookup.index) (application_for lookup) b.glyphs inside
      ≡ Some other → holds_together b.direction other ≡ false
  pub numbers : AllByRecursion IsOfNumbers b.positions

-- A text of at most 255 glyphs, of which none is ignorable, so that none is passed over.
pub record IsShortText (b : Buffer) : Type 0 where
  pub few : length b.glyphs ≤ 255
  pub drawn : AllByRecursion (λ g. is_ignorable g.unicode_props ≡ false) b.glyphs
  pub numbers : AllByRecursion IsOfNumbers b.positions

-- every lookup of pairs moves such a text piece by piece
abbrev pub ShortTextsTakePairs : Type 0
ShortTextsTakePairs = (gdef gpos : List ℕ) (lookup : StageLookup) (b : Buffer) →
    IsShortText b → TakesPairs gdef gpos lookup b
