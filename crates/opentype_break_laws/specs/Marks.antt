-- Marks that a font's lookups attach to bases (type 4 of GPOS), and texts that they attach piece by
-- piece.
use Rattle.std.specs.Prelude.{ℕ, ◌-◌, ◌%◌, ◌<◌, ◌≤◌, ◌≡◌, ◌-ℤ◌, is_some, List, length, Option, None, Some, if◌then◌else◌}
use Rattle.std.specs.Int.{saturate_to_bits}
use Rattle.std.specs.Option.{option_and_then, option_map}
use Rattle.shapers_buffer.specs.Buffer.{Buffer}
use Rattle.shapers_buffer.specs.Glyphs.{Glyphs}
use Rattle.shapers_plan.specs.declared.ot_map.lookups.StageLookup.{StageLookup}
use Rattle.shapers_editing.specs.PipelineBreaks.{Numbering}
use Rattle.opentype_face.specs.Firsts.{first_from}
use Rattle.opentype_face.specs.Lookups.{lookup_in, subtable_in, subtables_in, type_in}
use Rattle.opentype_layout.specs.Sight.{is_hit, sight_of_input}
use Rattle.opentype_layout.specs.Text.{glyph_at}
use Rattle.opentype_layout.specs.declared.sight.Application.{Application}
use Rattle.opentype_layout.specs.declared.sight.Sight.{Sight}
use Rattle.opentype_gpos.specs.Anchors.{points_in}
use Rattle.opentype_gpos.specs.Moves.{covered_by, number_at}
use Rattle.opentype_gpos.specs.Nearby.{any_seen, base_sight}
use Rattle.opentype_gpos.specs.declared.anchors.Point.{Point}
use Rattle.opentype_gpos.specs.declared.moves.MarkMove.{MarkMove}
use Rattle.opentype_font.specs.Lookups.{application_for, positioned_by}
use Rattle.opentype_break_laws.specs.OrderedTexts.{HasNoComponents}
use Rattle.opentype_break_laws.specs.Pairs.{sees}
use Rattle.opentype_break_laws.specs.PlacedPieces.{IsPaired, LeavesPositions}

-- A lookup of a plan attaches marks to bases, by a font's GPOS: all subtables of its table are of
-- type 4. Its mask has no glyph flag.
pub record AttachesToBases (gpos : List ℕ) (lookup : StageLookup) : Type 0 where
  pub types : (i : ℕ) → i < subtables_in (lookup_in gpos lookup.index) →
      type_in 9 (lookup_in gpos lookup.index) i ≡ 4
  pub flagless : lookup.mask % 8 ≡ 0

-- a mark so that its point comes upon that of the glyph at a place
abbrev pub upon : ℕ → Point × Point → MarkMove
upon to points = record {
  to = to;
  x = saturate_to_bits 31 (points.0.x -ℤ points.1.x);
  y = saturate_to_bits 31 (points.0.y -ℤ points.1.y);
}

-- what a subtable has for a mark and a base by their numbers, if it is for that mark
abbrev pub mark_by : List ℕ → ℕ → ℕ → ℕ → Option MarkMove
mark_by bytes mark base to = if is_some (covered_by bytes 2 mark)
    then option_map (upon to) (points_in bytes mark base) else None

-- and what a table has: that of its first subtable with this mark and base
abbrev pub mark_for : List ℕ → ℕ → ℕ → ℕ → Option MarkMove
mark_for table mark base to =
    first_from (subtables_in table) (λ i. mark_by (subtable_in 9 table i) mark base to) 0

-- the nearest glyph before a place that a search for any glyph but marks finds
abbrev pub base_at : List ℕ → Sight → Glyphs → ℕ → Option ℕ
base_at gdef sight gs place = if is_hit (any_seen gdef sight (glyph_at gs place)) then Some place
    else None

abbrev pub nearest_base : List ℕ → Sight → Glyphs → ℕ → Option ℕ
nearest_base gdef sight gs at = first_from at (λ i. base_at gdef sight gs (at - 1 - i)) 0

-- The mark that a lookup attaches at a place of a text without parts of ligatures or sequences: the
-- glyph there, if the lookup sees it, to the nearest base.
unfoldable pub mark_at : List ℕ → List ℕ → Application → Glyphs → ℕ → Option MarkMove
mark_at gdef table how gs at =
    if sees gdef table how.mask (glyph_at gs at)
    then option_and_then (λ to. mark_for table (number_at gs at) (number_at gs to) to)
    (nearest_base gdef (base_sight (sight_of_input gdef table how 0)) gs at)
    else None

-- A text whose marks a lookup attaches piece by piece: no glyph is of a ligature's component or a
-- later one of a sequence, and each mark stands at most 254 glyphs behind its base, as no more are
-- flagged.
pub record TakesMarks (gdef gpos : List ℕ) (lookup : StageLookup) (b : Buffer) : Type 0 where
  pub components : HasNoComponents b.glyphs
  pub short : (at : ℕ) (mark : MarkMove) → at < length b.glyphs →
      mark_at gdef (lookup_in gpos lookup.index) (application_for lookup) b.glyphs at ≡ Some mark →
      at - mark.to ≤ 254

-- so every text of at most 255 glyphs without such glyphs
abbrev pub ShortTextsTakeMarks : Type 0
ShortTextsTakeMarks = (gdef gpos : List ℕ) (lookup : StageLookup) (b : Buffer) →
    HasNoComponents b.glyphs → length b.glyphs ≤ 255 → TakesMarks gdef gpos lookup b

-- Such a lookup leaves the positions of such a text's pieces side by side.
abbrev pub FontMarksLeavePositions : Type 0
FontMarksLeavePositions = (numbered : Numbering) (text : Buffer) (gdef gpos : List ℕ)
    (lookup : StageLookup) (b : Buffer) → IsPaired text b → AttachesToBases gpos lookup →
    TakesMarks gdef gpos lookup b →
    LeavesPositions numbered text (positioned_by gdef gpos lookup) b
