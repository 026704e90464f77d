-- The masks and categories of the universal shaper.
use Rattle.std.specs.Prelude.{ℕ, ◌≡◌, map, Option, None, Some}
use Rattle.shapers_buffer.specs.Glyphs.{Glyph, Glyphs}
use Rattle.shapers_buffer.specs.declared.buffer.tag.Script.{Script}
use Rattle.shapers_base.specs.Font.{CharacterTables}
use Rattle.shapers_base.specs.declared.plan.arabic.arabic_shape_plan_t.{arabic_shape_plan_t}
use Rattle.shapers_buffer.specs.Buffer.{Buffer}
use Rattle.shapers_arabic.specs.Breaks.{BreaksWhereClear, NoneNeedless}
use Rattle.shapers_arabic.specs.FirstPiece.{FirstKeepsAsFlagged}
use Rattle.shapers_arabic.specs.JoinedText.{AreCharacters, CutsAsHalves, buffer_joined}

-- the glyph with the category that the tables give its character
abbrev pub categorized : (ℕ → ℕ) → Glyph → Glyph
categorized universal g = record g { category = universal g.glyph_id }

-- the buffer with the categories of the tables
abbrev pub with_categories : CharacterTables → Buffer → Buffer
with_categories tables b = record b { glyphs = map (categorized tables.universal) b.glyphs }

-- where letters join, the glyphs are characters
abbrev pub CanJoin : Option arabic_shape_plan_t → Glyphs → Type 0
CanJoin None gs = Unit {0}
CanJoin (Some p) gs = AreCharacters gs

-- the tables' categories, and with a plan of Arabic what joining sets, with the law of the cut
abbrev pub MasksAreSet :
    Option arabic_shape_plan_t → Option Script → CharacterTables → Buffer → Buffer → Type 0
MasksAreSet None script tables old new = new ≡ with_categories tables old
MasksAreSet (Some p) script tables old new =
    let before = with_categories tables old in
    (new ≡ buffer_joined p.break_flags p.mask_array script tables.joining tables.general before)
    × CutsAsHalves script tables.joining tables.general old new

-- where there is a plan of Arabic, the buffer with the categories may be broken at each clear
-- place, no flag of Sound is needless, and the first half keeps its forms as flagged
abbrev pub BreaksAsJoining :
    Option arabic_shape_plan_t → Option Script → CharacterTables → Buffer → Buffer → Type 0
BreaksAsJoining None script tables old new = Unit {0}
BreaksAsJoining (Some p) script tables old new =
    let breaks = p.break_flags in
    let masks = p.mask_array in
    let before = with_categories tables old in
    BreaksWhereClear breaks masks script tables.joining tables.general before new
    × NoneNeedless breaks masks script tables.joining tables.general before new
    × FirstKeepsAsFlagged breaks masks script tables.joining tables.general before new
