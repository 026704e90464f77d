-- Contexts of GPOS over bytes written out as OpenType lays them out. Glyph 5 is 10 units narrower by lookup 0, glyph 6
-- goes 20 units up by lookup 1; lookups 2 and on are contexts that name these two.
use Rattle.std.specs.Prelude.{◌≡◌, ◌/◌, ◌%◌, ℕ, pos, true, false, List, [], ◌∷◌, ◌++◌, flat_map, refl}
use Rattle.shapers_buffer.specs.Glyph.{default_glyph, default_position}
use Rattle.shapers_buffer.specs.Glyphs.{Glyph, Glyphs}
use Rattle.shapers_buffer.specs.declared.buffer.glyph.GlyphPosition.{GlyphPosition}
use Rattle.shapers_buffer.specs.declared.buffer.level.Direction.TheVariants.{LeftToRight}
use Rattle.opentype_face.specs.Firsts.{first_from}
use Rattle.opentype_face.specs.Lookups.{lookup_in}
use Rattle.opentype_face.specs.Ranges.{bisect}
use Rattle.opentype_layout.specs.Ligatures.{input_in, is_apart}
use Rattle.opentype_layout.specs.Pattern.{places_from, seen_by}
use Rattle.opentype_layout.specs.Rules.{Found, around, by_glyphs, chained_in, context_in, end_in, first_at, first_in, found_at, kind_in, nth_in, reach_before, reach_behind, reach_from, rule_in, set_in, test_in, unchained_in}
use Rattle.opentype_layout.specs.Sight.{flag_in, ignores, may_pass, next_from, seen_as, sight_of_context, sight_of_input}
use Rattle.opentype_gpos.specs.Called.{Work, lookup_made, record_made, records_made, rule_made}
use Rattle.opentype_gpos.specs.Coming.{Setting, came_in, nth_came, sights_in}
use Rattle.opentype_gpos.specs.Looked.{tried}
use Rattle.opentype_gpos.specs.Making.{moved}
use Rattle.opentype_gpos.specs.Moved.{Positions, Progress, flagged_up_to, value_added, with_value}
use Rattle.opentype_gpos.specs.Moves.{one_move, single_move}
use Rattle.opentype_gpos.specs.Along.{position_stepped}

abbrev glyph : ℕ → ℕ → Glyph
glyph number cluster = record default_glyph { glyph_id = number; cluster = cluster; mask = 16 }

-- the same with no break before it: bits 1 and 2
abbrev bound : ℕ → ℕ → Glyph
bound number cluster = record (glyph number cluster) { mask = 19 }

abbrev two : ℕ → List ℕ
two n = n / 256 ∷ n % 256 ∷ []

-- a lookup of one subtable, with no flag
abbrev lookup_of : ℕ → List ℕ → List ℕ
lookup_of kind subtable = (0 ∷ kind ∷ 0 ∷ 0 ∷ 0 ∷ 1 ∷ 0 ∷ 8 ∷ []) ++ subtable

abbrev set_of : ℕ → List ℕ
set_of number = 0 ∷ 1 ∷ 0 ∷ 1 ∷ 0 ∷ number ∷ []

-- type 1, format 1: a value of x advance, and one of y placement
abbrev narrower : List ℕ
narrower = lookup_of 1 ((0 ∷ 1 ∷ 0 ∷ 8 ∷ 0 ∷ 4 ∷ 255 ∷ 246 ∷ []) ++ set_of 5)

abbrev higher : List ℕ
higher = lookup_of 1 ((0 ∷ 1 ∷ 0 ∷ 8 ∷ 0 ∷ 2 ∷ 0 ∷ 20 ∷ []) ++ set_of 6)

-- both take 22 bytes; the list has room for one more lookup
abbrev table : List ℕ → List ℕ
table third = (0 ∷ 1 ∷ 0 ∷ 0 ∷ 0 ∷ 0 ∷ 0 ∷ 0 ∷ 0 ∷ 10 ∷ []) ++ (0 ∷ 3 ∷ 0 ∷ 8 ∷ 0 ∷ 30 ∷ 0 ∷ 52 ∷ [])
    ++ narrower ++ higher ++ third

abbrev setting : List ℕ → Setting
setting third = record {
  gdef = [];
  gpos = table third;
  direction = LeftToRight;
  how = record { of_gpos = true; mask = 16; auto_zwnj = true; auto_zwj = true; per_syllable = false };
  concat = false;
}

-- what lookup 2 does at a place
abbrev stepped : List ℕ → Glyphs → Positions → ℕ → Progress
stepped third gs ps at = let s = setting third in let lookup = lookup_in s.gpos 2 in
    position_stepped s (sights_in s lookup) lookup gs ps at

abbrev wide : GlyphPosition
wide = record default_position { x_advance = pos 500 }

abbrev narrow : GlyphPosition
narrow = record default_position { x_advance = pos 490 }

abbrev high : GlyphPosition
high = record wide { y_offset = pos 20 }

-- type 7, format 3: glyph 5 before glyph 6 gets lookup 0, and then glyph 6 lookup 1
abbrev both : List ℕ
both = lookup_of 7 ((0 ∷ 3 ∷ 0 ∷ 2 ∷ 0 ∷ 2 ∷ 0 ∷ 18 ∷ 0 ∷ 24 ∷ []) ++ (0 ∷ 0 ∷ 0 ∷ 0 ∷ 0 ∷ 1 ∷ 0 ∷ 1 ∷ [])
    ++ set_of 5 ++ set_of 6)

-- both are moved, no break is between them, and the text goes on behind
both-moved : stepped both (glyph 5 0 ∷ glyph 6 1 ∷ glyph 5 2 ∷ []) (wide ∷ wide ∷ wide ∷ []) 0
    ≡ record { glyphs = glyph 5 0 ∷ bound 6 1 ∷ glyph 5 2 ∷ []; positions = narrow ∷ high ∷ wide ∷ []; next = 2 }
unfolding position_stepped came_in nth_came sights_in sight_of_input sight_of_context flag_in context_in by_glyphs first_in nth_in kind_in first_at set_in found_at around rule_in chained_in unchained_in test_in reach_behind reach_before reach_from end_in input_in is_apart places_from next_from seen_by seen_as ignores may_pass bisect first_from rule_made records_made record_made lookup_made moved value_added with_value flagged_up_to one_move single_move tried
both-moved = refl

-- out of its context nothing is
both-alone : stepped both (glyph 5 0 ∷ glyph 5 1 ∷ []) (wide ∷ wide ∷ []) 0
    ≡ record { glyphs = glyph 5 0 ∷ glyph 5 1 ∷ []; positions = wide ∷ wide ∷ []; next = 1 }
unfolding position_stepped came_in nth_came sights_in sight_of_input sight_of_context flag_in context_in by_glyphs first_in nth_in kind_in first_at set_in found_at around rule_in chained_in unchained_in test_in reach_behind reach_before reach_from end_in input_in is_apart places_from next_from seen_by seen_as ignores may_pass bisect first_from rule_made records_made record_made lookup_made moved value_added with_value flagged_up_to one_move single_move tried
both-alone = refl

-- nor is a glyph without the feature
both-off : stepped both (record default_glyph { glyph_id = 5; mask = 8 } ∷ glyph 6 1 ∷ []) (wide ∷ wide ∷ []) 0
    ≡ record { glyphs = record default_glyph { glyph_id = 5; mask = 8 } ∷ glyph 6 1 ∷ []; positions = wide ∷ wide ∷ []; next = 1 }
unfolding position_stepped sights_in sight_of_input sight_of_context flag_in tried
both-off = refl

-- format 1: the rule is in the set of glyph 5; lookup 1 is for glyph 6, so at place 0 it does nothing, and place 2 isn't
-- one of the input
abbrev first_alone : List ℕ
first_alone = lookup_of 7 ((0 ∷ 1 ∷ 0 ∷ 8 ∷ 0 ∷ 1 ∷ 0 ∷ 14 ∷ []) ++ set_of 5 ++ (0 ∷ 1 ∷ 0 ∷ 4 ∷ [])
    ++ (0 ∷ 2 ∷ 0 ∷ 3 ∷ 0 ∷ 6 ∷ 0 ∷ 0 ∷ 0 ∷ 1 ∷ 0 ∷ 2 ∷ 0 ∷ 0 ∷ 0 ∷ 0 ∷ 0 ∷ 0 ∷ []))

first_alone-moved : stepped first_alone (glyph 5 0 ∷ glyph 6 1 ∷ glyph 5 2 ∷ []) (wide ∷ wide ∷ wide ∷ []) 0
    ≡ record { glyphs = glyph 5 0 ∷ bound 6 1 ∷ glyph 5 2 ∷ []; positions = narrow ∷ wide ∷ wide ∷ []; next = 2 }
unfolding position_stepped came_in nth_came sights_in sight_of_input sight_of_context flag_in context_in by_glyphs first_in nth_in kind_in first_at set_in found_at around rule_in chained_in unchained_in test_in reach_behind reach_before reach_from end_in input_in is_apart places_from next_from seen_by seen_as ignores may_pass bisect first_from rule_made records_made record_made lookup_made moved value_added with_value flagged_up_to one_move single_move tried
first_alone-moved = refl

-- format 2: glyph 5 is of class 1, glyph 6 of class 2, whose glyph gets lookup 1
abbrev second_class : List ℕ
second_class = lookup_of 7 ((0 ∷ 2 ∷ 0 ∷ 12 ∷ 0 ∷ 18 ∷ 0 ∷ 2 ∷ 0 ∷ 0 ∷ 0 ∷ 28 ∷ []) ++ set_of 5
    ++ (0 ∷ 1 ∷ 0 ∷ 5 ∷ 0 ∷ 2 ∷ 0 ∷ 1 ∷ 0 ∷ 2 ∷ []) ++ (0 ∷ 1 ∷ 0 ∷ 4 ∷ [])
    ++ (0 ∷ 2 ∷ 0 ∷ 1 ∷ 0 ∷ 2 ∷ 0 ∷ 1 ∷ 0 ∷ 1 ∷ []))

second_class-moved : stepped second_class (glyph 5 0 ∷ glyph 6 1 ∷ []) (wide ∷ wide ∷ []) 0
    ≡ record { glyphs = glyph 5 0 ∷ bound 6 1 ∷ []; positions = wide ∷ high ∷ []; next = 2 }
unfolding position_stepped came_in nth_came sights_in sight_of_input sight_of_context flag_in context_in by_glyphs first_in nth_in kind_in first_at set_in found_at around rule_in chained_in unchained_in test_in reach_behind reach_before reach_from end_in input_in is_apart places_from next_from seen_by seen_as ignores may_pass bisect first_from rule_made records_made record_made lookup_made moved value_added with_value flagged_up_to one_move single_move tried
second_class-moved = refl

-- type 8, format 3: glyph 5 between 4 and 7 gets lookup 0; the flags reach from 4 to 7, and the text goes on behind 5
abbrev between : List ℕ
between = (0 ∷ 3 ∷ 0 ∷ 1 ∷ 0 ∷ 20 ∷ 0 ∷ 1 ∷ 0 ∷ 26 ∷ 0 ∷ 1 ∷ 0 ∷ 32 ∷ 0 ∷ 1 ∷ 0 ∷ 0 ∷ 0 ∷ 0 ∷ [])
    ++ set_of 4 ++ set_of 5 ++ set_of 7

between-moved : stepped (lookup_of 8 between) (glyph 4 0 ∷ glyph 5 1 ∷ glyph 7 2 ∷ []) (wide ∷ wide ∷ wide ∷ []) 1
    ≡ record { glyphs = glyph 4 0 ∷ bound 5 1 ∷ bound 7 2 ∷ []; positions = wide ∷ narrow ∷ wide ∷ []; next = 2 }
unfolding position_stepped came_in nth_came sights_in sight_of_input sight_of_context flag_in context_in by_glyphs first_in nth_in kind_in first_at set_in found_at around rule_in chained_in unchained_in test_in reach_behind reach_before reach_from end_in input_in is_apart places_from next_from seen_by seen_as ignores may_pass bisect first_from rule_made records_made record_made lookup_made moved value_added with_value flagged_up_to one_move single_move tried
between-moved = refl

-- format 1 of it
abbrev between_glyphs : List ℕ
between_glyphs = lookup_of 8 ((0 ∷ 1 ∷ 0 ∷ 8 ∷ 0 ∷ 1 ∷ 0 ∷ 14 ∷ []) ++ set_of 5 ++ (0 ∷ 1 ∷ 0 ∷ 4 ∷ [])
    ++ (0 ∷ 1 ∷ 0 ∷ 4 ∷ 0 ∷ 1 ∷ 0 ∷ 1 ∷ 0 ∷ 7 ∷ 0 ∷ 1 ∷ 0 ∷ 0 ∷ 0 ∷ 0 ∷ []))

between_glyphs-moved : stepped between_glyphs (glyph 4 0 ∷ glyph 5 1 ∷ glyph 7 2 ∷ []) (wide ∷ wide ∷ wide ∷ []) 1
    ≡ record { glyphs = glyph 4 0 ∷ bound 5 1 ∷ bound 7 2 ∷ []; positions = wide ∷ narrow ∷ wide ∷ []; next = 2 }
unfolding position_stepped came_in nth_came sights_in sight_of_input sight_of_context flag_in context_in by_glyphs first_in nth_in kind_in first_at set_in found_at around rule_in chained_in unchained_in test_in reach_behind reach_before reach_from end_in input_in is_apart places_from next_from seen_by seen_as ignores may_pass bisect first_from rule_made records_made record_made lookup_made moved value_added with_value flagged_up_to one_move single_move tried
between_glyphs-moved = refl

-- format 2: glyphs 4 to 7 are of classes 3, 1, 2, 4
abbrev between_classes : List ℕ
between_classes = lookup_of 8 ((0 ∷ 2 ∷ 0 ∷ 16 ∷ 0 ∷ 22 ∷ 0 ∷ 22 ∷ 0 ∷ 22 ∷ 0 ∷ 2 ∷ 0 ∷ 0 ∷ 0 ∷ 36 ∷ []) ++ set_of 5
    ++ (0 ∷ 1 ∷ 0 ∷ 4 ∷ 0 ∷ 4 ∷ 0 ∷ 3 ∷ 0 ∷ 1 ∷ 0 ∷ 2 ∷ 0 ∷ 4 ∷ []) ++ (0 ∷ 1 ∷ 0 ∷ 4 ∷ [])
    ++ (0 ∷ 1 ∷ 0 ∷ 3 ∷ 0 ∷ 1 ∷ 0 ∷ 1 ∷ 0 ∷ 4 ∷ 0 ∷ 1 ∷ 0 ∷ 0 ∷ 0 ∷ 0 ∷ []))

between_classes-moved : stepped between_classes (glyph 4 0 ∷ glyph 5 1 ∷ glyph 7 2 ∷ []) (wide ∷ wide ∷ wide ∷ []) 1
    ≡ record { glyphs = glyph 4 0 ∷ bound 5 1 ∷ bound 7 2 ∷ []; positions = wide ∷ narrow ∷ wide ∷ []; next = 2 }
unfolding position_stepped came_in nth_came sights_in sight_of_input sight_of_context flag_in context_in by_glyphs first_in nth_in kind_in first_at set_in found_at around rule_in chained_in unchained_in test_in reach_behind reach_before reach_from end_in input_in is_apart places_from next_from seen_by seen_as ignores may_pass bisect first_from rule_made records_made record_made lookup_made moved value_added with_value flagged_up_to one_move single_move tried
between_classes-moved = refl

-- type 9 names a subtable of type 8, eight bytes on
abbrev extended : List ℕ
extended = lookup_of 9 ((0 ∷ 1 ∷ 0 ∷ 8 ∷ 0 ∷ 0 ∷ 0 ∷ 8 ∷ []) ++ between)

extended-moved : stepped extended (glyph 4 0 ∷ glyph 5 1 ∷ glyph 7 2 ∷ []) (wide ∷ wide ∷ wide ∷ []) 1
    ≡ record { glyphs = glyph 4 0 ∷ bound 5 1 ∷ bound 7 2 ∷ []; positions = wide ∷ narrow ∷ wide ∷ []; next = 2 }
unfolding position_stepped came_in nth_came sights_in sight_of_input sight_of_context flag_in context_in by_glyphs first_in nth_in kind_in first_at set_in found_at around rule_in chained_in unchained_in test_in reach_behind reach_before reach_from end_in input_in is_apart places_from next_from seen_by seen_as ignores may_pass bisect first_from rule_made records_made record_made lookup_made moved value_added with_value flagged_up_to one_move single_move tried
extended-moved = refl

-- ---- a record at the bounds of what may be applied
abbrev text : ℕ → Work
text left = record { glyphs = glyph 5 0 ∷ glyph 5 1 ∷ []; positions = wide ∷ wide ∷ []; left = left }

-- record 1 names place 1 and lookup 0
abbrev records : List ℕ
records = 0 ∷ 0 ∷ 0 ∷ 1 ∷ 0 ∷ 1 ∷ 0 ∷ 0 ∷ []

abbrev no_rule : Found → Work → Work
no_rule rule w = w

one_left : record_made no_rule (setting []) records (0 ∷ 1 ∷ []) 1 (text 1)
    ≡ record { glyphs = glyph 5 0 ∷ glyph 5 1 ∷ []; positions = wide ∷ narrow ∷ []; left = 0 }
unfolding came_in nth_came sights_in sight_of_input sight_of_context flag_in bisect first_from record_made lookup_made moved value_added with_value one_move single_move tried
one_left = refl

none_left : record_made no_rule (setting []) records (0 ∷ 1 ∷ []) 1 (text 0) ≡ text 0
unfolding record_made
none_left = refl

-- a lookup of eight subtables takes three operations; with two it isn't applied, and none is left
abbrev wide_lookup : List ℕ
wide_lookup = (0 ∷ 1 ∷ 0 ∷ 0 ∷ 0 ∷ 8 ∷ []) ++ flat_map (λ at. two at) (22 ∷ 22 ∷ 22 ∷ 22 ∷ 22 ∷ 22 ∷ 22 ∷ 22 ∷ [])
    ++ (0 ∷ 1 ∷ 0 ∷ 8 ∷ 0 ∷ 4 ∷ 255 ∷ 246 ∷ []) ++ set_of 5

abbrev to_wide : List ℕ
to_wide = 0 ∷ 0 ∷ 0 ∷ 1 ∷ 0 ∷ 1 ∷ 0 ∷ 2 ∷ []

three_left : record_made no_rule (setting wide_lookup) to_wide (0 ∷ 1 ∷ []) 1 (text 3)
    ≡ record { glyphs = glyph 5 0 ∷ glyph 5 1 ∷ []; positions = wide ∷ narrow ∷ []; left = 0 }
unfolding came_in nth_came sights_in sight_of_input sight_of_context flag_in bisect first_from record_made lookup_made moved value_added with_value one_move single_move tried
three_left = refl

two_left : record_made no_rule (setting wide_lookup) to_wide (0 ∷ 1 ∷ []) 1 (text 2) ≡ text 0
unfolding record_made
two_left = refl

-- the input has one place, and none of number 1
no_place : record_made no_rule (setting []) records (0 ∷ []) 1 (text 2) ≡ text 1
unfolding record_made
no_place = refl

-- ---- a rule that names its own lookup: 64 levels deep it ends. It spends a call a level, the deepest one too.
abbrev itself : List ℕ
itself = lookup_of 7 ((0 ∷ 3 ∷ 0 ∷ 1 ∷ 0 ∷ 1 ∷ 0 ∷ 12 ∷ 0 ∷ 0 ∷ 0 ∷ 2 ∷ []) ++ set_of 5)

abbrev found_itself : Found
found_itself = record { records = 0 ∷ 0 ∷ 0 ∷ 2 ∷ []; count = 1; places = 0 ∷ []; end = 1; start = 0; stop = 1 }

one_level : (rule_made 1 (setting itself) found_itself (text 9)).left ≡ 8
unfolding came_in nth_came sights_in sight_of_input sight_of_context flag_in context_in kind_in first_at found_at around rule_in unchained_in test_in reach_behind reach_before reach_from end_in input_in places_from next_from ignores bisect first_from rule_made records_made record_made lookup_made flagged_up_to tried
one_level = refl

three_levels : (rule_made 3 (setting itself) found_itself (text 9)).left ≡ 6
unfolding came_in nth_came sights_in sight_of_input sight_of_context flag_in context_in kind_in first_at found_at around rule_in unchained_in test_in reach_behind reach_before reach_from end_in input_in places_from next_from ignores bisect first_from rule_made records_made record_made lookup_made flagged_up_to tried
three_levels = refl
