-- Worked rows of GSUB, computed on tables written out by hand.
use Rattle.std.specs.Prelude.{◌≡◌, ℕ, ◌+◌, Some, None, List, [], ◌∷◌, ◌++◌, map, refl}
use Rattle.shapers_buffer.specs.Glyphs.{Glyph}
use Rattle.shapers_buffer.specs.Buffer.{Buffer, new_buffer}
use Rattle.shapers_buffer.specs.Glyph.{default_glyph}
use Rattle.shapers_buffer.specs.declared.buffer.level.BufferClusterLevel.TheVariants.{MonotoneGraphemes}
use Rattle.shapers_buffer.specs.declared.buffer.lookup_record.LookupRecord.{LookupRecord}
use Rattle.std.specs.Prelude.{true, false}
use Rattle.opentype_face.specs.Firsts.{first_from}
use Rattle.opentype_layout.specs.Ligatures.{input_in}
use Rattle.opentype_layout.specs.Pattern.{places_from, seen_by}
use Rattle.opentype_layout.specs.Rules.{around, chained_in, context_in, end_in, first_at, found_at, kind_in, reach_before, reach_behind, reach_from, rule_in, test_in}
use Rattle.opentype_layout.specs.Sight.{flag_in, ignores, may_pass, next_from, seen_as, sight_of_context, sight_of_input}
use Rattle.opentype_gsub.specs.Applied.{one_put, sequence_put, single_put}
use Rattle.opentype_gsub.specs.Edits.{handed_on, merged_up_to, multiplied, new_props, sequence_glyph, sequence_glyphs, removed_all, replaced}
use Rattle.opentype_layout.specs.Looking.{is_short}
use Rattle.opentype_gsub.specs.Flagged.{unbroken}
use Rattle.opentype_gsub.specs.Looked.{tried}
use Rattle.opentype_gsub.specs.Ligated.{as_letter, as_mark, components_of, counted_too, followed_by_marks, is_of_base, is_of_last, is_of_marks, ligature_joined, ligated, ligature_glyph, marks_inside, marked_one, number_before, number_for, with_followers}
use Rattle.opentype_gsub.specs.Came.{begun, came_in, nth_came}
use Rattle.opentype_gsub.specs.Machine.{lookup_called, nested, ran, machine_stepped, turned}
use Rattle.opentype_gsub.specs.Reversed.{tried_back, around_in, glyphs_at, nth_reversed, reversed_in, lookup_stepped_back}
use Rattle.opentype_gsub.specs.Setting.{Setting, is_seen, sights_of}
use Rattle.opentype_face.specs.Ranges.{bisect}
use Rattle.opentype_gsub.specs.Decided.{alternate_in, single_in}
use Rattle.opentype_gsub.specs.Came.{Frame}
use Rattle.opentype_gsub.specs.Machine.{climbing, frame_shifted, places_shifted}
use Rattle.opentype_gsub.specs.Substituted.{applied, substituted}
use Rattle.opentype_gsub.specs.Along.{lookup_stepped, lookup_applied}
use Rattle.opentype_gsub.specs.declared.pass.LookupUse.{LookupUse}

-- a coverage, format 1: glyphs 5 and 9
abbrev covered : List ℕ
covered = 0 ∷ 1 ∷ 0 ∷ 2 ∷ 0 ∷ 5 ∷ 0 ∷ 9 ∷ []

-- type 1, format 1: glyphs 5 and 9 become 7 and 11, others stay; a number that wraps
abbrev by_delta : List ℕ
by_delta = (0 ∷ 1 ∷ 0 ∷ 6 ∷ 0 ∷ 2 ∷ []) ++ covered

single_delta : map (single_in by_delta) (4 ∷ 5 ∷ 6 ∷ 9 ∷ 10 ∷ []) ≡ None ∷ Some 7 ∷ None ∷ Some 11 ∷ None ∷ []
unfolding bisect
single_delta = refl

single_wraps : single_in ((0 ∷ 1 ∷ 0 ∷ 6 ∷ 255 ∷ 252 ∷ []) ++ covered) 5 ≡ Some 1
unfolding bisect
single_wraps = refl

-- format 2: glyphs 5 and 9 become 300 and 8
abbrev by_list : List ℕ
by_list = (0 ∷ 2 ∷ 0 ∷ 10 ∷ 0 ∷ 2 ∷ 1 ∷ 44 ∷ 0 ∷ 8 ∷ []) ++ covered

single_list : map (single_in by_list) (5 ∷ 8 ∷ 9 ∷ []) ≡ Some 300 ∷ None ∷ Some 8 ∷ []
unfolding bisect
single_list = refl

-- one with a glyph for the first of the set alone
single_short : map (single_in ((0 ∷ 2 ∷ 0 ∷ 10 ∷ 0 ∷ 1 ∷ 1 ∷ 44 ∷ 0 ∷ 8 ∷ []) ++ covered)) (5 ∷ 9 ∷ []) ≡ Some 300 ∷ None ∷ []
unfolding bisect
single_short = refl

-- no third format, and no table
single_other : map (λ bytes. single_in bytes 5) (((0 ∷ 3 ∷ 0 ∷ 6 ∷ 0 ∷ 2 ∷ []) ++ covered) ∷ [] ∷ []) ≡ None ∷ None ∷ []
unfolding bisect
single_other = refl

-- type 3: glyph 5 has the alternates 20 and 21, glyph 9 has 30; values count from 1
abbrev alternates : List ℕ
alternates = (0 ∷ 1 ∷ 0 ∷ 10 ∷ 0 ∷ 2 ∷ 0 ∷ 18 ∷ 0 ∷ 24 ∷ []) ++ (covered ++ (0 ∷ 2 ∷ 0 ∷ 20 ∷ 0 ∷ 21 ∷ 0 ∷ 1 ∷ 0 ∷ 30 ∷ []))

alternate_of_5 : map (alternate_in alternates 5) (0 ∷ 1 ∷ 2 ∷ 3 ∷ []) ≡ None ∷ Some 20 ∷ Some 21 ∷ None ∷ []
unfolding bisect
alternate_of_5 = refl

alternate_of_9 : map (alternate_in alternates 9) (0 ∷ 1 ∷ 2 ∷ []) ≡ None ∷ Some 30 ∷ None ∷ []
unfolding bisect
alternate_of_9 = refl

alternate_of_6 : alternate_in alternates 6 1 ≡ None
unfolding bisect
alternate_of_6 = refl

-- THE PLACES OF A RULE behind a lookup at its second place, of a text of 10 glyphs

abbrev at_second : List ℕ → ℕ → Frame
at_second places end = record {
  records = [];
  count = 3;
  next = 1;
  places = places;
  end = end;
  sequence = 1;
  before = 10;
}

-- nothing added
settled_same : (frame_shifted 10 (at_second (2 ∷ 4 ∷ 5 ∷ []) 6)) ≡ at_second (2 ∷ 4 ∷ 5 ∷ []) 6
unfolding frame_shifted places_shifted climbing
settled_same = refl

-- two added: they are places, and those behind move
settled_added : (frame_shifted 12 (at_second (2 ∷ 4 ∷ 5 ∷ []) 6)) ≡ at_second (2 ∷ 4 ∷ 5 ∷ 6 ∷ 7 ∷ []) 8
unfolding frame_shifted places_shifted climbing
settled_added = refl

-- one gone: the next place goes, and those behind move
settled_gone : (frame_shifted 9 (at_second (2 ∷ 4 ∷ 5 ∷ 7 ∷ []) 8)) ≡ at_second (2 ∷ 4 ∷ 6 ∷ []) 7
unfolding frame_shifted places_shifted climbing
settled_gone = refl

-- more gone than stand up to the end: the end is the lookup's place
settled_end : (frame_shifted 5 (at_second (2 ∷ 4 ∷ 5 ∷ []) 6)) ≡ at_second (2 ∷ 4 ∷ []) 4
unfolding frame_shifted places_shifted climbing
settled_end = refl

-- 61 added to 3 places are 64; 62 are too many: the rule has no further lookup
settled_many : (frame_shifted 72 (at_second (2 ∷ 4 ∷ 5 ∷ []) 6)) ≡ record {
  records = [];
  count = 3;
  next = 3;
  places = 2 ∷ 4 ∷ 5 ∷ [];
  end = 68;
  sequence = 1;
  before = 10;
}
unfolding frame_shifted places_shifted climbing
settled_many = refl

-- ---- TEXTS

abbrev glyph : ℕ → ℕ → Glyph
glyph number cluster = record default_glyph { glyph_id = number; mask = 256; cluster = cluster }

abbrev with_props : ℕ → ℕ → Glyph → Glyph
with_props props ligature g = record g { glyph_props = record { 0 = props }; lig_props = record { 0 = ligature } }

abbrev with_flags : ℕ → Glyph → Glyph
with_flags bits g = record g { mask = g.mask + bits }

-- a lookup table with one subtable, of a type and a flag; and GSUB with one lookup
abbrev lookup_of : ℕ → ℕ → List ℕ → List ℕ
lookup_of kind flag subtable = 0 ∷ kind ∷ 0 ∷ flag ∷ 0 ∷ 1 ∷ 0 ∷ 8 ∷ subtable

abbrev gsub_of : List ℕ → List ℕ
gsub_of lookup = 0 ∷ 1 ∷ 0 ∷ 0 ∷ 0 ∷ 0 ∷ 0 ∷ 0 ∷ 0 ∷ 10 ∷ 0 ∷ 1 ∷ 0 ∷ 4 ∷ lookup

abbrev set_for : ℕ → List ℕ → Setting
set_for limit gsub = record {
  gdef = [];
  gsub = gsub;
  level = MonotoneGraphemes;
  concat = false;
  len = 2;
  limit = limit;
  lookup = record { index = 0; mask = 256; auto_zwnj = true; auto_zwj = true; random = false; per_syllable = false };
}

-- the record of a text's lookups with so many operations left, and that of one that isn't done
abbrev with_operations : ℕ → LookupRecord
with_operations n = record {
  ligature_serial = 5;
  random_state = 77;
  operations_left = n;
  is_complete = true;
}

abbrev undone_with : ℕ → LookupRecord
undone_with n = record {
  ligature_serial = 5;
  random_state = 77;
  operations_left = n;
  is_complete = false;
}

-- type 2: no glyph in the place of the first: its cluster stays with the next one
deleted : sequence_put (set_for 9 []) 0 (glyph 5 1 ∷ glyph 9 2 ∷ []) (with_operations 100) (0 ∷ 0 ∷ [])
    ≡ record { text = glyph 9 1 ∷ []; next = 0; lookups = with_operations 100 }
unfolding handed_on
deleted = refl

-- one glyph: it isn't a part
replaced_by_one : sequence_put (set_for 9 []) 0 (glyph 5 1 ∷ glyph 9 2 ∷ []) (with_operations 100) (0 ∷ 1 ∷ 0 ∷ 20 ∷ [])
    ≡ record { text = with_props 16 0 (glyph 20 1) ∷ glyph 9 2 ∷ []; next = 1; lookups = with_operations 100 }
unfolding replaced new_props
replaced_by_one = refl

-- two: parts 0 and 1, in its cluster
multiplied_by_two : sequence_put (set_for 9 []) 0 (glyph 5 1 ∷ glyph 9 2 ∷ []) (with_operations 100)
    (0 ∷ 2 ∷ 0 ∷ 20 ∷ 0 ∷ 21 ∷ []) ≡ record {
      text = with_props 80 0 (glyph 20 1) ∷ with_props 80 1 (glyph 21 1) ∷ glyph 9 2 ∷ [];
      next = 2;
      lookups = with_operations 100;
    }
unfolding multiplied sequence_glyphs sequence_glyph replaced new_props
multiplied_by_two = refl

-- two where the text may have three glyphs, and where it may have two: then the text isn't done
just_room : sequence_put (set_for 3 []) 0 (glyph 5 1 ∷ glyph 9 2 ∷ []) (with_operations 100)
    (0 ∷ 2 ∷ 0 ∷ 20 ∷ 0 ∷ 21 ∷ []) ≡ record {
      text = with_props 80 0 (glyph 20 1) ∷ with_props 80 1 (glyph 21 1) ∷ glyph 9 2 ∷ [];
      next = 2;
      lookups = with_operations 100;
    }
unfolding multiplied sequence_glyphs sequence_glyph replaced new_props
just_room = refl

no_room : sequence_put (set_for 2 []) 0 (glyph 5 1 ∷ glyph 9 2 ∷ []) (with_operations 100) (0 ∷ 2 ∷ 0 ∷ 20 ∷ 0 ∷ 21 ∷ [])
    ≡ record { text = glyph 5 1 ∷ glyph 9 2 ∷ []; next = 1; lookups = undone_with 100 }
no_room = refl

-- type 4: a ligature of two glyphs, in the cluster of both; its number is 1, it has 2 components
ligature_of_two : ligated [] MonotoneGraphemes 0 (1 ∷ []) 30 (glyph 5 1 ∷ glyph 9 2 ∷ [])
    ≡ with_props 52 50 (glyph 30 1) ∷ []
unfolding ligated ligature_joined merged_up_to number_for is_of_marks is_of_base number_before marks_inside marked_one counted_too components_of with_followers followed_by_marks ligature_glyph as_letter replaced new_props removed_all
ligature_of_two = refl

-- a mark between them is of the first component; one behind them isn't of the ligature
ligature_over_mark : ligated [] MonotoneGraphemes 0 (2 ∷ []) 30
    (glyph 5 1 ∷ with_props 8 0 (glyph 40 1) ∷ glyph 9 2 ∷ with_props 8 0 (glyph 41 2) ∷ [])
    ≡ with_props 52 50 (glyph 30 1) ∷ with_props 8 33 (glyph 40 1) ∷ with_props 8 0 (glyph 41 1) ∷ []
unfolding ligated ligature_joined merged_up_to number_for is_of_marks is_of_base number_before marks_inside marked_one counted_too components_of as_mark with_followers followed_by_marks ligature_glyph as_letter replaced new_props removed_all
ligature_over_mark = refl

-- behind a ligature of number 7 comes one of number 1; its last glyph was one of number 3 with 2
-- components, and the mark of its second one is of the third one now
ligature_again : ligated [] MonotoneGraphemes 1 (2 ∷ []) 30
    (with_props 4 242 (glyph 8 0) ∷ glyph 5 1 ∷ with_props 4 114 (glyph 9 1) ∷ with_props 8 98 (glyph 40 1) ∷ [])
    ≡ with_props 4 242 (glyph 8 0) ∷ with_props 52 51 (glyph 30 1) ∷ with_props 8 35 (glyph 40 1) ∷ []
unfolding ligated ligature_joined merged_up_to number_for is_of_marks is_of_base number_before marks_inside marked_one counted_too components_of as_mark with_followers followed_by_marks is_of_last ligature_glyph as_letter replaced new_props removed_all
ligature_again = refl

-- of marks: no number, and it isn't a ligature by class
ligature_of_marks : ligated [] MonotoneGraphemes 0 (1 ∷ []) 30 (with_props 8 0 (glyph 5 1) ∷ with_props 8 0 (glyph 9 1) ∷ [])
    ≡ with_props 56 0 (glyph 30 1) ∷ []
unfolding ligated ligature_joined merged_up_to number_for is_of_marks is_of_base number_before marks_inside marked_one counted_too components_of with_followers followed_by_marks ligature_glyph as_letter replaced new_props removed_all
ligature_of_marks = refl

-- type 6, format 3: glyph 5 before glyph 9 is given to lookup 0, which makes 7 of it. One call, one end.
-- No break is between the two.
abbrev context : List ℕ
context = lookup_of 6 0 (0 ∷ 3 ∷ 0 ∷ 0 ∷ 0 ∷ 1 ∷ 0 ∷ 18 ∷ 0 ∷ 1 ∷ 0 ∷ 24 ∷ 0 ∷ 1 ∷ 0 ∷ 0 ∷ 0 ∷ 0
    ∷ 0 ∷ 1 ∷ 0 ∷ 1 ∷ 0 ∷ 5 ∷ 0 ∷ 1 ∷ 0 ∷ 1 ∷ 0 ∷ 9 ∷ [])

in_context : nested (set_for 9 (gsub_of (lookup_of 1 0 by_delta))) context (glyph 5 1 ∷ glyph 9 2 ∷ []) 0 (with_operations 100)
    ≡ record { text = with_props 16 0 (glyph 7 1) ∷ with_flags 3 (glyph 9 2) ∷ []; end = Some 1; lookups = with_operations 98 }
unfolding nested tried came_in nth_came begun unbroken is_short sights_of sight_of_input sight_of_context flag_in context_in kind_in first_at found_at around rule_in chained_in test_in reach_behind reach_before reach_from end_in input_in places_from next_from seen_by seen_as ignores may_pass bisect first_from ran machine_stepped turned lookup_called one_put single_put replaced new_props frame_shifted places_shifted climbing
in_context = refl

out_of_context : nested (set_for 9 (gsub_of (lookup_of 1 0 by_delta))) context (glyph 5 1 ∷ glyph 8 2 ∷ []) 0 (with_operations 100)
    ≡ record { text = glyph 5 1 ∷ glyph 8 2 ∷ []; end = None; lookups = with_operations 100 }
unfolding nested tried came_in nth_came begun unbroken is_short sights_of sight_of_input sight_of_context flag_in context_in kind_in first_at found_at around rule_in chained_in test_in reach_behind reach_before reach_from end_in input_in places_from next_from seen_by seen_as ignores may_pass bisect first_from ran machine_stepped turned lookup_called one_put single_put replaced new_props frame_shifted places_shifted climbing
out_of_context = refl

-- two operations are enough; with one the rule's end is missing, and with none its call, too
just_enough : nested (set_for 9 (gsub_of (lookup_of 1 0 by_delta))) context (glyph 5 1 ∷ glyph 9 2 ∷ []) 0 (with_operations 2)
    ≡ record { text = with_props 16 0 (glyph 7 1) ∷ with_flags 3 (glyph 9 2) ∷ []; end = Some 1; lookups = with_operations 0 }
unfolding nested tried came_in nth_came begun unbroken is_short sights_of sight_of_input sight_of_context flag_in context_in kind_in first_at found_at around rule_in chained_in test_in reach_behind reach_before reach_from end_in input_in places_from next_from seen_by seen_as ignores may_pass bisect first_from ran machine_stepped turned lookup_called one_put single_put replaced new_props frame_shifted places_shifted climbing
just_enough = refl

one_missing : nested (set_for 9 (gsub_of (lookup_of 1 0 by_delta))) context (glyph 5 1 ∷ glyph 9 2 ∷ []) 0 (with_operations 1)
    ≡ record { text = with_props 16 0 (glyph 7 1) ∷ with_flags 3 (glyph 9 2) ∷ []; end = None; lookups = undone_with 0 }
unfolding nested tried came_in nth_came begun unbroken is_short sights_of sight_of_input sight_of_context flag_in context_in kind_in first_at found_at around rule_in chained_in test_in reach_behind reach_before reach_from end_in input_in places_from next_from seen_by seen_as ignores may_pass bisect first_from ran machine_stepped turned lookup_called one_put single_put replaced new_props frame_shifted places_shifted climbing
one_missing = refl

both_missing : nested (set_for 9 (gsub_of (lookup_of 1 0 by_delta))) context (glyph 5 1 ∷ glyph 9 2 ∷ []) 0 (with_operations 0)
    ≡ record { text = glyph 5 1 ∷ with_flags 3 (glyph 9 2) ∷ []; end = None; lookups = undone_with 0 }
unfolding nested tried came_in nth_came begun unbroken is_short sights_of sight_of_input sight_of_context flag_in context_in kind_in first_at found_at around rule_in chained_in test_in reach_behind reach_before reach_from end_in input_in places_from next_from seen_by seen_as ignores may_pass bisect first_from ran machine_stepped turned lookup_called one_put single_put replaced new_props frame_shifted places_shifted climbing
both_missing = refl

-- A lookup of eight subtables takes three operations. With two it isn't applied and none is left; with
-- three the rule's end is missing.
abbrev wide_lookup : List ℕ
wide_lookup = (0 ∷ 1 ∷ 0 ∷ 0 ∷ 0 ∷ 8 ∷ 0 ∷ 22 ∷ 0 ∷ 22 ∷ 0 ∷ 22 ∷ 0 ∷ 22 ∷ 0 ∷ 22 ∷ 0 ∷ 22 ∷ 0 ∷ 22 ∷ 0 ∷ 22 ∷ []) ++ by_delta

wide_enough : nested (set_for 9 (gsub_of wide_lookup)) context (glyph 5 1 ∷ glyph 9 2 ∷ []) 0 (with_operations 100)
    ≡ record { text = with_props 16 0 (glyph 7 1) ∷ with_flags 3 (glyph 9 2) ∷ []; end = Some 1; lookups = with_operations 96 }
unfolding nested tried came_in nth_came begun unbroken is_short sights_of sight_of_input sight_of_context flag_in context_in kind_in first_at found_at around rule_in chained_in test_in reach_behind reach_before reach_from end_in input_in places_from next_from seen_by seen_as ignores may_pass bisect first_from ran machine_stepped turned lookup_called one_put single_put replaced new_props frame_shifted places_shifted climbing
wide_enough = refl

wide_end_missing : nested (set_for 9 (gsub_of wide_lookup)) context (glyph 5 1 ∷ glyph 9 2 ∷ []) 0 (with_operations 3)
    ≡ record { text = with_props 16 0 (glyph 7 1) ∷ with_flags 3 (glyph 9 2) ∷ []; end = None; lookups = undone_with 0 }
unfolding nested tried came_in nth_came begun unbroken is_short sights_of sight_of_input sight_of_context flag_in context_in kind_in first_at found_at around rule_in chained_in test_in reach_behind reach_before reach_from end_in input_in places_from next_from seen_by seen_as ignores may_pass bisect first_from ran machine_stepped turned lookup_called one_put single_put replaced new_props frame_shifted places_shifted climbing
wide_end_missing = refl

wide_missing : nested (set_for 9 (gsub_of wide_lookup)) context (glyph 5 1 ∷ glyph 9 2 ∷ []) 0 (with_operations 2)
    ≡ record { text = glyph 5 1 ∷ with_flags 3 (glyph 9 2) ∷ []; end = None; lookups = undone_with 0 }
unfolding nested tried came_in nth_came begun unbroken is_short sights_of sight_of_input sight_of_context flag_in context_in kind_in first_at found_at around rule_in chained_in test_in reach_behind reach_before reach_from end_in input_in places_from next_from seen_by seen_as ignores may_pass bisect first_from ran machine_stepped turned lookup_called one_put single_put replaced new_props frame_shifted places_shifted climbing
wide_missing = refl

-- GSUB with three lookups: that one, the context, and one that gives glyph 9 to the first one
abbrev before_all : List ℕ
before_all = lookup_of 6 0 (0 ∷ 3 ∷ 0 ∷ 0 ∷ 0 ∷ 1 ∷ 0 ∷ 16 ∷ 0 ∷ 0 ∷ 0 ∷ 1 ∷ 0 ∷ 0 ∷ 0 ∷ 0
    ∷ 0 ∷ 1 ∷ 0 ∷ 1 ∷ 0 ∷ 9 ∷ [])

abbrev three_lookups : List ℕ
three_lookups = (0 ∷ 1 ∷ 0 ∷ 0 ∷ 0 ∷ 0 ∷ 0 ∷ 0 ∷ 0 ∷ 10 ∷ 0 ∷ 3 ∷ 0 ∷ 8 ∷ 0 ∷ 30 ∷ 0 ∷ 68 ∷ [])
    ++ (lookup_of 1 0 by_delta ++ (context ++ before_all))

abbrev use_of : ℕ → LookupUse
use_of index = record {
  index = index;
  mask = 256;
  auto_zwnj = true;
  auto_zwj = true;
  random = false;
  per_syllable = false;
}

abbrev text_with : ℕ → Buffer
text_with n = record (new_buffer 9) {
  glyphs = glyph 5 1 ∷ glyph 9 2 ∷ [];
  lookups = with_operations n;
}

-- What one lookup leaves, the next one has: of four operations each takes two. Of two operations
-- none is left for the second one, and its glyph stays.
abbrev both_lookups : ℕ → Buffer
both_lookups n = substituted [] three_lookups (use_of 2) (substituted [] three_lookups (use_of 1) (text_with n))

enough_for_both : both_lookups 4 ≡ record (text_with 0) {
  glyphs = with_props 16 0 (glyph 7 1) ∷ with_props 16 0 (with_flags 3 (glyph 11 2)) ∷ [];
}
unfolding substituted applied lookup_applied lookup_stepped is_seen nested tried came_in nth_came begun unbroken is_short sights_of sight_of_input sight_of_context flag_in context_in kind_in first_at found_at around rule_in chained_in test_in reach_behind reach_before reach_from end_in input_in places_from next_from seen_by seen_as ignores may_pass bisect first_from ran machine_stepped turned lookup_called one_put single_put replaced new_props frame_shifted places_shifted climbing
enough_for_both = refl

enough_for_one : both_lookups 2 ≡ record (text_with 0) {
  glyphs = with_props 16 0 (glyph 7 1) ∷ with_flags 3 (glyph 9 2) ∷ [];
  lookups = undone_with 0;
}
unfolding substituted applied lookup_applied lookup_stepped is_seen nested tried came_in nth_came begun unbroken is_short sights_of sight_of_input sight_of_context flag_in context_in kind_in first_at found_at around rule_in chained_in test_in reach_behind reach_before reach_from end_in input_in places_from next_from seen_by seen_as ignores may_pass bisect first_from ran machine_stepped turned lookup_called one_put single_put replaced new_props frame_shifted places_shifted climbing
enough_for_one = refl

-- the first one alone: the text is complete, and its settings are as they were
first_of_both : substituted [] three_lookups (use_of 1) (text_with 2) ≡ record (text_with 0) {
  glyphs = with_props 16 0 (glyph 7 1) ∷ with_flags 3 (glyph 9 2) ∷ [];
}
unfolding substituted applied lookup_applied lookup_stepped is_seen nested tried came_in nth_came begun unbroken is_short sights_of sight_of_input sight_of_context flag_in context_in kind_in first_at found_at around rule_in chained_in test_in reach_behind reach_before reach_from end_in input_in places_from next_from seen_by seen_as ignores may_pass bisect first_from ran machine_stepped turned lookup_called one_put single_put replaced new_props frame_shifted places_shifted climbing
first_of_both = refl

-- type 8: glyph 5 becomes 6 before glyph 9
abbrev reverse : List ℕ
reverse = 0 ∷ 1 ∷ 0 ∷ 14 ∷ 0 ∷ 0 ∷ 0 ∷ 1 ∷ 0 ∷ 20 ∷ 0 ∷ 1 ∷ 0 ∷ 6 ∷ 0 ∷ 1 ∷ 0 ∷ 1 ∷ 0 ∷ 5 ∷ 0 ∷ 1 ∷ 0 ∷ 1 ∷ 0 ∷ 9 ∷ []

reversed_before_9 : lookup_stepped_back (set_for 9 []) (lookup_of 8 0 reverse) (glyph 5 1 ∷ glyph 9 2 ∷ []) 0
    ≡ with_props 16 0 (glyph 6 1) ∷ with_flags 3 (glyph 9 2) ∷ []
unfolding lookup_stepped_back tried_back unbroken is_short is_seen sights_of sight_of_input sight_of_context flag_in nth_reversed reversed_in glyphs_at around_in found_at around reach_behind reach_before reach_from end_in input_in places_from next_from seen_by seen_as ignores may_pass bisect first_from replaced new_props
reversed_before_9 = refl

reversed_before_8 : lookup_stepped_back (set_for 9 []) (lookup_of 8 0 reverse) (glyph 5 1 ∷ glyph 8 2 ∷ []) 0
    ≡ glyph 5 1 ∷ glyph 8 2 ∷ []
unfolding lookup_stepped_back tried_back unbroken is_short is_seen sights_of sight_of_input sight_of_context flag_in nth_reversed reversed_in glyphs_at around_in found_at around reach_behind reach_before reach_from end_in input_in places_from next_from seen_by seen_as ignores may_pass bisect first_from replaced new_props
reversed_before_8 = refl
