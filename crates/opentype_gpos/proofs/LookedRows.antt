-- Worked rows: what lookups of GPOS look at in vain, over bytes and glyphs written out.
use Rattle.std.specs.Prelude.{◌≡◌, ℕ, ◌+◌, pos, true, false, nat_lt, List, [], ◌∷◌, ◌++◌, None, Some, map, refl, if◌then◌else◌}
use Rattle.shapers_buffer.specs.Glyph.{default_glyph}
use Rattle.shapers_buffer.specs.Glyphs.{Glyph, Glyphs}
use Rattle.shapers_buffer.specs.declared.buffer.level.Direction.TheVariants.{LeftToRight, TopToBottom}
use Rattle.opentype_face.specs.Firsts.{first_from}
use Rattle.opentype_face.specs.Ranges.{bisect}
use Rattle.opentype_layout.specs.Ligatures.{input_in, is_apart}
use Rattle.opentype_layout.specs.Looking.{all_looked, around_looked, context_rules, counted, is_short, rule_looked, set_looked, stop_from, swept_from, unjoined}
use Rattle.opentype_layout.specs.Pattern.{places_from, seen_by}
use Rattle.opentype_layout.specs.Rules.{around, context_in, end_in, first_at, found_at, kind_in, reach_before, reach_behind, reach_from, rule_in, test_in, unchained_in}
use Rattle.opentype_layout.specs.Sight.{flag_in, ignores, may_pass, next_from, seen_as, sight_of_context, sight_of_input}
use Rattle.opentype_layout.specs.declared.looking.Stretch.{Stretch}
use Rattle.opentype_layout.specs.declared.sight.Sight.{Sight}
use Rattle.opentype_gpos.specs.Anchors.{joint_in, joint_point}
use Rattle.opentype_gpos.specs.Coming.{Setting, nth_came, sights_in}
use Rattle.opentype_gpos.specs.Looked.{back_any, base_looked, cursive_looked, has_components, is_idle, is_mark_of, ligature_looked, lookup_looked, mark_looked, move_looked, pair_looked, stop_any, subtable_looked, tried}
use Rattle.opentype_gpos.specs.Moved.{does_move}
use Rattle.opentype_gpos.specs.Moves.{one_move, pair_move, pair_with}
use Rattle.opentype_gpos.specs.Nearby.{any_seen, are_beside, base_behind, base_glyph_before, carries_on, is_base_at, is_later_multiple, previous_any}
use Rattle.opentype_gpos.specs.declared.moves.Move.{Move}
use Rattle.opentype_gpos.specs.declared.moves.Move.TheVariants.{Adds, Kerns}
use Rattle.opentype_gpos.specs.declared.values.Value.{Value}

-- glyphs from 20 on are marks, the others bases; glyphs up to 3 haven't the lookup's feature
abbrev glyph : ℕ → Glyph
glyph number = record default_glyph {
  glyph_id = number;
  mask = if nat_lt number 4 then 8 else 16;
  glyph_props = record { 0 = if nat_lt number 20 then 2 else 8 };
}

abbrev text : List ℕ → Glyphs
text numbers = map glyph numbers

-- a lookup that ignores marks
abbrev sight : Sight
sight = record { flag = 8; set = 0; mask = 16; syllable = 0; over_zwnj = true; over_zwj = true; of_gpos = true }

abbrev ends : Stretch → List ℕ
ends it = it.start ∷ it.stop ∷ []

-- ---- searches for any glyph: two marks are passed over, and glyph 3 ends one; so does the text's end

stops : map (λ numbers. stop_any [] sight (text numbers) 1) ((5 ∷ 20 ∷ 20 ∷ 3 ∷ 6 ∷ []) ∷ (5 ∷ 20 ∷ 20 ∷ []) ∷ (5 ∷ []) ∷ [])
    ≡ 4 ∷ 3 ∷ 1 ∷ []
unfolding stop_from any_seen seen_as ignores may_pass
stops = refl

-- backwards one more glyph counts before glyph 3, as far as the text goes
goes_back : back_any [] sight (text (6 ∷ 6 ∷ 3 ∷ 20 ∷ 5 ∷ [])) 4 ≡ 1
unfolding stop_from any_seen seen_as ignores may_pass
goes_back = refl

goes_to_the_start : map (λ numbers. back_any [] sight (text numbers) 2) ((3 ∷ 20 ∷ 5 ∷ []) ∷ (20 ∷ 20 ∷ 5 ∷ []) ∷ [])
    ≡ 0 ∷ 0 ∷ []
unfolding stop_from any_seen seen_as ignores may_pass
goes_to_the_start = refl

-- ---- type 2, format 1: glyph 7 comes 30 units nearer to glyph 5, glyph 9 stays where it is

abbrev nearer : List ℕ
nearer = 0 ∷ 1 ∷ 0 ∷ 22 ∷ 0 ∷ 4 ∷ 0 ∷ 0 ∷ 0 ∷ 1 ∷ 0 ∷ 12
    ∷ 0 ∷ 2 ∷ 0 ∷ 7 ∷ 255 ∷ 226 ∷ 0 ∷ 9 ∷ 0 ∷ 0
    ∷ 0 ∷ 1 ∷ 0 ∷ 1 ∷ 0 ∷ 5 ∷ []

abbrev pair : List ℕ → List ℕ → List ℕ
pair bytes numbers = ends (pair_looked [] sight LeftToRight bytes (text numbers) 1)

-- they are a pair; glyph 8 is none with glyph 5; none is found in the text, nor behind glyph 3
pairs : map (pair nearer) ((4 ∷ 5 ∷ 20 ∷ 7 ∷ []) ∷ (4 ∷ 5 ∷ 9 ∷ []) ∷ (4 ∷ 5 ∷ 20 ∷ 8 ∷ []) ∷ (4 ∷ 5 ∷ 20 ∷ []) ∷ (4 ∷ 5
    ∷ 3 ∷ 7 ∷ []) ∷ [])
    ≡ (1 ∷ 1 ∷ []) ∷ (1 ∷ 1 ∷ []) ∷ (1 ∷ 4 ∷ []) ∷ (1 ∷ 3 ∷ []) ∷ (1 ∷ 3 ∷ []) ∷ []
unfolding pair_looked pair_with bisect stop_from next_from any_seen seen_as ignores may_pass counted is_short does_move
pairs = refl

-- format 2: glyph 9 has a class, and comes nearer; the others have none, and their values are 0
abbrev by_classes : List ℕ
by_classes = 0 ∷ 2 ∷ 0 ∷ 20 ∷ 0 ∷ 4 ∷ 0 ∷ 0 ∷ 0 ∷ 26 ∷ 0 ∷ 34 ∷ 0 ∷ 1 ∷ 0 ∷ 2
    ∷ 0 ∷ 0 ∷ 255 ∷ 236
    ∷ 0 ∷ 1 ∷ 0 ∷ 1 ∷ 0 ∷ 5
    ∷ 0 ∷ 1 ∷ 0 ∷ 5 ∷ 0 ∷ 1 ∷ 0 ∷ 0
    ∷ 0 ∷ 1 ∷ 0 ∷ 9 ∷ 0 ∷ 1 ∷ 0 ∷ 1 ∷ []

classes : map (pair by_classes) ((4 ∷ 5 ∷ 9 ∷ []) ∷ (4 ∷ 5 ∷ 8 ∷ []) ∷ []) ≡ (1 ∷ 1 ∷ []) ∷ (1 ∷ 3 ∷ []) ∷ []
unfolding pair_looked pair_with bisect stop_from next_from any_seen seen_as ignores may_pass counted is_short does_move
classes = refl

-- a value along another line moves nothing
abbrev down : Value
down = record { x_placement = pos 0; y_placement = pos 0; x_advance = pos 0; y_advance = pos 4 }

abbrev none : Value
none = record { x_placement = pos 0; y_placement = pos 0; x_advance = pos 0; y_advance = pos 0 }

abbrev kerns : Value → Value → Move
kerns first second = Kerns (record { second = 1; first_value = first; second_value = second; has_second = true })

idle : is_idle LeftToRight (kerns down down) ≡ true
unfolding does_move
idle = refl

not_idle : map (is_idle TopToBottom) (kerns down none ∷ kerns none down ∷ Adds none ∷ []) ≡ false ∷ false ∷ false ∷ []
unfolding does_move
not_idle = refl

-- ---- type 3: glyph 5 is left at 300, 0, and glyph 6 entered at 10, 20

abbrev line : List ℕ
line = 0 ∷ 1 ∷ 0 ∷ 26 ∷ 0 ∷ 2 ∷ 0 ∷ 0 ∷ 0 ∷ 20 ∷ 0 ∷ 14 ∷ 0 ∷ 0
    ∷ 0 ∷ 1 ∷ 0 ∷ 10 ∷ 0 ∷ 20
    ∷ 0 ∷ 1 ∷ 1 ∷ 44 ∷ 0 ∷ 0
    ∷ 0 ∷ 1 ∷ 0 ∷ 2 ∷ 0 ∷ 5 ∷ 0 ∷ 6 ∷ []

-- they join; glyph 5 isn't entered; glyph 7 isn't left; none is found before a mark, nor behind glyph 3
lines : map (λ numbers. ends (cursive_looked [] sight line (text numbers) 2))
    ((5 ∷ 20 ∷ 6 ∷ []) ∷ (5 ∷ 20 ∷ 5 ∷ []) ∷ (7 ∷ 20 ∷ 6 ∷ []) ∷ (20 ∷ 20 ∷ 6 ∷ []) ∷ (5 ∷ 3 ∷ 6 ∷ []) ∷ [])
    ≡ (2 ∷ 2 ∷ []) ∷ (2 ∷ 2 ∷ []) ∷ (0 ∷ 3 ∷ []) ∷ (0 ∷ 3 ∷ []) ∷ (0 ∷ 3 ∷ []) ∷ []
unfolding cursive_looked previous_any joint_in joint_point bisect stop_from next_from any_seen seen_as ignores may_pass counted is_short
lines = refl

-- ---- types 4 to 6: mark 20 goes upon glyph 5, or with another set upon mark 21

abbrev upon : ℕ → List ℕ
upon second = 0 ∷ 1 ∷ 0 ∷ 12 ∷ 0 ∷ 18 ∷ 0 ∷ 1 ∷ 0 ∷ 24 ∷ 0 ∷ 36
    ∷ 0 ∷ 1 ∷ 0 ∷ 1 ∷ 0 ∷ 20
    ∷ 0 ∷ 1 ∷ 0 ∷ 1 ∷ 0 ∷ second
    ∷ 0 ∷ 1 ∷ 0 ∷ 0 ∷ 0 ∷ 6 ∷ 0 ∷ 1 ∷ 0 ∷ 50 ∷ 0 ∷ 200
    ∷ 0 ∷ 1 ∷ 0 ∷ 4 ∷ 0 ∷ 1 ∷ 1 ∷ 44 ∷ 2 ∷ 88 ∷ []

-- glyph 6 is no base of the subtable, and before marks alone the text's start counts
bases : map (λ numbers. ends (base_looked [] sight (upon 5) (text numbers) 2))
    ((5 ∷ 21 ∷ 20 ∷ []) ∷ (5 ∷ 6 ∷ 20 ∷ []) ∷ (21 ∷ 21 ∷ 20 ∷ []) ∷ []) ≡ (2 ∷ 2 ∷ []) ∷ (1 ∷ 3 ∷ []) ∷ (0 ∷ 3 ∷ []) ∷ []
unfolding base_looked base_glyph_before base_behind is_base_at is_later_multiple carries_on bisect first_from any_seen seen_as ignores may_pass counted is_short
bases = refl

-- a ligature of the subtable with a component; one without, and one that it hasn't
abbrev ligatures : List ℕ → List ℕ
ligatures behind = (0 ∷ 0 ∷ 0 ∷ 0 ∷ 0 ∷ 0 ∷ 0 ∷ 0 ∷ 0 ∷ 0 ∷ 0 ∷ 12 ∷ []) ++ behind

components : map (λ place. has_components (ligatures (0 ∷ 2 ∷ 0 ∷ 6 ∷ 0 ∷ 8 ∷ 0 ∷ 1 ∷ 0 ∷ 0 ∷ [])) place)
    (Some 0 ∷ Some 1 ∷ Some 2 ∷ None ∷ []) ≡ true ∷ false ∷ false ∷ false ∷ []
unfolding has_components
components = refl

ligated : map (λ numbers. ends (ligature_looked [] sight (upon 5) (text numbers) 2))
    ((5 ∷ 21 ∷ 20 ∷ []) ∷ (5 ∷ 6 ∷ 20 ∷ []) ∷ (21 ∷ 21 ∷ 20 ∷ []) ∷ []) ≡ (2 ∷ 2 ∷ []) ∷ (1 ∷ 3 ∷ []) ∷ (0 ∷ 3 ∷ []) ∷ []
unfolding ligature_looked has_components base_glyph_before base_behind is_base_at is_later_multiple carries_on bisect first_from any_seen seen_as ignores may_pass counted is_short
ligated = refl

-- mark 21 before mark 20; mark 22 isn't the subtable's; glyph 5 is no mark, though the subtable has it
marks : map (λ numbers. ends (mark_looked [] sight (upon 21) (text numbers) 2))
    ((5 ∷ 21 ∷ 20 ∷ []) ∷ (5 ∷ 22 ∷ 20 ∷ []) ∷ (5 ∷ 3 ∷ 20 ∷ []) ∷ []) ≡ (2 ∷ 2 ∷ []) ∷ (1 ∷ 3 ∷ []) ∷ (0 ∷ 3 ∷ []) ∷ []
unfolding mark_looked is_mark_of are_beside previous_any bisect stop_from next_from any_seen seen_as ignores may_pass counted is_short
marks = refl

no_mark : ends (mark_looked [] sight (upon 5) (text (5 ∷ 20 ∷ [])) 1) ≡ 0 ∷ 2 ∷ []
unfolding mark_looked is_mark_of are_beside previous_any bisect stop_from next_from any_seen seen_as ignores may_pass counted is_short
no_mark = refl

-- a mark of another component isn't beside it
abbrev of_component : ℕ → ℕ → Glyph
of_component number component = record (glyph number) { lig_props = record { 0 = 32 + component } }

components_apart : map (λ component. is_mark_of (upon 21) (of_component 21 1 ∷ of_component 20 component ∷ []) 1 0) (1 ∷ 2 ∷ [])
    ≡ true ∷ false ∷ []
unfolding is_mark_of are_beside bisect
components_apart = refl

-- ---- a subtable for another glyph, and one of another type

of_types : map (λ kind. ends (move_looked [] sight LeftToRight kind nearer (text (4 ∷ 5 ∷ 8 ∷ [])) 1)) (1 ∷ 2 ∷ 7 ∷ [])
    ≡ (1 ∷ 1 ∷ []) ∷ (1 ∷ 3 ∷ []) ∷ (1 ∷ 1 ∷ []) ∷ []
unfolding move_looked pair_looked pair_with bisect stop_from next_from any_seen seen_as ignores may_pass counted is_short does_move
of_types = refl

of_another_glyph : ends (move_looked [] sight LeftToRight 2 nearer (text (4 ∷ 5 ∷ 8 ∷ [])) 0) ≡ 0 ∷ 0 ∷ []
unfolding move_looked bisect
of_another_glyph = refl

-- ---- lookups

abbrev setting : Setting
setting = record {
  gdef = [];
  gpos = [];
  direction = LeftToRight;
  how = record { of_gpos = true; mask = 16; auto_zwnj = true; auto_zwj = true; per_syllable = false };
  concat = true;
}

abbrev masks : Setting → List ℕ → List ℕ → ℕ → List ℕ
masks s lookup numbers at = map (λ g. g.mask) (tried s (sights_in s lookup) lookup (text numbers) at)

-- pairs of glyphs, then of classes: both are looked at where the first has none, one where it has one
abbrev two_of_pairs : List ℕ
two_of_pairs = (0 ∷ 2 ∷ 0 ∷ 0 ∷ 0 ∷ 2 ∷ 0 ∷ 10 ∷ 0 ∷ 38 ∷ []) ++ nearer ++ by_classes

flags_pairs : map (λ numbers. masks setting two_of_pairs numbers 1) ((4 ∷ 5 ∷ 8 ∷ 4 ∷ []) ∷ (4 ∷ 5 ∷ 7 ∷ 4 ∷ []) ∷ [])
    ≡ (16 ∷ 18 ∷ 18 ∷ 16 ∷ []) ∷ (16 ∷ 16 ∷ 16 ∷ 16 ∷ []) ∷ []
unfolding tried lookup_looked all_looked subtable_looked unjoined move_looked pair_looked pair_with pair_move nth_came one_move sights_in sight_of_input sight_of_context flag_in bisect stop_from next_from any_seen seen_as ignores may_pass counted is_short does_move
flags_pairs = refl

-- none where such flags aren't wanted, nor behind the text
not_wanted : masks (record setting { concat = false }) two_of_pairs (4 ∷ 5 ∷ 8 ∷ []) 1 ≡ 16 ∷ 16 ∷ 16 ∷ []
unfolding tried
not_wanted = refl

behind_the_text : masks setting two_of_pairs (4 ∷ 5 ∷ []) 2 ≡ 16 ∷ 16 ∷ []
unfolding tried
behind_the_text = refl

-- type 7, format 3: glyph 5 before glyph 6
abbrev before_six : List ℕ
before_six = 0 ∷ 7 ∷ 0 ∷ 0 ∷ 0 ∷ 1 ∷ 0 ∷ 8
    ∷ 0 ∷ 3 ∷ 0 ∷ 2 ∷ 0 ∷ 0 ∷ 0 ∷ 10 ∷ 0 ∷ 16
    ∷ 0 ∷ 1 ∷ 0 ∷ 1 ∷ 0 ∷ 5 ∷ 0 ∷ 1 ∷ 0 ∷ 1 ∷ 0 ∷ 6 ∷ []

flags_contexts : map (λ numbers. masks setting before_six numbers 0) ((5 ∷ 6 ∷ 7 ∷ []) ∷ (5 ∷ 7 ∷ 6 ∷ []) ∷ (7 ∷ 6 ∷ 5 ∷ []) ∷ [])
    ≡ (16 ∷ 16 ∷ 16 ∷ []) ∷ (18 ∷ 18 ∷ 16 ∷ []) ∷ (16 ∷ 16 ∷ 16 ∷ []) ∷ []
unfolding tried lookup_looked all_looked subtable_looked unjoined context_rules set_looked rule_looked around_looked swept_from nth_came context_in kind_in first_at found_at around rule_in unchained_in test_in reach_behind reach_before reach_from end_in input_in is_apart places_from sights_in sight_of_input sight_of_context flag_in bisect stop_from first_from next_from seen_by seen_as ignores may_pass counted is_short
flags_contexts = refl
