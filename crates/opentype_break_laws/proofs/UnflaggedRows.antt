-- Fonts whose pairs, marks and cursive lines aren't flagged in full, as in HarfBuzz: there the positions of a text's
-- pieces aren't left side by side.
use Rattle.std.proofs.Common.{List, Option, Some, [], ap, arith, false, length, min, negsuc, refl, replicate, subst, sym, true, ℕ, ℤ, ◌++◌, ◌+ℤ◌, ◌-◌, ◌^◌, ◌∙◌, ◌∷◌, ◌≡◌, ◌≤◌}
use Rattle.std.specs.Prelude.{pos, unsigned_abs}
use Rattle.std.proofs.lemmas.Bool.{false≢true}
use Rattle.std.proofs.lemmas.Int.{ints}
use Rattle.std.proofs.lemmas.List.{length-map}
use Rattle.std.specs.Int.{saturate_to_bits}
use Rattle.shapers_buffer.specs.Buffer.{Buffer, new_buffer}
use Rattle.shapers_buffer.specs.Glyph.{default_glyph, default_position}
use Rattle.shapers_buffer.specs.Glyphs.{Glyph, Glyphs}
use Rattle.shapers_buffer.specs.declared.buffer.glyph.GlyphPosition.{GlyphPosition}
use Rattle.shapers_buffer.specs.declared.buffer.level.BufferClusterLevel.TheVariants.{MonotoneCharacters}
use Rattle.shapers_buffer.specs.declared.buffer.lig_props.LigProps.{LigProps}
use Rattle.shapers_editing.specs.PipelineBreaks.{Numbering}
use Rattle.opentype_face.specs.Firsts.{first_from}
use Rattle.opentype_face.specs.Lookups.{lookup_in}
use Rattle.opentype_face.specs.Ranges.{bisect}
use Rattle.opentype_font.specs.Lookups.{application_for, positioned_by}
use Rattle.opentype_gpos.proofs.Keeping.{position_keeps}
use Rattle.opentype_gpos.specs.Along.{applied_along, position_stepped, positioned}
use Rattle.opentype_gpos.specs.Anchors.{joint_in, joint_point}
use Rattle.opentype_gpos.specs.Coming.{came_in, nth_came, sights_in}
use Rattle.opentype_gpos.specs.Finished.{target_in}
use Rattle.opentype_gpos.specs.Joined.{aligned, beginning_at, begun, between, cursive_joined, cursive_linked, cursive_moved, ended, ending_at, hung, line_var, next_in_line, reversed, separated, with_across}
use Rattle.opentype_gpos.specs.Kerned.{PlacedText}
use Rattle.opentype_gpos.specs.Laws.{without_its_flags}
use Rattle.opentype_gpos.specs.Looked.{tried}
use Rattle.opentype_gpos.specs.Making.{moved}
use Rattle.opentype_gpos.specs.Moved.{Positions, does_move, flagged_up_to, mark_moved, pair_moved, plus, position_at, value_added, with_mark_move, with_value}
use Rattle.opentype_gpos.specs.Moves.{attached_by, base_move, cursive_move, joined_from, joined_with, one_move, pair_move, pair_with}
use Rattle.opentype_gpos.specs.Nearby.{any_seen, base_behind, base_glyph_before, carries_on, is_base_at, is_later_multiple, previous_any}
use Rattle.opentype_gpos.specs.declared.moves.MarkMove.{MarkMove}
use Rattle.opentype_gpos.specs.declared.moves.PairMove.{PairMove}
use Rattle.opentype_gpos.specs.declared.values.Value.{Value}
use Rattle.opentype_layout.specs.Sight.{flag_in, ignores, may_pass, next_from, seen_as, sight_of_context, sight_of_input}
use Rattle.opentype_break_laws.proofs.PlacedPieces.{bare, bare_alike, first_same, second_same}
use Rattle.opentype_break_laws.specs.Marks.{TakesMarks, mark_at}
use Rattle.opentype_break_laws.specs.Pairs.{TakesPairs, pair_seen}
use Rattle.opentype_break_laws.specs.PlacedPieces.{CutPlaced, IsPlacedPiece, LeavesPositions, placed_in}
use Rattle.opentype_break_laws.specs.TwoSingles.{first_lookup}

-- GPOS with one lookup of a type, with a flag and subtables behind their offsets
abbrev positioning : ℕ → ℕ → List ℕ → List ℕ
positioning kind flag subtables = (0 ∷ 1 ∷ 0 ∷ 0 ∷ 0 ∷ 0 ∷ 0 ∷ 0 ∷ 0 ∷ 10 ∷ 0 ∷ 1 ∷ 0 ∷ 4 ∷ [])
    ++ (0 ∷ kind ∷ 0 ∷ flag ∷ subtables)

-- one of them
abbrev with_one : ℕ → ℕ → List ℕ → List ℕ
with_one kind flag subtable = positioning kind flag (0 ∷ 1 ∷ 0 ∷ 8 ∷ subtable)

abbrev text_of : PlacedText → Buffer
text_of it = record (new_buffer 300) { glyphs = it.glyphs; positions = it.positions; level = MonotoneCharacters }

abbrev made : List ℕ → PlacedText → Buffer
made gpos it = positioned_by [] gpos first_lookup (text_of it)

abbrev joined : PlacedText → PlacedText → PlacedText
joined a b = record { glyphs = a.glyphs ++ b.glyphs; positions = a.positions ++ b.positions }

-- a piece of such a text by itself
itself : (numbered : Numbering) → ((list : List LigProps) → numbered list list ≡ true) → (whole part : PlacedText)
    → IsPlacedPiece numbered (text_of whole) part (text_of part)
itself numbered alike whole part = record {
  same = record { glyphs = (refl, refl); numbers = alike _ };
  positions = refl;
  level = refl;
  direction = refl;
  script = refl;
  room = refl;
}

as_long_as : (gpos : List ℕ) (numbered : Numbering) (whole piece part : PlacedText)
    → IsPlacedPiece numbered (text_of whole) part (made gpos piece) → length piece.glyphs ≡ length part.glyphs
as_long_as gpos numbered whole piece part is =
    let new = made gpos piece in
    let kept = (position_keeps [] gpos 0 (application_for first_lookup) (text_of piece)).glyphs in
    sym (sym (length-map new.glyphs without_its_flags) ∙ ap length kept ∙ length-map piece.glyphs without_its_flags)
    ∙ sym (length-map new.glyphs bare) ∙ ap length (bare_alike new.glyphs part.glyphs is.same.glyphs)
    ∙ length-map part.glyphs bare

-- a text that was made clear between two parts, where the first piece or the second gets other positions by itself
not_placed : (gpos : List ℕ) (one two front back : PlacedText) → length one.positions ≡ length one.glyphs
    → length front.glyphs ≡ length one.glyphs → CutPlaced (placed_in (made gpos (joined one two))) front back
    → ((made gpos one).positions ≡ front.positions → (made gpos two).positions ≡ back.positions → ⊥)
    → (numbered : Numbering) → ((list : List LigProps) → numbered list list ≡ true)
    → LeavesPositions numbered (text_of (joined one two)) (positioned_by [] gpos first_lookup) (text_of
    (joined one two)) → ⊥
not_placed gpos one two front back paired long cut other numbered alike leaves =
    let whole = joined one two in
    let it = leaves front back cut in
    let first = it.first (text_of it.before) (itself numbered alike whole it.before) in
    let second = it.second (text_of it.behind) (itself numbered alike whole it.behind) in
    let same : length it.before.glyphs ≡ length one.glyphs = as_long_as gpos numbered whole it.before front first
    ∙ long in
    let places : length one.positions ≡ length it.before.positions = paired ∙ sym same ∙ sym it.pieces.paired in
    let put : Glyphs → Positions → PlacedText = λ gs ps. record { glyphs = gs; positions = ps } in
    let is_one : one ≡ it.before = ap (λ gs. put gs one.positions) (first_same _ _ _ _
    (sym same) it.pieces.glyphs.parts)
    ∙ ap (put it.before.glyphs) (first_same _ _ _ _ places it.pieces.positions) in
    let is_two : two ≡ it.behind = ap (λ gs. put gs two.positions) (second_same _ _ _ _
    (sym same) it.pieces.glyphs.parts)
    ∙ ap (put it.behind.glyphs) (second_same _ _ _ _ places it.pieces.positions) in
    other (ap (λ x. (made gpos x).positions) is_one ∙ first.positions)
    (ap (λ x. (made gpos x).positions) is_two ∙ second.positions)

-- a glyph by its number and cluster; a mark, and one that is passed over since it need not be drawn (as U+2060)
abbrev glyph : ℕ → ℕ → Glyph
glyph number c = record default_glyph { glyph_id = number; cluster = c; mask = 256 }

abbrev mark : ℕ → ℕ → Glyph
mark number c = record (glyph number c) { glyph_props = record { 0 = 8 } }

abbrev undrawn : ℕ → ℕ → Glyph
undrawn number c = record (glyph number c) { unicode_props = record { 0 = 33 } }

-- a position by its advance
abbrev wide : ℕ → GlyphPosition
wide advance = record default_position { x_advance = pos advance }

-- how wide the first glyph is, or the second one, and what the first one is attached to
abbrev first_width : Positions → ℕ
first_width ps = unsigned_abs (position_at ps 0).x_advance

abbrev second_width : Positions → ℕ
second_width ps = unsigned_abs (position_at ps 1).x_advance

abbrev first_link : Positions → ℕ
first_link ps = (position_at ps 0).var

-- ---- A PAIR WHOSE VALUES MOVE NOTHING isn't flagged, and the glyphs that it passes over begin none

-- type 2, with two subtables: a 1 and a 3 stay as they are, and a 3 behind a 2 is 10 units narrower
abbrev idle_pair : List ℕ
idle_pair = positioning 2 0 ((0 ∷ 2 ∷ 0 ∷ 10 ∷ 0 ∷ 34 ∷ [])
    ++ ((0 ∷ 1 ∷ 0 ∷ 18 ∷ 0 ∷ 4 ∷ 0 ∷ 0 ∷ 0 ∷ 1 ∷ 0 ∷ 12 ∷ []) ++ ((0 ∷ 1 ∷ 0 ∷ 3 ∷ 0 ∷ 0 ∷ 0 ∷ 1 ∷ 0 ∷ 1 ∷ 0 ∷ 1 ∷ [])
    ++ ((0 ∷ 1 ∷ 0 ∷ 18 ∷ 0 ∷ 0 ∷ 0 ∷ 4 ∷ 0 ∷ 1 ∷ 0 ∷ 12 ∷ []) ++
    (0 ∷ 1 ∷ 0 ∷ 3 ∷ 255 ∷ 246 ∷ 0 ∷ 1 ∷ 0 ∷ 1 ∷ 0 ∷ 2 ∷ [])))))

abbrev first_of_three : PlacedText
first_of_three = record { glyphs = glyph 1 0 ∷ []; positions = wide 100 ∷ [] }

abbrev last_of_three : PlacedText
last_of_three = record { glyphs = undrawn 2 1 ∷ glyph 3 2 ∷ []; positions = wide 100 ∷ wide 100 ∷ [] }

idle_stays : placed_in (made idle_pair (joined first_of_three last_of_three)) ≡ joined first_of_three last_of_three
unfolding positioned applied_along position_stepped sights_in sight_of_input sight_of_context flag_in ignores tried came_in nth_came first_from bisect one_move pair_move pair_with next_from any_seen seen_as may_pass moved pair_moved value_added with_value does_move flagged_up_to
idle_stays = refl

idle_alone : second_width (made idle_pair last_of_three).positions ≡ 90
unfolding positioned applied_along position_stepped sights_in sight_of_input sight_of_context flag_in ignores tried came_in nth_came first_from bisect one_move pair_move pair_with next_from any_seen seen_as may_pass moved pair_moved value_added with_value does_move flagged_up_to
idle_alone = refl

row_idle : (numbered : Numbering) → ((list : List LigProps) → numbered list list ≡ true)
    → LeavesPositions numbered (text_of (joined first_of_three last_of_three)) (positioned_by [] idle_pair first_lookup)
    (text_of (joined first_of_three last_of_three)) → ⊥
row_idle = not_placed idle_pair first_of_three last_of_three first_of_three last_of_three refl refl
    (subst (λ x. CutPlaced x first_of_three last_of_three) (sym idle_stays) (record {
      glyphs = record {
        parts = refl;
        some_in_front = omega arith;
        some_behind = omega arith;
        clear = record { differ = λ e. absurd (omega (arith, e)); unflagged = refl };
      };
      positions = refl;
      paired = refl;
    })) (λ first second. absurd (omega (arith, sym idle_alone ∙ ap second_width second)))

-- Such a text doesn't take its pairs: inside of the one of the 1, the 2 begins one that holds together.
no_value : Value
no_value = record { x_placement = pos 0; y_placement = pos 0; x_advance = pos 0; y_advance = pos 0 }

outer_pair : PairMove
outer_pair = record { second = 2; first_value = no_value; second_value = no_value; has_second = false }

inner_pair : PairMove
inner_pair = record {
  second = 2;
  first_value = no_value;
  second_value = record no_value { x_advance = negsuc 9 };
  has_second = true;
}

abbrev idle_found : ℕ → Option PairMove
idle_found at = pair_seen [] (lookup_in idle_pair 0) (application_for first_lookup)
    (joined first_of_three last_of_three).glyphs at

outer_found : idle_found 0 ≡ Some outer_pair
unfolding pair_seen first_from bisect sight_of_input flag_in ignores next_from any_seen seen_as may_pass outer_pair no_value
outer_found = refl

inner_found : idle_found 1 ≡ Some inner_pair
unfolding pair_seen first_from bisect sight_of_input flag_in ignores next_from any_seen seen_as may_pass inner_pair no_value
inner_found = refl

idle_not_taken : TakesPairs [] idle_pair first_lookup (text_of (joined first_of_three last_of_three)) → ⊥
unfolding does_move outer_pair inner_pair no_value
idle_not_taken takes = false≢true
    (sym (takes.idle 0 1 outer_pair inner_pair outer_found refl (omega arith) (omega arith) inner_found))

-- ---- AN ADVANCE OF MORE THAN 32 BITS, which no buffer has, becomes the greatest of 32 bits by such a pair

abbrev first_alone : ℤ → PlacedText
first_alone advance = record { glyphs = glyph 1 0 ∷ []; positions = record default_position { x_advance = advance } ∷ [] }

abbrev last_alone : PlacedText
last_alone = record { glyphs = glyph 3 1 ∷ []; positions = wide 100 ∷ [] }

great_moves : (n : ℕ) → placed_in (made idle_pair (joined (first_alone (pos n)) last_alone))
    ≡ joined (first_alone (plus (pos n) (pos 0))) last_alone
unfolding positioned applied_along position_stepped sights_in sight_of_input sight_of_context flag_in ignores tried came_in nth_came first_from bisect one_move pair_move pair_with next_from any_seen seen_as may_pass moved pair_moved value_added with_value does_move flagged_up_to
great_moves n = refl

great_stays : (n : ℕ) → first_width (made idle_pair (first_alone (pos n))).positions ≡ n
unfolding positioned applied_along position_stepped sights_in sight_of_input sight_of_context flag_in ignores tried came_in nth_came first_from bisect one_move pair_move next_from any_seen seen_as may_pass
great_stays n = refl

not_so_great : (n : ℕ) → 2 ^ 31 ≤ n → n ≡ unsigned_abs (plus (pos n) (pos 0)) → ⊥
not_so_great n le e =
    let none : pos n +ℤ pos 0 ≡ pos n = omega (arith, ints) in
    let less : n ≡ min n (2 ^ 31 - 1) = e ∙ ap (λ z. unsigned_abs (saturate_to_bits 31 z)) none in
    absurd (omega (arith, le, less))

row_numbers : (n : ℕ) → 2 ^ 31 ≤ n → (numbered : Numbering) → ((list : List LigProps) → numbered list list ≡ true)
    → LeavesPositions numbered (text_of (joined (first_alone (pos n)) last_alone)) (positioned_by [] idle_pair first_lookup)
    (text_of (joined (first_alone (pos n)) last_alone)) → ⊥
row_numbers n le = not_placed idle_pair (first_alone (pos n)) last_alone (first_alone (plus (pos n) (pos 0))) last_alone refl
    refl (subst (λ x. CutPlaced x (first_alone (plus (pos n) (pos 0))) last_alone) (sym (great_moves n)) (record {
      glyphs = record {
        parts = refl;
        some_in_front = omega arith;
        some_behind = omega arith;
        clear = record { differ = λ e. absurd (omega (arith, e)); unflagged = refl };
      };
      positions = refl;
      paired = refl;
    })) (λ first second. not_so_great n le (sym (great_stays n) ∙ ap first_width first))

-- ---- STRETCHES OF 256 GLYPHS aren't flagged: two glyphs and 254 marks between them

abbrev marks_between : PlacedText
marks_between = record { glyphs = replicate 254 (mark 8 1); positions = replicate 254 (wide 0) }

abbrev alone : Glyph → GlyphPosition → PlacedText
alone g p = record { glyphs = g ∷ []; positions = p ∷ [] }

-- type 2, which ignores marks: a 1 before a 3 is 10 units narrower
abbrev far_pair : List ℕ
far_pair = with_one 2 8 ((0 ∷ 1 ∷ 0 ∷ 18 ∷ 0 ∷ 4 ∷ 0 ∷ 0 ∷ 0 ∷ 1 ∷ 0 ∷ 12 ∷ [])
    ++ ((0 ∷ 1 ∷ 0 ∷ 3 ∷ 255 ∷ 246 ∷ []) ++ (0 ∷ 1 ∷ 0 ∷ 1 ∷ 0 ∷ 1 ∷ [])))

-- the 1, so wide, and the marks
abbrev with_marks : ℕ → PlacedText
with_marks advance = joined (alone (glyph 1 0) (wide advance)) marks_between

abbrev last_of_pair : PlacedText
last_of_pair = alone (glyph 3 2) (wide 100)

pair_moves : placed_in (made far_pair (joined (with_marks 100) last_of_pair)) ≡ joined (with_marks 90) last_of_pair
unfolding positioned applied_along position_stepped sights_in sight_of_input sight_of_context flag_in ignores tried came_in nth_came first_from bisect one_move pair_move pair_with next_from any_seen seen_as may_pass moved pair_moved value_added with_value does_move flagged_up_to
pair_moves = refl

first_stays : first_width (made far_pair (with_marks 100)).positions ≡ 100
unfolding positioned applied_along position_stepped sights_in sight_of_input sight_of_context flag_in ignores tried came_in nth_came first_from bisect one_move pair_move next_from any_seen seen_as may_pass
first_stays = refl

row_pair : (numbered : Numbering) → ((list : List LigProps) → numbered list list ≡ true)
    → LeavesPositions numbered (text_of (joined (with_marks 100) last_of_pair)) (positioned_by [] far_pair first_lookup)
    (text_of (joined (with_marks 100) last_of_pair)) → ⊥
row_pair = not_placed far_pair (with_marks 100) last_of_pair (with_marks 90) last_of_pair refl refl
    (subst (λ x. CutPlaced x (with_marks 90) last_of_pair) (sym pair_moves) (record {
      glyphs = record {
        parts = refl;
        some_in_front = omega arith;
        some_behind = omega arith;
        clear = record { differ = λ e. absurd (omega (arith, e)); unflagged = refl };
      };
      positions = refl;
      paired = refl;
    })) (λ first second. absurd (omega (arith, sym first_stays ∙ ap first_width first)))

-- such a text doesn't take its pair, which spans 256 glyphs
far_values : PairMove
far_values = record {
  second = 255;
  first_value = record { x_placement = pos 0; y_placement = pos 0; x_advance = negsuc 9; y_advance = pos 0 };
  second_value = record { x_placement = pos 0; y_placement = pos 0; x_advance = pos 0; y_advance = pos 0 };
  has_second = false;
}

far_found : pair_seen [] (lookup_in far_pair 0) (application_for first_lookup)
    (joined (with_marks 100) last_of_pair).glyphs 0 ≡ Some far_values
unfolding pair_seen first_from bisect sight_of_input flag_in ignores next_from any_seen seen_as may_pass far_values
far_found = refl

far_not_taken : TakesPairs [] far_pair first_lookup (text_of (joined (with_marks 100) last_of_pair)) → ⊥
unfolding does_move far_values
far_not_taken takes = let few : 256 - 0 ≤ 255 = takes.short 0 far_values far_found refl in absurd (omega (arith, few))

-- type 4: a mark 9 comes upon a base 1, and the other marks are none of its
abbrev far_mark : List ℕ
far_mark = with_one 4 0 ((0 ∷ 1 ∷ 0 ∷ 12 ∷ 0 ∷ 18 ∷ 0 ∷ 1 ∷ 0 ∷ 24 ∷ 0 ∷ 36 ∷ [])
    ++ ((0 ∷ 1 ∷ 0 ∷ 1 ∷ 0 ∷ 9 ∷ 0 ∷ 1 ∷ 0 ∷ 1 ∷ 0 ∷ 1 ∷ []) ++ ((0 ∷ 1 ∷ 0 ∷ 0 ∷ 0 ∷ 6 ∷ 0 ∷ 1 ∷ 0 ∷ 0 ∷ 0 ∷ 0 ∷ [])
    ++ (0 ∷ 1 ∷ 0 ∷ 4 ∷ 0 ∷ 1 ∷ 0 ∷ 50 ∷ 0 ∷ 70 ∷ []))))

abbrev last_mark : GlyphPosition → PlacedText
last_mark p = alone (mark 9 2) p

-- 255 places before it
abbrev upon_base : GlyphPosition
upon_base = record (wide 0) { x_offset = pos 50; y_offset = pos 70; var = 130817 }

mark_moves : placed_in (made far_mark (joined (with_marks 100) (last_mark (wide 0))))
    ≡ joined (with_marks 100) (last_mark upon_base)
unfolding positioned applied_along position_stepped sights_in sight_of_input sight_of_context flag_in ignores tried came_in nth_came first_from bisect one_move base_move base_glyph_before base_behind is_base_at is_later_multiple carries_on any_seen seen_as may_pass attached_by moved mark_moved with_mark_move flagged_up_to
mark_moves = refl

mark_stays : first_link (made far_mark (last_mark (wide 0))).positions ≡ 0
unfolding positioned applied_along position_stepped sights_in sight_of_input sight_of_context flag_in ignores tried came_in nth_came first_from bisect one_move base_move base_glyph_before
mark_stays = refl

row_mark : (numbered : Numbering) → ((list : List LigProps) → numbered list list ≡ true)
    → LeavesPositions numbered (text_of (joined (with_marks 100) (last_mark (wide 0))))
    (positioned_by [] far_mark first_lookup)
    (text_of (joined (with_marks 100) (last_mark (wide 0)))) → ⊥
row_mark = not_placed far_mark (with_marks 100) (last_mark (wide 0)) (with_marks 100) (last_mark upon_base) refl refl
    (subst (λ x. CutPlaced x (with_marks 100) (last_mark upon_base)) (sym mark_moves) (record {
      glyphs = record {
        parts = refl;
        some_in_front = omega arith;
        some_behind = omega arith;
        clear = record { differ = λ e. absurd (omega (arith, e)); unflagged = refl };
      };
      positions = refl;
      paired = refl;
    })) (λ first second. absurd (omega (arith, sym mark_stays ∙ ap first_link second)))

-- such a text doesn't take its mark, which stands 255 glyphs behind its base
far_upon : MarkMove
far_upon = record { to = 0; x = pos 50; y = pos 70 }

mark_found : mark_at [] (lookup_in far_mark 0) (application_for first_lookup)
    (joined (with_marks 100) (last_mark (wide 0))).glyphs 255 ≡ Some far_upon
unfolding mark_at first_from bisect sight_of_input flag_in ignores any_seen seen_as may_pass far_upon
mark_found = refl

mark_not_taken : TakesMarks [] far_mark first_lookup (text_of (joined (with_marks 100) (last_mark (wide 0)))) → ⊥
unfolding far_upon
mark_not_taken takes = let few : 255 - 0 ≤ 254 = takes.short 255 far_upon (omega arith) mark_found in
    absurd (omega (arith, few))

-- type 3, which ignores marks: a line leaves a 1 at its right, 20 units up, and enters a 3 at its origin
abbrev far_line : List ℕ
far_line = with_one 3 8 ((0 ∷ 1 ∷ 0 ∷ 26 ∷ 0 ∷ 2 ∷ 0 ∷ 0 ∷ 0 ∷ 14 ∷ 0 ∷ 20 ∷ 0 ∷ 0 ∷ [])
    ++ ((0 ∷ 1 ∷ 0 ∷ 100 ∷ 0 ∷ 20 ∷ []) ++ ((0 ∷ 1 ∷ 0 ∷ 0 ∷ 0 ∷ 0 ∷ []) ++ (0 ∷ 1 ∷ 0 ∷ 2 ∷ 0 ∷ 1 ∷ 0 ∷ 3 ∷ []))))

abbrev last_of_line : GlyphPosition → PlacedText
last_of_line p = alone (glyph 3 2) p

abbrev in_line : GlyphPosition
in_line = record (wide 100) { y_offset = pos 20; var = 196353 }

line_moves : placed_in (made far_line (joined (with_marks 100) (last_of_line (wide 100))))
    ≡ joined (with_marks 100) (last_of_line in_line)
unfolding positioned applied_along position_stepped sights_in sight_of_input sight_of_context flag_in ignores tried came_in nth_came first_from bisect one_move cursive_move joined_from joined_with joint_in joint_point previous_any next_from any_seen seen_as may_pass moved cursive_moved cursive_joined aligned ended ending_at begun beginning_at cursive_linked between reversed next_in_line hung line_var separated with_across target_in flagged_up_to
line_moves = refl

line_stays : first_link (made far_line (last_of_line (wide 100))).positions ≡ 0
unfolding positioned applied_along position_stepped sights_in sight_of_input sight_of_context flag_in ignores tried came_in nth_came first_from bisect one_move cursive_move joined_from joint_in joint_point previous_any next_from
line_stays = refl

row_line : (numbered : Numbering) → ((list : List LigProps) → numbered list list ≡ true)
    → LeavesPositions numbered (text_of (joined (with_marks 100) (last_of_line (wide 100))))
    (positioned_by [] far_line first_lookup) (text_of (joined (with_marks 100) (last_of_line (wide 100)))) → ⊥
row_line = not_placed far_line (with_marks 100) (last_of_line (wide 100)) (with_marks 100)
    (last_of_line in_line) refl refl
    (subst (λ x. CutPlaced x (with_marks 100) (last_of_line in_line)) (sym line_moves) (record {
      glyphs = record {
        parts = refl;
        some_in_front = omega arith;
        some_behind = omega arith;
        clear = record { differ = λ e. absurd (omega (arith, e)); unflagged = refl };
      };
      positions = refl;
      paired = refl;
    })) (λ first second. absurd (omega (arith, sym line_stays ∙ ap first_link second)))
