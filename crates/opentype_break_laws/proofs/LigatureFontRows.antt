-- A font's ligature at small texts: what it makes of them, and where it doesn't leave their pieces side by side.
use Rattle.std.proofs.Common.{ℕ, zero, suc, ◌+◌, ◌<◌, ◌≡◌, true, false, List, [], ◌∷◌, ◌++◌, length, take, map, length-append, refl, sym, ap, ◌∙◌, subst, arith}
use Rattle.std.proofs.lemmas.Bool.{false≢true}
use Rattle.std.proofs.lemmas.List.{take_at}
use Rattle.shapers_buffer.specs.Buffer.{Buffer, new_buffer}
use Rattle.shapers_buffer.specs.Glyph.{default_glyph, order_view}
use Rattle.shapers_buffer.specs.Glyphs.{Glyph, Glyphs}
use Rattle.shapers_buffer.specs.declared.buffer.level.BufferClusterLevel.{BufferClusterLevel}
use Rattle.shapers_buffer.specs.declared.buffer.level.BufferClusterLevel.TheVariants.{Characters, MonotoneCharacters}
use Rattle.shapers_buffer.specs.declared.buffer.lig_props.LigProps.{LigProps}
use Rattle.shapers_clusters.specs.Breaks.{IsClear}
use Rattle.shapers_syllabic.specs.Borders.{unnumbered}
use Rattle.shapers_syllabic.proofs.Serials.{same_text}
use Rattle.shapers_break_laws.specs.Pieces.{CutWhereClear}
use Rattle.opentype_face.specs.Firsts.{first_from}
use Rattle.opentype_face.specs.Ranges.{bisect}
use Rattle.opentype_layout.specs.Ligatures.{input_in, is_apart}
use Rattle.opentype_layout.specs.Pattern.{places_from, seen_by}
use Rattle.opentype_layout.specs.Sight.{flag_in, ignores, may_pass, next_from, seen_as, sight_of_context, sight_of_input}
use Rattle.opentype_gsub.specs.Along.{lookup_applied, lookup_stepped}
use Rattle.opentype_gsub.specs.Applied.{ligated_put, one_put}
use Rattle.opentype_gsub.specs.Came.{came_in, nth_came}
use Rattle.opentype_gsub.specs.Edits.{merged_up_to, new_props, removed_all, replaced}
use Rattle.opentype_gsub.specs.Ligated.{as_letter, as_mark, components_of, counted_too, followed_by_marks, is_of_base, is_of_marks, ligated, ligature_glyph, ligature_joined, marked_one, marks_inside, number_before, number_for, with_followers}
use Rattle.opentype_gsub.specs.Ligatures.{ligature_of}
use Rattle.opentype_gsub.specs.Looked.{tried}
use Rattle.opentype_gsub.specs.Machine.{nested}
use Rattle.opentype_gsub.specs.Setting.{is_seen, sights_of}
use Rattle.opentype_gsub.specs.Substituted.{applied, substituted}
use Rattle.opentype_font.specs.Lookups.{substituted_by}
use Rattle.shapers_plan.specs.declared.ot_map.lookups.StageLookup.{StageLookup}
use Rattle.shapers_editing.specs.PipelineBreaks.{AreAsIn, IsPiece, LookupLeaves, Numbering, unlinked}
use Rattle.opentype_break_laws.specs.OrderedTexts.{PrecedesInOrder, PutsLigatures, TakesLigatures}
use Rattle.opentype_break_laws.proofs.LigatureNumbers.{uncompared}
use Rattle.opentype_break_laws.proofs.LigaturePieces.{ligatures_leave}
use Rattle.opentype_break_laws.proofs.LigatureViews.{hiding_number}

-- GSUB with one lookup of type 4 and this flag: glyph 3 for a 1 and a 2
abbrev ligating : ℕ → List ℕ
ligating flag = (0 ∷ 1 ∷ 0 ∷ 0 ∷ 0 ∷ 0 ∷ 0 ∷ 0 ∷ 0 ∷ 10 ∷ 0 ∷ 1 ∷ 0 ∷ 4 ∷ [])
    ++ ((0 ∷ 4 ∷ 0 ∷ flag ∷ 0 ∷ 1 ∷ 0 ∷ 8 ∷ []) ++ ((0 ∷ 1 ∷ 0 ∷ 8 ∷ 0 ∷ 1 ∷ 0 ∷ 14 ∷ [])
    ++ ((0 ∷ 1 ∷ 0 ∷ 1 ∷ 0 ∷ 1 ∷ []) ++ (0 ∷ 1 ∷ 0 ∷ 4 ∷ 0 ∷ 3 ∷ 0 ∷ 2 ∷ 0 ∷ 2 ∷ []))))

abbrev lookup : StageLookup
lookup = record {
  index = 0;
  mask = 256;
  auto_zwnj = true;
  auto_zwj = true;
  random = false;
  per_syllable = false;
}

-- a glyph by its number, cluster and glyph flags; its class and its ligature
abbrev glyph : ℕ → ℕ → ℕ → Glyph
glyph number c flags = record default_glyph { glyph_id = number; cluster = c; mask = 256 + flags }

abbrev of_class : ℕ → ℕ → Glyph → Glyph
of_class class ligature g = record g { glyph_props = record { 0 = class }; lig_props = record { 0 = ligature } }

abbrev text_at : BufferClusterLevel → Glyphs → Buffer
text_at level gs = record (new_buffer 9) { glyphs = gs; level = level }

abbrev made : ℕ → BufferClusterLevel → Glyphs → Glyphs
made flag level gs = (substituted_by [] (ligating flag) lookup (text_at level gs)).glyphs

-- a piece of such a text by itself
piece_of : (numbered : Numbering) → ((list : List LigProps) → numbered list list ≡ true)
    → (level : BufferClusterLevel) (gs part : Glyphs) → IsPiece numbered (text_at level gs) part (text_at level part)
piece_of numbered alike level gs part = record {
  same = record { glyphs = (refl, refl); numbers = alike _ };
  level = refl;
  direction = refl;
  script = refl;
  room = refl;
  positions = refl;
}

-- glyphs of a piece that begins with one glyph aren't those of a part that begins with another
abbrev pub first_number : Glyphs → ℕ
first_number [] = 0
first_number (g ∷ gs) = g.glyph_id

viewed_first : (gs : Glyphs) → first_number (map unnumbered (order_view (map unlinked gs))) ≡ first_number gs
viewed_first [] = refl
viewed_first (g ∷ gs) = refl

pub as_first : (numbered : Numbering) (part gs : Glyphs) → AreAsIn numbered part gs → first_number gs ≡ first_number part
as_first numbered part gs is = sym (viewed_first gs)
    ∙ ap first_number (same_text (order_view (map unlinked gs)) (order_view (map unlinked part)) is.glyphs.0)
    ∙ viewed_first part

-- a text whose glyphs were cut in two, where no front piece begins as the front does
not_beside : (flag : ℕ) (level : BufferClusterLevel) (whole front back : Glyphs) → made flag level whole ≡ front ++ back
    → CutWhereClear (front ++ back) front back
    → ((before behind : Glyphs) → CutWhereClear whole before behind → first_number (made flag level before)
    ≡ first_number front → ⊥)
    → (numbered : Numbering) → ((list : List LigProps) → numbered list list ≡ true)
    → LookupLeaves numbered (text_at level whole) (substituted_by [] (ligating flag)) lookup (text_at level whole) → ⊥
not_beside flag level whole front back is cut none numbered alike leaves =
    let it = leaves front back (subst (λ gs. CutWhereClear gs front back) (sym is) cut) in
    none it.before it.behind it.pieces (as_first numbered front (made flag level it.before)
    (it.first (text_at level it.before) (piece_of numbered alike level whole it.before)))

-- ---- TWO GLYPHS become one in the lesser cluster; the place behind it is as it was
two : made 0 MonotoneCharacters (glyph 1 0 0 ∷ glyph 2 1 0 ∷ glyph 5 2 0 ∷ [])
    ≡ of_class 52 50 (glyph 3 0 0) ∷ glyph 5 2 0 ∷ []
unfolding substituted applied lookup_applied lookup_stepped is_seen nested tried came_in nth_came sights_of sight_of_input sight_of_context flag_in one_put ligated_put ligature_of input_in is_apart places_from next_from seen_by seen_as ignores may_pass bisect first_from ligated ligature_joined merged_up_to number_for is_of_marks is_of_base number_before marks_inside marked_one counted_too components_of as_mark with_followers followed_by_marks ligature_glyph as_letter replaced new_props removed_all
two = refl

-- the text meets what the law asks, so that its pieces come out so whatever they hold besides
abbrev rising : Buffer
rising = text_at MonotoneCharacters (glyph 1 0 0 ∷ glyph 2 1 0 ∷ glyph 5 2 0 ∷ [])

puts_two : PutsLigatures (ligating 0) lookup
puts_two = record { some = omega arith; types = λ i less. refl; across = refl; flagless = refl }

precedes : (g h : Glyph) → g.cluster < h.cluster → PrecedesInOrder g h
precedes g h less = (omega (arith, less), λ same unsafe. absurd (omega (arith, same, less)))

takes_two : TakesLigatures rising rising
takes_two = record {
  level = refl;
  merging = refl;
  cleared = (refl, (refl, (refl, tt)));
  ordered = (
    (precedes (glyph 1 0 0) (glyph 2 1 0) (omega arith), (precedes (glyph 1 0 0) (glyph 5 2 0) (omega arith), tt)),
    ((precedes (glyph 2 1 0) (glyph 5 2 0) (omega arith), tt), (tt, tt)),
  );
  components = (refl, (refl, (refl, tt)));
}

row_two : (numbered : Numbering) → ((xs ys : List LigProps) → numbered xs ys ≡ true)
    → LookupLeaves numbered rising (substituted_by [] (ligating 0)) lookup rising
row_two numbered any = ligatures_leave numbered hiding_number (uncompared numbered any) rising [] (ligating 0) lookup rising puts_two takes_two

-- ---- A FLAG THAT DOESN'T BEGIN WITH ITS CLUSTER, of the 2 alone: the 2 goes, and so does the flag
abbrev follower : Glyphs
follower = glyph 4 0 0 ∷ glyph 1 1 0 ∷ glyph 2 1 1 ∷ []

followed : made 0 MonotoneCharacters follower ≡ glyph 4 0 0 ∷ of_class 52 50 (glyph 3 1 0) ∷ []
unfolding substituted applied lookup_applied lookup_stepped is_seen nested tried came_in nth_came sights_of sight_of_input sight_of_context flag_in one_put ligated_put ligature_of input_in is_apart places_from next_from seen_by seen_as ignores may_pass bisect first_from ligated ligature_joined merged_up_to number_for is_of_marks is_of_base number_before marks_inside marked_one counted_too components_of as_mark with_followers followed_by_marks ligature_glyph as_letter replaced new_props removed_all
followed = refl

no_clear : (n : ℕ) → 0 < n → n < 3 → IsClear follower n → ⊥
no_clear zero some few clear = absurd (omega (arith, some))
no_clear (suc zero) some few clear = false≢true (sym clear.unflagged)
no_clear (suc (suc zero)) some few clear = absurd (clear.differ refl)
no_clear (suc (suc (suc n))) some few clear = absurd (omega (arith, few))

row_follower : (numbered : Numbering) → ((list : List LigProps) → numbered list list ≡ true)
    → LookupLeaves numbered (text_at MonotoneCharacters follower) (substituted_by [] (ligating 0)) lookup
    (text_at MonotoneCharacters follower) → ⊥
row_follower = not_beside 0 MonotoneCharacters follower (glyph 4 0 0 ∷ []) (of_class 52 50 (glyph 3 1 0) ∷ []) followed
    (record {
      parts = refl;
      some_in_front = omega arith;
      some_behind = omega arith;
      clear = record { differ = λ e. absurd (omega (arith, e)); unflagged = refl };
    })
    (λ before behind cut e. no_clear (length before) cut.some_in_front
    (omega (arith, ap length cut.parts, length-append before behind, cut.some_behind)) cut.clear)

-- ---- OVER A MARK, at a level that merges nothing: the mark keeps its cluster. The place between the ligature and the
-- mark is clear, and no pieces of the text give the ligature.
abbrev over_mark : Glyphs
over_mark = glyph 1 0 0 ∷ of_class 8 0 (glyph 40 1 0) ∷ glyph 2 2 0 ∷ []

over : made 8 Characters over_mark ≡ of_class 52 50 (glyph 3 0 0) ∷ of_class 8 33 (glyph 40 1 0) ∷ []
unfolding substituted applied lookup_applied lookup_stepped is_seen nested tried came_in nth_came sights_of sight_of_input sight_of_context flag_in one_put ligated_put ligature_of input_in is_apart places_from next_from seen_by seen_as ignores may_pass bisect first_from ligated ligature_joined merged_up_to number_for is_of_marks is_of_base number_before marks_inside marked_one counted_too components_of as_mark with_followers followed_by_marks ligature_glyph as_letter replaced new_props removed_all
over = refl

-- where it merges, all are in one cluster
over_merged : made 8 MonotoneCharacters over_mark ≡ of_class 52 50 (glyph 3 0 0) ∷ of_class 8 33 (glyph 40 0 0) ∷ []
unfolding substituted applied lookup_applied lookup_stepped is_seen nested tried came_in nth_came sights_of sight_of_input sight_of_context flag_in one_put ligated_put ligature_of input_in is_apart places_from next_from seen_by seen_as ignores may_pass bisect first_from ligated ligature_joined merged_up_to number_for is_of_marks is_of_base number_before marks_inside marked_one counted_too components_of as_mark with_followers followed_by_marks ligature_glyph as_letter replaced new_props removed_all
over_merged = refl

first_alone : first_number (made 8 Characters (take 1 over_mark)) ≡ 1
unfolding substituted applied lookup_applied lookup_stepped is_seen nested tried came_in nth_came sights_of sight_of_input sight_of_context flag_in one_put ligated_put ligature_of input_in is_apart places_from next_from seen_by seen_as ignores may_pass bisect first_from ligated ligature_joined merged_up_to number_for is_of_marks is_of_base number_before marks_inside marked_one counted_too components_of as_mark with_followers followed_by_marks ligature_glyph as_letter replaced new_props removed_all
first_alone = refl

first_with_mark : first_number (made 8 Characters (take 2 over_mark)) ≡ 1
unfolding substituted applied lookup_applied lookup_stepped is_seen nested tried came_in nth_came sights_of sight_of_input sight_of_context flag_in one_put ligated_put ligature_of input_in is_apart places_from next_from seen_by seen_as ignores may_pass bisect first_from ligated ligature_joined merged_up_to number_for is_of_marks is_of_base number_before marks_inside marked_one counted_too components_of as_mark with_followers followed_by_marks ligature_glyph as_letter replaced new_props removed_all
first_with_mark = refl

begins_alone : (n : ℕ) → 0 < n → n < 3 → first_number (made 8 Characters (take n over_mark)) ≡ 3 → ⊥
begins_alone zero some few e = absurd (omega (arith, some))
begins_alone (suc zero) some few e = absurd (omega (arith, sym first_alone ∙ e))
begins_alone (suc (suc zero)) some few e = absurd (omega (arith, sym first_with_mark ∙ e))
begins_alone (suc (suc (suc n))) some few e = absurd (omega (arith, few))

row_over_mark : (numbered : Numbering) → ((list : List LigProps) → numbered list list ≡ true)
    → LookupLeaves numbered (text_at Characters over_mark) (substituted_by [] (ligating 8)) lookup
    (text_at Characters over_mark) → ⊥
row_over_mark = not_beside 8 Characters over_mark (of_class 52 50 (glyph 3 0 0) ∷ []) (of_class 8 33 (glyph 40 1 0) ∷ []) over
    (record {
      parts = refl;
      some_in_front = omega arith;
      some_behind = omega arith;
      clear = record { differ = λ e. absurd (omega (arith, e)); unflagged = refl };
    })
    (λ before behind cut e. begins_alone (length before) cut.some_in_front
    (omega (arith, ap length cut.parts, length-append before behind, cut.some_behind))
    (subst (λ gs. first_number (made 8 Characters gs) ≡ 3)
    (sym (ap (take (length before)) cut.parts ∙ take_at before behind (length before) refl)) e))

-- ---- WHERE CLUSTERS FALL along the text: a flag says that no break is between the 2 and the 5. The 2 goes, and the
-- ligature loses the flag of the 1, since it falls to the cluster of the 2: the place is clear, and none was.
abbrev falling : Glyphs
falling = glyph 1 2 1 ∷ glyph 2 1 1 ∷ glyph 5 0 0 ∷ []

fallen : made 0 MonotoneCharacters falling ≡ of_class 52 50 (glyph 3 1 0) ∷ glyph 5 0 0 ∷ []
unfolding substituted applied lookup_applied lookup_stepped is_seen nested tried came_in nth_came sights_of sight_of_input sight_of_context flag_in one_put ligated_put ligature_of input_in is_apart places_from next_from seen_by seen_as ignores may_pass bisect first_from ligated ligature_joined merged_up_to number_for is_of_marks is_of_base number_before marks_inside marked_one counted_too components_of as_mark with_followers followed_by_marks ligature_glyph as_letter replaced new_props removed_all
fallen = refl

none_clear : (n : ℕ) → 0 < n → n < 3 → IsClear falling n → ⊥
none_clear zero some few clear = absurd (omega (arith, some))
none_clear (suc zero) some few clear = false≢true (sym clear.unflagged)
none_clear (suc (suc zero)) some few clear = false≢true (sym clear.unflagged)
none_clear (suc (suc (suc n))) some few clear = absurd (omega (arith, few))

row_falling : (numbered : Numbering) → ((list : List LigProps) → numbered list list ≡ true)
    → LookupLeaves numbered (text_at MonotoneCharacters falling) (substituted_by [] (ligating 0)) lookup
    (text_at MonotoneCharacters falling) → ⊥
row_falling = not_beside 0 MonotoneCharacters falling (of_class 52 50 (glyph 3 1 0) ∷ []) (glyph 5 0 0 ∷ []) fallen
    (record {
      parts = refl;
      some_in_front = omega arith;
      some_behind = omega arith;
      clear = record { differ = λ e. absurd (omega (arith, e)); unflagged = refl };
    })
    (λ before behind cut e. none_clear (length before) cut.some_in_front
    (omega (arith, ap length cut.parts, length-append before behind, cut.some_behind)) cut.clear)

-- ---- WHERE NUMBERS DON'T TELL: two marks of one component are joined. In a piece whose numbers say that they are of
-- two ligatures they stay apart.
abbrev marks : ℕ → Glyphs
marks ligature = of_class 8 33 (glyph 1 0 0) ∷ of_class 8 ligature (glyph 2 0 0) ∷ []

together : made 0 MonotoneCharacters (marks 33 ++ glyph 5 1 0 ∷ []) ≡ of_class 56 33 (glyph 3 0 0) ∷ glyph 5 1 0 ∷ []
unfolding substituted applied lookup_applied lookup_stepped is_seen nested tried came_in nth_came sights_of sight_of_input sight_of_context flag_in one_put ligated_put ligature_of input_in is_apart places_from next_from seen_by seen_as ignores may_pass bisect first_from ligated ligature_joined merged_up_to number_for is_of_marks is_of_base number_before marks_inside marked_one counted_too components_of as_mark with_followers followed_by_marks ligature_glyph as_letter replaced new_props removed_all
together = refl

apart : first_number (made 0 MonotoneCharacters (marks 65)) ≡ 1
unfolding substituted applied lookup_applied lookup_stepped is_seen nested tried came_in nth_came sights_of sight_of_input sight_of_context flag_in one_put ligated_put ligature_of input_in is_apart places_from next_from seen_by seen_as ignores may_pass bisect first_from ligated ligature_joined merged_up_to number_for is_of_marks is_of_base number_before marks_inside marked_one counted_too components_of as_mark with_followers followed_by_marks ligature_glyph as_letter replaced new_props removed_all
apart = refl

abbrev any_numbers : Numbering
any_numbers xs ys = true

marks_alone : (n : ℕ) → 0 < n → n < 3 → IsClear (marks 33 ++ glyph 5 1 0 ∷ []) n → n ≡ 2
marks_alone zero some few clear = absurd (omega (arith, some))
marks_alone (suc zero) some few clear = absurd (clear.differ refl)
marks_alone (suc (suc zero)) some few clear = refl
marks_alone (suc (suc (suc n))) some few clear = absurd (omega (arith, few))

row_marks : LookupLeaves any_numbers (text_at MonotoneCharacters (marks 33 ++ glyph 5 1 0 ∷ []))
    (substituted_by [] (ligating 0)) lookup (text_at MonotoneCharacters (marks 33 ++ glyph 5 1 0 ∷ [])) → ⊥
row_marks leaves =
    let whole : Glyphs = marks 33 ++ glyph 5 1 0 ∷ [] in
    let front : Glyphs = of_class 56 33 (glyph 3 0 0) ∷ [] in
    let it = leaves front (glyph 5 1 0 ∷ []) (subst (λ gs. CutWhereClear gs front (glyph 5 1 0 ∷ [])) (sym together) (record {
      parts = refl;
      some_in_front = omega arith;
      some_behind = omega arith;
      clear = record { differ = λ e. absurd (omega (arith, e)); unflagged = refl };
    })) in
    let cut = it.pieces in
    let long : length it.before ≡ 2 = marks_alone (length it.before) cut.some_in_front
    (omega (arith, ap length cut.parts, length-append it.before it.behind, cut.some_behind)) cut.clear in
    let is : marks 33 ≡ it.before = ap (take 2) cut.parts ∙ take_at it.before it.behind 2 long in
    let piece : IsPiece any_numbers (text_at MonotoneCharacters whole) it.before (text_at MonotoneCharacters (marks 65)) =
    subst (λ gs. IsPiece any_numbers (text_at MonotoneCharacters whole) gs (text_at MonotoneCharacters (marks 65))) is (record {
      same = record { glyphs = (refl, refl); numbers = refl };
      level = refl;
      direction = refl;
      script = refl;
      room = refl;
      positions = refl;
    }) in
    let first = as_first any_numbers front (made 0 MonotoneCharacters (marks 65))
    (it.first (text_at MonotoneCharacters (marks 65)) piece) in
    absurd (omega (arith, sym apart ∙ first))
