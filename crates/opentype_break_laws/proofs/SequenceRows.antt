-- A font's sequence at small texts: what it makes of them, and where it doesn't leave their pieces side by side.
use Rattle.std.proofs.Common.{ℕ, zero, suc, ◌+◌, ◌<◌, ◌≡◌, inl, inr, true, false, List, [], ◌∷◌, ◌++◌, length, take, map, length-append, refl, sym, ap, ◌∙◌, subst, arith}
use Rattle.std.proofs.lemmas.Bool.{false≢true}
use Rattle.std.proofs.lemmas.List.{take_at}
use Rattle.shapers_buffer.specs.Buffer.{Buffer, new_buffer}
use Rattle.shapers_buffer.specs.Glyph.{default_glyph, order_view}
use Rattle.shapers_buffer.specs.Glyphs.{Glyph, Glyphs}
use Rattle.shapers_buffer.specs.declared.buffer.level.BufferClusterLevel.TheVariants.{MonotoneCharacters}
use Rattle.shapers_buffer.specs.declared.buffer.lig_props.LigProps.{LigProps}
use Rattle.shapers_clusters.specs.Breaks.{IsClear}
use Rattle.shapers_syllabic.specs.Borders.{unnumbered}
use Rattle.shapers_syllabic.proofs.Serials.{same_text}
use Rattle.shapers_break_laws.specs.Pieces.{CutWhereClear}
use Rattle.opentype_face.specs.Firsts.{first_from}
use Rattle.opentype_face.specs.Lookups.{lookup_in}
use Rattle.opentype_face.specs.Ranges.{bisect}
use Rattle.opentype_layout.specs.Sight.{flag_in, ignores, sight_of_context, sight_of_input}
use Rattle.opentype_gsub.specs.Along.{lookup_applied, lookup_stepped}
use Rattle.opentype_gsub.specs.Applied.{multiple_put, one_put}
use Rattle.opentype_gsub.specs.Came.{came_in, nth_came}
use Rattle.opentype_gsub.specs.Edits.{handed_on, multiplied, new_props, replaced, sequence_glyph, sequence_glyphs}
use Rattle.opentype_gsub.specs.Looked.{tried}
use Rattle.opentype_gsub.specs.Machine.{nested}
use Rattle.opentype_gsub.specs.Setting.{is_seen, sights_of}
use Rattle.opentype_gsub.specs.Substituted.{applied, substituted}
use Rattle.opentype_font.specs.Lookups.{substituted_by}
use Rattle.shapers_plan.specs.declared.ot_map.lookups.StageLookup.{StageLookup}
use Rattle.shapers_editing.specs.PipelineBreaks.{AreAsIn, IsPiece, LookupLeaves, Numbering, unlinked}
use Rattle.opentype_break_laws.specs.Sequences.{ComparesNumbers, GoesBehind, PutsSequences, TakesSequences, all_beside, both_numbered, glyphs_of_all, glyphs_of_one}
use Rattle.opentype_break_laws.proofs.LigatureFontRows.{as_first, first_number}
use Rattle.opentype_break_laws.proofs.SequencePieces.{sequences_leave}

-- GSUB with one lookup of type 2, of a sequence for a 1
abbrev sequencing : List ℕ → List ℕ
sequencing sequence = (0 ∷ 1 ∷ 0 ∷ 0 ∷ 0 ∷ 0 ∷ 0 ∷ 0 ∷ 0 ∷ 10 ∷ 0 ∷ 1 ∷ 0 ∷ 4 ∷ [])
    ++ ((0 ∷ 2 ∷ 0 ∷ 0 ∷ 0 ∷ 1 ∷ 0 ∷ 8 ∷ []) ++ ((0 ∷ 1 ∷ 0 ∷ 8 ∷ 0 ∷ 1 ∷ 0 ∷ 14 ∷ [])
    ++ ((0 ∷ 1 ∷ 0 ∷ 1 ∷ 0 ∷ 1 ∷ []) ++ sequence)))

-- a 3 and a 4; nothing
abbrev three_four : List ℕ
three_four = 0 ∷ 2 ∷ 0 ∷ 3 ∷ 0 ∷ 4 ∷ []

abbrev empty : List ℕ
empty = 0 ∷ 0 ∷ []

abbrev lookup : StageLookup
lookup = record {
  index = 0;
  mask = 256;
  auto_zwnj = true;
  auto_zwj = true;
  random = false;
  per_syllable = false;
}

-- a glyph by its number, cluster and glyph flags; what was done to it and its ligature
abbrev glyph : ℕ → ℕ → ℕ → Glyph
glyph number c flags = record default_glyph { glyph_id = number; cluster = c; mask = 256 + flags }

abbrev with_props : ℕ → ℕ → Glyph → Glyph
with_props props ligature g = record g { glyph_props = record { 0 = props }; lig_props = record { 0 = ligature } }

-- in a buffer that takes so many glyphs
abbrev text_of : ℕ → Glyphs → Buffer
text_of limit gs = record (new_buffer limit) { glyphs = gs; level = MonotoneCharacters }

abbrev made : List ℕ → ℕ → Glyphs → Glyphs
made sequence limit gs = (substituted_by [] (sequencing sequence) lookup (text_of limit gs)).glyphs

piece_of : (numbered : Numbering) → ((list : List LigProps) → numbered list list ≡ true) → (limit : ℕ) (gs part : Glyphs)
    → IsPiece numbered (text_of limit gs) part (text_of limit part)
piece_of numbered alike limit gs part = record {
  same = record { glyphs = (refl, refl); numbers = alike _ };
  level = refl;
  direction = refl;
  script = refl;
  room = refl;
  positions = refl;
}

-- ---- HOW MANY GLYPHS come of one: of a 1, of a 1 without the lookup's bit, and of a 5; and of all
abbrev three_glyphs : Glyphs
three_glyphs = glyph 1 0 0 ∷ record (glyph 1 0 0) { mask = 512 } ∷ glyph 5 0 0 ∷ []

of_each : map (glyphs_of_one 256 (lookup_in (sequencing three_four) 0)) three_glyphs ≡ 2 ∷ 1 ∷ 1 ∷ []
unfolding bisect first_from
of_each = refl

of_all : glyphs_of_all 256 (lookup_in (sequencing three_four) 0) three_glyphs ≡ 4
unfolding bisect first_from
of_all = refl

of_none : map (glyphs_of_one 256 (lookup_in (sequencing empty) 0)) three_glyphs ≡ 0 ∷ 1 ∷ 1 ∷ []
unfolding bisect first_from
of_none = refl

-- one that goes counts as one
of_all_gone : glyphs_of_all 256 (lookup_in (sequencing empty) 0) three_glyphs ≡ 3
unfolding bisect first_from
of_all_gone = refl

-- which numbers of ligatures are told apart: those below 32 are none
by_presence : map (λ n. both_numbered (record { 0 = n }) (record { 0 = 31 })) (0 ∷ 31 ∷ 32 ∷ 95 ∷ [])
    ≡ true ∷ true ∷ false ∷ false ∷ []
by_presence = refl

both_present : map (λ n. both_numbered (record { 0 = n }) (record { 0 = 64 })) (0 ∷ 31 ∷ 32 ∷ 95 ∷ [])
    ≡ false ∷ false ∷ true ∷ true ∷ []
both_present = refl

at_each_place : map (all_beside both_numbered (record { 0 = 1 } ∷ record { 0 = 33 } ∷ []))
    ((record { 0 = 2 } ∷ record { 0 = 64 } ∷ []) ∷ (record { 0 = 2 } ∷ record { 0 = 3 } ∷ []) ∷ (record { 0 = 2 } ∷ []) ∷ [] ∷ [])
    ≡ true ∷ false ∷ false ∷ false ∷ []
at_each_place = refl

-- ---- WHAT A PIECE SHOWS of the places in its sequences
abbrev parts_of : Glyphs → List ℕ
parts_of gs = map (λ (g : Glyph). g.lig_props.0) gs

viewed_parts : (gs : Glyphs) → parts_of (map unnumbered (order_view (map unlinked gs))) ≡ parts_of (map unlinked gs)
viewed_parts [] = refl
viewed_parts (g ∷ gs) = ap (λ l. (unlinked g).lig_props.0 ∷ l) (viewed_parts gs)

as_parts : (numbered : Numbering) (part gs : Glyphs) → AreAsIn numbered part gs
    → parts_of (map unlinked gs) ≡ parts_of (map unlinked part)
as_parts numbered part gs is = sym (viewed_parts gs)
    ∙ ap parts_of (same_text (order_view (map unlinked gs)) (order_view (map unlinked part)) is.glyphs.0) ∙ viewed_parts part

-- ---- TWO GLYPHS for one, in its cluster, each with its place in the sequence
two : made three_four 9 (glyph 1 0 0 ∷ glyph 5 1 1 ∷ [])
    ≡ with_props 80 0 (glyph 3 0 0) ∷ with_props 80 1 (glyph 4 0 0) ∷ glyph 5 1 1 ∷ []
unfolding substituted applied lookup_applied lookup_stepped is_seen nested tried came_in nth_came sights_of sight_of_input sight_of_context flag_in ignores bisect first_from one_put multiple_put multiplied sequence_glyphs sequence_glyph replaced new_props
two = refl

-- the text meets what the law asks, whatever its clusters and flags
puts_two : PutsSequences (sequencing three_four) lookup
puts_two = record { some = omega arith; types = λ i less. refl; flagless = refl }

abbrev falling : Buffer
falling = text_of 4 (glyph 5 1 1 ∷ glyph 1 0 0 ∷ glyph 5 1 0 ∷ [])

takes_two : TakesSequences falling (sequencing three_four) lookup falling
unfolding bisect first_from
takes_two = record {
  stays = (omega arith, (inl (omega arith), (inl (omega arith), tt)));
  size = refl;
  room = omega arith;
}

row_two : (numbered : Numbering) → ComparesNumbers numbered
    → LookupLeaves numbered falling (substituted_by [] (sequencing three_four)) lookup falling
row_two numbered compares = sequences_leave numbered compares falling [] (sequencing three_four) lookup falling puts_two takes_two

-- ---- NO ROOM for the sequence in the text, and room in a piece, which has fewer glyphs
abbrev full : Glyphs
full = glyph 1 0 0 ∷ glyph 5 1 0 ∷ []

no_room : made three_four 2 full ≡ full
unfolding substituted applied lookup_applied lookup_stepped is_seen nested tried came_in nth_came sights_of sight_of_input sight_of_context flag_in ignores bisect first_from one_put multiple_put multiplied sequence_glyphs sequence_glyph replaced new_props
no_room = refl

room_alone : first_number (made three_four 2 (glyph 1 0 0 ∷ [])) ≡ 3
unfolding substituted applied lookup_applied lookup_stepped is_seen nested tried came_in nth_came sights_of sight_of_input sight_of_context flag_in ignores bisect first_from one_put multiple_put multiplied sequence_glyphs sequence_glyph replaced new_props
room_alone = refl

cut_at_one : (n : ℕ) → 0 < n → n < 2 → n ≡ 1
cut_at_one n some few = omega (arith, some, few)

row_full : (numbered : Numbering) → ((list : List LigProps) → numbered list list ≡ true)
    → LookupLeaves numbered (text_of 2 full) (substituted_by [] (sequencing three_four)) lookup (text_of 2 full) → ⊥
row_full numbered alike leaves =
    let front : Glyphs = glyph 1 0 0 ∷ [] in
    let it = leaves front (glyph 5 1 0 ∷ []) (subst (λ gs. CutWhereClear gs front (glyph 5 1 0 ∷ [])) (sym no_room) (record {
      parts = refl;
      some_in_front = omega arith;
      some_behind = omega arith;
      clear = record { differ = λ e. absurd (omega (arith, e)); unflagged = refl };
    })) in
    let cut = it.pieces in
    let long : length it.before ≡ 1 = cut_at_one (length it.before) cut.some_in_front
    (omega (arith, ap length cut.parts, length-append it.before it.behind, cut.some_behind)) in
    let is : front ≡ it.before = ap (take 1) cut.parts ∙ take_at it.before it.behind 1 long in
    let begins = as_first numbered front (made three_four 2 it.before)
    (it.first (text_of 2 it.before) (piece_of numbered alike 2 full it.before)) in
    absurd (omega (arith, sym room_alone ∙ ap (λ gs. first_number (made three_four 2 gs)) is ∙ begins))

-- ---- WHERE NUMBERS DON'T TELL whether there is one: a glyph that has one keeps it, and the place in the sequence
-- isn't noted
abbrev any_numbers : Numbering
any_numbers xs ys = true

abbrev numbered_one : Glyph
numbered_one = with_props 0 32 (glyph 1 0 0)

kept_numbers : parts_of (map unlinked (made three_four 9 (numbered_one ∷ []))) ≡ 0 ∷ 0 ∷ []
unfolding substituted applied lookup_applied lookup_stepped is_seen nested tried came_in nth_came sights_of sight_of_input sight_of_context flag_in ignores bisect first_from one_put multiple_put multiplied sequence_glyphs sequence_glyph replaced new_props
kept_numbers = refl

two_unflagged : made three_four 9 (glyph 1 0 0 ∷ glyph 5 1 0 ∷ [])
    ≡ with_props 80 0 (glyph 3 0 0) ∷ with_props 80 1 (glyph 4 0 0) ∷ glyph 5 1 0 ∷ []
unfolding substituted applied lookup_applied lookup_stepped is_seen nested tried came_in nth_came sights_of sight_of_input sight_of_context flag_in ignores bisect first_from one_put multiple_put multiplied sequence_glyphs sequence_glyph replaced new_props
two_unflagged = refl

second_of : List ℕ → ℕ
second_of [] = 0
second_of (x ∷ []) = 0
second_of (x ∷ y ∷ xs) = y

row_numbers : LookupLeaves any_numbers (text_of 9 (glyph 1 0 0 ∷ glyph 5 1 0 ∷ [])) (substituted_by [] (sequencing three_four)) lookup
    (text_of 9 (glyph 1 0 0 ∷ glyph 5 1 0 ∷ [])) → ⊥
unfolding second_of
row_numbers leaves =
    let whole : Glyphs = glyph 1 0 0 ∷ glyph 5 1 0 ∷ [] in
    let front : Glyphs = with_props 80 0 (glyph 3 0 0) ∷ with_props 80 1 (glyph 4 0 0) ∷ [] in
    let it = leaves front (glyph 5 1 0 ∷ []) (subst (λ gs. CutWhereClear gs front (glyph 5 1 0 ∷ [])) (sym two_unflagged) (record {
      parts = refl;
      some_in_front = omega arith;
      some_behind = omega arith;
      clear = record { differ = λ e. absurd (omega (arith, e)); unflagged = refl };
    })) in
    let cut = it.pieces in
    let long : length it.before ≡ 1 = cut_at_one (length it.before) cut.some_in_front
    (omega (arith, ap length cut.parts, length-append it.before it.behind, cut.some_behind)) in
    let is : glyph 1 0 0 ∷ [] ≡ it.before = ap (take 1) cut.parts ∙ take_at it.before it.behind 1 long in
    let piece : IsPiece any_numbers (text_of 9 whole) it.before (text_of 9 (numbered_one ∷ [])) =
    subst (λ gs. IsPiece any_numbers (text_of 9 whole) gs (text_of 9 (numbered_one ∷ []))) is (record {
      same = record { glyphs = (refl, refl); numbers = refl };
      level = refl;
      direction = refl;
      script = refl;
      room = refl;
      positions = refl;
    }) in
    let parts = as_parts any_numbers front (made three_four 9 (numbered_one ∷ [])) (it.first (text_of 9 (numbered_one ∷ [])) piece) in
    absurd (omega (arith, ap second_of (sym kept_numbers ∙ parts)))

-- ---- AN EMPTY SEQUENCE: the 1 goes behind a glyph of its cluster
puts_none : PutsSequences (sequencing empty) lookup
puts_none = record { some = omega arith; types = λ i less. refl; flagless = refl }

abbrev follower : Buffer
follower = text_of 9 (glyph 5 0 0 ∷ glyph 1 0 0 ∷ glyph 5 1 0 ∷ [])

goes_behind : GoesBehind (glyph 5 0 0) (glyph 1 0 0)
goes_behind = record { cluster = refl; syllable = refl; flagged = λ e. e }

takes_none : TakesSequences follower (sequencing empty) lookup follower
unfolding bisect first_from
takes_none = record {
  stays = (omega arith, (inr goes_behind, (inl (omega arith), tt)));
  size = refl;
  room = omega arith;
}

row_follower : (numbered : Numbering) → ComparesNumbers numbered
    → LookupLeaves numbered follower (substituted_by [] (sequencing empty)) lookup follower
row_follower numbered compares = sequences_leave numbered compares follower [] (sequencing empty) lookup follower puts_none takes_none

-- ---- WHERE A FLAG GOES with it, so that a place is clear where none was
none_left : (gs : Glyphs) (back : Glyph) → made empty 9 gs ≡ glyph 4 0 0 ∷ back ∷ []
    → CutWhereClear (glyph 4 0 0 ∷ back ∷ []) (glyph 4 0 0 ∷ []) (back ∷ []) → length gs ≡ 3
    → ((n : ℕ) → 0 < n → n < 3 → IsClear gs n → ⊥) → (numbered : Numbering)
    → LookupLeaves numbered (text_of 9 gs) (substituted_by [] (sequencing empty)) lookup (text_of 9 gs) → ⊥
none_left gs back is cut long none numbered leaves =
    let it = leaves (glyph 4 0 0 ∷ []) (back ∷ []) (subst (λ l. CutWhereClear l (glyph 4 0 0 ∷ []) (back ∷ [])) (sym is) cut) in
    let own = it.pieces in
    none (length it.before) own.some_in_front
    (omega (arith, ap length own.parts, long, length-append it.before it.behind, own.some_behind)) own.clear

-- the first of its cluster, flagged alone
abbrev flagged_first : Glyphs
flagged_first = glyph 4 0 0 ∷ glyph 1 1 1 ∷ glyph 2 1 0 ∷ []

gone : made empty 9 flagged_first ≡ glyph 4 0 0 ∷ glyph 2 1 0 ∷ []
unfolding substituted applied lookup_applied lookup_stepped is_seen nested tried came_in nth_came sights_of sight_of_input sight_of_context flag_in ignores bisect first_from one_put multiple_put handed_on
gone = refl

none_clear : (n : ℕ) → 0 < n → n < 3 → IsClear flagged_first n → ⊥
none_clear zero some few clear = absurd (omega (arith, some))
none_clear (suc zero) some few clear = false≢true (sym clear.unflagged)
none_clear (suc (suc zero)) some few clear = clear.differ refl
none_clear (suc (suc (suc n))) some few clear = absurd (omega (arith, few))

row_gone : (numbered : Numbering) → LookupLeaves numbered (text_of 9 flagged_first) (substituted_by [] (sequencing empty)) lookup
    (text_of 9 flagged_first) → ⊥
row_gone = none_left flagged_first (glyph 2 1 0) gone (record {
  parts = refl;
  some_in_front = omega arith;
  some_behind = omega arith;
  clear = record { differ = λ e. absurd (omega (arith, e)); unflagged = refl };
}) refl none_clear

-- the last of its cluster, flagged alone
abbrev flagged_last : Glyphs
flagged_last = glyph 4 0 0 ∷ glyph 2 1 0 ∷ glyph 1 1 1 ∷ []

last_gone : made empty 9 flagged_last ≡ glyph 4 0 0 ∷ glyph 2 1 0 ∷ []
unfolding substituted applied lookup_applied lookup_stepped is_seen nested tried came_in nth_came sights_of sight_of_input sight_of_context flag_in ignores bisect first_from one_put multiple_put handed_on
last_gone = refl

last_unclear : (n : ℕ) → 0 < n → n < 3 → IsClear flagged_last n → ⊥
last_unclear zero some few clear = absurd (omega (arith, some))
last_unclear (suc zero) some few clear = false≢true (sym clear.unflagged)
last_unclear (suc (suc zero)) some few clear = clear.differ refl
last_unclear (suc (suc (suc n))) some few clear = absurd (omega (arith, few))

row_last : (numbered : Numbering) → LookupLeaves numbered (text_of 9 flagged_last) (substituted_by [] (sequencing empty)) lookup
    (text_of 9 flagged_last) → ⊥
row_last = none_left flagged_last (glyph 2 1 0) last_gone (record {
  parts = refl;
  some_in_front = omega arith;
  some_behind = omega arith;
  clear = record { differ = λ e. absurd (omega (arith, e)); unflagged = refl };
}) refl last_unclear

-- ---- WHERE A SYLLABLE GOES between two others: in the text both are of one then, and by other serials they aren't
abbrev of_syllable : ℕ → Glyph → Glyph
of_syllable byte g = record g { syllable = byte }

abbrev three_syllables : ℕ → Glyphs
three_syllables last =
    of_syllable 17 (glyph 4 0 0) ∷ of_syllable 33 (glyph 1 0 0) ∷ of_syllable last (glyph 5 0 0) ∷ []

abbrev two_syllables : ℕ → Glyphs
two_syllables last = of_syllable 17 (glyph 4 0 0) ∷ of_syllable last (glyph 5 0 0) ∷ []

abbrev syllabic : Glyphs
syllabic = three_syllables 17 ++ glyph 6 1 0 ∷ []

syllable_gone : made empty 9 syllabic ≡ two_syllables 17 ++ glyph 6 1 0 ∷ []
unfolding substituted applied lookup_applied lookup_stepped is_seen nested tried came_in nth_came sights_of sight_of_input sight_of_context flag_in ignores bisect first_from one_put multiple_put handed_on
syllable_gone = refl

numbered_otherwise : made empty 9 (three_syllables 49) ≡ two_syllables 49
unfolding substituted applied lookup_applied lookup_stepped is_seen nested tried came_in nth_came sights_of sight_of_input sight_of_context flag_in ignores bisect first_from one_put multiple_put handed_on
numbered_otherwise = refl

clear_at_three : (n : ℕ) → 0 < n → n < 4 → IsClear syllabic n → n ≡ 3
clear_at_three zero some few clear = absurd (omega (arith, some))
clear_at_three (suc zero) some few clear = absurd (clear.differ refl)
clear_at_three (suc (suc zero)) some few clear = absurd (clear.differ refl)
clear_at_three (suc (suc (suc zero))) some few clear = refl
clear_at_three (suc (suc (suc (suc n)))) some few clear = absurd (omega (arith, few))

row_syllables : (numbered : Numbering) → ((list : List LigProps) → numbered list list ≡ true)
    → LookupLeaves numbered (text_of 9 syllabic) (substituted_by [] (sequencing empty)) lookup (text_of 9 syllabic) → ⊥
row_syllables numbered alike leaves =
    let front : Glyphs = two_syllables 17 in
    let back : Glyphs = glyph 6 1 0 ∷ [] in
    let it = leaves front back (subst (λ gs. CutWhereClear gs front back) (sym syllable_gone) (record {
      parts = refl;
      some_in_front = omega arith;
      some_behind = omega arith;
      clear = record { differ = λ e. absurd (omega (arith, e)); unflagged = refl };
    })) in
    let cut = it.pieces in
    let long : length it.before ≡ 3 = clear_at_three (length it.before) cut.some_in_front
    (omega (arith, ap length cut.parts, length-append it.before it.behind, cut.some_behind)) cut.clear in
    let is : three_syllables 17 ≡ it.before = ap (take 3) cut.parts ∙ take_at it.before it.behind 3 long in
    let piece : IsPiece numbered (text_of 9 syllabic) it.before (text_of 9 (three_syllables 49)) =
    subst (λ gs. IsPiece numbered (text_of 9 syllabic) gs (text_of 9 (three_syllables 49))) is (record {
      same = record { glyphs = (refl, refl); numbers = alike _ };
      level = refl;
      direction = refl;
      script = refl;
      room = refl;
      positions = refl;
    }) in
    let alone = subst (AreAsIn numbered front) numbered_otherwise (it.first (text_of 9 (three_syllables 49)) piece) in
    absurd (omega (arith, ap length alone.glyphs.0))
