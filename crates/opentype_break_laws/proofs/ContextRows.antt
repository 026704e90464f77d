-- A font's chained contexts that lengthen a text: no flag tells any more where a rule fitted, and the pieces of the text
-- aren't left side by side.
use Rattle.std.proofs.Common.{ℕ, ◌+◌, ◌≡◌, true, false, List, [], ◌∷◌, ◌++◌, length, drop, length-append, refl, sym, ap, ◌∙◌, subst, arith}
use Rattle.std.proofs.lemmas.List.{drop_at}
use Rattle.shapers_buffer.specs.Buffer.{Buffer, new_buffer}
use Rattle.shapers_buffer.specs.Glyph.{default_glyph}
use Rattle.shapers_buffer.specs.Glyphs.{Glyph, Glyphs}
use Rattle.shapers_buffer.specs.declared.buffer.level.BufferClusterLevel.TheVariants.{MonotoneCharacters}
use Rattle.shapers_buffer.specs.declared.buffer.lig_props.LigProps.{LigProps}
use Rattle.shapers_break_laws.specs.Pieces.{CutWhereClear}
use Rattle.opentype_face.specs.Firsts.{first_from}
use Rattle.opentype_face.specs.Ranges.{bisect}
use Rattle.opentype_layout.specs.Ligatures.{input_in}
use Rattle.opentype_layout.specs.Looking.{is_short}
use Rattle.opentype_layout.specs.Pattern.{places_from, seen_by}
use Rattle.opentype_layout.specs.Rules.{around, chained_in, context_in, end_in, first_at, found_at, kind_in, reach_before, reach_behind, reach_from, rule_in, test_in}
use Rattle.opentype_layout.specs.Sight.{flag_in, ignores, may_pass, next_from, seen_as, sight_of_context, sight_of_input}
use Rattle.opentype_gsub.specs.Along.{lookup_applied, lookup_stepped}
use Rattle.opentype_gsub.specs.Applied.{multiple_put, one_put}
use Rattle.opentype_gsub.specs.Came.{begun, came_in, nth_came}
use Rattle.opentype_gsub.specs.Edits.{multiplied, new_props, replaced, sequence_glyph, sequence_glyphs}
use Rattle.opentype_gsub.specs.Flagged.{unbroken}
use Rattle.opentype_gsub.specs.Looked.{tried}
use Rattle.opentype_gsub.specs.Machine.{climbing, frame_shifted, lookup_called, machine_stepped, nested, places_shifted, ran, turned}
use Rattle.opentype_gsub.specs.Setting.{is_seen, sights_of}
use Rattle.opentype_gsub.specs.Substituted.{applied, substituted}
use Rattle.opentype_font.specs.Lookups.{substituted_by}
use Rattle.shapers_plan.specs.declared.ot_map.lookups.StageLookup.{StageLookup}
use Rattle.shapers_editing.specs.PipelineBreaks.{LookupLeaves, Numbering}
use Rattle.opentype_break_laws.proofs.LigatureFontRows.{as_first, first_number}

-- a lookup of type 6: a 1, and a 2 behind a 3, are given to lookup 1
abbrev contexts : List ℕ
contexts = (0 ∷ 6 ∷ 0 ∷ 0 ∷ 0 ∷ 2 ∷ 0 ∷ 10 ∷ 0 ∷ 32 ∷ [])
    ++ ((0 ∷ 3 ∷ 0 ∷ 0 ∷ 0 ∷ 1 ∷ 0 ∷ 16 ∷ 0 ∷ 0 ∷ 0 ∷ 1 ∷ 0 ∷ 0 ∷ 0 ∷ 1 ∷ 0 ∷ 1 ∷ 0 ∷ 1 ∷ 0 ∷ 1 ∷ [])
    ++ ((0 ∷ 3 ∷ 0 ∷ 1 ∷ 0 ∷ 18 ∷ 0 ∷ 1 ∷ 0 ∷ 24 ∷ 0 ∷ 0 ∷ 0 ∷ 1 ∷ 0 ∷ 0 ∷ 0 ∷ 1 ∷ [])
    ++ (0 ∷ 1 ∷ 0 ∷ 1 ∷ 0 ∷ 3 ∷ 0 ∷ 1 ∷ 0 ∷ 1 ∷ 0 ∷ 2 ∷ [])))

-- a lookup of type 2: a 1 becomes four 3, and a 2 becomes a 5
abbrev sequences : List ℕ
sequences = (0 ∷ 2 ∷ 0 ∷ 0 ∷ 0 ∷ 1 ∷ 0 ∷ 8 ∷ 0 ∷ 1 ∷ 0 ∷ 10 ∷ 0 ∷ 2 ∷ 0 ∷ 18 ∷ 0 ∷ 28 ∷ [])
    ++ ((0 ∷ 1 ∷ 0 ∷ 2 ∷ 0 ∷ 1 ∷ 0 ∷ 2 ∷ []) ++ (0 ∷ 4 ∷ 0 ∷ 3 ∷ 0 ∷ 3 ∷ 0 ∷ 3 ∷ 0 ∷ 3 ∷ 0 ∷ 1 ∷ 0 ∷ 5 ∷ []))

-- GSUB with both
abbrev lengthening : List ℕ
lengthening = (0 ∷ 1 ∷ 0 ∷ 0 ∷ 0 ∷ 0 ∷ 0 ∷ 0 ∷ 0 ∷ 10 ∷ 0 ∷ 2 ∷ 0 ∷ 6 ∷ 0 ∷ 68 ∷ []) ++ (contexts ++ sequences)

abbrev lookup : StageLookup
lookup = record {
  index = 0;
  mask = 256;
  auto_zwnj = true;
  auto_zwj = true;
  random = false;
  per_syllable = false;
}

abbrev glyph : ℕ → ℕ → ℕ → Glyph
glyph number c flags = record default_glyph { glyph_id = number; cluster = c; mask = 256 + flags }

-- the glyphs of the sequence
abbrev part : ℕ → Glyph
part k = record (glyph 3 0 0) { glyph_props = record { 0 = 80 }; lig_props = record { 0 = k } }

abbrev four : Glyphs
four = part 0 ∷ part 1 ∷ part 2 ∷ part 3 ∷ []

abbrev five : Glyphs
five = record (glyph 5 1 0) { glyph_props = record { 0 = 16 } } ∷ []

abbrev text_of : Glyphs → Buffer
text_of gs = record (new_buffer 9) { glyphs = gs; level = MonotoneCharacters }

abbrev made : Glyphs → Glyphs
made gs = (substituted_by [] lengthening lookup (text_of gs)).glyphs

-- Where the 2 becomes a 5, the text is longer by three, and a stretch of two glyphs counts as less than none: no glyph is
-- flagged.
abbrev text : Glyphs
text = glyph 1 0 0 ∷ glyph 2 1 0 ∷ []

lengthened : made text ≡ four ++ five
unfolding substituted applied lookup_applied lookup_stepped is_seen nested tried came_in nth_came begun unbroken is_short sights_of sight_of_input sight_of_context flag_in context_in kind_in first_at found_at around rule_in chained_in test_in reach_behind reach_before reach_from end_in input_in places_from next_from seen_by seen_as ignores may_pass bisect first_from ran machine_stepped turned lookup_called one_put multiple_put multiplied sequence_glyphs sequence_glyph replaced new_props frame_shifted places_shifted climbing
lengthened = refl

-- by itself the 2 stays
alone : first_number (made (glyph 2 1 0 ∷ [])) ≡ 2
unfolding substituted applied lookup_applied lookup_stepped is_seen nested tried came_in nth_came begun unbroken is_short sights_of sight_of_input sight_of_context flag_in context_in kind_in first_at found_at around rule_in chained_in test_in reach_behind reach_before reach_from end_in input_in places_from next_from seen_by seen_as ignores may_pass bisect first_from ran machine_stepped turned lookup_called one_put multiple_put multiplied sequence_glyphs sequence_glyph replaced new_props frame_shifted places_shifted climbing
alone = refl

row_lengthened : (numbered : Numbering) → ((list : List LigProps) → numbered list list ≡ true)
    → LookupLeaves numbered (text_of text) (substituted_by [] lengthening) lookup (text_of text) → ⊥
row_lengthened numbered alike leaves =
    let it = leaves four five (subst (λ gs. CutWhereClear gs four five) (sym lengthened) (record {
      parts = refl;
      some_in_front = omega arith;
      some_behind = omega arith;
      clear = record { differ = λ e. absurd (omega (arith, e)); unflagged = refl };
    })) in
    let cut = it.pieces in
    let long : length it.before ≡ 1 =
    omega (arith, cut.some_in_front, ap length cut.parts, length-append it.before it.behind, cut.some_behind) in
    let is : glyph 2 1 0 ∷ [] ≡ it.behind = ap (drop 1) cut.parts ∙ drop_at it.before it.behind 1 long in
    let begins = as_first numbered five (made it.behind) (it.second (text_of it.behind) (record {
      same = record { glyphs = (refl, refl); numbers = alike _ };
      level = refl;
      direction = refl;
      script = refl;
      room = refl;
      positions = refl;
    })) in
    absurd (omega (arith, sym alone ∙ ap (λ gs. first_number (made gs)) is ∙ begins))
