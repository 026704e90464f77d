-- Worked rows: what begins a text's lookups, what the font of one context makes of it then, and the smallest text that is
-- too long for its law.
use Rattle.std.proofs.Common.{ℕ, ◌+◌, ◌-◌, ◌<◌, ◌≤◌, ◌≡◌, inl, inr, false, true, List, [], ◌∷◌, ◌++◌, length, length-append, replicate, slice_index, take, refl, sym, ap, ◌∙◌, subst, arith}
use Rattle.std.proofs.Math.Nat.{eq-or-lt_of_le}
use Rattle.std.proofs.lemmas.Bool.{false≢true}
use Rattle.std.proofs.lemmas.List.{get_or-replicate, get_or_append_left, take_at}
use Rattle.shapers_buffer.specs.Buffer.{Buffer, new_buffer}
use Rattle.shapers_buffer.specs.Glyph.{clusters, default_glyph}
use Rattle.shapers_buffer.specs.Glyphs.{Glyph, Glyphs}
use Rattle.shapers_buffer.specs.declared.buffer.level.BufferClusterLevel.TheVariants.{MonotoneCharacters}
use Rattle.shapers_buffer.specs.declared.buffer.lig_props.LigProps.{LigProps}
use Rattle.shapers_break_laws.specs.Pieces.{BreaksWhereCleared, CutWhereClear}
use Rattle.shapers_clusters.specs.Breaks.{IsClear}
use Rattle.opentype_face.specs.Firsts.{first_from}
use Rattle.opentype_face.specs.Ranges.{bisect}
use Rattle.opentype_layout.specs.Ligatures.{input_in}
use Rattle.opentype_layout.specs.Looking.{is_short}
use Rattle.opentype_layout.specs.Pattern.{places_from, seen_by}
use Rattle.opentype_layout.specs.Rules.{around, chained_in, context_in, end_in, first_at, found_at, kind_in, reach_before, reach_behind, reach_from, rule_in, test_in}
use Rattle.opentype_layout.specs.Sight.{flag_in, ignores, may_pass, next_from, seen_as, sight_of_context, sight_of_input}
use Rattle.opentype_gsub.specs.Along.{lookup_applied, lookup_stepped}
use Rattle.opentype_gsub.specs.Applied.{one_put, single_put}
use Rattle.opentype_gsub.specs.Came.{begun, came_in, nth_came}
use Rattle.opentype_gsub.specs.Edits.{new_props, replaced}
use Rattle.opentype_gsub.specs.Flagged.{unbroken}
use Rattle.opentype_gsub.specs.Looked.{tried}
use Rattle.opentype_gsub.specs.Machine.{climbing, frame_shifted, lookup_called, machine_stepped, nested, places_shifted, ran, turned}
use Rattle.opentype_gsub.specs.Setting.{is_seen, sights_of}
use Rattle.opentype_gsub.specs.Substituted.{applied, substituted}
use Rattle.shapers_editing.specs.PipelineBreaks.{AreAsIn, IsPiece, Numbering}
use Rattle.opentype_break_laws.specs.OneContext.{glyph_begun, put_in_context, lookups_begun}
use Rattle.opentype_break_laws.proofs.LigatureFontRows.{as_first, first_number}

-- ---- A TEXT BEGINS

-- of its mask a glyph keeps its three flags alone, and nothing of its ligature
full : Glyph
full = record {
  glyph_id = 3;
  mask = 0xFFFFFFFF;
  cluster = 7;
  glyph_props = record { 0 = 5 };
  lig_props = record { 0 = 0xE5 };
  syllable = 9;
  unicode_props = record { 0 = 11 };
  category = 12;
  auxiliary = 13;
}

full_begun : glyph_begun full ≡ record {
  glyph_id = 3;
  mask = 263;
  cluster = 7;
  glyph_props = record { 0 = 5 };
  lig_props = record { 0 = 0 };
  syllable = 9;
  unicode_props = record { 0 = 11 };
  category = 12;
  auxiliary = 13;
}
unfolding full
full_begun = refl

default_begun : glyph_begun default_glyph ≡ record default_glyph { mask = 256 }
default_begun = refl

-- a glyph by its number, cluster and mask
abbrev glyph : ℕ → ℕ → ℕ → Glyph
glyph number c mask = record default_glyph { glyph_id = number; cluster = c; mask = mask }

-- the 5 that comes of a 2
abbrev put : ℕ → Glyph
put c = record (glyph 5 c 256) { glyph_props = record { 0 = 16 } }

abbrev text_of : Glyphs → Buffer
text_of gs = record (new_buffer 300) { glyphs = gs; level = MonotoneCharacters }

-- a text whose lookups have left nothing for those behind them
abbrev spent : Glyphs → Buffer
spent gs =
    let b = text_of gs in
    record b {
      lookups = record { ligature_serial = 7; random_state = 5; operations_left = 0; is_complete = false };
    }

-- its lookups begin anew, and nothing else changes but its glyphs
spent_begun : lookups_begun (spent (glyph 2 0 1 ∷ glyph 3 1 512 ∷ []))
    ≡ (let b = text_of (glyph 2 0 257 ∷ glyph 3 1 256 ∷ []) in
    record b {
      lookups = record { ligature_serial = 0; random_state = 1; operations_left = 65536; is_complete = true };
    })
spent_begun = refl

-- ---- THE FIRST LOOKUP

-- a 2 before a 3 becomes a 5, of whatever features they were, and the 3 is flagged; a 2 before anything else stays
abbrev five_glyphs : Glyphs
five_glyphs = glyph 9 0 1 ∷ glyph 2 1 0 ∷ glyph 3 2 512 ∷ glyph 2 3 256 ∷ glyph 2 4 256 ∷ []

abbrev made : Glyphs
made = (put_in_context (spent five_glyphs)).glyphs

abbrev four_behind : Glyphs
four_behind = put 1 ∷ glyph 3 2 259 ∷ glyph 2 3 256 ∷ glyph 2 4 256 ∷ []

five_made : made ≡ glyph 9 0 257 ∷ four_behind
unfolding substituted applied lookup_applied lookup_stepped is_seen nested tried came_in nth_came begun unbroken is_short sights_of sight_of_input sight_of_context flag_in context_in kind_in first_at found_at around rule_in chained_in test_in reach_behind reach_before reach_from end_in input_in places_from next_from seen_by seen_as ignores may_pass bisect first_from ran machine_stepped turned lookup_called one_put single_put replaced new_props frame_shifted places_shifted climbing
five_made = refl

-- so a piece begins behind the 9, and none between the 5 and the 3
cut_at_five : CutWhereClear (glyph 9 0 257 ∷ four_behind) (glyph 9 0 257 ∷ []) four_behind
cut_at_five = record {
  parts = refl;
  some_in_front = omega arith;
  some_behind = omega arith;
  clear = record { differ = λ e. absurd (omega (arith, e)); unflagged = refl };
}

none_at_three : IsClear (glyph 9 0 257 ∷ four_behind) 2 → ⊥
none_at_three clear = false≢true (sym clear.unflagged)

-- ---- STRETCHES OF 256 GLYPHS aren't flagged: a 2 and a 3, and glyphs between them that need not be drawn

abbrev undrawn : ℕ → Glyph
undrawn mask = record (glyph 8 0 mask) { unicode_props = record { 0 = 32 } }

-- so many of them
abbrev apart_by : ℕ → Glyphs
apart_by n = glyph 2 0 0 ∷ (replicate n (undrawn 0) ++ (glyph 3 1 0 ∷ []))

abbrev made_of : Glyphs → Glyphs
made_of gs = (put_in_context (text_of gs)).glyphs

abbrev five_before : ℕ → Glyphs
five_before n = put 0 ∷ replicate n (undrawn 256)

-- of 255 glyphs the 3 is flagged, and of 256 it isn't
near_put : made_of (apart_by 253) ≡ five_before 253 ++ (glyph 3 1 259 ∷ [])
unfolding substituted applied lookup_applied lookup_stepped is_seen nested tried came_in nth_came begun unbroken is_short sights_of sight_of_input sight_of_context flag_in context_in kind_in first_at found_at around rule_in chained_in test_in reach_behind reach_before reach_from end_in input_in places_from next_from seen_by seen_as ignores may_pass bisect first_from ran machine_stepped turned lookup_called one_put single_put replaced new_props frame_shifted places_shifted climbing
near_put = refl

far_put : made_of (apart_by 254) ≡ five_before 254 ++ (glyph 3 1 256 ∷ [])
unfolding substituted applied lookup_applied lookup_stepped is_seen nested tried came_in nth_came begun unbroken is_short sights_of sight_of_input sight_of_context flag_in context_in kind_in first_at found_at around rule_in chained_in test_in reach_behind reach_before reach_from end_in input_in places_from next_from seen_by seen_as ignores may_pass bisect first_from ran machine_stepped turned lookup_called one_put single_put replaced new_props frame_shifted places_shifted climbing
far_put = refl

-- all before the 3 by itself, where the 2 stays
without_three : first_number (made_of (take 255 (apart_by 254))) ≡ 2
unfolding substituted applied lookup_applied lookup_stepped is_seen nested tried came_in nth_came begun unbroken is_short sights_of sight_of_input sight_of_context flag_in context_in kind_in first_at found_at around rule_in chained_in test_in reach_behind reach_before reach_from end_in input_in places_from next_from seen_by seen_as ignores may_pass bisect first_from ran machine_stepped turned lookup_called one_put single_put replaced new_props frame_shifted places_shifted climbing
without_three = refl

-- the text has two clusters, which meet before the 3
differ_at_last : (p : ℕ) → p ≤ 255 → 0 < p → IsClear (apart_by 254) p → p ≡ 255
differ_at_last p most some clear =
    let zeros : List ℕ = replicate 255 0 in
    let is : clusters (apart_by 254) ≡ zeros ++ (1 ∷ []) = refl in
    let first : (i : ℕ) → i < 255 → slice_index (clusters (apart_by 254)) i ≡ 0 = λ i less.
    ap (λ cs. slice_index cs i) is ∙ get_or_append_left zeros (1 ∷ []) 0 i less ∙ get_or-replicate 255 i 0 0 less in
    elim (eq-or-lt_of_le most) [
      | inl last ↦ last
      | inr less ↦ absurd (clear.differ (first (p - 1) (omega (arith, some, less)) ∙ sym (first p less)))
    ]

-- so what holds of each text of at most 255 glyphs doesn't hold of that one
row_far : (numbered : Numbering) → ((list : List LigProps) → numbered list list ≡ true)
    → BreaksWhereCleared Glyphs CutWhereClear (λ piece part. (one : Buffer)
    → IsPiece numbered (text_of (apart_by 254)) piece one → AreAsIn numbered part (put_in_context one).glyphs)
    (apart_by 254) (made_of (apart_by 254)) → ⊥
row_far numbered alike leaves =
    let last : Glyphs = glyph 3 1 256 ∷ [] in
    let it = leaves (five_before 254) last (subst (λ gs. CutWhereClear gs (five_before 254) last) (sym far_put) (record {
      parts = refl;
      some_in_front = omega arith;
      some_behind = omega arith;
      clear = record { differ = λ e. absurd (omega (arith, e)); unflagged = refl };
    })) in
    let cut = it.pieces in
    let sizes : 256 ≡ length it.before + length it.behind = ap length cut.parts
    ∙ length-append it.before it.behind in
    let place = differ_at_last (length it.before) (omega (arith, sizes, cut.some_behind)) cut.some_in_front cut.clear in
    let is : take 255 (apart_by 254) ≡ it.before = ap (take 255) cut.parts ∙ take_at it.before it.behind 255 place in
    let begins = as_first numbered (five_before 254) (made_of it.before) (it.first (text_of it.before) (record {
      same = record { glyphs = (refl, refl); numbers = alike _ };
      level = refl;
      direction = refl;
      script = refl;
      room = refl;
      positions = refl;
    })) in
    absurd (omega (arith, sym without_three ∙ ap (λ gs. first_number (made_of gs)) is ∙ begins))
