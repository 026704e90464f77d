-- A font of one context at small texts: the law of contexts speaks of it, and where its premises don't hold the pieces of
-- a text aren't left side by side.
use Rattle.std.proofs.Common.{ℕ, ◌<◌, ◌≡◌, ◌⊎◌, inl, inr, true, [], ◌∷◌, ◌++◌, List, length, length-append, drop, refl, sym, ap, ◌∙◌, subst, arith}
use Rattle.std.specs.List.{AllByRecursion}
use Rattle.shapers_buffer.specs.Buffer.{Buffer, new_buffer}
use Rattle.shapers_buffer.specs.Glyph.{default_glyph}
use Rattle.shapers_buffer.specs.Glyphs.{Glyph, Glyphs}
use Rattle.shapers_buffer.specs.declared.buffer.level.BufferClusterLevel.TheVariants.{MonotoneCharacters}
use Rattle.shapers_buffer.specs.declared.buffer.lig_props.LigProps.{LigProps}
use Rattle.shapers_break_laws.specs.Pieces.{BreaksWhereCleared, CutWhereClear}
use Rattle.opentype_face.specs.Firsts.{first_from}
use Rattle.opentype_face.specs.Ranges.{bisect}
use Rattle.opentype_layout.specs.Ligatures.{input_in}
use Rattle.opentype_layout.specs.Looking.{is_short}
use Rattle.opentype_layout.specs.Pattern.{places_from, seen_by}
use Rattle.opentype_layout.specs.Rules.{around, chained_in, context_in, end_in, first_at, found_at, kind_in, reach_before, reach_behind, reach_from, rule_in, test_in}
use Rattle.opentype_layout.specs.Sight.{flag_in, ignores, may_pass, next_from, seen_as, sight_of_context, sight_of_input}
use Rattle.opentype_gsub.specs.Along.{lookup_applied, lookup_stepped}
use Rattle.opentype_gsub.specs.Applied.{one_put, single_put}
use Rattle.opentype_gsub.specs.Came.{begun, came_in, nth_came}
use Rattle.opentype_gsub.specs.Edits.{new_props, replaced}
use Rattle.opentype_gsub.specs.Flagged.{unbroken}
use Rattle.opentype_gsub.specs.Looked.{tried}
use Rattle.opentype_gsub.specs.Machine.{climbing, frame_shifted, lookup_called, machine_stepped, nested, places_shifted, ran, turned}
use Rattle.opentype_gsub.specs.Setting.{is_seen, sights_of}
use Rattle.opentype_gsub.specs.Substituted.{applied, substituted}
use Rattle.opentype_font.specs.Lookups.{substituted_by, use_for}
use Rattle.shapers_editing.specs.PipelineBreaks.{AreAsIn, IsPiece, LookupLeaves, Numbering, SameButNumbers, ligatures}
use Rattle.opentype_break_laws.specs.Contexts.{HasFeature, HasOperations, TakesContexts}
use Rattle.opentype_break_laws.specs.OneContext.{one_context}
use Rattle.opentype_break_laws.specs.OrderedTexts.{HasNoComponents}
use Rattle.opentype_break_laws.specs.TwoSingles.{first_lookup}
use Rattle.opentype_break_laws.proofs.ContextPieces.{short_texts}
use Rattle.opentype_break_laws.proofs.LigatureFontRows.{as_first, first_number}
use Rattle.opentype_break_laws.proofs.OneContext.{beside_long, puts_in_context}

-- a glyph by its number, cluster and mask
abbrev glyph : ℕ → ℕ → ℕ → Glyph
glyph number c mask = record default_glyph { glyph_id = number; cluster = c; mask = mask }

-- the 5 that comes of the 2
abbrev put : ℕ → Glyph
put c = record (glyph 5 c 256) { glyph_props = record { 0 = 16 } }

abbrev text_of : Glyphs → Buffer
text_of gs = record (new_buffer 9) { glyphs = gs; level = MonotoneCharacters }

abbrev made : Glyphs → Glyphs
made gs = (substituted_by [] one_context first_lookup (text_of gs)).glyphs

-- ---- THE LAW speaks of this font, with two operations for a rule, and of a text of 2 and 3

takes : TakesContexts 2 [] one_context (use_for first_lookup) (text_of (glyph 2 0 256 ∷ glyph 3 1 256 ∷ []))
takes =
    let none : HasNoComponents (glyph 2 0 256 ∷ glyph 3 1 256 ∷ []) = (refl, (refl, tt)) in
    let features : AllByRecursion HasFeature (glyph 2 0 256 ∷ glyph 3 1 256 ∷ []) = (omega arith, (omega arith, tt)) in
    record {
      components = none;
      features = features;
      flagging = short_texts [] one_context first_lookup (text_of (glyph 2 0 256 ∷ glyph 3 1 256 ∷ [])) 2 puts_in_context
          none features (omega arith) (omega arith);
      size = omega arith;
      operations = omega arith;
    }

-- the 2 becomes a 5, and the 3 that it looked at is flagged; where no 3 follows, it stays
fitted : made (glyph 2 0 256 ∷ glyph 3 1 256 ∷ []) ≡ put 0 ∷ glyph 3 1 259 ∷ []
unfolding substituted applied lookup_applied lookup_stepped is_seen nested tried came_in nth_came begun unbroken is_short sights_of sight_of_input sight_of_context flag_in context_in kind_in first_at found_at around rule_in chained_in test_in reach_behind reach_before reach_from end_in input_in places_from next_from seen_by seen_as ignores may_pass bisect first_from ran machine_stepped turned lookup_called one_put single_put replaced new_props frame_shifted places_shifted climbing
fitted = refl

alone : made (glyph 2 0 256 ∷ []) ≡ glyph 2 0 256 ∷ []
unfolding substituted applied lookup_applied lookup_stepped is_seen nested tried came_in nth_came begun unbroken is_short sights_of sight_of_input sight_of_context flag_in context_in kind_in first_at found_at around rule_in chained_in test_in reach_behind reach_before reach_from end_in input_in places_from next_from seen_by seen_as ignores may_pass bisect first_from ran machine_stepped turned lookup_called one_put single_put replaced new_props frame_shifted places_shifted climbing
alone = refl

-- ---- A TEXT OF THREE GLYPHS, cut behind its first one

-- its second piece has two glyphs, or the last one alone
second_piece : (before behind : Glyphs) (x y z : Glyph) → x ∷ y ∷ z ∷ [] ≡ before ++ behind → 0 < length before
    → 0 < length behind
    → (behind ≡ y ∷ z ∷ []) ⊎ (behind ≡ z ∷ [])
second_piece [] behind x y z e some more = absurd (omega (arith, some))
second_piece (a ∷ []) behind x y z e some more = inl (sym (ap (drop 1) e))
second_piece (a ∷ b ∷ []) behind x y z e some more = inr (sym (ap (drop 2) e))
second_piece (a ∷ b ∷ c ∷ ds) behind x y z e some more = absurd (omega (
  arith,
  more,
  ap length e,
  length-append ds behind,
))

-- a buffer of glyphs, as a piece of a text that is the same to those who read no flags
as_piece : (numbered : Numbering) → ((list : List LigProps) → numbered list list ≡ true) → (text gs part : Glyphs)
    → SameButNumbers gs part → ligatures gs ≡ ligatures part → IsPiece numbered (text_of text) part (text_of gs)
as_piece numbered alike text gs part same links = record {
  same = record { glyphs = same; numbers = subst (λ l. numbered (ligatures gs) l ≡ true) links (alike (ligatures gs)) };
  level = refl;
  direction = refl;
  script = refl;
  room = refl;
  positions = refl;
}

-- what the law says of a text
abbrev Leaves : Numbering → Glyphs → Type 0
Leaves numbered gs = BreaksWhereCleared Glyphs CutWhereClear (λ piece part. (one : Buffer)
    → IsPiece numbered (text_of gs) piece one
    → HasOperations 2 one → AreAsIn numbered part (substituted_by [] one_context first_lookup one).glyphs) gs (made gs)

-- ---- WITHOUT FEATURES: a 3 that is of none, but flagged, is seen in the text; in a piece without the flag it isn't

abbrev unfeatured : Glyphs
unfeatured = glyph 9 0 256 ∷ glyph 2 1 256 ∷ glyph 3 2 2 ∷ []

abbrev front : Glyphs
front = glyph 9 0 256 ∷ []

unfeatured_made : made unfeatured ≡ front ++ (put 1 ∷ glyph 3 2 3 ∷ [])
unfolding substituted applied lookup_applied lookup_stepped is_seen nested tried came_in nth_came begun unbroken is_short sights_of sight_of_input sight_of_context flag_in context_in kind_in first_at found_at around rule_in chained_in test_in reach_behind reach_before reach_from end_in input_in places_from next_from seen_by seen_as ignores may_pass bisect first_from ran machine_stepped turned lookup_called one_put single_put replaced new_props frame_shifted places_shifted climbing
unfeatured_made = refl

unfeatured_piece : first_number (made (glyph 2 1 256 ∷ glyph 3 2 0 ∷ [])) ≡ 2
unfolding substituted applied lookup_applied lookup_stepped is_seen nested tried came_in nth_came begun unbroken is_short sights_of sight_of_input sight_of_context flag_in context_in kind_in first_at found_at around rule_in chained_in test_in reach_behind reach_before reach_from end_in input_in places_from next_from seen_by seen_as ignores may_pass bisect first_from ran machine_stepped turned lookup_called one_put single_put replaced new_props frame_shifted places_shifted climbing
unfeatured_piece = refl

last_made : length (made (glyph 3 2 2 ∷ [])) ≡ 1
unfolding substituted applied lookup_applied lookup_stepped is_seen nested tried came_in nth_came begun unbroken is_short sights_of sight_of_input sight_of_context flag_in context_in kind_in first_at found_at around rule_in chained_in test_in reach_behind reach_before reach_from end_in input_in places_from next_from seen_by seen_as ignores may_pass bisect first_from ran machine_stepped turned lookup_called one_put single_put replaced new_props frame_shifted places_shifted climbing
last_made = refl

row_features : (numbered : Numbering) → ((list : List LigProps) → numbered list list ≡ true)
    → Leaves numbered unfeatured → ⊥
row_features numbered alike leaves =
    let back : Glyphs = put 1 ∷ glyph 3 2 3 ∷ [] in
    let it = leaves front back (subst (λ gs. CutWhereClear gs front back) (sym unfeatured_made) (record {
      parts = refl;
      some_in_front = omega arith;
      some_behind = omega arith;
      clear = record { differ = λ e. absurd (omega (arith, e)); unflagged = refl };
    })) in
    let cut = it.pieces in
    elim (second_piece it.before it.behind (glyph 9 0 256) (glyph 2 1 256) (glyph 3 2 2) cut.parts cut.some_in_front
    cut.some_behind) [
      | inl two ↦ (let gs : Glyphs = glyph 2 1 256 ∷ glyph 3 2 0 ∷ [] in
          let piece : IsPiece numbered (text_of unfeatured) it.behind (text_of gs) = subst (λ part. IsPiece numbered
          (text_of unfeatured) part (text_of gs)) (sym two)
          (as_piece numbered alike unfeatured gs (glyph 2 1 256 ∷ glyph 3 2 2 ∷ []) (refl, refl) refl) in
          absurd (omega (
            arith,
            sym unfeatured_piece ∙ as_first numbered back (made gs) (it.second (text_of gs) piece
                (omega arith)),
          )))
      | inr one ↦ (let gs : Glyphs = glyph 3 2 2 ∷ [] in
          let piece : IsPiece numbered (text_of unfeatured) it.behind (text_of gs) = subst (λ part. IsPiece numbered
          (text_of unfeatured) part (text_of gs)) (sym one)
          (as_piece numbered alike unfeatured gs gs (refl, refl) refl) in
          absurd (omega (
            arith,
            sym last_made ∙ beside_long numbered back (made gs) (it.second (text_of gs) piece
                (omega arith)),
          )))
    ]

-- ---- WITHOUT OPERATIONS in a piece its rule applies no lookup

abbrev unpaid : Glyphs
unpaid = glyph 9 0 256 ∷ glyph 2 1 256 ∷ glyph 3 2 256 ∷ []

-- a buffer with no operations
abbrev spent : Glyphs → Buffer
spent gs =
    let b = text_of gs in
    record b { lookups = record b.lookups { operations_left = 0 } }

abbrev spent_made : Glyphs → Glyphs
spent_made gs = (substituted_by [] one_context first_lookup (spent gs)).glyphs

unpaid_made : made unpaid ≡ front ++ (put 1 ∷ glyph 3 2 259 ∷ [])
unfolding substituted applied lookup_applied lookup_stepped is_seen nested tried came_in nth_came begun unbroken is_short sights_of sight_of_input sight_of_context flag_in context_in kind_in first_at found_at around rule_in chained_in test_in reach_behind reach_before reach_from end_in input_in places_from next_from seen_by seen_as ignores may_pass bisect first_from ran machine_stepped turned lookup_called one_put single_put replaced new_props frame_shifted places_shifted climbing
unpaid_made = refl

unpaid_piece : first_number (spent_made (glyph 2 1 256 ∷ glyph 3 2 256 ∷ [])) ≡ 2
unfolding substituted applied lookup_applied lookup_stepped is_seen nested tried came_in nth_came begun unbroken is_short sights_of sight_of_input sight_of_context flag_in context_in kind_in first_at found_at around rule_in chained_in test_in reach_behind reach_before reach_from end_in input_in places_from next_from seen_by seen_as ignores may_pass bisect first_from ran machine_stepped turned lookup_called one_put single_put replaced new_props frame_shifted places_shifted climbing
unpaid_piece = refl

unpaid_last : length (spent_made (glyph 3 2 256 ∷ [])) ≡ 1
unfolding substituted applied lookup_applied lookup_stepped is_seen nested tried came_in nth_came begun unbroken is_short sights_of sight_of_input sight_of_context flag_in context_in kind_in first_at found_at around rule_in chained_in test_in reach_behind reach_before reach_from end_in input_in places_from next_from seen_by seen_as ignores may_pass bisect first_from ran machine_stepped turned lookup_called one_put single_put replaced new_props frame_shifted places_shifted climbing
unpaid_last = refl

row_operations : (numbered : Numbering) → ((list : List LigProps) → numbered list list ≡ true)
    → LookupLeaves numbered (text_of unpaid) (substituted_by [] one_context) first_lookup (text_of unpaid) → ⊥
row_operations numbered alike leaves =
    let back : Glyphs = put 1 ∷ glyph 3 2 259 ∷ [] in
    let it = leaves front back (subst (λ gs. CutWhereClear gs front back) (sym unpaid_made) (record {
      parts = refl;
      some_in_front = omega arith;
      some_behind = omega arith;
      clear = record { differ = λ e. absurd (omega (arith, e)); unflagged = refl };
    })) in
    let cut = it.pieces in
    let as_spent : (gs : Glyphs) → IsPiece numbered (text_of unpaid) gs (spent gs) = λ gs. record {
      same = record { glyphs = (refl, refl); numbers = alike _ };
      level = refl;
      direction = refl;
      script = refl;
      room = refl;
      positions = refl;
    } in
    elim (second_piece it.before it.behind (glyph 9 0 256) (glyph 2 1 256) (glyph 3 2 256) cut.parts cut.some_in_front
    cut.some_behind) [
      | inl two ↦ (let gs : Glyphs = glyph 2 1 256 ∷ glyph 3 2 256 ∷ [] in
          let same = it.second (spent gs) (subst (λ part. IsPiece numbered (text_of unpaid) part (spent gs)) (sym two)
          (as_spent gs)) in
          absurd (omega (arith, sym unpaid_piece ∙ as_first numbered back (spent_made gs) same)))
      | inr one ↦ (let gs : Glyphs = glyph 3 2 256 ∷ [] in
          let same = it.second (spent gs) (subst (λ part. IsPiece numbered (text_of unpaid) part (spent gs)) (sym one)
          (as_spent gs)) in
          absurd (omega (arith, sym unpaid_last ∙ beside_long numbered back (spent_made gs) same)))
    ]
