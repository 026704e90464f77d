-- Stages of lookups and their pauses leave the results of pieces side by side, and so does all from a text's masks on.
use Rattle.std.proofs.Common.{ℕ, ◌<◌, ◌≡◌, if◌then◌else◌, Bool, true, false, List, [], ◌∷◌, length, take, drop, map, length-append, refl, sym, ap, ◌∙◌, subst, arith, inl, inr}
use Rattle.std.specs.Prelude.{Option, None, Some}
use Rattle.std.proofs.lemmas.Bool.{false≢true}
use Rattle.std.proofs.lemmas.List.{drop_at, length-map, map-id, take_at}
use Rattle.std.proofs.lemmas.Simd.{map-map}
use Rattle.shapers_arabic.specs.Breaks.{back_at, front_at}
use Rattle.shapers_base.specs.Font.{CharacterTables, Font}
use Rattle.shapers_base.specs.declared.plan.hb_ot_shape_plan_t.{hb_ot_shape_plan_t}
use Rattle.shapers_base.specs.declared.plan.pause.Pause.{Pause}
use Rattle.shapers_base.specs.declared.plan.pause.Pause.TheVariants.{SetupSyllablesIndic, SetupSyllablesKhmer, SetupSyllablesMyanmar, InitialReordering, ReorderKhmer, ReorderMyanmar, RecordStch, SyllabicClearVar, ClearSubstitutionFlags, ArabicFallbackShape}
use Rattle.shapers_buffer.specs.Buffer.{Buffer}
use Rattle.shapers_buffer.specs.Glyph.{plain}
use Rattle.shapers_buffer.specs.Properties.{no_ligature}
use Rattle.shapers_buffer.specs.Glyphs.{Glyph, Glyphs}
use Rattle.shapers_buffer.specs.declared.buffer.glyph.GlyphPosition.{GlyphPosition}
use Rattle.shapers_buffer.specs.declared.buffer.glyph_props.GlyphProps.{GlyphProps}
use Rattle.shapers_buffer.specs.declared.buffer.level.BufferClusterLevel.{BufferClusterLevel}
use Rattle.shapers_buffer.specs.declared.buffer.level.Direction.{Direction}
use Rattle.shapers_buffer.specs.declared.buffer.lig_props.LigProps.{LigProps}
use Rattle.shapers_buffer.specs.declared.buffer.syllables.Span.{Span}
use Rattle.shapers_buffer.specs.declared.buffer.tag.Script.{Script}
use Rattle.shapers_clusters.specs.Breaks.{IsClear}
use Rattle.shapers_clusters.proofs.FlagLaw.{added_same}
use Rattle.shapers_stretch.specs.Recorded.{has_stch, with_tiles}
use Rattle.shapers_syllabic.specs.Borders.{unnumbered}
use Rattle.shapers_universal.specs.PlanData.{arabic_of}
use Rattle.shapers_syllabic.specs.Syllabic.{unsafe_spans}
use Rattle.rustybuzz_shapers.specs.FoundSyllables.{PauseRun}
use Rattle.rustybuzz_shapers.specs.Hooks.{MasksOffFlags, MasksSet}
use Rattle.rustybuzz_shapers.specs.Pauses.{Paused, Reordered, Reordering, by_initial, by_khmer, by_myanmar}
use Rattle.rustybuzz_shapers.specs.declared.shaper.hb_ot_shaper_t.{hb_ot_shaper_t}
use Rattle.rustybuzz_shapers.specs.declared.shaper.hb_ot_shaper_t.TheVariants.{Arabic, Hangul, Hebrew, Indic, Khmer, Myanmar, MyanmarZawgyi, Thai, Universal}
use Rattle.shapers_break_laws.specs.Pieces.{CutBuffer, CutWhereClear, MadeOfPieces, MakesOf, SameButFlags, SpannedText}
use Rattle.shapers_break_laws.specs.ShaperBreaks.{IsApart, IsInOrder, MasksLeavePieces, PausesLeavePieces, ShapersBreakLaw, SyllabicBreaks, SyllabicPiece, glyph_paused, is_by_glyph, masked_by_glyph, masks_by_glyph}
use Rattle.shapers_break_laws.proofs.HookPieces.{joining_adds, joined_by, joined_in_two, within_parts}
use Rattle.shapers_break_laws.proofs.KeptFlags.{added_clear}
use Rattle.shapers_break_laws.proofs.PausePieces.{glyph_changes}
use Rattle.shapers_break_laws.proofs.Pieces.{ReadsOrder, flags-twice, kind-twice, leaves_by_glyph, own_text, reads_order}
use Rattle.shapers_plan.specs.declared.ot_map.lookups.Stage.{Stage}
use Rattle.shapers_plan.specs.declared.ot_map.lookups.StageLookup.{StageLookup}
use Rattle.shapers_pipeline.specs.ClusterLaws.{IfPaused, LookupsKeep}
use Rattle.shapers_pipeline.specs.Lookups.{looked_up, lookups_of_stage, with_note}
use Rattle.shapers_pipeline.specs.Masks.{as_glyph, with_features}
use Rattle.shapers_pipeline.specs.Prepared.{Preparation, text_in_fractions}
use Rattle.shapers_pipeline.specs.ShaperSteps.{masks_set_by, masks_set_for, universal_masks_set}
use Rattle.shapers_pipeline.specs.Stages.{PauseRunIf, StageRun, StagesRun, Substitution, stage_looked_up}
use Rattle.shapers_pipeline.proofs.Pausing.{pause_positions}
use Rattle.shapers_editing.specs.PipelineBreaks.{AreAsIn, CutBufferWhereClear, EachLeaves, IsPiece, LeavesAllPieces, LookupLeaves, MakesPiece, MasksInPieces, MasksSetInPieces, NotesReadOrder, Numbering, PauseLeaves, PipelineBreaks, ShaperStagesBreak, ShapingBreaks, StagedPiece, StagesLeavePieces, StepLeavesPieces, SyllabicStagesBreak, glyphs_looked_up, glyphs_made}
use Rattle.shapers_editing.proofs.PiecesAlike.{as_in, as_long, cut_each, each_made, pauses_keep}

-- STEPS one behind the other
abbrev Consecutive : (S T : Buffer → Buffer → Type 0) → Buffer → Buffer → Type 0
Consecutive S T old new = (mid : Buffer) × (S old mid × T mid new)

in_turn : (numbered : Numbering) (text : Buffer) (S T U : Buffer → Buffer → Type 0)
    → ((old new : Buffer) → U old new → Consecutive S T old new)
    → (a b c : Buffer) → StepLeavesPieces numbered text S a b → StepLeavesPieces numbered text T b c
    → StepLeavesPieces numbered text U a c
in_turn numbered text S T U apart a b c one two front back cut =
    let made = two front back cut in
    let own = one made.before made.behind made.pieces in
    record {
      before = own.before;
      behind = own.behind;
      pieces = own.pieces;
      first = λ old new is run.
          let (mid, both) = apart old new run in
          made.first mid new (own.first old mid is both.0) both.1;
      second = λ old new is run.
          let (mid, both) = apart old new run in
          made.second mid new (own.second old mid is both.0) both.1;
    }

-- what changes nothing
unchanged : (numbered : Numbering) (text : Buffer) (U : Buffer → Buffer → Type 0)
    → ((old new : Buffer) → U old new → new ≡ old) → (a b : Buffer) → U a b → StepLeavesPieces numbered text U a b
unchanged numbered text U is a b run front back cut =
    let same : b.glyphs ≡ a.glyphs = ap (λ (b : Buffer). b.glyphs) (is a b run) in
    record {
      before = front;
      behind = back;
      pieces = subst (λ gs. CutWhereClear gs front back) same cut;
      first = λ old new piece u. subst (IsPiece numbered text front) (sym (is old new u)) piece;
      second = λ old new piece u. subst (IsPiece numbered text back) (sym (is old new u)) piece;
    }

-- SETTINGS of a buffer, which steps leave as they are
abbrev Settings : Type 0
Settings = BufferClusterLevel × (Direction × (Option Script × (ℕ × List GlyphPosition)))

settings : Buffer → Settings
settings b = (b.level, (b.direction, (b.script, (b.max_len, b.positions))))

still_piece : (numbered : Numbering) (text : Buffer) (part made : Glyphs) (old new : Buffer)
    → settings new ≡ settings old → IsPiece numbered text part old → AreAsIn numbered made new.glyphs
    → IsPiece numbered text made new
unfolding settings
still_piece numbered text part made old new same piece is = record {
  same = is;
  level = ap (λ (s : Settings). s.0) same ∙ piece.level;
  direction = ap (λ (s : Settings). s.1.0) same ∙ piece.direction;
  script = ap (λ (s : Settings). s.1.1.0) same ∙ piece.script;
  room = ap (λ (s : Settings). s.1.1.1.0) same ∙ piece.room;
  positions = ap (λ (s : Settings). s.1.1.1.1) same ∙ piece.positions;
}

-- LOOKUPS of a stage
looked_settings : (f : StageLookup → Buffer → Buffer) → LookupsKeep f → (x : StageLookup) (b : Buffer)
    → b.positions ≡ [] → settings (f x b) ≡ settings b
unfolding settings
looked_settings f keeps x b none = ap settings ((keeps x b none).others)

no_positions : (f : StageLookup → Buffer → Buffer) → LookupsKeep f → (list : List StageLookup) (b : Buffer)
    → b.positions ≡ [] → (looked_up f list b).positions ≡ []
no_positions f keeps [] b none = none
no_positions f keeps (x ∷ xs) b none =
    no_positions f keeps xs (f x b) (ap (λ (c : Buffer). c.positions) ((keeps x b none).others) ∙ none)

looked_level : (f : StageLookup → Buffer → Buffer) → LookupsKeep f → (list : List StageLookup) (b : Buffer)
    → b.positions ≡ [] → (looked_up f list b).level ≡ b.level
looked_level f keeps [] b none = refl
looked_level f keeps (x ∷ xs) b none =
    let kept = (keeps x b none).others in
    looked_level f keeps xs (f x b) (ap (λ (c : Buffer). c.positions) kept ∙ none) ∙ ap (λ (c : Buffer). c.level) kept

abbrev IsLooked : (StageLookup → Buffer → Buffer) → List StageLookup → Buffer → Buffer → Type 0
IsLooked f list old new = new ≡ looked_up f list old

looked_once : (numbered : Numbering) (text : Buffer) (f : StageLookup → Buffer → Buffer) → LookupsKeep f
    → (x : StageLookup) (b : Buffer) → LookupLeaves numbered text f x b
    → StepLeavesPieces numbered text (λ old new. new ≡ f x old) b (f x b)
looked_once numbered text f keeps x b leaves front back cut =
    let made = leaves front back cut in
    let piece : (part gs : Glyphs) → ((one : Buffer) → IsPiece numbered text part one
    → AreAsIn numbered gs (f x one).glyphs) → MakesPiece numbered text (λ old new. new ≡ f x old) part gs =
    λ part gs makes old new is done. subst (IsPiece numbered text gs) (sym done)
    (still_piece numbered text part gs old (f x old) (looked_settings f keeps x old is.positions) is (makes old is)) in
    record {
      before = made.before;
      behind = made.behind;
      pieces = made.pieces;
      first = piece made.before front made.first;
      second = piece made.behind back made.second;
    }

looked : (numbered : Numbering) (text : Buffer) (f : StageLookup → Buffer → Buffer) → LookupsKeep f
    → (list : List StageLookup) (b : Buffer) → EachLeaves numbered text f list b
    → StepLeavesPieces numbered text (IsLooked f list) b (looked_up f list b)
looked numbered text f keeps [] b leaves = unchanged numbered text (IsLooked f []) (λ old new is. is) b b refl
looked numbered text f keeps (x ∷ xs) b leaves =
    in_turn numbered text (λ old new. new ≡ f x old) (IsLooked f xs) (IsLooked f (x ∷ xs)) (λ old new is.
    (f x old, (refl, is))) b (f x b) (looked_up f (x ∷ xs) b) (looked_once numbered text f keeps x b leaves.0)
    (looked numbered text f keeps xs (f x b) leaves.1)

-- PAUSES
stretched_settings : (test : Bool) (b : Buffer) → settings (if test then with_tiles b else b) ≡ settings b
unfolding settings
stretched_settings true b = refl
stretched_settings false b = refl

paused_settings : (pause : Pause) (plan : hb_ot_shape_plan_t) (font : Font) (spans : List Span) (old new : Buffer)
    → is_by_glyph pause ≡ true → Paused pause plan font spans old new → settings new ≡ settings old
unfolding settings
paused_settings RecordStch plan font spans old new by done =
    ap settings done ∙ stretched_settings (has_stch plan.plan_data) old
paused_settings SyllabicClearVar plan font spans old new by done = ap settings done
paused_settings ClearSubstitutionFlags plan font spans old new by done = ap settings done
paused_settings ArabicFallbackShape plan font spans old new by done = ap settings done
paused_settings _ plan font spans old new by done = absurd cc

by_glyph : PausesLeavePieces → (numbered : Numbering) (text : Buffer) (pause : Pause) (plan : hb_ot_shape_plan_t)
    (font : Font) (old new : Buffer) → is_by_glyph pause ≡ true → PauseRun pause plan font old new
    → StepLeavesPieces numbered text (PauseRun pause plan font) old new
by_glyph law numbered text pause plan font old new by run front back cut =
    let f = glyph_paused pause plan in
    let of : (b c : Buffer) → PauseRun pause plan font b c → c.glyphs ≡ map f b.glyphs = λ b c r.
    (law pause plan font r.spans b c by r.paused).0 in
    let own = cut_each f (glyph_changes pause plan) old.glyphs front back
    (subst (λ gs. CutWhereClear gs front back) (of old new run) cut) in
    let piece : (part made : Glyphs) → map f part ≡ made
    → MakesPiece numbered text (PauseRun pause plan font) part made = λ part made is b c one r.
    still_piece numbered text part made b c (paused_settings pause plan font r.spans b c by r.paused) one
    (subst (AreAsIn numbered made) (sym (of b c r))
    (each_made numbered f (pauses_keep pause plan) part made is b.glyphs one.same)) in
    record {
      before = own.before;
      behind = own.behind;
      pieces = own.pieces;
      first = piece own.before front own.first;
      second = piece own.behind back own.second;
    }

paused : PausesLeavePieces → (numbered : Numbering) (text : Buffer) (pause : Option Pause) (plan : hb_ot_shape_plan_t)
    (font : Font) (old new : Buffer) → PauseRunIf pause plan font old new
    → IfPaused (PauseLeaves numbered text plan font) pause old new
    → StepLeavesPieces numbered text (PauseRunIf pause plan font) old new
paused law numbered text None plan font old new run so =
    unchanged numbered text (PauseRunIf None plan font) (λ b c is. is) old new run
paused law numbered text (Some pause) plan font old new run so = elim so [
  | inl by ↦ by_glyph law numbered text pause plan font old new by run
  | inr leaves ↦ leaves
]

-- STAGES
stage : PausesLeavePieces → (numbered : Numbering) (text : Buffer) (r : Substitution) (s : Stage) (old new : Buffer)
    → LookupsKeep r.substituted → EachLeaves numbered text r.substituted (lookups_of_stage s r.list) old
    → StageRun r s old new → IfPaused (PauseLeaves numbered text r.plan r.font) s.pause (stage_looked_up r s old) new
    → StepLeavesPieces numbered text (StageRun r s) old new
stage law numbered text r s old new keeps leaves run so =
    let list = lookups_of_stage s r.list in
    in_turn numbered text (IsLooked r.substituted list) (PauseRunIf s.pause r.plan r.font) (StageRun r s)
    (λ a b done. (stage_looked_up r s a, (refl, done))) old (stage_looked_up r s old) new
    (looked numbered text r.substituted keeps list old leaves)
    (paused law numbered text s.pause r.plan r.font (stage_looked_up r s old) new run so)

pub stages_leave : PausesLeavePieces → StagesLeavePieces
stages_leave law numbered text r [] old new keeps run leaves so =
    unchanged numbered text (StagesRun r []) (λ a b is. is) old new run
stages_leave law numbered text r (s ∷ ss) old new keeps run leaves so =
    let mid = run.0 in
    in_turn numbered text (StageRun r s) (StagesRun r ss) (StagesRun r (s ∷ ss)) (λ a b done. done) old mid new
    (stage law numbered text r s old mid keeps leaves.0 run.1.0 so.0)
    (stages_leave law numbered text r ss mid new keeps run.1.1 leaves.1 so.1)

-- MASKS of pieces
record InTwo (made : Buffer → Buffer) (old : Buffer) (front back : Glyphs) : Type 0 where
  within : length front < length old.glyphs
  clear : IsClear old.glyphs (length front)
  first : SameButFlags (made (front_at (length front) old)).glyphs front
  second : SameButFlags (made (back_at (length front) old)).glyphs back

cut_in_two : (made : Buffer → Buffer) (old : Buffer) (front back : Glyphs) → 0 < length front
    → InTwo made old front back → MadeOfPieces Buffer CutBufferWhereClear
    (λ piece made_of. SameButFlags (made piece).glyphs made_of) old front back
cut_in_two made old front back some two = record {
  before = front_at (length front) old;
  behind = back_at (length front) old;
  pieces = record {
    cut = record {
      place = length front;
      some_in_front = some;
      some_behind = two.within;
      front = refl;
      back = refl;
    };
    clear = two.clear;
  };
  first = two.first;
  second = two.second;
}

-- set glyph by glyph
masked_each : MasksLeavePieces → (shaper : hb_ot_shaper_t) (plan : hb_ot_shape_plan_t) (tables : CharacterTables)
    (old : Buffer) → masks_by_glyph shaper ≡ true → MasksOffFlags plan.plan_data
    → ((b : Buffer) → MasksSet shaper plan tables b (masks_set_by plan tables b shaper))
    → MasksInPieces (Some shaper) plan tables old
masked_each law shaper plan tables old by off set front back cut =
    let change = map (masked_by_glyph shaper plan tables) in
    let made : Buffer → Buffer = λ b. masks_set_by plan tables b shaper in
    let gs = old.glyphs in
    let n = length front in
    let of : (b : Buffer) → (made b).glyphs ≡ change b.glyphs = λ b. (law shaper plan tables b (made b) by off
    (set b)).0 in
    let own = (law shaper plan tables old (made old) by off (set old)).1 front back
    (subst (λ xs. CutWhereClear xs front back) (of old) cut) in
    let as_long : length own.before ≡ n = sym (length-map own.before (masked_by_glyph shaper plan tables))
    ∙ as_long (change own.before) front (own.first own.before (own_text own.before)) in
    let parts = own.pieces.parts in
    let is_first : take n gs ≡ own.before = ap (take n) parts ∙ take_at own.before own.behind n as_long in
    let is_second : drop n gs ≡ own.behind = ap (drop n) parts ∙ drop_at own.before own.behind n as_long in
    let more = own.pieces.some_behind in
    cut_in_two made old front back cut.some_in_front (record {
      within = omega (arith, ap length parts, length-append own.before own.behind, as_long, more);
      clear = subst (IsClear gs) as_long own.pieces.clear;
      first = subst (λ xs. SameButFlags xs front) (sym (of (front_at n old)))
          (own.first (take n gs) (subst (λ xs. SameButFlags xs own.before) (sym is_first) (own_text own.before)));
      second = subst (λ xs. SameButFlags xs back) (sym (of (back_at n old)))
          (own.second (drop n gs) (subst (λ xs. SameButFlags xs own.behind) (sym is_second) (own_text own.behind)));
    })

pub masks_in_pieces : MasksLeavePieces → MasksSetInPieces
masks_in_pieces law None plan tables old so front back cut =
    let gs = old.glyphs in
    let n = length front in
    let parts = cut.parts in
    let more = cut.some_behind in
    let is_front : take n gs ≡ front = ap (take n) parts ∙ take_at front back n refl in
    let is_back : drop n gs ≡ back = ap (drop n) parts ∙ drop_at front back n refl in
    cut_in_two (λ b. b) old front back cut.some_in_front (record {
      within = omega (arith, ap length parts, length-append front back, more);
      clear = cut.clear;
      first = subst (λ xs. SameButFlags xs front) (sym is_front) (own_text front);
      second = subst (λ xs. SameButFlags xs back) (sym is_back) (own_text back);
    })
masks_in_pieces law (Some Arabic) plan tables old so front back cut =
    let two = joined_in_two plan tables old front back so cut in
    let within = two.within in
    cut_in_two (joined_by plan tables) old front back cut.some_in_front (record {
      within = two.within;
      clear = added_clear old.glyphs (joined_by plan tables old).glyphs (joining_adds plan tables old) (length front)
          cut.some_in_front (within_parts (joined_by plan tables old).glyphs front back cut) cut.clear;
      first = two.first;
      second = two.second;
    })
masks_in_pieces law (Some Hangul) plan tables old so front back cut =
    masked_each law Hangul plan tables old so.0 so.1 (λ b. refl) front back cut
masks_in_pieces law (Some Hebrew) plan tables old so front back cut =
    masked_each law Hebrew plan tables old so.0 so.1 (λ b. (refl, refl)) front back cut
masks_in_pieces law (Some Indic) plan tables old so front back cut =
    masked_each law Indic plan tables old so.0 so.1 (λ b. refl) front back cut
masks_in_pieces law (Some Khmer) plan tables old so front back cut =
    masked_each law Khmer plan tables old so.0 so.1 (λ b. refl) front back cut
masks_in_pieces law (Some Myanmar) plan tables old so front back cut =
    masked_each law Myanmar plan tables old so.0 so.1 (λ b. refl) front back cut
masks_in_pieces law (Some MyanmarZawgyi) plan tables old so front back cut =
    masked_each law MyanmarZawgyi plan tables old so.0 so.1 (λ b. (refl, refl)) front back cut
masks_in_pieces law (Some Thai) plan tables old so front back cut =
    masked_each law Thai plan tables old so.0 so.1 (λ b. (refl, refl)) front back cut
masks_in_pieces law (Some Universal) plan tables old so front back cut = absurd (false≢true so.0)

masked_settings : (shaper : Option hb_ot_shaper_t) (plan : hb_ot_shape_plan_t) (tables : CharacterTables) (b : Buffer)
    → settings (masks_set_for shaper plan tables b) ≡ settings b
unfolding settings
masked_settings (Some Universal) plan tables b =
    elim (arabic_of plan.plan_data) as (λ o. settings (universal_masks_set o plan.script tables b) ≡ settings b) [
      | None ↦ refl
      | Some p ↦ refl
    ]
masked_settings None plan tables b = refl
masked_settings (Some _) plan tables b = refl

-- GLYPHS of characters, with their notes
noted_glyph : (Glyph → GlyphProps) → Glyph → Glyph
noted_glyph noted g = with_note noted (as_glyph g)

noted_as : Glyph → GlyphProps → Glyph
noted_as g props = record g { glyph_props = props; lig_props = no_ligature }

reads_notes : (noted : Glyph → GlyphProps) → NotesReadOrder noted → ReadsOrder (noted_glyph noted)
unfolding noted_glyph noted_as
reads_notes noted notes = record {
  added = λ g. added_same g (noted_glyph noted g) refl refl;
  byte = λ g. refl;
  viewed = λ g.
      ap (λ (k : ℕ). let r : Glyph = record (noted_glyph noted g) { cluster = 0; mask = k } in r)
      (sym (flags-twice g.mask))
      ∙ ap (noted_as (plain (as_glyph (plain g)))) (notes.viewed (as_glyph g));
  counted = λ g.
      ap (λ (k : ℕ). let r : Glyph = record (plain (noted_glyph noted g)) { syllable = k } in r)
      (sym (kind-twice g.syllable))
      ∙ ap (noted_as (unnumbered (plain (as_glyph (unnumbered g))))) (notes.counted (as_glyph g));
}

made_is : (p : Preparation) (noted : Glyph → GlyphProps) → p.ranges ≡ [] → (b : Buffer)
    → (glyphs_made p noted b).glyphs ≡ map (noted_glyph noted) (masks_set_for p.shaper p.plan p.tables b).glyphs
unfolding noted_glyph
made_is p noted none b =
    let gs = (masks_set_for p.shaper p.plan p.tables b).glyphs in
    ap (λ rs. map (with_note noted) (map as_glyph (map (with_features rs) gs))) none
    ∙ ap (λ xs. map (with_note noted) (map as_glyph xs)) (map-id gs) ∙ map-map (with_note noted) as_glyph gs

-- THE WHOLE
made_settings : (p : Preparation) (noted : Glyph → GlyphProps) (b : Buffer) → settings (glyphs_made p noted b)
    ≡ settings b
unfolding settings
made_settings p noted b = masked_settings p.shaper p.plan p.tables b

begun : (numbered : Numbering) (p : Preparation) (noted : Glyph → GlyphProps) (r : Substitution) (old : Buffer)
    → LeavesAllPieces numbered p noted r old → (piece : Buffer) → settings piece ≡ settings old → (part : Glyphs)
    → SameButFlags (glyphs_made p noted piece).glyphs part → IsPiece numbered old part (glyphs_made p noted piece)
unfolding settings
begun numbered p noted r old so piece same part is =
    let made = glyphs_made p noted piece in
    let all = made_settings p noted piece ∙ same in
    record {
      same = as_in numbered so.numbers part made.glyphs is;
      level = ap (λ (s : Settings). s.0) all;
      direction = ap (λ (s : Settings). s.1.0) all;
      script = ap (λ (s : Settings). s.1.1.0) all;
      room = ap (λ (s : Settings). s.1.1.1.0) all;
      positions = ap (λ (s : Settings). s.1.1.1.1) all ∙ so.positions;
    }

halves_settings : (whole before behind : Buffer) → CutBuffer whole before behind
    → (settings before ≡ settings whole) × (settings behind ≡ settings whole)
unfolding settings
halves_settings whole before behind cut = (ap settings cut.front, ap settings cut.back)

pub pipeline_breaks : PausesLeavePieces → PipelineBreaks
unfolding settings
pipeline_breaks law numbered p noted r ss old new so run lookups pauses front back cut =
    let set = masks_set_for p.shaper p.plan p.tables in
    let f = noted_glyph noted in
    let staged = stages_leave law numbered old r ss (glyphs_made p noted old) new so.lookups_keep run lookups pauses
    front back cut in
    let glyphs = leaves_by_glyph f (reads_order f (reads_notes noted so.notes)) (set old).glyphs staged.before
    staged.behind (subst (λ gs. CutWhereClear gs staged.before staged.behind) (made_is p noted so.no_ranges old)
    staged.pieces) in
    let masks = so.masks glyphs.before glyphs.behind glyphs.pieces in
    let halves = halves_settings old masks.before masks.behind masks.pieces.cut in
    let same : (piece : Buffer) (ms gs : Glyphs) → SameButFlags (set piece).glyphs ms → MakesOf (map f) ms gs
    → SameButFlags (glyphs_made p noted piece).glyphs gs = λ piece ms gs masked makes.
    subst (λ xs. SameButFlags xs gs) (sym (made_is p noted so.no_ranges piece)) (makes (set piece).glyphs masked) in
    record {
      before = masks.before;
      behind = masks.behind;
      pieces = masks.pieces;
      first = λ one ran. (staged.first (glyphs_made p noted masks.before) one
          (begun numbered p noted r old so masks.before halves.0 staged.before
          (same masks.before glyphs.before staged.before masks.first glyphs.first)) ran).same;
      second = λ one ran. (staged.second (glyphs_made p noted masks.behind) one
          (begun numbered p noted r old so masks.behind halves.1 staged.behind
          (same masks.behind glyphs.behind staged.behind masks.second glyphs.second)) ran).same;
    }

pub shaping_breaks : PausesLeavePieces → ShapingBreaks
shaping_breaks law numbered p noted r ss old new prepared so run lookups pauses front back cut =
    let text = text_in_fractions p old in
    let made = pipeline_breaks law numbered p noted r ss text new so run lookups pauses front back cut in
    let own = prepared made.before made.behind made.pieces in
    record {
      before = own.before;
      behind = own.behind;
      pieces = own.pieces;
      first = λ one ran. made.first one (subst (λ (b : Buffer). StagesRun r ss
          (glyphs_made p noted b) one) own.first ran);
      second = λ one ran. made.second one
          (subst (λ (b : Buffer). StagesRun r ss (glyphs_made p noted b) one) own.second ran);
    }

-- SYLLABLES: a set-up, a stage that a reordering ends, and stages behind
reordered_piece : (numbered : Numbering) → ((list : List LigProps) → numbered list list ≡ true)
    → (reordering : Reordering) (between b one : Buffer) → settings b ≡ settings between → between.positions ≡ []
    → Reordered reordering b one → (part : Glyphs) → SameButFlags one.glyphs part
    → IsPiece numbered between part one
unfolding settings
reordered_piece numbered alike reordering between b one start none done part is =
    let all : settings one ≡ settings between = ap settings done.others ∙ start in
    record {
      same = as_in numbered alike part one.glyphs is;
      level = ap (λ (s : Settings). s.0) all;
      direction = ap (λ (s : Settings). s.1.0) all;
      script = ap (λ (s : Settings). s.1.1.0) all;
      room = ap (λ (s : Settings). s.1.1.1.0) all;
      positions = ap (λ (s : Settings). s.1.1.1.1) all ∙ none;
    }

syllabic_stages : (setup pause : Pause) (by : hb_ot_shape_plan_t → Font → Buffer → Reordering)
    (IsSo : Reordering → Buffer → Type 0) → PausesLeavePieces → SyllabicBreaks setup pause by IsSo
    → ((plan : hb_ot_shape_plan_t) (font : Font) (spans : List Span) (old mid : Buffer)
    → Paused setup plan font spans old mid → mid.positions ≡ old.positions)
    → SyllabicStagesBreak setup pause by IsSo
unfolding settings
syllabic_stages setup pause by IsSo law breaks first_keeps numbered r second ss spans unread old mid reordered new
    keeps alike none spanned done side flags so ordered run leaves pauses front back cut =
    let between = stage_looked_up r second mid in
    let lookups = glyphs_looked_up r second mid in
    let reordering = by r.plan r.font between in
    let list = lookups_of_stage second r.list in
    let mid_none = first_keeps r.plan r.font spans old mid done ∙ none in
    let between_none = no_positions r.substituted keeps list mid mid_none in
    let staged = stages_leave law numbered between r ss reordered new keeps run leaves pauses front back cut in
    let chain = breaks r.plan r.font (λ g. g) lookups (λ gs. gs) spans old reordered (record {
      masked = old;
      mid = mid;
      between = between;
      reordered = reordered;
      unread = unread;
      clusters_stay = λ g. refl;
      masks = sym (map-id old.glyphs);
      spanned = spanned;
      syllables = done;
      looked = record {
        level = looked_level r.substituted keeps list mid mid_none;
        glyphs = refl;
        side_by_side = side;
        flags = flags;
      };
      order = ordered;
      side_by_side = λ f b c. record {
        before = f;
        behind = b;
        pieces = c;
        first = λ same is. is;
        second = λ same is. is;
      };
      glyphs = refl;
    }) so staged.before staged.behind staged.pieces in
    let results : (piece : SpannedText) (ys zs : Glyphs) → SyllabicPiece reordering (λ g. g) lookups
    (λ gs. gs) between piece
    ys → MakesPiece numbered between (StagesRun r ss) ys zs → StagedPiece numbered r second ss reordering mid piece zs =
    λ piece ys zs own makes one two order ran.
    let start = lookups (unsafe_spans piece.spans piece.glyphs) in
    let start_in = record between { glyphs = start } in
    (makes one two (reordered_piece numbered alike reordering between start_in one refl between_none order ys
    (own one (subst (λ gs. Reordered reordering (record between { glyphs = lookups (unsafe_spans piece.spans gs) }) one)
    (sym (map-id piece.glyphs)) order))) ran).same in
    record {
      before = chain.before;
      behind = chain.behind;
      pieces = chain.pieces;
      first = results chain.before staged.before front chain.first staged.first;
      second = results chain.behind staged.behind back chain.second staged.second;
    }

pub shaper_stages : PausesLeavePieces → ShapersBreakLaw → ShaperStagesBreak
shaper_stages law all = (
  syllabic_stages SetupSyllablesKhmer ReorderKhmer by_khmer IsInOrder law (all Khmer)
      (pause_positions SetupSyllablesKhmer),
  (
    syllabic_stages SetupSyllablesMyanmar ReorderMyanmar (λ plan. by_myanmar) IsInOrder law (all Myanmar)
        (pause_positions SetupSyllablesMyanmar),
    syllabic_stages SetupSyllablesIndic InitialReordering by_initial IsApart law ((all Indic).0)
        (pause_positions SetupSyllablesIndic),
  ),
)
