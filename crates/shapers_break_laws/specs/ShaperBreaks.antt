-- Where the texts of each shaper may be broken: over its hooks and pauses, with anything between
-- and behind them that leaves results side by side.
use Rattle.std.specs.Prelude.{ℕ, ◌-◌, ◌≤◌, ◌≡◌, ◌⊎◌, min, true, false, Bool, List, [], ◌∷◌, ◌++◌, Option, length, map, take, drop, unwrap_or, if◌then◌else◌}
use Rattle.shapers_arabic.specs.Breaks.{IsSpared}
use Rattle.shapers_arabic.specs.JoinedText.{text_of}
use Rattle.shapers_arabic.specs.PlanData.{breaks_of}
use Rattle.shapers_arabic.specs.Requests.{is_arabic}
use Rattle.shapers_base.specs.Font.{CharacterTables, Font}
use Rattle.shapers_base.specs.Masks.{masks_stored, with_numbered_mask}
use Rattle.shapers_base.specs.declared.plan.breaks.BreakFlags.TheVariants.{Sound}
use Rattle.shapers_base.specs.declared.plan.hb_ot_shape_plan_t.{hb_ot_shape_plan_t}
use Rattle.shapers_base.specs.declared.plan.pause.Pause.{Pause}
use Rattle.shapers_base.specs.declared.plan.pause.Pause.TheVariants.{SetupSyllablesIndic, SetupSyllablesKhmer, SetupSyllablesMyanmar, SetupSyllablesUse, InitialReordering, ReorderKhmer, ReorderMyanmar, ReorderUse, FinalReordering, RecordStch, RecordRphf, RecordPref, SyllabicClearVar, ClearSubstitutionFlags, ArabicFallbackShape}
use Rattle.shapers_buffer.specs.Buffer.{Buffer}
use Rattle.shapers_buffer.specs.Clusters.{merges}
use Rattle.shapers_buffer.specs.Glyph.{clusters}
use Rattle.shapers_buffer.specs.Syllables.{in_syllable}
use Rattle.shapers_buffer.specs.Glyphs.{Glyph, Glyphs}
use Rattle.shapers_buffer.specs.declared.buffer.level.BufferClusterLevel.{BufferClusterLevel}
use Rattle.shapers_buffer.specs.declared.buffer.level.BufferClusterLevel.TheVariants.{MonotoneGraphemes}
use Rattle.shapers_buffer.specs.declared.buffer.syllables.Span.{Span}
use Rattle.shapers_buffer.specs.declared.buffer.tag.Script.{Script}
use Rattle.shapers_clusters.specs.Cuts.{IsMonotone}
use Rattle.shapers_stretch.specs.Recorded.{has_stch, recorded}
use Rattle.shapers_syllabic.specs.Characters.{with_category, with_category_and_position}
use Rattle.shapers_syllabic.specs.Circles.{circled}
use Rattle.shapers_syllabic.specs.Syllabic.{unsafe_spans, unsubstituted}
use Rattle.shapers_text.specs.ThaiForms.{asks_for_forms}
use Rattle.rustybuzz_shapers.specs.Hooks.{MasksOffFlags, MasksSet, MarksReordered, Preprocessed}
use Rattle.rustybuzz_shapers.specs.Pauses.{Paused, Reordered, Reordering, by_initial, by_khmer, by_myanmar, pauses_in}
use Rattle.rustybuzz_shapers.specs.Records.{collected, overridden}
use Rattle.rustybuzz_shapers.specs.declared.shaper.hb_ot_shaper_t.{hb_ot_shaper_t}
use Rattle.rustybuzz_shapers.specs.declared.shaper.hb_ot_shaper_t.TheVariants.{Arabic, Hangul, Hebrew, Indic, Khmer, Myanmar, MyanmarZawgyi, Thai, Universal}
use Rattle.shapers_break_laws.specs.ChainBreaks.{IsSpanned, LookedUp}
use Rattle.shapers_break_laws.specs.HangulBreaks.{NarrowTonesJoin}
use Rattle.shapers_break_laws.specs.IndicBreaks.{JoinersShare}
use Rattle.shapers_break_laws.specs.IndicChain.{IndicChainBreaks, IndicPausesBreak}
use Rattle.shapers_break_laws.specs.KeptTextBreaks.{SyllablesApart}
use Rattle.shapers_break_laws.specs.MarkBreaks.{NoneClearInside, marks_after}
use Rattle.shapers_break_laws.specs.Pieces.{BreaksWhereCleared, CutAtSpans, CutBuffer, LeavesPieces, SameButFlags, SpannedText}
use Rattle.shapers_break_laws.specs.ScriptBreaks.{UniversalPausesBreak}
use Rattle.shapers_break_laws.specs.StretchBreaks.{StretchBreaksLaw}
use Rattle.shapers_break_laws.specs.ThaiBreaks.{ThaiMarksJoin, sara_ams_taken}
use Rattle.shapers_break_laws.specs.UniversalChain.{UniversalChainBreaks, UniversalSoundChainBreaks, UniversalSoundPausesBreak}

-- What a syllabic shaper does to a text: masks, and what else changes each glyph by itself, the
-- set-up of its syllables, lookups, its reordering, and whatever stands behind that, lookups and
-- other pauses.
pub record SyllabicRun (setup pause : Pause) (plan : hb_ot_shape_plan_t) (font : Font)
    (change : Glyph → Glyph) (lookups behind : Glyphs →
    Glyphs) (spans : List Span) (old new : Buffer) : Type 0 where
  pub masked : Buffer
  pub mid : Buffer
  pub between : Buffer
  pub reordered : Buffer
  pub unread : List Span
  pub clusters_stay : (g : Glyph) → (change g).cluster ≡ g.cluster
  pub masks : masked.glyphs ≡ map change old.glyphs
  pub spanned : IsSpanned spans masked
  pub syllables : Paused setup plan font spans masked mid
  pub looked : LookedUp lookups mid between
  pub order : Paused pause plan font unread between reordered
  pub side_by_side : LeavesPieces behind reordered.glyphs
  pub glyphs : new.glyphs ≡ behind reordered.glyphs

-- what the same does to a piece by itself, with circles in broken syllables where the text has them
abbrev pub SyllabicPiece : Reordering → (Glyph → Glyph) →
    (Glyphs → Glyphs) → (Glyphs → Glyphs) →
    Buffer → SpannedText → Glyphs → Type 0
SyllabicPiece r change lookups behind between piece made = (one : Buffer) →
    let setup = unsafe_spans piece.spans (map change piece.glyphs) in
    Reordered r (record between { glyphs = lookups setup }) one →
    SameButFlags (behind one.glyphs) made

-- At every clear place the text may be broken between two syllables, where its clusters are so, or
-- its syllables, before the reordering.
abbrev pub SyllabicBreaks : Pause → Pause → (hb_ot_shape_plan_t → Font → Buffer → Reordering) →
    (Reordering → Buffer → Type 0) → Type 0
SyllabicBreaks setup pause by IsSo =
    (plan : hb_ot_shape_plan_t) (font : Font) (change : Glyph → Glyph)
    (lookups behind : Glyphs → Glyphs) (spans : List Span)
    (old new : Buffer) →
    (run : SyllabicRun setup pause plan font change lookups behind spans old new) →
    let r = by plan font run.between in
    IsSo r run.between →
    let text : SpannedText = record { spans = spans; glyphs = old.glyphs } in
    BreaksWhereCleared SpannedText CutAtSpans (SyllabicPiece r change lookups behind run.between)
    text new.glyphs

-- clusters rise or fall along the text with its circles
abbrev pub IsInOrder : Reordering → Buffer → Type 0
IsInOrder r b = IsMonotone (clusters (circled r.circles b.glyphs))

-- in Indic the syllables share no cluster, and in Kannada an H and the ZWJ behind it do
abbrev pub IsApart : Reordering → Buffer → Type 0
IsApart r b = SyllablesApart b.glyphs × JoinersShare r b

-- A hook, and whatever stands behind it: what they make of a piece by itself.
abbrev pub HookedPiece : (Buffer → Buffer → Type 0) →
    (Glyphs → Glyphs) → Buffer → Glyphs → Type 0
HookedPiece Hook behind piece made =
    (one : Buffer) → Hook piece one → SameButFlags (behind one.glyphs) made

-- the text may be broken at every clear place, each half with its outer context
abbrev pub HookedBreaks : (Buffer → Buffer → Type 0) → (Buffer → Type 0) → Type 0
HookedBreaks Hook IsSo = (behind : Glyphs → Glyphs)
    (old new : Buffer) → IsSo old → Hook old new → LeavesPieces behind new.glyphs →
    BreaksWhereCleared Buffer CutBuffer (HookedPiece Hook behind) old (behind new.glyphs)

-- clusters rise or fall along the text, at a level that merges
pub record CanMerge (b : Buffer) : Type 0 where
  pub merging : merges b.level ≡ true
  pub monotone : IsMonotone (clusters b.glyphs)

-- Thai and Lao: with private use forms Sound, or marks that share their bases' clusters
abbrev pub ThaiIsSo : hb_ot_shape_plan_t → Buffer → Type 0
ThaiIsSo plan b =
    CanMerge b
    × ((asks_for_forms plan ≡ false) ⊎ ((plan.break_flags ≡ Sound)
    ⊎ ThaiMarksJoin (sara_ams_taken b.level b.glyphs)))

abbrev pub ThaiTextBreaks : Type 0
ThaiTextBreaks = (plan : hb_ot_shape_plan_t) (font : Font) →
    HookedBreaks (Preprocessed Thai plan font) (ThaiIsSo plan)

-- Hangul: Sound, or clusters of whole graphemes that tones share
abbrev pub HangulIsSo : hb_ot_shape_plan_t → Font → Buffer → Type 0
HangulIsSo plan font b =
    CanMerge b
    × ((plan.break_flags ≡ Sound)
    ⊎ ((b.level ≡ MonotoneGraphemes) × NarrowTonesJoin font b.glyphs))

-- its masks, too, directly behind
abbrev pub HangulHooked : hb_ot_shape_plan_t → Font → CharacterTables → Buffer → Buffer → Type 0
HangulHooked plan font tables old new = (mid : Buffer)
    × (Preprocessed Hangul plan font old mid × MasksSet Hangul plan tables mid new)

abbrev pub HangulTextBreaks : Type 0
HangulTextBreaks = (plan : hb_ot_shape_plan_t) (font : Font) (tables : CharacterTables) →
    MasksOffFlags plan.plan_data →
    HookedBreaks (HangulHooked plan font tables) (HangulIsSo plan font)

-- Arabic: with Sound whatever its clusters are; else at clear places that Sound spares, too
abbrev pub IsSparedAll : hb_ot_shape_plan_t → CharacterTables → Buffer → Type 0
IsSparedAll plan tables b = (p : ℕ) →
    IsSpared (breaks_of plan.plan_data) plan.script (text_of tables.joining tables.general b) p

abbrev pub ArabicTextBreaks : Type 0
ArabicTextBreaks = (plan : hb_ot_shape_plan_t) (tables : CharacterTables) →
    HookedBreaks (MasksSet Arabic plan tables) (IsSparedAll plan tables)

-- A text with a sequence of marks from start to end, cut outside that sequence.
pub record MarkedText : Type 0 where
  pub start : ℕ
  pub end : ℕ
  pub glyphs : Glyphs

pub record CutAroundMarks (text before behind : MarkedText) : Type 0 where
  pub place : ℕ
  pub outside : (place ≤ text.start) ⊎ (text.end ≤ place)
  pub front : before
      ≡ record {
        start = min text.start place;
        end = min text.end place;
        glyphs = take place text.glyphs;
      }
  pub back : behind
      ≡ record {
        start = text.start - place;
        end = text.end - place;
        glyphs = drop place text.glyphs;
      }

abbrev pub MarkedPiece : hb_ot_shaper_t → BufferClusterLevel →
    (Glyphs → Glyphs) → MarkedText → Glyphs → Type 0
MarkedPiece shaper level behind piece made =
    SameButFlags (behind (marks_after shaper level piece.start piece.end piece.glyphs)) made

-- Hebrew and Arabic: where no place within the sequence was clear
abbrev pub MarkedBreaks : hb_ot_shaper_t → Type 0
MarkedBreaks shaper = (start end : ℕ) (behind : Glyphs → Glyphs)
    (old new : Buffer) → start ≤ end → end ≤ length old.glyphs → CanMerge old →
    NoneClearInside start end old.glyphs → MarksReordered shaper start end old new →
    LeavesPieces behind new.glyphs →
    let text : MarkedText = record { start = start; end = end; glyphs = old.glyphs } in
    BreaksWhereCleared MarkedText CutAroundMarks (MarkedPiece shaper old.level behind) text
    (behind new.glyphs)

-- Masks that are set glyph by glyph: those of all shapers but Arabic and the universal one.
abbrev pub masked_by_glyph : hb_ot_shaper_t → hb_ot_shape_plan_t → CharacterTables →
    Glyph → Glyph
masked_by_glyph Hangul plan tables g = with_numbered_mask (masks_stored plan.plan_data) g
masked_by_glyph Indic plan tables g = with_category_and_position tables g
masked_by_glyph Khmer plan tables g = with_category tables g
masked_by_glyph Myanmar plan tables g = with_category tables g
masked_by_glyph shaper plan tables g = g

abbrev pub masks_by_glyph : hb_ot_shaper_t → Bool
masks_by_glyph Arabic = false
masks_by_glyph Universal = false
masks_by_glyph shaper = true

abbrev pub MasksLeavePieces : Type 0
MasksLeavePieces = (shaper : hb_ot_shaper_t) (plan : hb_ot_shape_plan_t) (tables : CharacterTables)
    (old new : Buffer) → masks_by_glyph shaper ≡ true → MasksOffFlags plan.plan_data →
    MasksSet shaper plan tables old new →
    (new.glyphs ≡ map (masked_by_glyph shaper plan tables) old.glyphs)
    × LeavesPieces (map (masked_by_glyph shaper plan tables)) old.glyphs

-- The pauses of each shaper, in the order of its own lists; one of Arabic for its own script alone.
abbrev pub shaper_pauses : hb_ot_shaper_t → Option Script → List Pause
shaper_pauses Arabic script =
    RecordStch ∷ (if is_arabic script then ArabicFallbackShape ∷ [] else [])
shaper_pauses Indic script =
    SetupSyllablesIndic ∷ InitialReordering ∷ FinalReordering ∷ SyllabicClearVar ∷ []
shaper_pauses Khmer script = SetupSyllablesKhmer ∷ ReorderKhmer ∷ SyllabicClearVar ∷ []
shaper_pauses Myanmar script = SetupSyllablesMyanmar ∷ ReorderMyanmar ∷ SyllabicClearVar ∷ []
shaper_pauses Universal script =
    SetupSyllablesUse ∷ ClearSubstitutionFlags ∷ RecordRphf ∷ ClearSubstitutionFlags ∷ RecordPref
    ∷ ReorderUse ∷ SyllabicClearVar ∷ []
shaper_pauses shaper script = []

abbrev pub PausesAreListed : Type 0
PausesAreListed = (shaper : hb_ot_shaper_t) (script : Option Script) (has_rclt : Bool) →
    shaper_pauses shaper script
    ≡ pauses_in (unwrap_or (collected shaper script has_rclt) []
    ++ unwrap_or (overridden shaper) [])

-- The pauses that change each glyph by itself, if any: those of Arabic, and the two that clear.
abbrev pub glyph_paused : Pause → hb_ot_shape_plan_t → Glyph → Glyph
glyph_paused RecordStch plan g = if has_stch plan.plan_data then recorded g else g
glyph_paused SyllabicClearVar plan g = in_syllable 0 g
glyph_paused ClearSubstitutionFlags plan g = unsubstituted g
glyph_paused _ plan g = g

abbrev pub is_by_glyph : Pause → Bool
is_by_glyph RecordStch = true
is_by_glyph SyllabicClearVar = true
is_by_glyph ClearSubstitutionFlags = true
is_by_glyph ArabicFallbackShape = true
is_by_glyph _ = false

-- they leave the pieces' results side by side, and so may stand among what is behind; as lookups do
-- one behind the other
abbrev pub PausesLeavePieces : Type 0
PausesLeavePieces = (pause : Pause) (plan : hb_ot_shape_plan_t) (font : Font) (spans : List Span)
    (old new : Buffer) → is_by_glyph pause ≡ true → Paused pause plan font spans old new →
    (new.glyphs ≡ map (glyph_paused pause plan) old.glyphs)
    × LeavesPieces (map (glyph_paused pause plan)) old.glyphs

abbrev pub LeavePiecesEach : Type 0
LeavePiecesEach = (first next : Glyphs → Glyphs)
    (text : Glyphs) → LeavesPieces first text → LeavesPieces next (first text) →
    LeavesPieces (λ gs. next (first gs)) text

-- The law of each shaper. Of Indic up to what follows its initial reordering, and up to the final
-- one; of the universal shaper up to its reordering, with either choice.
abbrev pub ShaperBreaks : hb_ot_shaper_t → Type 0
ShaperBreaks Arabic = MarkedBreaks Arabic × (ArabicTextBreaks × StretchBreaksLaw)
ShaperBreaks Hangul = HangulTextBreaks
ShaperBreaks Hebrew = MarkedBreaks Hebrew
ShaperBreaks Indic = SyllabicBreaks SetupSyllablesIndic InitialReordering by_initial IsApart
    × (IndicChainBreaks × IndicPausesBreak)
ShaperBreaks Khmer = SyllabicBreaks SetupSyllablesKhmer ReorderKhmer by_khmer IsInOrder
ShaperBreaks Myanmar =
    SyllabicBreaks SetupSyllablesMyanmar ReorderMyanmar (λ plan. by_myanmar) IsInOrder
ShaperBreaks MyanmarZawgyi = HookedBreaks (λ old new. new ≡ old) (λ b. Unit {0})
ShaperBreaks Thai = ThaiTextBreaks
ShaperBreaks Universal = UniversalPausesBreak × (UniversalChainBreaks
    × (UniversalSoundPausesBreak × UniversalSoundChainBreaks))

abbrev pub ShapersBreakLaw : Type 0
ShapersBreakLaw = (shaper : hb_ot_shaper_t) → ShaperBreaks shaper
