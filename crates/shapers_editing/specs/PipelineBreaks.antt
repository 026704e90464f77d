-- Where a text may be broken that was given to the stages of lookups; and one that was shaped up to
-- the last of them.
use Rattle.std.specs.Prelude.{◌≡◌, ◌⊎◌, ◌%◌, Bool, true, List, [], ◌∷◌, Option, None, Some, map}
use Rattle.shapers_base.specs.Font.{CharacterTables, Font}
use Rattle.shapers_base.specs.declared.plan.hb_ot_shape_plan_t.{hb_ot_shape_plan_t}
use Rattle.shapers_base.specs.declared.plan.pause.Pause.{Pause}
use Rattle.shapers_base.specs.declared.plan.pause.Pause.TheVariants.{InitialReordering, ReorderKhmer, ReorderMyanmar, SetupSyllablesIndic, SetupSyllablesKhmer, SetupSyllablesMyanmar}
use Rattle.shapers_buffer.specs.Buffer.{Buffer}
use Rattle.shapers_buffer.specs.Glyph.{plain}
use Rattle.shapers_buffer.specs.Glyphs.{Glyph, Glyphs}
use Rattle.shapers_buffer.specs.declared.buffer.glyph_props.GlyphProps.{GlyphProps}
use Rattle.shapers_buffer.specs.declared.buffer.lig_props.LigProps.{LigProps}
use Rattle.shapers_buffer.specs.declared.buffer.syllables.Span.{Span}
use Rattle.shapers_clusters.specs.Breaks.{IsClear}
use Rattle.shapers_syllabic.specs.Borders.{unnumbered}
use Rattle.shapers_syllabic.specs.Syllabic.{unsafe_spans}
use Rattle.rustybuzz_shapers.specs.FoundSyllables.{PauseRun}
use Rattle.rustybuzz_shapers.specs.Hooks.{MasksOffFlags}
use Rattle.rustybuzz_shapers.specs.Pauses.{Paused, Reordered, Reordering, by_initial, by_khmer, by_myanmar}
use Rattle.rustybuzz_shapers.specs.declared.shaper.hb_ot_shaper_t.{hb_ot_shaper_t}
use Rattle.rustybuzz_shapers.specs.declared.shaper.hb_ot_shaper_t.TheVariants.{Arabic}
use Rattle.shapers_break_laws.specs.ChainBreaks.{IsSpanned, LeavesSideBySide}
use Rattle.shapers_break_laws.specs.KeptTextBreaks.{FlagsKept}
use Rattle.shapers_break_laws.specs.Pieces.{BreaksWhereCleared, CutAtSpans, CutBuffer, CutWhereClear, SameButFlags, SpannedText}
use Rattle.shapers_break_laws.specs.ShaperBreaks.{IsApart, IsInOrder, IsSparedAll, is_by_glyph, masks_by_glyph}
use Rattle.shapers_plan.specs.declared.ot_map.lookups.Stage.{Stage}
use Rattle.shapers_plan.specs.declared.ot_map.lookups.StageLookup.{StageLookup}
use Rattle.shapers_pipeline.specs.ClusterLaws.{AtPauses, LookupsKeep}
use Rattle.shapers_pipeline.specs.Lookups.{lookups_of_stage, text_noted}
use Rattle.shapers_pipeline.specs.Masks.{as_glyph, with_features}
use Rattle.shapers_pipeline.specs.Prepared.{Preparation, text_in_fractions, text_prepared}
use Rattle.shapers_pipeline.specs.ShaperSteps.{masks_set_for}
use Rattle.shapers_pipeline.specs.Singles.{singles_applied}
use Rattle.shapers_pipeline.specs.Stages.{StagesRun, Substitution, stage_looked_up}
use Rattle.shapers_pipeline.specs.declared.singles.Single.{Single}

-- a glyph without the number of its ligature; which component it is of stays, and whether it is the
-- ligature
abbrev pub unlinked : Glyph → Glyph
unlinked g = record g { lig_props = record { 0 = g.lig_props.0 % 32 } }

-- the same text to those who read neither glyph flags, serials of syllables nor numbers of
-- ligatures
abbrev pub SameButNumbers : Glyphs → Glyphs → Type 0
SameButNumbers gs hs = SameButFlags (map unlinked gs) (map unlinked hs)

-- what the glyphs hold of their ligatures
abbrev pub ligatures : Glyphs → List LigProps
ligatures gs = map (λ g. g.lig_props) gs

-- Whether the numbers of ligatures in a piece are beside those in its part of the text as they
-- should be, by whichever test one wants. Lookups number the ligatures of a text in turn, so those
-- of a piece by itself count anew.
abbrev pub Numbering : Type 0
Numbering = List LigProps → List LigProps → Bool

-- glyphs of a piece by itself beside those of its part of the text
pub record AreAsIn (numbered : Numbering) (part gs : Glyphs) : Type 0 where
  pub glyphs : SameButNumbers gs part
  pub numbers : numbered (ligatures gs) (ligatures part) ≡ true

-- A buffer without positions that has such glyphs, and the level, direction and script of the text.
-- It takes as many glyphs as the text's.
pub record IsPiece (numbered : Numbering) (text : Buffer) (part : Glyphs) (b : Buffer) :
    Type 0 where
  pub same : AreAsIn numbered part b.glyphs
  pub level : b.level ≡ text.level
  pub direction : b.direction ≡ text.direction
  pub script : b.script ≡ text.script
  pub room : b.max_len ≡ text.max_len
  pub positions : b.positions ≡ []

-- a step makes of each such buffer one of the other glyphs
abbrev pub MakesPiece : Numbering → Buffer → (Buffer → Buffer → Type 0) → Glyphs → Glyphs → Type 0
MakesPiece numbered text Step piece made = (old new : Buffer) →
    IsPiece numbered text piece old → Step old new → IsPiece numbered text made new

-- A step leaves the pieces' results of this text side by side: wherever what it made is clear, the
-- text was, and it makes the parts of its pieces.
abbrev pub StepLeavesPieces : Numbering → Buffer → (Buffer → Buffer → Type 0) → Buffer → Buffer →
    Type 0
StepLeavesPieces numbered text Step old new =
    BreaksWhereCleared Glyphs CutWhereClear (MakesPiece numbered text Step) old.glyphs new.glyphs

-- So does a lookup, of which the glyphs are asked alone.
abbrev pub LookupLeaves : Numbering → Buffer → (StageLookup → Buffer → Buffer) → StageLookup →
    Buffer → Type 0
LookupLeaves numbered text substituted lookup b = BreaksWhereCleared Glyphs CutWhereClear
    (λ piece made. (one : Buffer) → IsPiece numbered text piece one →
    AreAsIn numbered made (substituted lookup one).glyphs) b.glyphs (substituted lookup b).glyphs

-- lookups one after another, each asked at the text that those before it made
abbrev pub EachLeaves : Numbering → Buffer → (StageLookup → Buffer → Buffer) → List StageLookup →
    Buffer → Type 0
EachLeaves numbered text substituted [] b = Unit {0}
EachLeaves numbered text substituted (x ∷ xs) b = LookupLeaves numbered text substituted x b
    × EachLeaves numbered text substituted xs (substituted x b)

-- the lookups of these stages, asked at the texts of this run
abbrev pub LookupsLeave : Numbering → Buffer → (r : Substitution) → (ss : List Stage) →
    (old new : Buffer) → StagesRun r ss old new → Type 0
LookupsLeave numbered text r [] old new run = Unit {0}
LookupsLeave numbered text r (s ∷ ss) old new run =
    EachLeaves numbered text r.substituted (lookups_of_stage s r.list) old
    × LookupsLeave numbered text r ss run.0 new run.1.1

-- a pause that does: it changes glyph by glyph, or it does so in this text
abbrev pub PauseLeaves : Numbering → Buffer → hb_ot_shape_plan_t → Font → Pause → Buffer → Buffer →
    Type 0
PauseLeaves numbered text plan font pause old new =
    (is_by_glyph pause ≡ true)
    ⊎ StepLeavesPieces numbered text (PauseRun pause plan font) old new

-- So do stages of such lookups with such pauses: all of Arabic, Hangul, Hebrew, Thai, and of a text
-- without a shaper; of the others those before syllables are set up, and those behind the last
-- reordering.
abbrev pub StagesLeavePieces : Type 0
StagesLeavePieces = (numbered : Numbering) (text : Buffer) (r : Substitution) (ss : List Stage)
    (old new : Buffer) → LookupsKeep r.substituted → (run : StagesRun r ss old new) →
    LookupsLeave numbered text r ss old new run →
    AtPauses (PauseLeaves numbered text r.plan r.font) r ss old new run →
    StepLeavesPieces numbered text (StagesRun r ss) old new

-- Single substitutions do, in every text: they read no number, level, direction or script, and no
-- glyph flag where the lookup's mask has none.
abbrev pub SinglesLeavePieces : Type 0
SinglesLeavePieces = (numbered : Numbering) (text : Buffer) (singles : List Single)
    (lookup : StageLookup) (b : Buffer) → lookup.mask % 8 ≡ 0 →
    LookupLeaves numbered text (singles_applied singles) lookup b

-- A buffer cut in two where its text is clear.
pub record CutBufferWhereClear (whole before behind : Buffer) : Type 0 where
  pub cut : CutBuffer whole before behind
  pub clear : IsClear whole.glyphs cut.place

-- a text's masks are set piece by piece
abbrev pub MasksInPieces : Option hb_ot_shaper_t → hb_ot_shape_plan_t → CharacterTables →
    Buffer → Type 0
MasksInPieces shaper plan tables b =
    let set = masks_set_for shaper plan tables in
    BreaksWhereCleared Buffer CutBufferWhereClear
    (λ piece made. SameButFlags (set piece).glyphs made) b (set b).glyphs

-- So they are without a shaper and where they are set glyph by glyph; and for Arabic with Sound, or
-- where Sound would flag no more.
abbrev pub MaskedSo : Option hb_ot_shaper_t → hb_ot_shape_plan_t → CharacterTables → Buffer → Type 0
MaskedSo None plan tables b = Unit {0}
MaskedSo (Some Arabic) plan tables b = IsSparedAll plan tables b
MaskedSo (Some shaper) plan tables b =
    (masks_by_glyph shaper ≡ true) × MasksOffFlags plan.plan_data

abbrev pub MasksSetInPieces : Type 0
MasksSetInPieces = (shaper : Option hb_ot_shaper_t) (plan : hb_ot_shape_plan_t)
    (tables : CharacterTables) (b : Buffer) → MaskedSo shaper plan tables b →
    MasksInPieces shaper plan tables b

-- what the lookups keep beside a glyph doesn't depend on its cluster, glyph flags or serial
pub record NotesReadOrder (noted : Glyph → GlyphProps) : Type 0 where
  pub viewed : (g : Glyph) → noted g ≡ noted (plain g)
  pub counted : (g : Glyph) → noted g ≡ noted (unnumbered g)

-- A text from its fractions on: its masks, glyphs and notes.
abbrev pub glyphs_made : Preparation → (Glyph → GlyphProps) → Buffer → Buffer
glyphs_made p noted b =
    let masked = masks_set_for p.shaper p.plan p.tables b in
    let featured = map (with_features p.ranges) masked.glyphs in
    text_noted noted (record masked { glyphs = map as_glyph featured })

-- what the law of the whole pipeline needs of it, besides its lookups and pauses: no features in
-- ranges, and numbers of ligatures that are as they should be where they are the same
pub record LeavesAllPieces (numbered : Numbering) (p : Preparation) (noted : Glyph → GlyphProps)
    (r : Substitution) (old : Buffer) : Type 0 where
  pub no_ranges : p.ranges ≡ []
  pub masks : MasksInPieces p.shaper p.plan p.tables old
  pub notes : NotesReadOrder noted
  pub lookups_keep : LookupsKeep r.substituted
  pub numbers : (list : List LigProps) → numbered list list ≡ true
  pub positions : old.positions ≡ []

-- A text from its fractions on, up to the last stage, may be broken at every clear place: what
-- becomes of each piece by itself is what became of it in the text, up to the numbers of ligatures.
abbrev pub PipelineBreaks : Type 0
PipelineBreaks = (numbered : Numbering) (p : Preparation) (noted : Glyph → GlyphProps)
    (r : Substitution) (ss : List Stage) (old new : Buffer) →
    LeavesAllPieces numbered p noted r old →
    let start = glyphs_made p noted old in
    (run : StagesRun r ss start new) → LookupsLeave numbered old r ss start new run →
    AtPauses (PauseLeaves numbered old r.plan r.font) r ss start new run →
    BreaksWhereCleared Buffer CutBufferWhereClear (λ piece made. (one : Buffer) →
    StagesRun r ss (glyphs_made p noted piece) one → AreAsIn numbered made one.glyphs) old
    new.glyphs

-- Two pieces of a text's characters, in either order, that are prepared and normalized to these.
pub record PreparedOf (p : Preparation) (old front back : Buffer) : Type 0 where
  pub before : Buffer
  pub behind : Buffer
  pub pieces : CutBuffer old before behind ⊎ CutBuffer old behind before
  pub first : text_in_fractions p before ≡ front
  pub second : text_in_fractions p behind ≡ back

-- so wherever the text, prepared and normalized, is clear: what the law of the whole needs here
abbrev pub PreparedInPieces : Preparation → Buffer → Type 0
PreparedInPieces p old = (front back : Buffer) →
    CutBufferWhereClear (text_in_fractions p old) front back → PreparedOf p old front back

-- the same from a text's characters on
abbrev pub ShapingBreaks : Type 0
ShapingBreaks = (numbered : Numbering) (p : Preparation) (noted : Glyph → GlyphProps)
    (r : Substitution) (ss : List Stage) (old new : Buffer) → PreparedInPieces p old →
    let text = text_in_fractions p old in
    let start = text_noted noted (text_prepared p old) in
    LeavesAllPieces numbered p noted r text → (run : StagesRun r ss start new) →
    LookupsLeave numbered text r ss start new run →
    AtPauses (PauseLeaves numbered text r.plan r.font) r ss start new run →
    BreaksWhereCleared Buffer (λ whole before behind. CutBuffer whole before behind
    ⊎ CutBuffer whole behind before) (λ piece made. (one : Buffer) →
    StagesRun r ss (text_noted noted (text_prepared p piece)) one →
    AreAsIn numbered made one.glyphs) old new.glyphs

-- what the lookups of a stage make of glyphs, in a buffer that has them
abbrev pub glyphs_looked_up : Substitution → Stage → Buffer → Glyphs →
    Glyphs
glyphs_looked_up r s b gs = (stage_looked_up r s (record b { glyphs = gs })).glyphs

-- A piece, with its spans, by itself: set up, given to the lookups of the stage that ends with the
-- reordering, reordered, with circles as the whole has them, and given to the stages behind.
abbrev pub StagedPiece : Numbering → Substitution → Stage → List Stage → Reordering → Buffer →
    SpannedText → Glyphs → Type 0
StagedPiece numbered r second ss reordering mid piece made = (one two : Buffer) →
    let setup = unsafe_spans piece.spans piece.glyphs in
    let looked = glyphs_looked_up r second mid setup in
    Reordered reordering (record (stage_looked_up r second mid) { glyphs = looked }) one →
    StagesRun r ss one two → AreAsIn numbered made two.glyphs

-- A set-up, the stage that ends with the reordering, and the stages behind: the text that is set up
-- may be broken at every clear place behind the last stage, where the lookups between the two
-- pauses leave halves side by side, numbers of ligatures included, and take no flag.
abbrev pub SyllabicStagesBreak : Pause → Pause →
    (hb_ot_shape_plan_t → Font → Buffer → Reordering) → (Reordering → Buffer → Type 0) → Type 0
SyllabicStagesBreak setup pause by IsSo =
    (numbered : Numbering) (r : Substitution) (second : Stage) (ss : List Stage)
    (spans unread : List Span) (old mid reordered new : Buffer) → LookupsKeep r.substituted →
    ((list : List LigProps) → numbered list list ≡ true) → old.positions ≡ [] →
    IsSpanned spans old →
    Paused setup r.plan r.font spans old mid →
    let between = stage_looked_up r second mid in
    let reordering = by r.plan r.font between in
    LeavesSideBySide (glyphs_looked_up r second mid) mid.glyphs → FlagsKept between.glyphs →
    IsSo reordering between →
    Paused pause r.plan r.font unread between reordered →
    (run : StagesRun r ss reordered new) → LookupsLeave numbered between r ss reordered new run →
    AtPauses (PauseLeaves numbered between r.plan r.font) r ss reordered new run →
    let text : SpannedText = record { spans = spans; glyphs = old.glyphs } in
    BreaksWhereCleared SpannedText CutAtSpans
    (StagedPiece numbered r second ss reordering mid) text new.glyphs

-- so of Khmer and Myanmar, and of Indic up to what follows its initial reordering
abbrev pub ShaperStagesBreak : Type 0
ShaperStagesBreak =
    SyllabicStagesBreak SetupSyllablesKhmer ReorderKhmer by_khmer IsInOrder
    × (SyllabicStagesBreak SetupSyllablesMyanmar ReorderMyanmar (λ plan. by_myanmar) IsInOrder
    × SyllabicStagesBreak SetupSyllablesIndic InitialReordering by_initial IsApart)
