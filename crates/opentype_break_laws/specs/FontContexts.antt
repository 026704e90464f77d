-- What a font's contexts leave of a text's pieces.
use Rattle.std.specs.Prelude.{ℕ, ◌*◌, ◌≤◌, ◌⊎◌, List, length}
use Rattle.std.specs.List.{AllByRecursion}
use Rattle.shapers_buffer.specs.Buffer.{Buffer}
use Rattle.shapers_buffer.specs.Glyphs.{Glyphs}
use Rattle.shapers_break_laws.specs.Pieces.{BreaksWhereCleared, CutWhereClear}
use Rattle.shapers_editing.specs.PipelineBreaks.{AreAsIn, IsPiece, Numbering}
use Rattle.shapers_pipeline.specs.Lookups.{looked_up}
use Rattle.shapers_plan.specs.declared.ot_map.lookups.StageLookup.{StageLookup}
use Rattle.opentype_font.specs.Lookups.{substituted_by, use_for}
use Rattle.opentype_break_laws.specs.Contexts.{FlagsWhatItReads, HasFeature, HasOperations, PutsInContext, TakesContexts}
use Rattle.opentype_break_laws.specs.FontPieces.{EachAt, PutsOneForOne}
use Rattle.opentype_break_laws.specs.OrderedTexts.{HasNoComponents}

-- A lookup of contexts leaves the pieces' results of a text side by side that takes contexts piece
-- by piece: wherever the text that the lookup made is clear, the text before was, and the parts are
-- made of its pieces. The pieces have operations for a rule at each glyph, too.
abbrev pub ContextsLeavePieces : Type 0
ContextsLeavePieces = (numbered : Numbering) (text : Buffer) (gdef gsub : List ℕ)
    (lookup : StageLookup) (b : Buffer) (most : ℕ) → PutsInContext most gsub (use_for lookup) →
    TakesContexts most gdef gsub (use_for lookup) b → BreaksWhereCleared Glyphs CutWhereClear
    (λ piece made. (one : Buffer) → IsPiece numbered text piece one → HasOperations most one →
    AreAsIn numbered made (substituted_by gdef gsub lookup one).glyphs) b.glyphs
    (substituted_by gdef gsub lookup b).glyphs

-- In a text of at most 255 glyphs each rule flags what it looked at.
abbrev pub ShortTextsFlag : Type 0
ShortTextsFlag = (gdef gsub : List ℕ) (lookup : StageLookup) (b : Buffer) (most : ℕ) →
    PutsInContext most gsub (use_for lookup) → HasNoComponents b.glyphs →
    AllByRecursion HasFeature b.glyphs → length b.glyphs ≤ 255 → HasOperations most b →
    FlagsWhatItReads gdef gsub (use_for lookup) b

-- a lookup that puts one glyph for one, or such a lookup of contexts, in its text
abbrev pub PutsOneOrInContext : ℕ → List ℕ → List ℕ → StageLookup → Buffer → Type 0
PutsOneOrInContext most gdef gsub lookup b = PutsOneForOne gsub lookup
    ⊎ (PutsInContext most gsub (use_for lookup) × TakesContexts most gdef gsub (use_for lookup) b)

-- Such lookups, one after another, leave the pieces' results side by side, where the pieces have
-- operations for a rule of each lookup at each glyph. A text begins with 4,096 for each glyph.
abbrev pub ContextRunsLeavePieces : Type 0
ContextRunsLeavePieces = (numbered : Numbering) (text : Buffer) (gdef gsub : List ℕ) (most : ℕ)
    (list : List StageLookup) (b : Buffer) →
    EachAt (PutsOneOrInContext most gdef gsub) (substituted_by gdef gsub) list b →
    BreaksWhereCleared Glyphs CutWhereClear
    (λ piece made. (one : Buffer) → IsPiece numbered text piece one →
    HasOperations (most * length list) one →
    AreAsIn numbered made (looked_up (substituted_by gdef gsub) list one).glyphs) b.glyphs
    (looked_up (substituted_by gdef gsub) list b).glyphs
