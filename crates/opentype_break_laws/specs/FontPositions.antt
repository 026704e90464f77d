-- What a font's lookups of GPOS leave of the positions of a text's pieces.
use Rattle.std.specs.Prelude.{ℕ, ◌%◌, ◌<◌, ◌≡◌, ◌⊎◌, true, List, length}
use Rattle.std.specs.List.{AllByRecursion}
use Rattle.shapers_buffer.specs.Buffer.{Buffer}
use Rattle.shapers_buffer.specs.Glyphs.{Glyphs}
use Rattle.shapers_break_laws.specs.Pieces.{CutWhereClear}
use Rattle.shapers_editing.specs.PipelineBreaks.{IsPiece, Numbering, PauseLeaves}
use Rattle.shapers_pipeline.specs.ClusterLaws.{AtPauses}
use Rattle.shapers_pipeline.specs.Lookups.{looked_up}
use Rattle.shapers_pipeline.specs.Positioned.{Positioning, lookups_if, text_advanced, text_narrowed}
use Rattle.shapers_pipeline.specs.Stages.{StagesRun, Substitution}
use Rattle.shapers_plan.specs.declared.ot_map.lookups.Stage.{Stage}
use Rattle.shapers_plan.specs.declared.ot_map.lookups.StageLookup.{StageLookup}
use Rattle.opentype_face.specs.Lookups.{lookup_in, subtables_in, type_in}
use Rattle.opentype_layout.specs.Starts.{IsPassed}
use Rattle.opentype_gpos.specs.Finished.{finished}
use Rattle.opentype_font.specs.Lookups.{is_gdef_mark, positioned_by, substituted_by}
use Rattle.opentype_break_laws.specs.FontPieces.{AtLookups, EachAt, GoesByPieces}
use Rattle.opentype_break_laws.specs.Pairs.{IsShortText, MovesPairs, TakesPairs}
use Rattle.opentype_break_laws.specs.PlacedPieces.{BreaksWherePlaced, IsPlacedPiece, IsPaired, LeavesPositions, placed_in}

-- A lookup of a plan adjusts single glyphs, by a font's GPOS: all subtables of its table are of
-- type 1. Its mask has no glyph flag, as the masks of features never have.
pub record AdjustsSingles (gpos : List ℕ) (lookup : StageLookup) : Type 0 where
  pub types : (i : ℕ) → i < subtables_in (lookup_in gpos lookup.index) →
      type_in 9 (lookup_in gpos lookup.index) i ≡ 1
  pub flagless : lookup.mask % 8 ≡ 0

-- A lookup moves nothing in a text: each glyph has no bit of its mask, or no subtable begins with
-- it. This is of lookups of every type.
pub record MovesNothing (gpos : List ℕ) (lookup : StageLookup) (b : Buffer) : Type 0 where
  pub flagless : lookup.mask % 8 ≡ 0
  pub passed : AllByRecursion (IsPassed true (lookup_in gpos lookup.index) lookup.mask) b.glyphs

-- a lookup that does one of these in a text, or moves its pairs
abbrev pub MovesByPieces : List ℕ → List ℕ → StageLookup → Buffer → Type 0
MovesByPieces gdef gpos lookup b = AdjustsSingles gpos lookup ⊎ (MovesNothing gpos lookup b
    ⊎ (MovesPairs gpos lookup × TakesPairs gdef gpos lookup b))

-- Such a lookup leaves the positions of the text's pieces side by side.
abbrev pub FontLookupsLeavePositions : Type 0
FontLookupsLeavePositions = (numbered : Numbering) (text : Buffer) (gdef gpos : List ℕ)
    (lookup : StageLookup) (b : Buffer) → IsPaired text b → MovesByPieces gdef gpos lookup b →
    LeavesPositions numbered text (positioned_by gdef gpos lookup) b

-- so do lookups one after another, each such at the text that those before it made
abbrev pub FontRunsLeavePositions : Type 0
FontRunsLeavePositions = (numbered : Numbering) (text : Buffer) (gdef gpos : List ℕ)
    (list : List StageLookup) (b : Buffer) → IsPaired text b →
    EachAt (MovesByPieces gdef gpos) (positioned_by gdef gpos) list b →
    LeavesPositions numbered text (looked_up (positioned_by gdef gpos) list) b

-- in every text, where the plan has no lookups but those that adjust single glyphs
abbrev pub SinglesMoveByPieces : Type 0
SinglesMoveByPieces = (gdef gpos : List ℕ) (list : List StageLookup) (b : Buffer) →
    AllByRecursion (AdjustsSingles gpos) list →
    EachAt (MovesByPieces gdef gpos) (positioned_by gdef gpos) list b

-- and in every short text without ignorable glyphs, where it has none but those and lookups of
-- pairs
abbrev pub ShortTextsMoveByPieces : Type 0
ShortTextsMoveByPieces = (gdef gpos : List ℕ) (list : List StageLookup) (b : Buffer) →
    AllByRecursion (λ lookup. AdjustsSingles gpos lookup ⊎ MovesPairs gpos lookup) list →
    length b.positions ≡ length b.glyphs → IsShortText b →
    EachAt (MovesByPieces gdef gpos) (positioned_by gdef gpos) list b

-- a text is positioned by a font's lookups, and marks are marks by its GDEF
pub record IsPlacedByFont (p : Positioning) (gdef gpos : List ℕ) : Type 0 where
  pub lookups : p.positioned ≡ positioned_by gdef gpos
  pub attachments : p.finished ≡ finished
  pub marks : p.is_mark ≡ is_gdef_mark

-- a text behind GPOS, with marks and ignorable glyphs without widths, and what is attached in its
-- place; it hasn't been turned to its drawing order yet
abbrev pub text_placed : Positioning → Buffer → Buffer
text_placed p b = p.finished (text_narrowed p b)

-- A text without positions that such lookups of a font position may be broken at every clear place:
-- each piece by itself gets the positions of its part, from its advances on and up to attachments.
abbrev pub FontPositionsBreak : Type 0
FontPositionsBreak = (numbered : Numbering) (text : Buffer) (p : Positioning)
    (gdef gpos : List ℕ) (b : Buffer) → IsPlacedByFont p gdef gpos →
    b.direction ≡ text.direction → let list = lookups_if p.applies_gpos p.list in
    EachAt (MovesByPieces gdef gpos) p.positioned list (text_advanced p b) →
    BreaksWherePlaced Glyphs CutWhereClear (λ piece made. (one : Buffer) →
    IsPiece numbered text piece one → IsPlacedPiece numbered text made (text_placed p one)) b.glyphs
    (placed_in (text_placed p b))

-- So may a text that lookups of the font substitute in stages before, each of which leaves the
-- pieces of its text, as do the pauses: each piece goes through the same stages by itself, and gets
-- the positions of its part.
abbrev pub FontStagesBreak : Type 0
FontStagesBreak = (numbered : Numbering) (text : Buffer) (gdef gsub gpos : List ℕ)
    (r : Substitution) (ss : List Stage) (p : Positioning) (old new : Buffer) →
    r.substituted ≡ substituted_by gdef gsub → IsPlacedByFont p gdef gpos →
    new.direction ≡ text.direction → (run : StagesRun r ss old new) →
    AtLookups (GoesByPieces numbered text gsub) r ss old new run →
    AtPauses (PauseLeaves numbered text r.plan r.font) r ss old new run →
    let list = lookups_if p.applies_gpos p.list in
    EachAt (MovesByPieces gdef gpos) p.positioned list (text_advanced p new) →
    BreaksWherePlaced Glyphs CutWhereClear (λ piece made. (one two : Buffer) →
    IsPiece numbered text piece one → StagesRun r ss one two →
    IsPlacedPiece numbered text made (text_placed p two)) old.glyphs (placed_in (text_placed p new))
