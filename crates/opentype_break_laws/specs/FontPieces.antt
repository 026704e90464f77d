-- What a font's lookups leave of a text's pieces.
use Rattle.std.specs.Prelude.{ℕ, ◌%◌, ◌≡◌, ◌⊎◌, true, List, [], ◌∷◌}
use Rattle.std.specs.List.{AllByRecursion}
use Rattle.shapers_buffer.specs.Buffer.{Buffer}
use Rattle.shapers_buffer.specs.declared.buffer.lig_props.LigProps.{LigProps}
use Rattle.opentype_face.specs.Lookups.{lookup_in}
use Rattle.opentype_font.specs.Lookups.{noted_by, substituted_by, use_for}
use Rattle.opentype_gsub.specs.Presence.{is_left}
use Rattle.shapers_break_laws.specs.Pieces.{BreaksWhereCleared}
use Rattle.shapers_editing.specs.PipelineBreaks.{AreAsIn, CutBufferWhereClear, LookupLeaves, LookupsLeave, MasksInPieces, Numbering, PauseLeaves, glyphs_made}
use Rattle.shapers_pipeline.specs.ClusterLaws.{AtPauses}
use Rattle.shapers_pipeline.specs.Lookups.{lookups_of_stage}
use Rattle.shapers_pipeline.specs.Prepared.{Preparation}
use Rattle.shapers_pipeline.specs.Stages.{StagesRun, Substitution}
use Rattle.shapers_plan.specs.declared.ot_map.lookups.Stage.{Stage}
use Rattle.shapers_plan.specs.declared.ot_map.lookups.StageLookup.{StageLookup}
use Rattle.opentype_break_laws.specs.OneForOne.{PutOneForOne}
use Rattle.opentype_break_laws.specs.OrderedTexts.{PutsLigatures, TakesLigatures}
use Rattle.opentype_break_laws.specs.Sequences.{ComparesNumbers, ComparesPresence, PutsSequences, TakesSequences}

-- A lookup of a plan puts one glyph for one, by a font's GSUB. Its mask has no glyph flag, as the
-- masks of features never have.
pub record PutsOneForOne (gsub : List ℕ) (lookup : StageLookup) : Type 0 where
  pub table : PutOneForOne lookup.random (lookup_in gsub lookup.index)
  pub flagless : lookup.mask % 8 ≡ 0

-- A lookup begins nowhere in a text: each glyph has no bit of its mask, or no subtable begins with
-- it. This is of lookups of every type.
pub record BeginsNowhere (gsub : List ℕ) (lookup : StageLookup) (b : Buffer) : Type 0 where
  pub flagless : lookup.mask % 8 ≡ 0
  pub left : AllByRecursion (λ g.
      is_left (use_for lookup) (lookup_in gsub lookup.index) g ≡ true) b.glyphs

-- A lookup puts ligatures into a text that takes them piece by piece, by whoever compares no
-- numbers of ligatures, or whether there is one and nothing else.
pub record LigatesPieces (numbered : Numbering) (text : Buffer) (gsub : List ℕ)
    (lookup : StageLookup) (b : Buffer) : Type 0 where
  pub puts : PutsLigatures gsub lookup
  pub takes : TakesLigatures text b
  pub compared : ((xs ys : List LigProps) → numbered xs ys ≡ true) ⊎ ComparesPresence numbered

-- A lookup puts sequences into a text that takes them piece by piece, by whoever compares numbers
-- of ligatures so that it shows which glyph has one.
pub record SpreadsPieces (numbered : Numbering) (text : Buffer) (gsub : List ℕ)
    (lookup : StageLookup) (b : Buffer) : Type 0 where
  pub puts : PutsSequences gsub lookup
  pub takes : TakesSequences text gsub lookup b
  pub compared : ComparesNumbers numbered

-- a lookup that does one of these in a text
abbrev pub GoesByPieces : Numbering → Buffer → List ℕ → StageLookup → Buffer → Type 0
GoesByPieces numbered text gsub lookup b = PutsOneForOne gsub lookup
    ⊎ (BeginsNowhere gsub lookup b ⊎ (LigatesPieces numbered text gsub lookup b
    ⊎ SpreadsPieces numbered text gsub lookup b))

-- Such a lookup leaves the pieces' results of the text side by side, whatever flags the pieces
-- want.
abbrev pub FontLookupsLeavePieces : Type 0
FontLookupsLeavePieces = (numbered : Numbering) (text : Buffer) (gdef gsub : List ℕ)
    (lookup : StageLookup) (b : Buffer) → GoesByPieces numbered text gsub lookup b →
    LookupLeaves numbered text (substituted_by gdef gsub) lookup b

-- what holds of lookups one after another, each at the text that those before it made
abbrev pub EachAt : (StageLookup → Buffer → Type 0) → (StageLookup → Buffer → Buffer) →
    List StageLookup → Buffer → Type 0
EachAt P substituted [] b = Unit {0}
EachAt P substituted (x ∷ xs) b = P x b × EachAt P substituted xs (substituted x b)

-- of the lookups of these stages, each at its text of this run
abbrev pub AtLookups : (StageLookup → Buffer → Type 0) → (r : Substitution) → (ss : List Stage) →
    (old new : Buffer) → StagesRun r ss old new → Type 0
AtLookups P r [] old new run = Unit {0}
AtLookups P r (s ∷ ss) old new run =
    EachAt P r.substituted (lookups_of_stage s r.list) old × AtLookups P r ss run.0 new run.1.1

-- so of a font's run, where each lookup is such at its text
abbrev pub FontRunsLeavePieces : Type 0
FontRunsLeavePieces = (numbered : Numbering) (text : Buffer) (gdef gsub : List ℕ)
    (r : Substitution) (ss : List Stage) (old new : Buffer) →
    r.substituted ≡ substituted_by gdef gsub → (run : StagesRun r ss old new) →
    AtLookups (GoesByPieces numbered text gsub) r ss old new run →
    LookupsLeave numbered text r ss old new run

-- in every text, where the plan has no lookups but those that put one glyph for one
abbrev pub OneForOneGoesByPieces : Type 0
OneForOneGoesByPieces = (numbered : Numbering) (text : Buffer) (gsub : List ℕ) (r : Substitution)
    (ss : List Stage) (old new : Buffer) → AllByRecursion (PutsOneForOne gsub) r.list →
    (run : StagesRun r ss old new) → AtLookups (GoesByPieces numbered text gsub) r ss old new run

-- what the law of a font's whole text needs of it, besides its lookups and pauses: the lookups are
-- the font's, no features in ranges, masks that are set piece by piece, no positions yet
pub record IsShapedByFont (p : Preparation) (gdef gsub : List ℕ) (r : Substitution)
    (old : Buffer) : Type 0 where
  pub font : r.substituted ≡ substituted_by gdef gsub
  pub no_ranges : p.ranges ≡ []
  pub masks : MasksInPieces p.shaper p.plan p.tables old
  pub positions : old.positions ≡ []

-- A text that is shaped by such a font, from its fractions on and up to the last stage, may be
-- broken at every clear place: what becomes of each piece by itself is what became of it in the
-- text.
abbrev pub FontTextsBreak : Type 0
FontTextsBreak = (numbered : Numbering) (p : Preparation) (gdef gsub : List ℕ)
    (r : Substitution) (ss : List Stage) (old new : Buffer) → IsShapedByFont p gdef gsub r old →
    ((list : List LigProps) → numbered list list ≡ true) →
    let start = glyphs_made p (noted_by gdef) old in
    (run : StagesRun r ss start new) →
    AtLookups (GoesByPieces numbered old gsub) r ss start new run →
    AtPauses (PauseLeaves numbered old r.plan r.font) r ss start new run →
    BreaksWhereCleared Buffer CutBufferWhereClear (λ piece made. (one : Buffer) →
    StagesRun r ss (glyphs_made p (noted_by gdef) piece) one → AreAsIn numbered made one.glyphs) old
    new.glyphs
