-- The laws of reordering syllable by syllable, as statements.
use Rattle.std.specs.Prelude.{ℕ, ◌≡◌, List, Option, ◌++◌, length, map, ◌≤◌, All, true}
use Rattle.std.specs.List.{AllByRecursion}
use Rattle.std.specs.List.Sorted.{IsPermutation}
use Rattle.shapers_buffer.specs.Glyphs.{Glyph, Glyphs}
use Rattle.shapers_buffer.specs.declared.buffer.level.BufferClusterLevel.{BufferClusterLevel}
use Rattle.shapers_buffer.specs.declared.buffer.syllables.Span.{Span}
use Rattle.shapers_buffer.specs.Syllables.{spans_cover}
use Rattle.shapers_buffer.specs.Buffer.{Buffer}
use Rattle.shapers_buffer.specs.Glyph.{clusters, order_view}
use Rattle.shapers_buffer.specs.Places.{pick}
use Rattle.shapers_clusters.specs.Cuts.{ShareNone}
use Rattle.shapers_clusters.specs.Flags.{seen}
use Rattle.shapers_clusters.specs.Laws.{ReorderedHold, SeenStepsHold}
use Rattle.shapers_clusters.specs.Steps.{FitSteps, MovesMerged, Permutes, Step, joined_steps, old_places, after_steps}
use Rattle.shapers_syllabic.specs.declared.ot_shaper_syllabic.circles.DottedCircles.{DottedCircles}
use Rattle.shapers_syllabic.specs.Borders.{MeetAtBorder, SameButSerials, spans_setup, unnumbered}
use Rattle.shapers_syllabic.specs.Circles.{circled}
use Rattle.shapers_syllabic.specs.Reordering.{PauseReordered, SyllablesReordered, carried, text_order, text_steps}

-- What an instance of `Reorder` has to prove of its syllables and of the steps that lead there:
-- the steps fit the syllable and take each of its places once, and to the view of what is carried
-- along the syllable becomes what stood at their old places.
pub record ReorderLaws (meaning : Glyphs →
    Glyphs) (steps : Glyphs → List Step) : Type 0 where
  pub fits : (gs : Glyphs) → FitSteps (length gs) (steps gs)
  pub permutes : (gs : Glyphs) → AllByRecursion (Permutes (length gs)) (steps gs)
  pub agrees : (gs : Glyphs) →
      seen carried (meaning gs) ≡ pick (old_places (length gs) (steps gs)) (seen carried gs)

-- The text order loses nothing: what is carried along, and glyph numbers alone, are those of the
-- text in some order.
pub record NothingLost (meaning : Glyphs →
    Glyphs) (gs : Glyphs) : Type 0 where
  pub kept : IsPermutation (seen carried gs) (seen carried (text_order meaning gs))
  pub numbers : IsPermutation (map (λ g. g.glyph_id) gs)
      (map (λ g. g.glyph_id) (text_order meaning gs))

abbrev pub ReorderingLosesNothing : Type 0
ReorderingLosesNothing =
    (meaning : Glyphs → Glyphs)
    (steps : Glyphs → List Step) →
    ReorderLaws meaning steps → (gs : Glyphs) → NothingLost meaning gs

-- the steps of each syllable move only inside what they merged first
abbrev pub MoveMerged : (Glyphs → List Step) → Type 0
MoveMerged steps = (gs : Glyphs) → AllByRecursion (MovesMerged (length gs)) (steps gs)

-- What holds of any text whose syllables are reordered: no glyph is lost, and the laws of steps,
-- through the view. If the steps of each syllable move only inside what they merged first: the laws
-- of a hook that reorders, exact cuts and the cluster law among them.
pub record TextReordered (steps : Glyphs →
    List Step) (old new : Buffer) : Type 0 where
  pub kept : IsPermutation (seen carried old.glyphs) (seen carried new.glyphs)
  pub glyphs : SeenStepsHold carried old.level (text_steps steps (order_view old.glyphs)) old.glyphs
      new.glyphs
  pub merged : MoveMerged steps →
      ReorderedHold carried old.level (text_steps steps (order_view old.glyphs)) old.glyphs
      new.glyphs

abbrev pub TextReorderedLaw : Type 0
TextReorderedLaw = (meaning : Glyphs → Glyphs)
    (steps : Glyphs → List Step) (old new : Buffer) →
    ReorderLaws meaning steps → SyllablesReordered meaning steps old new →
    TextReordered steps old new

-- what a reordering pause makes of a text: its order view; and what is carried along
abbrev pub paused_order : Option DottedCircles → (Glyphs → Glyphs) →
    Glyphs → Glyphs
paused_order circles meaning gs = text_order meaning (order_view (circled circles gs))

abbrev pub paused_carried : Option DottedCircles → (Glyphs → List Step) →
    BufferClusterLevel → Glyphs → Glyphs
paused_carried circles steps level gs =
    map carried (after_steps level (text_steps steps (order_view (circled circles gs)))
    (circled circles gs))

-- and its clusters
abbrev pub paused_clusters : Option DottedCircles → (Glyphs → List Step) →
    BufferClusterLevel → Glyphs → List ℕ
paused_clusters circles steps level gs =
    joined_steps level (text_steps steps (order_view (circled circles gs)))
    (clusters (circled circles gs))

-- A text cut at a border of syllables: the order view after the pause is the halves' joined. Where
-- they share no cluster, so is all that is carried along, clusters and glyph flags among it.
pub record PauseOfHalves (circles : Option DottedCircles) (meaning : Glyphs →
    Glyphs) (steps : Glyphs →
    List Step) (level : BufferClusterLevel) (gs hs new : Glyphs) : Type 0 where
  pub order : order_view new ≡ paused_order circles meaning gs ++ paused_order circles meaning hs
  pub moved : ShareNone gs hs →
      map carried new
      ≡ paused_carried circles steps level gs ++ paused_carried circles steps level hs

-- so at every border of the buffer's syllables
abbrev pub PauseCutsAtBorders : Option DottedCircles →
    (Glyphs → Glyphs) → (Glyphs → List Step) → Buffer →
    Buffer → Type 0
PauseCutsAtBorders circles meaning steps old new =
    (gs hs : Glyphs) → old.glyphs ≡ gs ++ hs → MeetAtBorder gs hs →
    PauseOfHalves circles meaning steps old.level gs hs new.glyphs

abbrev pub ReorderingCutsAtBorders : Type 0
ReorderingCutsAtBorders =
    (circles : Option DottedCircles) (meaning : Glyphs → Glyphs)
    (steps : Glyphs → List Step) (old new : Buffer) →
    ReorderLaws meaning steps → PauseReordered circles meaning steps old new →
    PauseCutsAtBorders circles meaning steps old new

-- An instance that reads the kinds of syllables and not their serials: of the same syllable but for
-- serials it makes the same but for serials, by the same steps.
pub record ReadsNoSerials (meaning : Glyphs →
    Glyphs) (steps : Glyphs → List Step) : Type 0 where
  pub meant : (gs hs : Glyphs) → map unnumbered gs ≡ map unnumbered hs →
      map unnumbered (meaning gs) ≡ map unnumbered (meaning hs)
  pub led : (gs hs : Glyphs) → map unnumbered gs ≡ map unnumbered hs →
      steps gs ≡ steps hs

-- the glyph with a mask that is made of its own
abbrev pub with_mask_by : (ℕ → ℕ) → Glyph → Glyph
with_mask_by f g = record g { mask = f g.mask }

-- An instance that reads no masks: of a syllable with other masks it makes the same, each glyph
-- with its own, by the same steps.
pub record ReadsNoMasks (meaning : Glyphs →
    Glyphs) (steps : Glyphs → List Step) : Type 0 where
  pub meant : (f : ℕ → ℕ) (gs : Glyphs) →
      meaning (map (with_mask_by f) gs) ≡ map (with_mask_by f) (meaning gs)
  pub led : (f : ℕ → ℕ) (gs : Glyphs) → steps (map (with_mask_by f) gs) ≡ steps gs

-- A pause of such an instance, circles among it, makes the same of texts that are the same but for
-- serials.
pub record SameButSerialsAfter (circles : Option DottedCircles) (meaning : Glyphs →
    Glyphs) (steps : Glyphs →
    List Step) (level : BufferClusterLevel) (gs hs : Glyphs) : Type 0 where
  pub order : map unnumbered (paused_order circles meaning gs)
      ≡ map unnumbered (paused_order circles meaning hs)
  pub moved : map unnumbered (paused_carried circles steps level gs)
      ≡ map unnumbered (paused_carried circles steps level hs)

abbrev pub SerialsDontCount : Type 0
SerialsDontCount = (circles : Option DottedCircles)
    (meaning : Glyphs → Glyphs)
    (steps : Glyphs → List Step) (level : BufferClusterLevel)
    (gs hs : Glyphs) →
    ReadsNoSerials meaning steps → SameButSerials gs hs →
    SameButSerialsAfter circles meaning steps level gs hs

-- Spans set up, and a reordering pause directly after, cut between two spans: order view, and where
-- the halves share no cluster all that is carried along, are those of the halves, set up and
-- reordered each for itself, one after the other, but for serials.
pub record SetupAndPauseOfHalves (circles : Option DottedCircles) (meaning : Glyphs →
    Glyphs) (steps : Glyphs →
    List Step) (ss ts : List Span) (broken_kind : ℕ) (gs hs : Glyphs) (old new :
    Buffer) : Type 0 where
  pub order : map unnumbered (order_view new.glyphs)
      ≡ map unnumbered (paused_order circles meaning
      (spans_setup ss broken_kind (record old { glyphs = gs })).glyphs)
      ++ map unnumbered (paused_order circles meaning
      (spans_setup ts broken_kind (record old { glyphs = hs })).glyphs)
  pub moved : ShareNone gs hs →
      map unnumbered (map carried new.glyphs)
      ≡ map unnumbered (paused_carried circles steps old.level
      (spans_setup ss broken_kind (record old { glyphs = gs })).glyphs)
      ++ map unnumbered (paused_carried circles steps old.level
      (spans_setup ts broken_kind (record old { glyphs = hs })).glyphs)

abbrev pub PausesCutAtSpans : Type 0
PausesCutAtSpans = (circles : Option DottedCircles)
    (meaning : Glyphs → Glyphs)
    (steps : Glyphs → List Step) (spans : List Span) (broken_kind : ℕ)
    (old new : Buffer) →
    ReorderLaws meaning steps → ReadsNoSerials meaning steps → All (λ span. span.kind ≤ 15) spans →
    PauseReordered circles meaning steps (spans_setup spans broken_kind old) new →
    (ss ts : List Span) (gs hs : Glyphs) →
    spans ≡ ss ++ ts → old.glyphs ≡ gs ++ hs → spans_cover (length gs) ss ≡ true →
    spans_cover (length hs) ts ≡ true →
    SetupAndPauseOfHalves circles meaning steps ss ts broken_kind gs hs old new
