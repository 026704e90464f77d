-- Clusters that rise, or fall, along the text: what keeps them so.
use Rattle.std.specs.Prelude.{ℕ, ◌≤◌, ◌≡◌, ◌++◌, Bool, true, false, List, length, Option, None, Some}
use Rattle.std.specs.List.{All, AllByRecursion, Contains}
use Rattle.shapers_buffer.specs.Glyphs.{Glyphs}
use Rattle.shapers_buffer.specs.declared.buffer.syllables.Span.{Span}
use Rattle.shapers_buffer.specs.Buffer.{Buffer}
use Rattle.shapers_buffer.specs.Clusters.{merges}
use Rattle.shapers_buffer.specs.Glyph.{clusters}
use Rattle.shapers_buffer.specs.Syllables.{syllables}
use Rattle.shapers_base.specs.declared.plan.hb_ot_shape_plan_t.{hb_ot_shape_plan_t}
use Rattle.shapers_base.specs.declared.plan.pause.Pause.{Pause}
use Rattle.shapers_base.specs.declared.plan.pause.Pause.TheVariants.{InitialReordering, FinalReordering}
use Rattle.shapers_base.specs.Font.{Font}
use Rattle.shapers_clusters.specs.Cuts.{ExactCuts, IsFalling, IsRising, ShareNone}
use Rattle.shapers_clusters.specs.FlagLaw.{OnlyFlagsAdded}
use Rattle.shapers_syllabic.specs.Borders.{MeetAtBorder}
use Rattle.shapers_syllabic.specs.Circles.{circled, rephas_len, with_circles}
use Rattle.shapers_syllabic.specs.declared.ot_shaper_syllabic.circles.DottedCircles.{DottedCircles}
use Rattle.rustybuzz_shapers.specs.Hooks.{MarksKeep, Postprocessed, PreprocessKeeps, Preprocessed}
use Rattle.rustybuzz_shapers.specs.Pauses.{PauseKeeps, pause_circles}
use Rattle.rustybuzz_shapers.specs.declared.shaper.hb_ot_shaper_t.{hb_ot_shaper_t}
use Rattle.rustybuzz_shapers.specs.declared.shaper.hb_ot_shaper_t.TheVariants.{Hangul, Thai}

-- Clusters that rise along the first text rise along the second, and those that fall fall.
abbrev pub StaysMonotone : List ℕ → List ℕ → Type 0
StaysMonotone cs js = (IsRising cs → IsRising js) × (IsFalling cs → IsFalling js)

-- clusters with exact cuts
abbrev pub ExactCutsStayMonotone : Type 0
ExactCutsStayMonotone = (cs : List ℕ) (sts : List (ℕ × ℕ)) (after : List ℕ) →
    ExactCuts cs sts after → StaysMonotone cs after

-- no syllable begins with two rephas, where circles open behind these: the second could be in a
-- greater cluster than the circle behind it
abbrev pub AtMostOneRepha : Option DottedCircles → Glyphs → Type 0
AtMostOneRepha None gs = Unit {0}
AtMostOneRepha (Some rule) gs =
    AllByRecursion (λ syllable. rephas_len rule.repha syllable ≤ 1) (syllables gs)

-- circles, where it is so
abbrev pub CirclesStayMonotone : Type 0
CirclesStayMonotone = (rule : DottedCircles) (gs : Glyphs) →
    AtMostOneRepha (Some rule) gs →
    StaysMonotone (clusters gs) (clusters (with_circles rule gs))

-- whether the pause is a reordering of Indic
abbrev pub reorders_indic : Pause → Bool
reorders_indic InitialReordering = true
reorders_indic FinalReordering = true
reorders_indic _ = false

-- every other pause, at the levels that merge, of the text with the circles that it opens
abbrev pub PausesStayMonotone : Type 0
PausesStayMonotone = (pause : Pause) (plan : hb_ot_shape_plan_t) (font : Font)
    (spans : List Span) (old new : Buffer) →
    reorders_indic pause ≡ false → merges old.level ≡ true →
    PauseKeeps pause plan font spans old new →
    let opened = circled (pause_circles pause plan font old) old.glyphs in
    StaysMonotone (clusters opened) (clusters new.glyphs)

-- marks reordered, at the levels that merge; and masks set, which changes no cluster
abbrev pub MarksStayMonotone : Type 0
MarksStayMonotone = (shaper : hb_ot_shaper_t) (start end : ℕ) (old new : Buffer) →
    merges old.level ≡ true → MarksKeep shaper start end old new →
    StaysMonotone (clusters old.glyphs) (clusters new.glyphs)

abbrev pub MasksStayMonotone : Type 0
MasksStayMonotone = (gs ms : Glyphs) → OnlyFlagsAdded gs ms →
    StaysMonotone (clusters gs) (clusters ms)

-- a Thai or Lao text preprocessed, at the levels that merge
abbrev pub ThaiStaysMonotone : Type 0
ThaiStaysMonotone = (plan : hb_ot_shape_plan_t) (font : Font) (old new : Buffer) →
    merges old.level ≡ true → PreprocessKeeps Thai plan font old new →
    StaysMonotone (clusters old.glyphs) (clusters new.glyphs)

-- and a Hangul text
abbrev pub HangulStaysMonotone : Type 0
HangulStaysMonotone = (plan : hb_ot_shape_plan_t) (font : Font) (old new : Buffer) →
    merges old.level ≡ true → Preprocessed Hangul plan font old new →
    StaysMonotone (clusters old.glyphs) (clusters new.glyphs)

-- and marks stretched
abbrev pub StretchStaysMonotone : Type 0
StretchStaysMonotone =
    (shaper : hb_ot_shaper_t) (plan : hb_ot_shape_plan_t) (font : Font) (old new : Buffer) →
    length old.positions ≡ length old.glyphs → Postprocessed shaper plan font old new →
    StaysMonotone (clusters old.glyphs) (clusters new.glyphs)

-- The reorderings of Indic, where two halves meet at a border of syllables and share no cluster:
-- what the one becomes has clusters of that half alone, and so has the other. So where clusters
-- rise, those of a later syllable stay above those of an earlier one.
abbrev pub IndicKeepsHalves : Type 0
IndicKeepsHalves = (pause : Pause) (plan : hb_ot_shape_plan_t) (font : Font)
    (spans : List Span) (old new : Buffer) →
    reorders_indic pause ≡ true → PauseKeeps pause plan font spans old new →
    (gs hs : Glyphs) → old.glyphs ≡ gs ++ hs → MeetAtBorder gs hs → ShareNone gs hs →
    (xs : List ℕ) × ((ys : List ℕ) × ((clusters new.glyphs ≡ xs ++ ys)
    × (All (Contains (clusters gs)) xs × All (Contains (clusters hs)) ys)))
