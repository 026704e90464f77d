-- Where a text may be broken that a pause reorders, whatever made it what it is.
use Rattle.std.specs.Prelude.{ℕ, ◌<◌, ◌≡◌, true, List, ◌++◌, All, Option, length}
use Rattle.std.specs.List.{AllByRecursion}
use Rattle.shapers_buffer.specs.Glyphs.{Glyphs}
use Rattle.shapers_buffer.specs.declared.buffer.level.BufferClusterLevel.{BufferClusterLevel}
use Rattle.shapers_buffer.specs.Buffer.{Buffer}
use Rattle.shapers_buffer.specs.Clusters.{least, merges}
use Rattle.shapers_buffer.specs.Glyph.{clusters}
use Rattle.shapers_buffer.specs.Syllables.{syllables}
use Rattle.shapers_clusters.specs.Breaks.{IsClear}
use Rattle.shapers_clusters.specs.Cuts.{IsMonotone, ShareNone}
use Rattle.shapers_clusters.specs.Steps.{Step}
use Rattle.shapers_syllabic.specs.declared.ot_shaper_syllabic.circles.DottedCircles.{DottedCircles}
use Rattle.shapers_syllabic.specs.Borders.{MeetAtBorder}
use Rattle.shapers_syllabic.specs.Circles.{circled}
use Rattle.shapers_syllabic.specs.Reordering.{PauseReordered}
use Rattle.shapers_syllabic.specs.ReorderingLaws.{MoveMerged, PauseOfHalves, ReorderLaws, paused_order}
use Rattle.shapers_break_laws.specs.Setup.{IsFlagged}

-- No break is safe inside a syllable: all its glyphs but those of its least cluster are flagged.
abbrev pub FlaggedInside : Glyphs → Type 0
FlaggedInside syllable = All (λ g. least (clusters syllable) < g.cluster → IsFlagged g) syllable

-- So in a text that its set-up flagged, if nothing since then took a flag from a glyph: neither a
-- merge of clusters nor a ligature that dropped the flags of what it merged.
abbrev pub FlagsKept : Glyphs → Type 0
FlagsKept gs = AllByRecursion FlaggedInside (syllables gs)

-- wherever a text is cut between two of its syllables, the halves share no cluster
abbrev pub SyllablesApart : Glyphs → Type 0
SyllablesApart gs = (before behind : Glyphs) → gs ≡ before ++ behind →
    MeetAtBorder before behind → ShareNone before behind

-- The text may be broken before place p of what a pause made of it. It was cut between two
-- syllables, into halves that share no cluster, of which the first one becomes the p glyphs before
-- that place; and the whole, clusters and glyph flags among it, is what the pause makes of the
-- halves, one after the other.
pub record KeptTextBroken (circles : Option DottedCircles) (meaning : Glyphs →
    Glyphs) (steps : Glyphs →
    List Step) (level : BufferClusterLevel) (old new : Glyphs) (p : ℕ) : Type 0 where
  pub before : Glyphs
  pub behind : Glyphs
  pub text : old ≡ before ++ behind
  pub border : MeetAtBorder before behind
  pub apart : ShareNone before behind
  pub place : length (paused_order circles meaning before) ≡ p
  pub halves : PauseOfHalves circles meaning steps level before behind new

-- so at every clear place
abbrev pub KeptTextBreaks : Option DottedCircles → (Glyphs → Glyphs) →
    (Glyphs → List Step) → BufferClusterLevel → Glyphs →
    Glyphs → Type 0
KeptTextBreaks circles meaning steps level old new =
    (p : ℕ) → 0 < p → p < length new → IsClear new p →
    KeptTextBroken circles meaning steps level old new p

-- A pause that moves only inside what it merged, of any text that kept its flags, where clusters
-- rise or fall along it with its circles, at the levels that merge: whatever lookups did before.
abbrev pub KeptTextBreaksLaw : Type 0
KeptTextBreaksLaw = (meaning : Glyphs → Glyphs)
    (steps : Glyphs → List Step) → ReorderLaws meaning steps → MoveMerged steps →
    (circles : Option DottedCircles) (old new : Buffer) → merges old.level ≡ true →
    FlagsKept old.glyphs → IsMonotone (clusters (circled circles old.glyphs)) →
    PauseReordered circles meaning steps old new →
    KeptTextBreaks circles meaning steps old.level old.glyphs new.glyphs

-- The same, whatever the clusters and the circles, where syllables share no cluster.
abbrev pub KeptTextBreaksApartLaw : Type 0
KeptTextBreaksApartLaw = (meaning : Glyphs → Glyphs)
    (steps : Glyphs → List Step) → ReorderLaws meaning steps → MoveMerged steps →
    (circles : Option DottedCircles) (old new : Buffer) → merges old.level ≡ true →
    FlagsKept old.glyphs → SyllablesApart old.glyphs →
    PauseReordered circles meaning steps old new →
    KeptTextBreaks circles meaning steps old.level old.glyphs new.glyphs
