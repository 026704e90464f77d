-- The laws of the final reordering of a text, as statements.
use Rattle.std.specs.Prelude.{ℕ, Bool, ◌+◌, ◌==◌, ◌&&◌, ◌||◌, ◌%◌, ◌≡◌, ◌≤◌, ◌<◌, ◌⊎◌, bit_or, false, true, List, [], ◌∷◌, ◌++◌, length, map, get_or, Option, None}
use Rattle.std.specs.List.{AllByRecursion, AllZip}
use Rattle.std.specs.List.Sorted.{IsPermutation}
use Rattle.shapers_buffer.specs.Glyphs.{Glyph, Glyphs}
use Rattle.shapers_buffer.specs.declared.buffer.level.BufferClusterLevel.{BufferClusterLevel}
use Rattle.shapers_buffer.specs.declared.buffer.tag.Script.{Script}
use Rattle.shapers_buffer.specs.Buffer.{Buffer}
use Rattle.shapers_buffer.specs.Glyph.{clusters, default_glyph, order_view}
use Rattle.shapers_buffer.specs.GlyphFlags.{with_bits}
use Rattle.shapers_buffer.specs.Places.{pick}
use Rattle.shapers_clusters.specs.Cuts.{OneAlong, ShareNone}
use Rattle.shapers_clusters.specs.Flags.{FlagsFall, seen}
use Rattle.shapers_buffer.specs.Clusters.{merges}
use Rattle.shapers_indic_final.specs.FinalClusters.{EachSyllableCuts}
use Rattle.shapers_clusters.specs.Laws.{ClustersHold, SeenStepsHold}
use Rattle.shapers_clusters.specs.Steps.{Step, all_merged, joined_steps, old_places}
use Rattle.shapers_indic_final.specs.FinalCuts.{uninitiated}
use Rattle.shapers_indic_final.specs.FinalWordStart.{FinallyReordered, final_syllables, final_text, is_bound, last_or, with_inits}
use Rattle.shapers_indic_final.specs.FinalReordering.{final_order, final_steps}
use Rattle.shapers_indic_final.specs.declared.ot_shaper_indic_final.rules.Rules.{Rules}
use Rattle.shapers_syllabic.specs.Borders.{MeetAtBorder, SameButSerials, unnumbered}
use Rattle.shapers_syllabic.specs.Reordering.{carried, text_order, text_steps}
use Rattle.shapers_syllabic.specs.ReorderingLaws.{ReadsNoSerials, ReorderLaws}
use Rattle.shapers_syllabic.specs.SpanCuts.{CutsAtBorders}

-- the order and the steps of a syllable keep the laws of reorderings
abbrev pub FinalReorderLaws : Type 0
FinalReorderLaws =
    (r : Rules) (script : Option Script) → ReorderLaws (final_order r script) (final_steps r script)

-- no serial of a syllable is read
abbrev pub FinalReadsNoSerials : Type 0
FinalReadsNoSerials = (r : Rules) (script : Option Script) →
    ReadsNoSerials (final_order r script) (final_steps r script)

-- the steps of all syllables of a text
abbrev pub final_text_steps : Rules → Option Script → Glyphs → List Step
final_text_steps r script gs = text_steps (final_steps r script) (order_view gs)

-- what a text becomes behind a glyph, which decides on init at its start alone
abbrev pub final_text_behind : Rules → Option Script → Option Glyph →
    Glyphs → Glyphs
final_text_behind r script before gs = with_inits r.init before (final_syllables r script gs)

-- The clusters of a text after the steps of its syllables.
abbrev pub final_clusters : Rules → Option Script → BufferClusterLevel → Glyphs →
    List ℕ
final_clusters r script level gs = joined_steps level (final_text_steps r script gs) (clusters gs)

-- Texts that are the same but for serials become the same but for serials, whatever stands before
-- both, by the same clusters.
pub record SameButSerialsFinally (r : Rules) (script : Option Script)
    (gs hs : Glyphs) : Type 0 where
  pub order : (before : Option Glyph) →
      map unnumbered (final_text_behind r script before gs)
      ≡ map unnumbered (final_text_behind r script before hs)
  pub in_clusters : (level : BufferClusterLevel) →
      final_clusters r script level gs ≡ final_clusters r script level hs

abbrev pub FinalTextReadsNoSerials : Type 0
FinalTextReadsNoSerials =
    (r : Rules) (script : Option Script) (gs hs : Glyphs) → SameButSerials gs hs →
    SameButSerialsFinally r script gs hs

-- Glyph flags: no cluster rises; if it fell they are gone, else kept; an unsafe break may come.
pub record FlagsFallButBreaks (old new : Glyph) : Type 0 where
  pub at_most : new.cluster ≤ old.cluster
  pub fell : new.cluster < old.cluster → (new.mask % 8 ≡ 0) ⊎ (new.mask % 8 ≡ 3)
  pub kept : new.cluster ≡ old.cluster →
      (new.mask % 8 ≡ old.mask % 8) ⊎ (new.mask % 8 ≡ bit_or (old.mask % 8) 3)

-- whether none of these syllables is opened inside a word, behind a glyph
abbrev pub BreaksNowhere : Option Glyph → List Glyphs → Type 0
BreaksNowhere before [] = Unit {0}
BreaksNowhere before (syl ∷ syls) =
    (is_bound before syl ≡ false) × BreaksNowhere (last_or before syl) syls

-- whether place i is the first of a syllable, from place s on, opened inside a word, or before it
abbrev pub at_syllable_start : ℕ → Option Glyph → List Glyphs → ℕ → Bool
at_syllable_start s before [] i = false
at_syllable_start s before (syl ∷ syls) i =
    is_bound before syl && (i == s || i + 1 == s)
    || at_syllable_start (s + length syl) (last_or before syl) syls i

-- the glyphs with these bits in the mask of the first; lists that differ in these alone
abbrev pub with_first_bits : ℕ → Glyphs → Glyphs
with_first_bits bits [] = []
with_first_bits bits (g ∷ gs) = with_bits bits g ∷ gs

abbrev pub SameButFirstBits : ℕ → Glyphs → Glyphs → Type 0
SameButFirstBits bits xs ys = with_first_bits bits xs ≡ with_first_bits bits ys

-- A text cut at a border of syllables: the order view is that of the first half, and then that of
-- the second behind its last glyph, which for itself differs in the bits of init of its first glyph
-- alone; where the halves share no cluster, so are the clusters.
pub record FinallyOfHalves (r : Rules) (script : Option Script) (level : BufferClusterLevel) (gs hs
    new : Glyphs) : Type 0 where
  pub order : order_view new
      ≡ final_text r script (order_view gs)
      ++ final_text_behind r script
      (last_or None (text_order (final_order r script) (order_view gs))) (order_view hs)
  pub alone : SameButFirstBits r.init (final_text_behind r script
      (last_or None (text_order (final_order r script) (order_view gs))) (order_view hs))
      (final_text r script (order_view hs))
  pub in_clusters : ShareNone gs hs →
      clusters new ≡ final_clusters r script level gs ++ final_clusters r script level hs

-- What holds of any text after the pause. Nothing is lost: what is carried along, clusters and
-- glyph flags apart, and glyph numbers alone, are those of the text in some order, each from the
-- place that the steps say. The clusters are what the steps of all syllables make of the old ones,
-- one after another: each is one that was there, labels are respected, at level Characters each
-- glyph keeps its own; none rises. At the levels that merge each stretch that the steps merge is in
-- one cluster, and in a syllable whose clusters are its own no more is merged. Glyph flags; and
-- where no syllable is opened inside a word, the laws of steps as they are. Cuts at borders of
-- syllables; and of halves whose bytes may have other serials, but for these and the bits of init.
pub record FinallyKept (r : Rules) (old new : Buffer) : Type 0 where
  pub kept : IsPermutation (seen carried old.glyphs) (seen carried new.glyphs)
  pub numbers : IsPermutation (map (λ g. g.glyph_id) old.glyphs) (map (λ g. g.glyph_id) new.glyphs)
  pub moved_view : seen carried new.glyphs
      ≡ pick (old_places (length old.glyphs) (final_text_steps r old.script old.glyphs))
      (seen carried old.glyphs)
  pub clusters_are : clusters new.glyphs ≡ final_clusters r old.script old.level old.glyphs
  pub in_clusters : ClustersHold old.level (final_text_steps r old.script old.glyphs)
      (clusters old.glyphs) (clusters new.glyphs)
  pub merged : merges old.level ≡ true →
      AllByRecursion (OneAlong (clusters new.glyphs))
      (all_merged (final_text_steps r old.script old.glyphs))
  pub exact : merges old.level ≡ true →
      EachSyllableCuts r old.script (order_view old.glyphs) (clusters old.glyphs)
      (clusters new.glyphs)
  pub none_rises : AllZip (λ a b. b ≤ a) (pick
      (old_places (length old.glyphs) (final_text_steps r old.script old.glyphs))
      (clusters old.glyphs)) (clusters new.glyphs)
  pub flags : AllZip FlagsFallButBreaks (pick
      (old_places (length old.glyphs) (final_text_steps r old.script old.glyphs)) old.glyphs)
      new.glyphs
  pub flags_elsewhere : (i : ℕ) →
      i < length new.glyphs →
      at_syllable_start 0 None (final_syllables r old.script (order_view old.glyphs)) i ≡ false →
      FlagsFall (get_or (pick (old_places (length old.glyphs)
      (final_text_steps r old.script old.glyphs)) old.glyphs) i default_glyph)
      (get_or new.glyphs i default_glyph)
  pub unbroken : BreaksNowhere None (final_syllables r old.script (order_view old.glyphs)) →
      SeenStepsHold carried old.level (final_text_steps r old.script old.glyphs) old.glyphs
      new.glyphs
  pub cuts : (gs hs : Glyphs) → old.glyphs ≡ gs ++ hs → MeetAtBorder gs hs →
      FinallyOfHalves r old.script old.level gs hs new.glyphs
  pub renumbered : CutsAtBorders (uninitiated r) (λ gs. final_text r old.script (order_view gs))
      (final_clusters r old.script old.level) old.glyphs new.glyphs

abbrev pub FinalTextLaws : Type 0
FinalTextLaws = (r : Rules) (old new : Buffer) → FinallyReordered r old new → FinallyKept r old new
