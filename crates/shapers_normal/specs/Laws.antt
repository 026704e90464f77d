-- Laws of normalization, for every shaper, font and tables.
use Rattle.std.specs.Prelude.{ℕ, ◌≡◌, ◌<◌, ◌≤◌, ◌+◌, ◌*◌, ◌==◌, Bool, true, false, not, ◌&&◌, [], ◌∷◌, ◌++◌, length, map, take}
use Rattle.std.specs.List.{All, AllByRecursion, Contains, list_any}
use Rattle.shapers_buffer.specs.Glyphs.{Glyph, Glyphs}
use Rattle.shapers_buffer.specs.declared.buffer.level.BufferClusterLevel.{BufferClusterLevel}
use Rattle.shapers_buffer.specs.Clusters.{merges}
use Rattle.shapers_buffer.specs.Glyph.{clusters, order_view}
use Rattle.shapers_clusters.specs.Cuts.{IsMonotone, ShareNone}
use Rattle.shapers_normal.specs.Context.{Context, has_glyph}
use Rattle.shapers_normal.specs.Decomposition.{first_round, image, is_whole}
use Rattle.shapers_normal.specs.Normalization.{normalized}
use Rattle.shapers_normal.specs.Properties.{grapheme_joiner}
use Rattle.shapers_normal.specs.Sorting.{is_mark_glyph, marks_ordered}
use Rattle.shapers_normal.specs.Variants.{with_number}
use Rattle.shapers_normal.specs.declared.ot_shape_normalize.decomposing.Way.{Way}
use Rattle.shapers_normal.specs.declared.ot_shape_normalize.normalizing.Rounds.{Rounds}
use Rattle.shapers_normal.specs.declared.ot_shape_normalize.normalizing.Rounds.TheVariants.{Always}

-- The font has a glyph for each character that another comes apart into.
abbrev pub PartsAreDrawn : Type 0
PartsAreDrawn = (context : Context) (way : Way) (c : ℕ) →
    AllByRecursion (λ part. has_glyph context part ≡ true) (image context way c)

-- Each glyph becomes nine at most: a base, and what came off in eight steps.
abbrev pub GrowsNinefold : Type 0
GrowsNinefold = (context : Context) (level : BufferClusterLevel) (gs : Glyphs) →
    length (first_round context level gs) ≤ 9 * length gs

-- A text cut before a glyph that is no mark, into halves that share no cluster: they come apart as
-- the whole does.
abbrev pub ComesApartInHalves : Type 0
ComesApartInHalves = (context : Context) (level : BufferClusterLevel)
    (front : Glyphs) (g : Glyph) (behind : Glyphs) →
    ShareNone front (g ∷ behind) → is_mark_glyph g ≡ false →
    first_round context level (front ++ g ∷ behind)
    ≡ first_round context level front ++ first_round context level (g ∷ behind)

-- A shaper's order of marks keeps their number and makes no cluster. What stands before the marks
-- stays, but for its cluster and glyph flags; and glyphs before and behind that share no cluster
-- with these stay, and change nothing.
pub record OrdersAlone (context : Context) : Type 0 where
  pub same_length : (level : BufferClusterLevel) (s e : ℕ) (gs : Glyphs) →
      s < e → e ≤ length gs → length (context.reordered level s e gs) ≡ length gs
  pub old_clusters : (level : BufferClusterLevel) (s e : ℕ) (gs : Glyphs) →
      s < e → e ≤ length gs →
      All (Contains (clusters gs)) (clusters (context.reordered level s e gs))
  pub in_front : (level : BufferClusterLevel) (s e : ℕ) (gs : Glyphs) →
      s < e → e ≤ length gs →
      take s (order_view (context.reordered level s e gs)) ≡ take s (order_view gs)
  pub alone : (level : BufferClusterLevel) (s e : ℕ) (before gs behind : Glyphs) →
      s < e → e ≤ length gs → ShareNone gs before → ShareNone gs behind →
      context.reordered level (length before + s) (length before + e) (before ++ (gs ++ behind))
      ≡ before ++ (context.reordered level s e gs ++ behind)

-- whether a text begins with a glyph that is neither a mark nor a grapheme joiner
abbrev pub begins_anew : Glyphs → Bool
begins_anew [] = true
begins_anew (g ∷ gs) = not (is_mark_glyph g) && not (g.glyph_id == grapheme_joiner)

-- whether it ends with a grapheme joiner
abbrev pub ends_in_joiner : Glyphs → Bool
ends_in_joiner [] = false
ends_in_joiner (g ∷ []) = g.glyph_id == grapheme_joiner
ends_in_joiner (g ∷ (h ∷ gs)) = ends_in_joiner (h ∷ gs)

-- With the later rounds in each text: a text cut before a glyph that is no mark, into halves that
-- share no cluster, is normalized in halves as the whole is. What comes apart there begins with no
-- mark either, and no grapheme joiner stands at the cut: at the end of a text lookups don't pass
-- over it.
abbrev pub NormalizesInHalves : Type 0
NormalizesInHalves = (context : Context) (level : BufferClusterLevel)
    (front : Glyphs) (g : Glyph) (behind : Glyphs) →
    OrdersAlone context → ShareNone front (g ∷ behind) → is_mark_glyph g ≡ false →
    begins_anew (first_round context level (g ∷ behind)) ≡ true →
    ends_in_joiner (marks_ordered context level (first_round context level front)) ≡ false →
    normalized context Always level (front ++ g ∷ behind)
    ≡ normalized context Always level front ++ normalized context Always level (g ∷ behind)

-- Each cluster is one that the text had, whenever rounds run.
abbrev pub MakesNoCluster : Type 0
MakesNoCluster = (context : Context) (rounds : Rounds) (level : BufferClusterLevel)
    (gs : Glyphs) →
    OrdersAlone context →
    All (Contains (clusters gs)) (clusters (normalized context rounds level gs))

-- A text without marks that the font has, for a shaper that leaves letters whole, gets its glyphs
-- and nothing else, if no glyph is a grapheme joiner.
abbrev pub WholeTextsStay : Type 0
WholeTextsStay = (context : Context) (rounds : Rounds) (level : BufferClusterLevel)
    (gs : Glyphs) →
    is_whole context gs ≡ true → list_any (λ g. g.glyph_id == grapheme_joiner) gs ≡ false →
    normalized context rounds level gs ≡ map (with_number context) gs

-- A shaper's order of marks keeps clusters rising, or falling, at the levels that merge.
abbrev pub OrdersMonotone : Context → Type 0
OrdersMonotone context =
    (level : BufferClusterLevel) (s e : ℕ) (gs : Glyphs) → merges level ≡ true →
    s < e → e ≤ length gs → IsMonotone (clusters gs) →
    IsMonotone (clusters (context.reordered level s e gs))

-- Clusters that rise, or fall, still do, at the levels that merge.
abbrev pub NormalizesMonotone : Type 0
NormalizesMonotone = (context : Context) (rounds : Rounds) (level : BufferClusterLevel)
    (gs : Glyphs) →
    OrdersAlone context → OrdersMonotone context → merges level ≡ true →
    IsMonotone (clusters gs) → IsMonotone (clusters (normalized context rounds level gs))
