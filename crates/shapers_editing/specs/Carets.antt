-- Where a caret may stand in a shaped text, and which part of the text each glyph stands for.
-- (HarfBuzz's manual, "Clusters": glyphs of one cluster can't be told apart; clusters rise along a
-- text that goes forward and fall along one that goes backward.)
use Rattle.std.specs.Prelude.{ℕ, ◌≡◌, ◌<◌, ◌≤◌, nat_le, nat_lt, Bool, true, false, ◌&&◌, List, [], ◌∷◌, reverse, if◌then◌else◌}
use Rattle.std.specs.List.{All, AllPairs, Contains, count_by, list_all}
use Rattle.shapers_buffer.specs.Glyphs.{Glyphs}
use Rattle.shapers_buffer.specs.declared.buffer.level.Direction.{Direction}
use Rattle.shapers_buffer.specs.declared.buffer.level.Direction.TheVariants.{RightToLeft, BottomToTop}
use Rattle.shapers_buffer.specs.Glyph.{clusters}
use Rattle.shapers_clusters.specs.Cuts.{IsRising}
use Rattle.shapers_syllabic.specs.CircleLaws.{NoNewCluster}

-- whether the glyphs of a shaped text stand with the text's last one first
abbrev pub is_backward : Direction → Bool
is_backward RightToLeft = true
is_backward BottomToTop = true
is_backward _ = false

-- the clusters of glyphs in the order of the text
abbrev pub text_clusters : Direction → Glyphs → List ℕ
text_clusters direction gs =
    if is_backward direction then reverse (clusters gs) else clusters gs

-- the clusters that are less than all behind them
abbrev pub lesser : List ℕ → List ℕ
lesser [] = []
lesser (c ∷ cs) = if list_all (λ d. nat_lt c d) cs then c ∷ lesser cs else lesser cs

-- The places of the text where a caret may stand before a glyph: each cluster, in the order of the
-- text, that is less than all behind it. Where clusters rise along the text that is each of them.
abbrev pub caret_stops : Direction → Glyphs → List ℕ
caret_stops direction gs = lesser (text_clusters direction gs)

-- the intervals of the text from each stop to the next, and from the last to the text's end
abbrev pub intervals : List ℕ → ℕ → List (ℕ × ℕ)
intervals [] end = []
intervals (s ∷ []) end = (s, end) ∷ []
intervals (s ∷ (t ∷ ts)) end = (s, t) ∷ intervals (t ∷ ts) end

-- whether the interval has the place
abbrev pub has_place : ℕ → ℕ × ℕ → Bool
has_place p iv = nat_le iv.0 p && nat_lt p iv.1

-- The stops are a caret map of glyphs with these clusters, up to the text's end: they rise, so that
-- each is one place of the text, in order; each is a cluster of the glyphs; and a place from some
-- cluster on, as the cluster itself, lies in exactly one of the intervals.
pub record IsCaretMap (end : ℕ) (cs stops : List ℕ) : Type 0 where
  pub rising : AllPairs (λ a b. a < b) stops
  pub places : All (Contains cs) stops
  pub one : (c p : ℕ) → Contains cs c → c ≤ p → p < end →
      count_by (has_place p) (intervals stops end) ≡ 1

-- so of every text that ends behind its clusters
abbrev pub StopsMapText : Type 0
StopsMapText = (direction : Direction) (gs : Glyphs) (end : ℕ) →
    All (λ c. c < end) (clusters gs) →
    IsCaretMap end (clusters gs) (caret_stops direction gs)

-- Where clusters rise along the text before it is shaped, and no cluster is new after it, each stop
-- was one.
abbrev pub BordersWereBorders : Type 0
BordersWereBorders = (before after : Direction) (old new : Glyphs) →
    IsRising (text_clusters before old) → NoNewCluster old new →
    All (Contains (caret_stops before old)) (caret_stops after new)

-- where clusters rise along the text, each of them is a stop
abbrev pub EachClusterStops : Type 0
EachClusterStops = (direction : Direction) (gs : Glyphs) →
    IsRising (text_clusters direction gs) →
    All (Contains (caret_stops direction gs)) (clusters gs)
