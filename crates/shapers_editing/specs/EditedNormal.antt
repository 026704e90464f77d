-- What an edit of a text leaves of its normalization.
use Rattle.std.specs.Prelude.{◌≡◌, false, true, ◌++◌}
use Rattle.shapers_buffer.specs.Glyphs.{Glyphs}
use Rattle.shapers_buffer.specs.declared.buffer.level.BufferClusterLevel.{BufferClusterLevel}
use Rattle.shapers_clusters.specs.Cuts.{ShareNone}
use Rattle.shapers_normal.specs.Context.{Context}
use Rattle.shapers_normal.specs.Decomposition.{first_round}
use Rattle.shapers_normal.specs.Laws.{OrdersAlone, ends_in_joiner, begins_anew}
use Rattle.shapers_normal.specs.Normalization.{normalized}
use Rattle.shapers_normal.specs.Sorting.{marks_ordered}
use Rattle.shapers_normal.specs.declared.ot_shape_normalize.normalizing.Rounds.TheVariants.{Always}
use Rattle.shapers_prepare.specs.FirstCircle.{begins_with_mark}

-- A text may be cut between these two parts: they share no cluster; the second one begins with no
-- mark, and what it comes apart into with none and no grapheme joiner; and the first one ends in no
-- grapheme joiner once its marks are in order.
pub record MayCut (context : Context) (level : BufferClusterLevel) (gs hs : Glyphs)
    : Type 0 where
  pub apart : ShareNone gs hs
  pub letter : begins_with_mark hs ≡ false
  pub anew : begins_anew (first_round context level hs) ≡ true
  pub no_joiner :
      ends_in_joiner (marks_ordered context level (first_round context level gs)) ≡ false

-- A text of three parts between which it may be cut is normalized part by part, with the later
-- rounds in each text. So where the middle part is edited, the other two come out as before.
abbrev pub NormalizedOutside : Type 0
NormalizedOutside = (context : Context) (level : BufferClusterLevel)
    (front middle back : Glyphs) → OrdersAlone context →
    MayCut context level front (middle ++ back) → MayCut context level middle back →
    normalized context Always level (front ++ (middle ++ back))
    ≡ normalized context Always level front
    ++ (normalized context Always level middle ++ normalized context Always level back)
