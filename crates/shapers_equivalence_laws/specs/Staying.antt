-- A text in the form that the font and the shaper want stays as it is.
use Rattle.std.specs.Prelude.{ℕ, ◌≡◌, ◌<◌, ◌≤◌, ◌≢◌, true, List, length, map, slice_index, None}
use Rattle.shapers_buffer.specs.Glyphs.{Glyphs}
use Rattle.shapers_buffer.specs.declared.buffer.level.BufferClusterLevel.{BufferClusterLevel}
use Rattle.shapers_buffer.specs.Glyph.{characters}
use Rattle.shapers_normal.specs.Context.{Context}
use Rattle.shapers_normal.specs.Decomposition.{stays_together, with_own_glyph}
use Rattle.shapers_normal.specs.Normalization.{composes, joiners_shown, normalized}
use Rattle.shapers_normal.specs.Recomposition.{if_drawn}
use Rattle.shapers_normal.specs.Sorting.{classes}
use Rattle.shapers_normal.specs.declared.ot_shape_normalize.normalizing.Rounds.{Rounds}
use Rattle.shapers_equivalence_laws.specs.Laws.{in_canonical_order}

-- Of characters with these classes no two compose to one that the font has, if no other of class 0
-- stands between them.
abbrev pub NothingComposes : Context → List ℕ → List ℕ → Type 0
NothingComposes context cs ks = (i j : ℕ) → i < j → j < length cs →
    ((k : ℕ) → i < k → k < j → slice_index ks k ≢ 0) →
    if_drawn context (context.composed (slice_index cs i) (slice_index cs j)) ≡ None

-- a shaper that leaves a text as it is, where others order marks
abbrev pub LeavesMarks : Context → Type 0
LeavesMarks context = (level : BufferClusterLevel) (s e : ℕ) (gs : Glyphs) →
    s < e → e ≤ length gs → context.reordered level s e gs ≡ gs

-- A text of which nothing comes apart, whose marks stand in the order of their classes, and in
-- which nothing composes if the shaper composes: each glyph gets its number, lookups may pass over
-- the grapheme joiners that kept nothing apart, and all else stays.
abbrev pub TextsInFormStay : Type 0
TextsInFormStay = (context : Context) (rounds : Rounds) (level : BufferClusterLevel)
    (gs : Glyphs) →
    LeavesMarks context → stays_together context gs ≡ true →
    in_canonical_order (classes gs) ≡ true →
    (composes context.mode ≡ true → NothingComposes context (characters gs) (classes gs)) →
    normalized context rounds level gs ≡ joiners_shown (map (with_own_glyph context) gs)
