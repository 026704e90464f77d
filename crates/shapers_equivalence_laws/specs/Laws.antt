-- Normalization keeps a text canonically equivalent.
use Rattle.std.specs.Prelude.{ℕ, ◌≡◌, ◌<◌, ◌≤◌, ◌-◌, ◌==◌, nat_le, Bool, true, false, ◌&&◌, ◌||◌, List, [], ◌∷◌, length, Some, if◌then◌else◌, ◌≢◌}
use Rattle.std.specs.List.{AllByRecursion, list_all, list_any}
use Rattle.shapers_buffer.specs.Glyphs.{Glyphs}
use Rattle.shapers_buffer.specs.declared.buffer.level.BufferClusterLevel.{BufferClusterLevel}
use Rattle.shapers_buffer.specs.Clusters.{with_stretch}
use Rattle.shapers_buffer.specs.Glyph.{characters, order_view}
use Rattle.shapers_normal.specs.Context.{Context}
use Rattle.shapers_normal.specs.Decomposition.{first_round, max_steps}
use Rattle.shapers_normal.specs.Normalization.{composes, has_rounds, normalized}
use Rattle.shapers_normal.specs.Properties.{is_mark_in}
use Rattle.shapers_normal.specs.Sorting.{class_of, classes, mark_sequences, marks_ordered, max_marks}
use Rattle.shapers_normal.specs.Variants.{is_selector_glyph}
use Rattle.shapers_normal.specs.declared.ot_shape_normalize.normalizing.Rounds.{Rounds}
use Rattle.shapers_equivalence_laws.specs.Equivalence.{CanonicallyEquivalent, CharacterPairs, apart_in_steps, full_decomposition, fully_decomposed}

-- the class by which normalization orders a character
abbrev pub mark_class : Context → ℕ → ℕ
mark_class context c = if is_mark_in context c then context.class c else 0

-- each glyph has the class of its character, as the properties of a text set it
abbrev pub HaveOwnClasses : Context → Glyphs → Type 0
HaveOwnClasses context gs = AllByRecursion (λ g. class_of g ≡ mark_class context g.glyph_id) gs

-- whether of each two neighbours the second is in no lesser class, or in class 0 (D108: no
-- reorderable pair)
abbrev pub in_canonical_order : List ℕ → Bool
in_canonical_order [] = true
in_canonical_order (c ∷ []) = true
in_canonical_order (c ∷ (d ∷ ds)) = (d == 0 || nat_le c d) && in_canonical_order (d ∷ ds)

-- What canonical pairs are to shaper and tables. A step more than eight takes nothing apart; what
-- comes apart for the shaper does so by the pairs; what two characters compose to is equivalent to
-- them; and a mark comes apart into marks of its class.
pub record IsCanonical (pairs : CharacterPairs) (context : Context) : Type 0 where
  pub ends : (c : ℕ) → apart_in_steps pairs 9 c ≡ apart_in_steps pairs max_steps c
  pub apart : (c : ℕ) (p : ℕ × ℕ) → context.decomposed c ≡ Some p → pairs c ≡ Some p
  pub composed : (a b c : ℕ) → context.composed a b ≡ Some c →
      CanonicallyEquivalent pairs (mark_class context) (c ∷ []) (a ∷ b ∷ [])
  pub marks : (c : ℕ) → mark_class context c ≢ 0 →
      AllByRecursion (λ d. mark_class context d ≡ mark_class context c)
      (full_decomposition pairs c)

-- a sequence of marks in canonical order, each of the class of its character
pub record IsOrderedSequence (context : Context) (marks : Glyphs) : Type 0 where
  pub own : HaveOwnClasses context marks
  pub marked : AllByRecursion (λ g. class_of g ≢ 0) marks
  pub ordered : in_canonical_order (classes marks) ≡ true

-- A shaper's order of marks is a function of the sequence alone, and keeps it equivalent.
pub record OrdersEquivalently (pairs : CharacterPairs) (context : Context) : Type 0 where
  pub arranged : Glyphs → Glyphs
  pub same_length : (marks : Glyphs) → length (arranged marks) ≡ length marks
  pub of_run : (level : BufferClusterLevel) (s e : ℕ) (gs : Glyphs) →
      s < e → e ≤ length gs →
      order_view (context.reordered level s e gs) ≡ with_stretch s e arranged (order_view gs)
  pub equivalent : (marks : Glyphs) → IsOrderedSequence context marks →
      CanonicallyEquivalent pairs (mark_class context) (characters (arranged marks))
      (characters marks)

-- A text that normalization gets: each glyph has the class of its character, and no variation
-- selector stands in it, whose glyph could stand for two characters.
pub record IsPlainText (context : Context) (gs : Glyphs) : Type 0 where
  pub own : HaveOwnClasses context gs
  pub no_selector : list_any is_selector_glyph gs ≡ false

-- what the third round composes: the marks of the second
abbrev pub before_composing : Context → BufferClusterLevel → Glyphs →
    Glyphs
before_composing context level gs = marks_ordered context level (first_round context level gs)

-- marks that stand in canonical order, each in the class of its character
pub record AreInOrder (context : Context) (gs : Glyphs) : Type 0 where
  pub own : HaveOwnClasses context gs
  pub ordered : in_canonical_order (classes gs) ≡ true

-- The first round keeps the full decomposition as it is, whatever the font lacks.
abbrev pub ComesApartExactly : Type 0
ComesApartExactly = (pairs : CharacterPairs) (context : Context) (level : BufferClusterLevel)
    (gs : Glyphs) →
    IsCanonical pairs context → IsPlainText context gs →
    fully_decomposed pairs (characters (first_round context level gs))
    ≡ fully_decomposed pairs (characters gs)

-- The second round keeps it up to the order of marks of different classes, however long a sequence
-- is.
abbrev pub OrdersMarksEquivalently : Type 0
OrdersMarksEquivalently = (pairs : CharacterPairs) (context : Context)
    (level : BufferClusterLevel) (gs : Glyphs) →
    IsCanonical pairs context → OrdersEquivalently pairs context → IsPlainText context gs →
    CanonicallyEquivalent pairs (mark_class context)
    (characters (before_composing context level gs)) (characters gs)

-- A text is canonically equivalent to what it becomes, if the second round leaves marks in order,
-- or if nothing is composed.
abbrev pub NormalizesEquivalently : Type 0
NormalizesEquivalently = (pairs : CharacterPairs) (context : Context) (rounds : Rounds)
    (level : BufferClusterLevel) (gs : Glyphs) →
    IsCanonical pairs context → OrdersEquivalently pairs context → IsPlainText context gs →
    ((has_rounds rounds gs && composes context.mode) ≡ true →
    AreInOrder context (before_composing context level gs)) →
    CanonicallyEquivalent pairs (mark_class context)
    (characters (normalized context rounds level gs)) (characters gs)

-- a shaper without an order of its own
abbrev pub LeavesOrder : Context → Type 0
LeavesOrder context = (level : BufferClusterLevel) (s e : ℕ) (gs : Glyphs) →
    s < e → e ≤ length gs → order_view (context.reordered level s e gs) ≡ order_view gs

-- whether no sequence of marks is longer than 32
abbrev pub has_short_sequences : Glyphs → Bool
has_short_sequences gs =
    list_all (λ run. nat_le (run.1 - run.0) max_marks) (mark_sequences 0 0 (classes gs))

-- For such a shaper the second round does so, where no sequence is longer than 32 marks.
abbrev pub SequencesNormalizeEquivalently : Type 0
SequencesNormalizeEquivalently = (pairs : CharacterPairs) (context : Context) (rounds : Rounds)
    (level : BufferClusterLevel) (gs : Glyphs) →
    IsCanonical pairs context → LeavesOrder context → IsPlainText context gs →
    has_short_sequences (first_round context level gs) ≡ true →
    CanonicallyEquivalent pairs (mark_class context)
    (characters (normalized context rounds level gs)) (characters gs)
