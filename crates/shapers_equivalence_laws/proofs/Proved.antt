-- The law of canonical equivalence.
use Rattle.std.proofs.Common.{◌≡◌, ◌≢◌, ◌||◌, ◌&&◌, ℕ, suc, Bool, true, false, cond, eqb, nat_le, List, [], ◌∷◌, ◌++◌, Some, refl, sym, ap, ◌∙◌}
use Rattle.std.specs.List.{AllByRecursion, flat_map, list_any}
use Rattle.std.specs.Option.{option_map_or}
use Rattle.std.proofs.lemmas.List.{append-nil}
use Rattle.shapers_buffer.specs.Glyphs.{Glyph, Glyphs}
use Rattle.shapers_buffer.specs.declared.buffer.level.BufferClusterLevel.{BufferClusterLevel}
use Rattle.shapers_buffer.specs.Glyph.{characters}
use Rattle.shapers_buffer.specs.Properties.{HIDDEN, set_property}
use Rattle.shapers_normal.specs.Context.{Context}
use Rattle.shapers_normal.specs.Decomposition.{come_off, first_round}
use Rattle.shapers_normal.specs.Normalization.{composes, has_rounds, joiners_shown, later_rounds, passes_over, shown_behind}
use Rattle.shapers_normal.specs.Recomposition.{recomposed}
use Rattle.shapers_normal.specs.Sorting.{class_of, classes, marks_ordered}
use Rattle.shapers_normal.specs.Variants.{is_selector_glyph}
use Rattle.shapers_equivalence_laws.specs.Equivalence.{CharacterPairs, apart_in_steps, full_decomposition}
use Rattle.shapers_equivalence_laws.specs.Laws.{AreInOrder, ComesApartExactly, HaveOwnClasses, IsCanonical, NormalizesEquivalently, OrdersEquivalently, OrdersMarksEquivalently, SequencesNormalizeEquivalently, in_canonical_order, mark_class}
use Rattle.shapers_equivalence_laws.proofs.Projections as order
use Rattle.shapers_equivalence_laws.proofs.Apart.{AreMarks, Same, TakesApart, apart_text, marks_own}
use Rattle.shapers_equivalence_laws.proofs.FirstRound.{first_keeps}
use Rattle.shapers_equivalence_laws.proofs.Insertion.{in_order_of}
use Rattle.shapers_equivalence_laws.proofs.SecondRound.{Arranges, second_same}
use Rattle.shapers_equivalence_laws.proofs.ShortRuns.{leaves, short_in_order}
use Rattle.shapers_equivalence_laws.proofs.ThirdRound.{third_same}
use Rattle.shapers_normal.proofs.CharacterProperties.{class_shown}

-- ---- the premises

pub step_apart : (pairs : CharacterPairs) (n c : ℕ) (p : ℕ × ℕ) → pairs c ≡ Some p
    → apart_in_steps pairs (suc n) c ≡ apart_in_steps pairs n p.0 ++ flat_map (apart_in_steps pairs n) (come_off p.1)
step_apart pairs n c p e = ap (λ o. option_map_or
    (λ p. apart_in_steps pairs n p.0 ++ flat_map (apart_in_steps pairs n) (come_off p.1)) o (c ∷ [])) e

pub takes_apart : (pairs : CharacterPairs) (context : Context) → IsCanonical pairs context
    → TakesApart context (full_decomposition pairs)
takes_apart pairs context i = record {
  apart = λ c p e. sym (i.ends c) ∙ step_apart pairs 8 c p (i.apart c p e);
  composed = λ a b c e. λ k.
      let class = mark_class context in
      let full = full_decomposition pairs in
      order.as_is class (full c) (full c ++ []) (sym (append-nil (full c))) k
      ∙ i.composed a b c e k
      ∙ order.as_is class (full a ++ (full b ++ [])) (full a ++ full b)
      (ap (λ xs. full a ++ xs) (append-nil (full b))) k;
  marks = i.marks;
}

all_marked : (context : Context) (gs : Glyphs) → AreMarks context gs
    → AllByRecursion (λ g. class_of g ≢ 0) gs
all_marked context [] all = tt
all_marked context (g ∷ gs) all = (all.0.1, all_marked context gs all.1)

arranges : (pairs : CharacterPairs) (context : Context) → OrdersEquivalently pairs context
    → Arranges context (full_decomposition pairs)
arranges pairs context o = record {
  arranged = o.arranged;
  same_length = o.same_length;
  of_run = o.of_run;
  same = λ marks are s. o.equivalent marks
      (record {
        own = marks_own context marks are;
        marked = all_marked context marks are;
        ordered = in_order_of marks s;
      });
}

-- ---- grapheme joiners

record Alike (g h : Glyph) : Type 0 where
  character : h.glyph_id ≡ g.glyph_id
  class : class_of h ≡ class_of g

passed_alike : (before behind : ℕ) (g : Glyph) → Alike g (passes_over before behind g)
passed_alike before behind g =
    elim (eqb g.glyph_id 0x034F && (eqb behind 0 || nat_le before behind)) as
    (λ b. Alike g (cond b (let r : Glyph = record g { unicode_props = set_property HIDDEN false g.unicode_props } in r) g)) [
      | true ↦ record { character = refl; class = class_shown g.unicode_props }
      | false ↦ record { character = refl; class = refl }
    ]

-- each glyph has the same character and class
pub record SameCharacters (context : Context) (old new : Glyphs) : Type 0 where
  pub same : characters new ≡ characters old
  pub class : classes new ≡ classes old
  pub own : HaveOwnClasses context old → HaveOwnClasses context new

no_change : (context : Context) (gs : Glyphs) → SameCharacters context gs gs
no_change context gs = record { same = refl; class = refl; own = λ own. own }

one_more : (context : Context) (g h : Glyph) (gs hs : Glyphs) → Alike g h
    → SameCharacters context gs hs → SameCharacters context (g ∷ gs) (h ∷ hs)
one_more context g h gs hs one rest = record {
  same = ap (λ c. c ∷ characters hs) one.character ∙ ap (λ cs. g.glyph_id ∷ cs) rest.same;
  class = ap (λ c. c ∷ classes hs) one.class ∙ ap (λ cs. class_of g ∷ cs) rest.class;
  own = λ own. (one.class ∙ own.0 ∙ ap (mark_class context) (sym one.character), rest.own own.1);
}

shown_alike : (context : Context) (before : ℕ) (gs : Glyphs)
    → SameCharacters context gs (shown_behind before gs)
shown_alike context before [] = no_change context []
shown_alike context before (g ∷ []) = no_change context (g ∷ [])
shown_alike context before (g ∷ (h ∷ gs)) =
    one_more context g (passes_over before (class_of h) g) (h ∷ gs) (shown_behind (class_of g) (h ∷ gs))
    (passed_alike before (class_of h) g) (shown_alike context (class_of g) (h ∷ gs))

pub joiners_alike : (context : Context) (gs : Glyphs) → SameCharacters context gs (joiners_shown gs)
joiners_alike context [] = no_change context []
joiners_alike context (g ∷ gs) = one_more context g g gs (shown_behind (class_of g) gs)
    (record { character = refl; class = refl }) (shown_alike context (class_of g) gs)

-- ---- the rounds

composed_so : (context : Context) (full : ℕ → List ℕ) → TakesApart context full
    → (level : BufferClusterLevel) (gs : Glyphs) (composing : Bool)
    → (composing ≡ true → AreInOrder context gs)
    → Same context full (cond composing (recomposed context level (joiners_shown gs)) (joiners_shown gs)) gs
composed_so context full t level gs true o =
    let a = joiners_alike context gs in
    let is = o refl in
    let in_order : AreInOrder context
    (joiners_shown gs) = record { own = a.own is.own; ordered = ap in_canonical_order a.class ∙ is.ordered } in
    λ k.
    third_same context full t level (joiners_shown gs) in_order k
    ∙ order.as_is (mark_class context) (apart_text full (joiners_shown gs)) (apart_text full gs)
    (ap (flat_map full) a.same) k
composed_so context full t level gs false o =
    order.as_is (mark_class context) (apart_text full (joiners_shown gs)) (apart_text full gs)
    (ap (flat_map full) (joiners_alike context gs).same)

later_same : (context : Context) (full : ℕ → List ℕ) → TakesApart context full → Arranges context full
    → (level : BufferClusterLevel) (gs : Glyphs) (runs : Bool) → HaveOwnClasses context gs
    → ((runs && composes context.mode) ≡ true → AreInOrder context (marks_ordered context level gs))
    → Same context full (later_rounds context runs level gs) gs
later_same context full t a level gs true own o = λ k.
    composed_so context full t level (marks_ordered context level gs) (composes context.mode) o k
    ∙ second_same context full t a level gs own k
later_same context full t a level gs false own o =
    order.as_is (mark_class context) (apart_text full (joiners_shown gs)) (apart_text full gs)
    (ap (flat_map full) (joiners_alike context gs).same)

pub rounds_same : (context : Context) (full : ℕ → List ℕ) → TakesApart context full → Arranges context full
    → (level : BufferClusterLevel) (gs : Glyphs) (runs : Bool) → HaveOwnClasses context gs
    → list_any is_selector_glyph gs ≡ false
    → ((runs && composes context.mode) ≡ true → AreInOrder context
    (marks_ordered context level (first_round context level gs)))
    → Same context full (later_rounds context runs level (first_round context level gs)) gs
rounds_same context full t a level gs runs own none o =
    let first = first_keeps context full t level gs own none in
    λ k.
    later_same context full t a level (first_round context level gs) runs first.own o k
    ∙ order.as_is (mark_class context) (apart_text full (first_round context level gs))
    (apart_text full gs) first.same k

pub comes_apart : ComesApartExactly
comes_apart pairs context level gs i text =
    (first_keeps context (full_decomposition pairs)
    (takes_apart pairs context i) level gs text.own text.no_selector).same

pub orders_marks_so : OrdersMarksEquivalently
orders_marks_so pairs context level gs i a text =
    let full = full_decomposition pairs in
    let t = takes_apart pairs context i in
    let first = first_keeps context full t level gs text.own text.no_selector in
    λ k.
    second_same context full t (arranges pairs context a) level (first_round context level gs) first.own k
    ∙ order.as_is (mark_class context) (apart_text full (first_round context level gs))
    (apart_text full gs) first.same k

pub normalizes_so : NormalizesEquivalently
normalizes_so pairs context rounds level gs i a text o =
    rounds_same context (full_decomposition pairs) (takes_apart pairs context i) (arranges pairs context a) level gs
    (has_rounds rounds gs) text.own text.no_selector o

pub runs_normalize : SequencesNormalizeEquivalently
runs_normalize pairs context rounds level gs i l text short =
    let full = full_decomposition pairs in
    let t = takes_apart pairs context i in
    let first = first_keeps context full t level gs text.own text.no_selector in
    rounds_same context full t (leaves context full l) level gs (has_rounds rounds gs) text.own text.no_selector
    (λ composing. short_in_order context full t l level (first_round context level gs) first.own short)
