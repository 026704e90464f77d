-- Short runs are in order once they are sorted.
use Rattle.std.proofs.Common.{◌≡◌, ◌≢◌, ◌+◌, ◌-◌, ◌<◌, ◌≤◌, ◌||◌, ◌&&◌, ◌⊎◌, inl, inr, ℕ, Bool, true, false, cond, eqb, nat_le, nat_lt, List, [], ◌∷◌, ◌++◌, length, take, drop, refl, sym, ap, ◌∙◌, subst, arith}
use Rattle.std.specs.List.{list_all}
use Rattle.std.proofs.lemmas.Bool.{and_parts, false≢true}
use Rattle.std.proofs.lemmas.Bool.Decides.{nat_tests}
use Rattle.std.proofs.lemmas.List.{drop-drop, length-append, take-append-drop}
use Rattle.shapers_buffer.specs.Glyphs.{Glyph, Glyphs}
use Rattle.shapers_buffer.specs.declared.buffer.level.BufferClusterLevel.{BufferClusterLevel}
use Rattle.shapers_buffer.specs.Clusters.{with_stretch}
use Rattle.shapers_buffer.specs.Glyph.{order_view, plain}
use Rattle.shapers_buffer.proofs.MappedLists.{all-append, map-hidden}
use Rattle.shapers_normal.specs.Context.{Context}
use Rattle.shapers_normal.specs.Sorting.{class_of, classes, mark_sequences, marks_ordered}
use Rattle.shapers_equivalence_laws.specs.Laws.{AreInOrder, HaveOwnClasses, LeavesOrder, has_short_sequences, in_canonical_order, mark_class}
use Rattle.shapers_equivalence_laws.proofs.Apart.{AreMarks, IsMark, TakesApart, marks_own, own_of_view, view_own}
use Rattle.shapers_equivalence_laws.proofs.Insertion.{Sorted, run_sorts, sorted}
use Rattle.shapers_equivalence_laws.proofs.SecondRound.{Arranges, is_run, marks_view, ordered_from, run_of}
use Rattle.shapers_equivalence_laws.proofs.ThirdRound.{Ordered}

abbrev as_they_are : Glyphs → Glyphs
as_they_are gs = gs

pub stretch_whole : (s e : ℕ) (gs : Glyphs) → s < e → with_stretch s e as_they_are gs ≡ gs
stretch_whole s e gs some =
    let order : s + (e - s) ≡ e = omega arith in
    ap (λ n. take s gs ++ (take (e - s) (drop s gs) ++ drop n gs)) (sym order)
    ∙ ap (λ xs. take s gs ++ (take (e - s) (drop s gs) ++ xs)) (sym (drop-drop (e - s) s gs))
    ∙ ap (λ xs. take s gs ++ xs) (take-append-drop (e - s) (drop s gs))
    ∙ take-append-drop s gs

pub leaves : (context : Context) (full : ℕ → List ℕ) → LeavesOrder context → Arranges context full
leaves context full o = record {
  arranged = as_they_are;
  same_length = λ marks. refl;
  of_run = λ level s e gs some within. o level s e gs some within ∙ sym (stretch_whole s e (order_view gs) some);
  same = λ marks are s. λ k. refl;
}

-- ---- in order

test_of : (c d : ℕ) → (d ≡ 0) ⊎ (c ≤ d) → (eqb d 0 || nat_le c d) ≡ true
test_of c d (inl none) = grind (arith, nat_tests)
test_of c d (inr most) = grind (arith, nat_tests)

ordered_to : (gs : Glyphs) → Ordered gs → in_canonical_order (classes gs) ≡ true
ordered_to [] o = refl
ordered_to (g ∷ []) o = refl
ordered_to (g ∷ (h ∷ gs)) o = ap (λ b. b && in_canonical_order (classes (h ∷ gs)))
    (test_of (class_of g) (class_of h) o.0) ∙ ordered_to (h ∷ gs) o.1

sorted_ordered : (gs : Glyphs) → Sorted gs → Ordered gs
sorted_ordered [] s = tt
sorted_ordered (g ∷ []) s = (tt, tt)
sorted_ordered (g ∷ (h ∷ gs)) s = (inr s.0.0, sorted_ordered (h ∷ gs) s.1)

behind_letter : (r : Glyph) (gs : Glyphs) → class_of r ≡ 0 → Ordered gs → Ordered (r ∷ gs)
behind_letter r [] letter o = (tt, tt)
behind_letter r (g ∷ gs) letter o = (inr (omega arith), o)

before_letter : (ds : Glyphs) (r : Glyph) (rs : Glyphs) → class_of r ≡ 0 → Ordered ds → Ordered (r ∷ rs)
    → Ordered (ds ++ r ∷ rs)
before_letter [] r rs letter o more = more
before_letter (d ∷ []) r rs letter o more = (inl letter, more)
before_letter (d ∷ (e ∷ ds)) r rs letter o more = (o.0, before_letter (e ∷ ds) r rs letter o.1 more)

-- a sequence that isn't too long
run_by : (ds : Glyphs) (b : Bool) → is_run ds ≡ b → length ds ≤ 32 → Sorted (sorted ds)
    → Ordered (cond b (sorted ds) ds)
run_by ds true e few s = sorted_ordered (sorted ds) s
run_by [] false e few s = tt
run_by (d ∷ ds) false e few s =
    let is : (nat_lt 0 (length (d ∷ ds)) && nat_le (length (d ∷ ds)) 32) ≡ true = grind (arith, nat_tests) in
    absurd (false≢true (sym e ∙ is))

run_ordered_as : (context : Context) (full : ℕ → List ℕ) → TakesApart context full → (ds : Glyphs)
    → AreMarks context ds → length ds ≤ 32 → Ordered (run_of as_they_are ds)
run_ordered_as context full t ds marks few = run_by ds (is_run ds) refl few (run_sorts context full t ds marks).in_order

run_own : (context : Context) (full : ℕ → List ℕ) → TakesApart context full → (ds : Glyphs) → AreMarks context ds
    → HaveOwnClasses context (run_of as_they_are ds)
run_own context full t ds marks =
    elim (is_run ds) as (λ b. HaveOwnClasses context (cond b (sorted ds) ds)) [
      | true ↦ marks_own context (sorted ds) (run_sorts context full t ds marks).marks
      | false ↦ marks_own context ds marks
    ]

abbrev is_short : ℕ × ℕ → Bool
is_short run = nat_le (run.1 - run.0) 32

record InOrder (context : Context) (gs : Glyphs) : Type 0 where
  own : HaveOwnClasses context gs
  ordered : Ordered gs

letter_case : (context : Context) (ds : Glyphs) (r : Glyph) (rs : Glyphs) → class_of r ≡ 0
    → class_of r ≡ mark_class context r.glyph_id → InOrder context ds → InOrder context rs
    → InOrder context (ds ++ r ∷ rs)
letter_case context ds r rs letter own one rest = record {
  own = all-append (λ (g : Glyph). class_of g ≡ mark_class context g.glyph_id) ds (r ∷ rs) one.own
      (own, rest.own);
  ordered = before_letter ds r rs letter one.ordered (behind_letter r rs letter rest.ordered);
}

from_by : (context : Context) (full : ℕ → List ℕ) → TakesApart context full
    → (s i : ℕ) (ds : Glyphs) (r : Glyph) (rs : Glyphs) (b : Bool) → eqb (class_of r) 0 ≡ b
    → i ≡ s + length ds → AreMarks context ds → HaveOwnClasses context (r ∷ rs)
    → list_all is_short (cond b ((s, i) ∷ mark_sequences (i + 1) (i + 1) (classes rs)) (mark_sequences s (i + 1) (classes rs)))
    ≡ true →
    (list_all is_short (mark_sequences (i + 1) (i + 1) (classes rs)) ≡ true → InOrder context
    (ordered_from as_they_are [] rs)) →
    (AreMarks context (ds ++ r ∷ []) → list_all is_short (mark_sequences s (i + 1) (classes rs)) ≡ true → InOrder context
    (ordered_from as_they_are (ds ++ r ∷ []) rs)) →
    InOrder context (cond b (run_of as_they_are ds ++ r ∷ ordered_from as_they_are [] rs)
    (ordered_from as_they_are (ds ++ r ∷ []) rs))
from_by context full t s i ds r rs true e place marks own short next longer =
    let parts = and_parts (is_short (s, i)) (list_all is_short (mark_sequences (i + 1) (i + 1) (classes rs))) short in
    let few : nat_le (i - s) 32 ≡ true = parts.0 in
    let letter : class_of r ≡ 0 = grind (arith, nat_tests) in
    let least : length ds ≤ 32 = grind (arith, nat_tests) in
    letter_case context (run_of as_they_are ds) r (ordered_from as_they_are [] rs) letter own.0
    (record { own = run_own context full t ds marks; ordered = run_ordered_as context full t ds marks least })
    (next parts.1)
from_by context full t s i ds r rs false e place marks own short next longer =
    let some : class_of r ≢ 0 = grind (arith, nat_tests) in
    longer (all-append (IsMark context) ds (r ∷ []) marks ((own.0, some), tt)) short

from_ordered : (context : Context) (full : ℕ → List ℕ) → TakesApart context full → (s i : ℕ) (ds rs : Glyphs)
    → i ≡ s + length ds → AreMarks context ds → HaveOwnClasses context rs
    → list_all is_short (mark_sequences s i (classes rs)) ≡ true → InOrder context (ordered_from as_they_are ds rs)
from_ordered context full t s i ds [] place marks own short =
    let few : nat_le (i - s) 32 ≡ true = (and_parts (nat_le (i - s) 32) true short).0 in
    let least : length ds ≤ 32 = grind (arith, nat_tests) in
    record { own = run_own context full t ds marks; ordered = run_ordered_as context full t ds marks least }
from_ordered context full t s i ds (r ∷ rs) place marks own short =
    from_by context full t s i ds r rs (eqb (class_of r) 0) refl place marks own short
    (λ more. from_ordered context full t (i + 1) (i + 1) [] rs (omega arith) tt own.1 more)
    (λ are more. from_ordered context full t s (i + 1) (ds ++ r ∷ []) rs
    (omega (arith, length-append ds (r ∷ []))) are own.1 more)

pub short_in_order : (context : Context) (full : ℕ → List ℕ) → TakesApart context full → LeavesOrder context
    → (level : BufferClusterLevel) (gs : Glyphs) → HaveOwnClasses context gs → has_short_sequences gs ≡ true
    → AreInOrder context (marks_ordered context level gs)
unfolding leaves
short_in_order context full t o level gs own short =
    let view = order_view gs in
    let seen : classes view ≡ classes gs = map-hidden class_of plain (λ g. refl) gs in
    let done = from_ordered context full t 0 0 [] view refl tt (view_own context gs own)
    (ap (λ cs. list_all is_short (mark_sequences 0 0 cs)) seen ∙ short) in
    let new = marks_ordered context level gs in
    let is : order_view new ≡ ordered_from as_they_are [] view = marks_view context full
    (leaves context full o) level gs in
    let same : classes (order_view new) ≡ classes new = map-hidden class_of plain (λ g. refl) new in
    record {
      own = own_of_view context new (subst (HaveOwnClasses context) (sym is) done.own);
      ordered = ap in_canonical_order (sym same ∙ ap classes is) ∙ ordered_to
          (ordered_from as_they_are [] view) done.ordered;
    }
