-- The second round, run after run.
use Rattle.std.proofs.Common.{◌≡◌, ◌≢◌, ◌+◌, ◌-◌, ◌<◌, ◌≤◌, ◌&&◌, ℕ, Bool, true, false, cond, eqb, nat_le, nat_lt, List, [], ◌∷◌, ◌++◌, length, take, drop, slice_index, refl, sym, ap, ◌∙◌, arith, append_assoc}
use Rattle.std.specs.List.{fold, range_with_len, slice_rotate_right, suffix_len}
use Rattle.std.proofs.Math.Seq.{drop-append_seam, drop-length, get_or-append_seam, take-append_seam, take-length}
use Rattle.std.proofs.lemmas.Bool.Decides.{nat_tests}
use Rattle.std.proofs.lemmas.List.{append-nil, drop-map, length-append, length-drop, length-map, length-take-le, map-append, take-append-drop, take-map}
use Rattle.std.proofs.lemmas.List.Sums.{suffix_len-le-length}
use Rattle.shapers_buffer.specs.Glyphs.{Glyph, Glyphs}
use Rattle.shapers_buffer.specs.declared.buffer.level.BufferClusterLevel.{BufferClusterLevel}
use Rattle.shapers_buffer.specs.Clusters.{stretch_of, with_stretch}
use Rattle.shapers_buffer.specs.Glyph.{order_view, plain}
use Rattle.shapers_buffer.proofs.ClusterLemmas.{map-stretch}
use Rattle.shapers_buffer.proofs.MappedLists.{all-append, map-hidden, suffix_len-map}
use Rattle.shapers_buffer.proofs.Placements.{with_stretch_at}
use Rattle.shapers_normal.specs.Context.{Context}
use Rattle.shapers_normal.specs.Sorting.{brought_before, class_of, classes, mark_sequences, marks_ordered, passed_marks, sequence_ordered, sequence_sorted, sorted_in, stay_together}
use Rattle.shapers_normal.proofs.FirstKept.{view-together}
use Rattle.shapers_equivalence_laws.specs.Laws.{HaveOwnClasses, mark_class}
use Rattle.shapers_equivalence_laws.proofs.Projections as order
use Rattle.shapers_equivalence_laws.proofs.Apart.{AreMarks, IsMark, Same, TakesApart, apart_text, apart-view, same_beside, view_own}
use Rattle.shapers_equivalence_laws.proofs.Insertion.{Sorted, above, all_inserted, inserted, length_inserted, length_sorted, run_sorts, sorted}

-- ---- one mark

abbrev turn : Glyphs → Glyphs
turn xs = slice_rotate_right xs 1

view_turned : (xs : Glyphs) → order_view (turn xs) ≡ turn (order_view xs)
view_turned xs =
    let n = length xs - 1 in
    map-append plain (drop n xs) (take n xs)
    ∙ ap (λ ys. ys ++ order_view (take n xs)) (sym (drop-map plain n xs))
    ∙ ap (λ ys. drop n (order_view xs) ++ ys) (sym (take-map plain n xs))
    ∙ ap (λ m. drop (m - 1) (order_view xs) ++ take (m - 1) (order_view xs)) (sym (length-map xs plain))

view_stretch : (s e : ℕ) (f : Glyphs → Glyphs) → ((xs : Glyphs) → order_view (f xs) ≡ f (order_view xs))
    → (gs : Glyphs) → order_view (with_stretch s e f gs) ≡ with_stretch s e f (order_view gs)
view_stretch s e f natural gs =
    map-append plain (take s gs) (f (stretch_of s e gs) ++ drop e gs)
    ∙ ap (λ xs. xs ++ order_view (f (stretch_of s e gs) ++ drop e gs)) (sym (take-map plain s gs))
    ∙ ap (λ xs. take s (order_view gs) ++ xs)
    (map-append plain (f (stretch_of s e gs)) (drop e gs)
    ∙ ap (λ xs. xs ++ order_view (drop e gs)) (natural (stretch_of s e gs) ∙ ap f (map-stretch plain s e gs))
    ∙ ap (λ xs. f (stretch_of s e (order_view gs)) ++ xs) (sym (drop-map plain e gs)))

turned_last : (ps : Glyphs) (t : Glyph) → turn (ps ++ t ∷ []) ≡ t ∷ ps
turned_last ps t =
    let n : length (ps ++ t ∷ []) - 1 ≡ length ps = omega (arith, length-append ps (t ∷ [])) in
    ap (λ k. drop k (ps ++ t ∷ []) ++ take k (ps ++ t ∷ [])) n
    ∙ ap (λ xs. xs ++ take (length ps) (ps ++ t ∷ [])) (drop-append_seam ps (t ∷ []))
    ∙ ap (λ xs. t ∷ xs) (take-append_seam ps (t ∷ []))

stretch_at : (f d r : Glyphs) (s i : ℕ) → s ≡ length f → i ≡ s + length d → stretch_of s i (f ++ (d ++ r)) ≡ d
stretch_at f d r s i start end =
    let n : i - s ≡ length d = omega arith in
    ap (λ k. take (i - s) (drop k (f ++ (d ++ r)))) start
    ∙ ap (take (i - s)) (drop-append_seam f (d ++ r))
    ∙ ap (λ k. take k (d ++ r)) n
    ∙ take-append_seam d r

class_at : (f d : Glyphs) (t : Glyph) (r : Glyphs) (i : ℕ) → i ≡ length f + length d
    → slice_index (classes (f ++ (d ++ t ∷ r))) i ≡ class_of t
class_at f d t r i place =
    let long : i ≡ length (classes (f ++ d)) = omega (arith, length-map (f ++ d) class_of, length-append f d) in
    ap (λ xs. slice_index (classes xs) i) (sym (append_assoc f d (t ∷ r)))
    ∙ ap (λ cs. slice_index cs i) (map-append class_of (f ++ d) (t ∷ r))
    ∙ ap (slice_index (classes (f ++ d) ++ class_of t ∷ classes r)) long
    ∙ get_or-append_seam (classes (f ++ d)) (class_of t) (classes r) 0

passed_view : (s i : ℕ) (gs : Glyphs) → passed_marks s i gs ≡ passed_marks s i (order_view gs)
passed_view s i gs =
    let own = λ (xs : Glyphs). slice_index (classes xs) i in
    let test = λ (c : ℕ) (g : Glyph). nat_lt c (class_of g) in
    sym (suffix_len-map (test (own gs)) plain (stretch_of s i gs))
    ∙ ap (suffix_len (test (own gs))) (map-stretch plain s i gs)
    ∙ ap (λ cs. suffix_len (test (slice_index cs i)) (stretch_of s i (order_view gs)))
    (sym (map-hidden class_of plain (λ g. refl) gs))

passed_at : (s i : ℕ) (f d : Glyphs) (t : Glyph) (r gs : Glyphs) → s ≡ length f → i ≡ s + length d
    → order_view gs ≡ f ++ (d ++ t ∷ r) → passed_marks s i gs ≡ suffix_len (above t) d
passed_at s i f d t r gs start end e =
    let text = f ++ (d ++ t ∷ r) in
    passed_view s i gs
    ∙ ap (passed_marks s i) e
    ∙ ap (λ c. suffix_len (λ g. nat_lt c (class_of g)) (stretch_of s i text)) (class_at f d t r i (omega arith))
    ∙ ap (suffix_len (above t)) (stretch_at f d (t ∷ r) s i start end)

brought_view : (level : BufferClusterLevel) (many s i : ℕ) (f d : Glyphs) (t : Glyph) (r gs : Glyphs)
    → s ≡ length f → i ≡ s + length d → order_view gs ≡ f ++ (d ++ t ∷ r) → many ≡ suffix_len (above t) d
    → order_view (brought_before level many i gs) ≡ f ++ (inserted t d ++ r)
brought_view level many s i f d t r gs start end e count =
    let n = length d - suffix_len (above t) d in
    let kept = take n d in
    let passed = drop n d in
    let few = suffix_len-le-length (above t) d in
    let long : length passed ≡ suffix_len (above t) d = omega (arith, length-drop n d, few) in
    let first : length (f ++ kept) ≡ i - many = omega
    (arith, length-append f kept, length-take-le n d (omega arith), few) in
    let last : i - many + length (passed ++ t ∷ []) ≡ i + 1 = omega (arith, length-append passed (t ∷ []), few) in
    let text : f ++ (d ++ t ∷ r) ≡ (f ++ kept) ++ ((passed ++ t ∷ []) ++ r) =
    ap (λ xs. f ++ (xs ++ t ∷ r)) (sym (take-append-drop n d))
    ∙ ap (λ xs. f ++ xs) (append_assoc kept passed (t ∷ r))
    ∙ sym (append_assoc f kept (passed ++ t ∷ r))
    ∙ ap (λ xs. (f ++ kept) ++ xs) (sym (append_assoc passed (t ∷ []) r)) in
    view_stretch (i - many) (i + 1) turn view_turned (stay_together level (i - many) (i + 1) gs)
    ∙ ap (with_stretch (i - many) (i + 1) turn) (view-together level (i - many) (i + 1) gs (omega arith) ∙ e ∙ text)
    ∙ with_stretch_at turn (f ++ kept) (passed ++ t ∷ []) r (i - many) (i + 1) first last
    ∙ ap (λ xs. (f ++ kept) ++ (xs ++ r)) (turned_last passed t)
    ∙ append_assoc f kept ((t ∷ passed) ++ r)
    ∙ ap (λ xs. f ++ xs) (sym (append_assoc kept (t ∷ passed) r))

stays_last : (t : Glyph) (d : Glyphs) → suffix_len (above t) d ≡ 0 → inserted t d ≡ d ++ t ∷ []
stays_last t d none =
    let n : length d - suffix_len (above t) d ≡ length d = omega arith in
    ap (λ k. take k d ++ t ∷ drop k d) n ∙ ap (λ xs. xs ++ t ∷ drop (length d) d) (take-length d)
    ∙ ap (λ xs. d ++ t ∷ xs) (drop-length d)

sorted_by : (level : BufferClusterLevel) (s i : ℕ) (f d : Glyphs) (t : Glyph) (r gs : Glyphs) (many : ℕ)
    (b : Bool)
    → eqb many 0 ≡ b → s ≡ length f → i ≡ s + length d → order_view gs ≡ f ++ (d ++ t ∷ r)
    → many ≡ suffix_len (above t) d
    → order_view (cond b gs (brought_before level many i gs)) ≡ f ++ (inserted t d ++ r)
sorted_by level s i f d t r gs many true none start end e count =
    let zero_many : many ≡ 0 = grind (arith, nat_tests) in
    e
    ∙ ap (λ xs. f ++ xs) (sym (append_assoc d (t ∷ []) r) ∙ ap (λ xs. xs ++ r)
    (sym (stays_last t d (sym count ∙ zero_many))))
sorted_by level s i f d t r gs many false some start end e count = brought_view level many s i f d t r gs start end e
    count

sorted_view : (level : BufferClusterLevel) (s i : ℕ) (f d : Glyphs) (t : Glyph) (r gs : Glyphs)
    → s ≡ length f → i ≡ s + length d → order_view gs ≡ f ++ (d ++ t ∷ r)
    → order_view (sorted_in level s i gs) ≡ f ++ (inserted t d ++ r)
sorted_view level s i f d t r gs start end e =
    sorted_by level s i f d t r gs (passed_marks s i gs) (eqb (passed_marks s i gs) 0) refl start end e
    (passed_at s i f d t r gs start end e)

-- ---- a sequence

all_view : (level : BufferClusterLevel) (s i : ℕ) (f d ts r gs : Glyphs) → s ≡ length f → i ≡ s + length d
    → order_view gs ≡ f ++ (d ++ (ts ++ r))
    → order_view (fold (λ gs i. sorted_in level s i gs) gs (range_with_len i (length ts))) ≡ f ++
    (all_inserted d ts ++ r)
all_view level s i f d [] r gs start end e = e
all_view level s i f d (t ∷ ts) r gs start end e =
    all_view level s (i + 1) f (inserted t d) ts r (sorted_in level s i gs) start (omega (arith, length_inserted t d))
    (sorted_view level s i f d t (ts ++ r) gs start end e)

run_view : (level : BufferClusterLevel) (s e : ℕ) (f d r gs : Glyphs) → s ≡ length f → e ≡ s + length d
    → order_view gs ≡ f ++ (d ++ r) → order_view (sequence_sorted level s e gs) ≡ f ++ (sorted d ++ r)
run_view level s e f [] r gs start end same =
    let none : e - (s + 1) ≡ 0 = omega arith in
    ap (λ n. order_view (fold (λ gs i. sorted_in level s i gs) gs (range_with_len (s + 1) n))) none ∙ same
run_view level s e f (d ∷ ds) r gs start end same =
    let many : e - (s + 1) ≡ length ds = omega arith in
    ap (λ n. order_view (fold (λ gs i. sorted_in level s i gs) gs (range_with_len (s + 1) n))) many
    ∙ all_view level s (s + 1) f (d ∷ []) ds r gs start refl same

-- what a shaper makes of a sequence, marks in order
pub record Arranges (context : Context) (full : ℕ → List ℕ) : Type 0 where
  pub arranged : Glyphs → Glyphs
  pub same_length : (marks : Glyphs) → length (arranged marks) ≡ length marks
  pub of_run : (level : BufferClusterLevel) (s e : ℕ) (gs : Glyphs) → s < e → e ≤ length gs → order_view
      (context.reordered level s e gs) ≡ with_stretch s e arranged (order_view gs)
  pub same : (marks : Glyphs) → AreMarks context marks → Sorted marks → Same context full (arranged marks) marks

abbrev pub is_run : Glyphs → Bool
is_run d = nat_lt 0 (length d) && nat_le (length d) 32

abbrev pub run_of : (Glyphs → Glyphs) → Glyphs → Glyphs
run_of f d = cond (is_run d) (f (sorted d)) d

length_run : (f : Glyphs → Glyphs) → ((marks : Glyphs) → length (f marks) ≡ length marks) → (d : Glyphs)
    → length (run_of f d) ≡ length d
length_run f same d = elim (is_run d) as (λ b. length (cond b (f (sorted d)) d) ≡ length d) [
  | true ↦ same (sorted d)
      ∙ length_sorted d
  | false ↦ refl
]

ordered_view_by : (context : Context) (full : ℕ → List ℕ) (a : Arranges context full) (level : BufferClusterLevel)
    (s e : ℕ) (f d r gs : Glyphs) (b : Bool)
    → (nat_lt s e && nat_le (e - s) 32) ≡ b → s ≡ length f → e ≡ s + length d → order_view gs ≡ f ++ (d ++ r)
    → order_view (cond b (context.reordered level s e (sequence_sorted level s e gs)) gs) ≡ f ++
    (cond b (a.arranged (sorted d)) d ++ r)
ordered_view_by context full a level s e f d r gs true test start end same =
    let some : s < e = grind (arith, nat_tests) in
    let one = sequence_sorted level s e gs in
    let view = run_view level s e f d r gs start end same in
    let inside : e ≤ length one = omega (
      arith,
      length-map one plain,
      ap length view,
      length-append f
          (sorted d ++ r),
      length-append (sorted d) r,
      length_sorted d,
    ) in
    a.of_run level s e one some inside ∙ ap (with_stretch s e a.arranged) view
    ∙ with_stretch_at a.arranged f (sorted d) r s e (sym start) (omega (arith, length_sorted d))
ordered_view_by context full a level s e f d r gs false test start end same = same

ordered_view : (context : Context) (full : ℕ → List ℕ) (a : Arranges context full) (level : BufferClusterLevel)
    (s e : ℕ) (f d r gs : Glyphs)
    → s ≡ length f → e ≡ s + length d → order_view gs ≡ f ++ (d ++ r)
    → order_view (sequence_ordered context level (s, e) gs) ≡ f ++ (run_of a.arranged d ++ r)
ordered_view context full a level s e f d r gs start end same =
    let test : (nat_lt s e && nat_le (e - s) 32) ≡ is_run d = grind (arith, nat_tests) in
    ordered_view_by context full a level s e f d r gs (nat_lt s e && nat_le (e - s) 32) refl start end same
    ∙ ap (λ b. f ++ (cond b (a.arranged (sorted d)) d ++ r)) test

-- ---- a text

-- the marks of a sequence so far, and the text behind them
abbrev pub ordered_from : (Glyphs → Glyphs) → Glyphs → Glyphs → Glyphs
ordered_from f d [] = run_of f d
ordered_from f d (r ∷ rs) = cond (eqb (class_of r) 0) (run_of f d ++ r ∷ ordered_from f [] rs)
    (ordered_from f (d ++ r ∷ []) rs)

abbrev all_ordered : Context → BufferClusterLevel → Glyphs → List (ℕ × ℕ) → Glyphs
all_ordered context level gs runs = fold (λ gs run. sequence_ordered context level run gs) gs runs

walk_view : (context : Context) (full : ℕ → List ℕ) (a : Arranges context full) (level : BufferClusterLevel) (s i : ℕ)
    (f d r gs : Glyphs)
    → s ≡ length f → i ≡ s + length d → order_view gs ≡ f ++ (d ++ r)
    → order_view (all_ordered context level gs (mark_sequences s i (classes r))) ≡ f ++ ordered_from a.arranged d r
walk_view context full a level s i f d [] gs start end same =
    ordered_view context full a level s i f d [] gs start end same
    ∙ ap (λ xs. f ++ xs) (append-nil (run_of a.arranged d))
walk_view context full a level s i f d (r ∷ rs) gs start end same =
    let run = run_of a.arranged d in
    let new = sequence_ordered context level (s, i) gs in
    let cs = classes rs in
    let one : order_view new ≡ f ++ (run ++ r ∷ rs) = ordered_view context full a level s i f d
    (r ∷ rs) gs start end same in
    let done = f ++ (run ++ r ∷ []) in
    let split : f ++ (run ++ r ∷ rs) ≡ done ++ ([] ++ rs) = ap (λ xs. f ++ xs) (sym (append_assoc run (r ∷ []) rs))
    ∙ sym (append_assoc f (run ++ r ∷ []) rs) in
    let long : i + 1 ≡ length done = omega (
      arith,
      length-append f (run ++ r ∷ []),
      length-append run
          (r ∷ []),
      length_run a.arranged a.same_length d,
    ) in
    let longer : i + 1 ≡ s + length (d ++ r ∷ []) = omega (arith, length-append d (r ∷ [])) in
    let more : f ++ (d ++ r ∷ rs) ≡ f ++ ((d ++ r ∷ []) ++ rs) = ap (λ xs. f ++ xs)
    (sym (append_assoc d (r ∷ []) rs)) in
    elim (eqb (class_of r) 0) as (λ b. order_view
    (all_ordered context level gs (cond b ((s, i) ∷ mark_sequences (i + 1) (i + 1) cs) (mark_sequences s (i + 1) cs))) ≡ f
    ++ cond b (run ++ r ∷ ordered_from a.arranged [] rs) (ordered_from a.arranged (d ++ r ∷ []) rs)) [
      | true ↦ walk_view context full a level (i + 1) (i + 1) done [] rs new long (omega arith) (one ∙ split)
          ∙ append_assoc f (run ++ r ∷ []) (ordered_from a.arranged [] rs)
          ∙ ap (λ xs. f ++ xs) (append_assoc run (r ∷ []) (ordered_from a.arranged [] rs))
      | false ↦ walk_view context full a level s (i + 1) f (d ++ r ∷ []) rs gs start longer (same ∙ more)
    ]

pub marks_view : (context : Context) (full : ℕ → List ℕ) (a : Arranges context full) (level : BufferClusterLevel)
    (gs : Glyphs)
    → order_view (marks_ordered context level gs) ≡ ordered_from a.arranged [] (order_view gs)
marks_view context full a level gs =
    ap (λ cs. order_view (all_ordered context level gs (mark_sequences 0 0 cs)))
    (sym (map-hidden class_of plain (λ g. refl) gs))
    ∙ walk_view context full a level 0 0 [] [] (order_view gs) gs refl refl refl

-- ---- the same text

run_same : (context : Context) (full : ℕ → List ℕ) → TakesApart context full
    → (a : Arranges context full) (d : Glyphs) → AreMarks context d → Same context full (run_of a.arranged d) d
run_same context full t a d marks =
    let s = run_sorts context full t d marks in
    elim (is_run d) as (λ b. Same context full (cond b (a.arranged (sorted d)) d) d) [
      | true ↦ λ k. a.same (sorted d) s.marks s.in_order k ∙ s.same k
      | false ↦ λ k. refl
    ]

same_by : (context : Context) (full : ℕ → List ℕ) (a : Arranges context full) (d : Glyphs) (r : Glyph)
    (rs : Glyphs) (b : Bool)
    → (b ≡ true → Same context full (run_of a.arranged d ++ r ∷ ordered_from a.arranged [] rs) (d ++ r ∷ rs))
    → (b ≡ false → Same context full (ordered_from a.arranged (d ++ r ∷ []) rs) (d ++ r ∷ rs))
    → Same context full (cond b (run_of a.arranged d ++ r ∷ ordered_from a.arranged [] rs)
    (ordered_from a.arranged (d ++ r ∷ []) rs)) (d ++ r ∷ rs)
same_by context full a d r rs true one other = one refl
same_by context full a d r rs false one other = other refl

from_same : (context : Context) (full : ℕ → List ℕ) → TakesApart context full
    → (a : Arranges context full) (d r : Glyphs) → AreMarks context d → HaveOwnClasses context r
    → Same context full (ordered_from a.arranged d r) (d ++ r)
from_same context full t a d [] marks own = λ k.
    run_same context full t a d marks k
    ∙ order.as_is (mark_class context) (apart_text full d) (apart_text full (d ++ []))
    (ap (apart_text full) (sym (append-nil d))) k
from_same context full t a d (r ∷ rs) marks own =
    same_by context full a d r rs (eqb (class_of r) 0)
    (λ letter. same_beside context full (run_of a.arranged d) (r ∷ ordered_from a.arranged [] rs) d (r ∷ rs)
    (run_same context full t a d marks)
    (order.beside (mark_class context) (full r.glyph_id) (apart_text full (ordered_from a.arranged [] rs))
    (full r.glyph_id) (apart_text full rs) (λ k. refl) (from_same context full t a [] rs tt own.1)))
    (λ mark.
    let some : class_of r ≢ 0 = grind (arith, nat_tests) in
    let more : (d ++ r ∷ []) ++ rs ≡ d ++ r ∷ rs = append_assoc d (r ∷ []) rs in
    λ k. from_same context full t a (d ++ r ∷ []) rs
    (all-append (IsMark context) d (r ∷ []) marks ((own.0, some), tt)) own.1 k
    ∙ order.as_is (mark_class context) (apart_text full ((d ++ r ∷ []) ++ rs)) (apart_text full (d ++ r ∷ rs))
    (ap (apart_text full) more) k)

pub second_same : (context : Context) (full : ℕ → List ℕ) → TakesApart context full
    → (a : Arranges context full) (level : BufferClusterLevel) (gs : Glyphs) → HaveOwnClasses context gs
    → Same context full (marks_ordered context level gs) gs
second_same context full t a level gs own = λ k.
    order.as_is (mark_class context) (apart_text full (marks_ordered context level gs))
    (apart_text full (ordered_from a.arranged [] (order_view gs)))
    (sym (apart-view full (marks_ordered context level gs)) ∙ ap (apart_text full)
    (marks_view context full a level gs)) k
    ∙ from_same context full t a [] (order_view gs) tt (view_own context gs own) k
    ∙ order.as_is (mark_class context) (apart_text full (order_view gs)) (apart_text full gs) (apart-view full gs) k
