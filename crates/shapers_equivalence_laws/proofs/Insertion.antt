-- Marks sorted one by one: what becomes of a sequence.
use Rattle.std.proofs.Common.{◌≡◌, ◌≢◌, ◌+◌, ◌-◌, ◌<◌, ◌≤◌, ◌||◌, ◌&&◌, ℕ, zero, suc, Bool, true, false, cond, eqb, nat_le, nat_lt, List, [], ◌∷◌, ◌++◌, length, take, drop, get_or, refl, sym, ap, ◌∙◌, subst, arith, append_assoc}
use Rattle.std.specs.List.{AllByRecursion, suffix_len}
use Rattle.std.proofs.lemmas.Bool.Decides.{nat_tests}
use Rattle.std.proofs.lemmas.List.{append-nil, length-append, length-drop, length-take-le}
use Rattle.std.proofs.lemmas.List.Sums.{suffix_len-le-length, suffix_len_is}
use Rattle.shapers_buffer.specs.Glyphs.{Glyph, Glyphs}
use Rattle.shapers_buffer.specs.Glyph.{default_glyph}
use Rattle.shapers_buffer.proofs.ListLaws.{suffix_len_stop}
use Rattle.shapers_normal.specs.Context.{Context}
use Rattle.shapers_normal.specs.Sorting.{class_of, classes}
use Rattle.shapers_equivalence_laws.specs.Laws.{in_canonical_order, mark_class}
use Rattle.shapers_equivalence_laws.proofs.Projections as order
use Rattle.shapers_equivalence_laws.proofs.Apart.{AreMarks, IsMark, OtherMarks, Same, TakesApart, apart_text, apart-append, mark_passes, same_beside}

-- whether a glyph stands in a greater class
abbrev pub above : Glyph → Glyph → Bool
above t g = nat_lt (class_of t) (class_of g)

-- a glyph before the last ones of a list, as many as stand in greater classes
abbrev pub inserted : Glyph → Glyphs → Glyphs
inserted t ds = take (length ds - suffix_len (above t) ds) ds ++ t ∷ drop (length ds - suffix_len (above t) ds) ds

abbrev pub all_inserted : Glyphs → Glyphs → Glyphs
all_inserted ds [] = ds
all_inserted ds (t ∷ ts) = all_inserted (inserted t ds) ts

abbrev pub sorted : Glyphs → Glyphs
sorted [] = []
sorted (d ∷ ds) = all_inserted (d ∷ []) ds

-- ---- into a list in order

abbrev pub Sorted : Glyphs → Type 0
Sorted [] = Unit {0}
Sorted (g ∷ gs) = AllByRecursion (λ h. class_of g ≤ class_of h) gs × Sorted gs

abbrev put_in : Glyph → Glyphs → Glyphs
put_in t [] = t ∷ []
put_in t (d ∷ ds) = cond (above t d) (t ∷ d ∷ ds) (d ∷ put_in t ds)

at : (P : Glyph → Type 0) (gs : Glyphs) (k : ℕ) → AllByRecursion P gs → k < length gs
    → P (get_or gs k default_glyph)
at P [] k all inside = absurd (omega arith)
at P (g ∷ gs) zero all inside = all.0
at P (g ∷ gs) (suc k) all inside = at P gs k all.1 (omega arith)

abbrev Above : Glyph → Glyph → Type 0
Above t g = above t g ≡ true

all_above : (t d : Glyph) (ds : Glyphs) → above t d ≡ true
    → AllByRecursion (λ h. class_of d ≤ class_of h) ds → AllByRecursion (Above t) ds
all_above t d [] e all = tt
all_above t d (h ∷ hs) e all =
    let least : class_of d ≤ class_of h = all.0 in
    let one : above t h ≡ true = grind (arith, nat_tests) in
    (one, all_above t d hs e all.1)

suffix_all : (t : Glyph) (ds : Glyphs) → AllByRecursion (Above t) ds
    → suffix_len (above t) ds ≡ length ds
suffix_all t ds all =
    suffix_len_is (above t) ds 0 default_glyph (omega arith) (λ k low high. at (Above t) ds k all high)
    (λ none. absurd (omega arith))
    ∙ omega arith

put_by : (t d : Glyph) (ds : Glyphs) (b : Bool) → above t d ≡ b → Sorted (d ∷ ds)
    → inserted t ds ≡ put_in t ds → inserted t (d ∷ ds) ≡ cond b (t ∷ d ∷ ds) (d ∷ put_in t ds)
put_by t d ds true e s ih =
    let n : length (d ∷ ds) - suffix_len (above t) (d ∷ ds) ≡ 0 = omega
    (arith, suffix_all t (d ∷ ds) (e, all_above t d ds e s.0)) in
    ap (λ k. take k (d ∷ ds) ++ t ∷ drop k (d ∷ ds)) n
put_by t d ds false e s ih =
    let n : length (d ∷ ds) - suffix_len (above t) (d ∷ ds) ≡ suc (length ds - suffix_len (above t) ds) = omega
    (arith, suffix_len_stop (above t) [] d ds e, suffix_len-le-length (above t) ds) in
    ap (λ k. take k (d ∷ ds) ++ t ∷ drop k (d ∷ ds)) n ∙ ap (λ xs. d ∷ xs) ih

inserted_put : (t : Glyph) (ds : Glyphs) → Sorted ds → inserted t ds ≡ put_in t ds
inserted_put t [] s = refl
inserted_put t (d ∷ ds) s = put_by t d ds (above t d) refl s (inserted_put t ds s.1)

all_put : (P : Glyph → Type 0) (t : Glyph) (ds : Glyphs) → P t → AllByRecursion P ds
    → AllByRecursion P (put_in t ds)
all_put P t [] p all = (p, tt)
all_put P t (d ∷ ds) p all = elim (above t d) as
    (λ b. AllByRecursion P (cond b (t ∷ d ∷ ds) (d ∷ put_in t ds))) [
      | true ↦ (p, all)
      | false ↦
          (all.0, all_put P t ds p all.1)
    ]

length_put : (t : Glyph) (ds : Glyphs) → length (put_in t ds) ≡ length ds + 1
length_put t [] = refl
length_put t (d ∷ ds) = elim (above t d) as
    (λ b. length (cond b (t ∷ d ∷ ds) (d ∷ put_in t ds)) ≡ length (d ∷ ds) + 1) [
      | true ↦ omega arith
      | false ↦ omega
          (arith, length_put t ds)
    ]

in_lesser : (t d : Glyph) (ds : Glyphs) → class_of t ≤ class_of d
    → AllByRecursion (λ h. class_of d ≤ class_of h) ds → AllByRecursion (λ h. class_of t ≤ class_of h) ds
in_lesser t d [] less all = tt
in_lesser t d (h ∷ hs) less all = let least : class_of d ≤ class_of h =
    all.0 in (omega arith, in_lesser t d hs less all.1)

sorted_by : (t d : Glyph) (ds : Glyphs) (b : Bool) → above t d ≡ b → Sorted (d ∷ ds)
    → Sorted (put_in t ds) → Sorted (cond b (t ∷ d ∷ ds) (d ∷ put_in t ds))
sorted_by t d ds true e s ih = let less : class_of t ≤ class_of d = grind (arith, nat_tests) in
    ((less, in_lesser t d ds less s.0), s)
sorted_by t d ds false e s ih = let less : class_of d ≤ class_of t = grind (arith, nat_tests) in
    (all_put (λ h. class_of d ≤ class_of h) t ds less s.0, ih)

sorted_put : (t : Glyph) (ds : Glyphs) → Sorted ds → Sorted (put_in t ds)
sorted_put t [] s = (tt, tt)
sorted_put t (d ∷ ds) s = sorted_by t d ds (above t d) refl s (sorted_put t ds s.1)

others_above : (context : Context) (t : Glyph) (ds : Glyphs) → AreMarks context ds
    → AllByRecursion (Above t) ds → OtherMarks context (class_of t) ds
others_above context t [] marks all = tt
others_above context t (d ∷ ds) marks all =
    let e : nat_lt (class_of t) (class_of d) ≡ true = all.0 in
    let other : class_of d ≢ class_of t = grind (arith, nat_tests) in
    ((marks.0, other), others_above context t ds marks.1 all.1)

-- a glyph behind a text
apart-last : (full : ℕ → List ℕ) (gs : Glyphs) (t : Glyph)
    → apart_text full (gs ++ t ∷ []) ≡ apart_text full gs ++ full t.glyph_id
apart-last full gs t = apart-append full gs (t ∷ []) ∙ ap (λ xs. apart_text full gs ++ xs)
    (append-nil (full t.glyph_id))

same_by : (context : Context) (full : ℕ → List ℕ) → TakesApart context full
    → (t d : Glyph) (ds : Glyphs) (b : Bool) → above t d ≡ b → IsMark context t
    → AreMarks context (d ∷ ds) → Sorted (d ∷ ds) → Same context full (put_in t ds) (ds ++ t ∷ [])
    → Same context full (cond b (t ∷ d ∷ ds) (d ∷ put_in t ds)) ((d ∷ ds) ++ t ∷ [])
same_by context full a t d ds true e mark marks s ih = λ k.
    mark_passes context full a t (d ∷ ds) mark (others_above context t (d ∷ ds) marks (e, all_above t d ds e s.0)) k
    ∙ sym (order.as_is (mark_class context) (apart_text full ((d ∷ ds) ++ t ∷ []))
    (apart_text full (d ∷ ds) ++ full t.glyph_id) (apart-last full (d ∷ ds) t) k)
same_by context full a t d ds false e mark marks s ih =
    order.beside (mark_class context) (full d.glyph_id) (apart_text full (put_in t ds)) (full d.glyph_id)
    (apart_text full (ds ++ t ∷ [])) (order.same (mark_class context) (full d.glyph_id)) ih

same_put : (context : Context) (full : ℕ → List ℕ) → TakesApart context full
    → (t : Glyph) (ds : Glyphs) → IsMark context t → AreMarks context ds → Sorted ds
    → Same context full (put_in t ds) (ds ++ t ∷ [])
same_put context full a t [] mark marks s = λ k. refl
same_put context full a t (d ∷ ds) mark marks s = same_by context full a t d ds (above t d) refl mark marks s
    (same_put context full a t ds mark marks.1 s.1)

-- ---- a sequence

-- marks in order, as many as before and the same but for their order
pub record RunSorted (context : Context) (full : ℕ → List ℕ) (old new : Glyphs) : Type 0 where
  pub same_length : length new ≡ length old
  pub marks : AreMarks context new
  pub in_order : Sorted new
  pub same : Same context full new old

-- as many, whatever they are
pub length_inserted : (t : Glyph) (ds : Glyphs) → length (inserted t ds) ≡ length ds + 1
length_inserted t ds =
    let n = length ds - suffix_len (above t) ds in
    omega (arith, length-append (take n ds) (t ∷ drop n ds), length-take-le n ds (omega arith), length-drop n ds)

pub length_all : (ds ts : Glyphs) → length (all_inserted ds ts) ≡ length ds + length ts
length_all ds [] = omega arith
length_all ds (t ∷ ts) = omega (arith, length_all (inserted t ds) ts, length_inserted t ds)

pub length_sorted : (ds : Glyphs) → length (sorted ds) ≡ length ds
length_sorted [] = refl
length_sorted (d ∷ ds) = length_all (d ∷ []) ds ∙ omega arith

all_run : (context : Context) (full : ℕ → List ℕ) → TakesApart context full → (ds ts : Glyphs)
    → AreMarks context ds → Sorted ds → AreMarks context ts → RunSorted context full (ds ++ ts) (all_inserted ds ts)
all_run context full a ds [] marks s new = record {
  same_length = ap length (sym (append-nil ds));
  marks = marks;
  in_order = s;
  same = order.as_is (mark_class context) (apart_text full ds) (apart_text full (ds ++ []))
      (ap (apart_text full) (sym (append-nil ds)));
}
all_run context full a ds (t ∷ ts) marks s new =
    let put = inserted_put t ds s in
    let rest = all_run context full a (inserted t ds) ts
    (subst (AreMarks context) (sym put) (all_put (IsMark context) t ds new.0 marks))
    (subst Sorted (sym put) (sorted_put t ds s)) new.1 in
    let one : Same context full (inserted t ds) (ds ++ t ∷ []) = subst (λ xs. Same context full xs (ds ++ t ∷ []))
    (sym put) (same_put context full a t ds new.0 marks s) in
    let whole : (ds ++ t ∷ []) ++ ts ≡ ds ++ t ∷ ts = append_assoc ds (t ∷ []) ts in
    record {
      same_length = rest.same_length ∙ omega (
        arith,
        length-append
            (inserted t ds) ts,
        length_inserted t ds,
        length-append ds (t ∷ ts),
      );
      marks = rest.marks;
      in_order = rest.in_order;
      same = λ k.
          rest.same k
          ∙ same_beside context full (inserted t ds) ts (ds ++ t ∷ []) ts one (λ k. refl) k
          ∙ order.as_is (mark_class context) (apart_text full ((ds ++ t ∷ []) ++ ts)) (apart_text full (ds ++ t ∷ ts))
          (ap (apart_text full) whole) k;
    }

pub run_sorts : (context : Context) (full : ℕ → List ℕ) → TakesApart context full → (ds : Glyphs)
    → AreMarks context ds → RunSorted context full ds (sorted ds)
run_sorts context full a [] marks = record { same_length = refl; marks = tt; in_order = tt; same = λ k. refl }
run_sorts context full a (d ∷ ds) marks = all_run context full a (d ∷ []) ds (marks.0, tt) (tt, tt) marks.1

-- marks in order have no reorderable pair
pub in_order_of : (gs : Glyphs) → Sorted gs → in_canonical_order (classes gs) ≡ true
in_order_of [] s = refl
in_order_of (g ∷ []) s = refl
in_order_of (g ∷ (h ∷ gs)) s =
    let less : class_of g ≤ class_of h = s.0.0 in
    let rest : in_canonical_order (classes (h ∷ gs)) ≡ true = in_order_of (h ∷ gs) s.1 in
    let one : (eqb (class_of h) 0 || nat_le (class_of g) (class_of h)) ≡ true = grind (arith, nat_tests) in
    ap (λ b. b && in_canonical_order (classes (h ∷ gs))) one ∙ rest
