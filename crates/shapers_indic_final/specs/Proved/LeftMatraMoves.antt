-- The left matras parted from what stands around them, one after another.
use Rattle.std.proofs.Common.{ℕ, zero, suc, ◌+◌, ◌-◌, ◌<◌, ◌≤◌, ◌≡◌, Bool, true, false, cond, List, [], ◌∷◌, ◌++◌, map, length, take, drop, take-suc, append_assoc, append-nil, length-append, length-take-le, get_or, reverse, refl, sym, ◌∙◌, ap, subst, arith, inl, inr}
use Rattle.std.specs.Prelude.{filter, not}
use Rattle.std.specs.List.{enumerate_from}
use Rattle.std.proofs.lemmas.Bool.{cases_Bool}
use Rattle.std.proofs.lemmas.List.{drop_at, reverse-append, take_at}
use Rattle.std.proofs.lemmas.List.Elements.{filter-append}
use Rattle.shapers_buffer.specs.Glyphs.{Glyph, Glyphs}
use Rattle.shapers_buffer.specs.Lists.{first_last}
use Rattle.shapers_buffer.specs.Clusters.{stretch_of, with_stretch}
use Rattle.shapers_buffer.specs.Glyph.{default_glyph}
use Rattle.shapers_clusters.specs.Steps.{Step}
use Rattle.shapers_indic.specs.Glyphs.{passes, places}
use Rattle.shapers_indic_final.specs.FinalMatras.{is_left, matra_step}
use Rattle.shapers_indic_final.specs.Proved.FinalLawsAt.{LawsAt, same_at, stretch_at, then_at}
use Rattle.shapers_indic_final.specs.Proved.FinalMoves.{picks_first_last}
use Rattle.shapers_indic.proofs.PlaceSearch.{passes_there, places_last}
use Rattle.shapers_clusters.proofs.Permuted.{permuted-first_last}

abbrev pub is_other : Glyph → Bool
is_other g = not (is_left g)

-- the left places before m, and the steps of them, the first of which has target p - k
abbrev pub lefts : ℕ → Glyphs → List ℕ
lefts m gs = reverse (filter (passes is_left gs) (places 0 m))

abbrev pub steps_of : ℕ → ℕ → ℕ → ℕ → List ℕ → List Step
steps_of n e p k qs = map (λ t. matra_step n e t.1 (p - t.0)) (enumerate_from k qs)

pub lefts_yes : (m : ℕ) (gs : Glyphs) → passes is_left gs m ≡ true → lefts (m + 1) gs ≡ m ∷ lefts m gs
lefts_yes m gs holds =
    let test = passes is_left gs in
    ap (λ qs. reverse (filter test qs)) (places_last 0 m (omega arith))
    ∙ ap reverse (filter-append test (places 0 m) (m ∷ []))
    ∙ ap (λ b. reverse (filter test (places 0 m) ++ cond b (m ∷ []) [])) holds
    ∙ reverse-append (filter test (places 0 m)) (m ∷ [])

pub lefts_no : (m : ℕ) (gs : Glyphs) → passes is_left gs m ≡ false → lefts (m + 1) gs ≡ lefts m gs
lefts_no m gs fails =
    let test = passes is_left gs in
    ap (λ qs. reverse (filter test qs)) (places_last 0 m (omega arith))
    ∙ ap reverse (filter-append test (places 0 m) (m ∷ []))
    ∙ ap (λ b. reverse (filter test (places 0 m) ++ cond b (m ∷ []) [])) fails
    ∙ ap reverse (append-nil (filter test (places 0 m)))

-- a stretch between two parts
pub stretch_between : {X : Type 0} (f : List X → List X) (i k : ℕ) (a b c : List X) → length a ≡ i → i + length b ≡ k
    → with_stretch i k f (a ++ (b ++ c)) ≡ a ++ (f b ++ c)
stretch_between f i k a b c an bn =
    let all = a ++ (b ++ c) in
    let many : length b ≡ k - i = omega arith in
    let front : take i all ≡ a = take_at a (b ++ c) i an in
    let rest : drop i all ≡ b ++ c = drop_at a (b ++ c) i an in
    let middle : stretch_of i k all ≡ b = ap (take (k - i)) rest ∙ take_at b c (k - i) many in
    let back : drop k all ≡ c = ap (drop k) (sym (append_assoc a b c))
    ∙ drop_at (a ++ b) c k (length-append a b ∙ omega arith) in
    ap (λ xs. xs ++ (f (stretch_of i k all) ++ drop k all)) front
    ∙ ap (λ xs. a ++ (f xs ++ drop k all)) middle
    ∙ ap (λ xs. a ++ (f b ++ xs)) back

-- one left matra goes behind what was passed
one_at : (a b c : Glyphs) (x : Glyph) (n e i j : ℕ) → n ≡ length (a ++ ((x ∷ b) ++ c)) → e ≤ n
    → i ≡ length a → j ≡ i + length b → LawsAt (a ++ ((x ∷ b) ++ c)) (a ++ (b ++ x ∷ c)) (matra_step n e i j ∷ [])
one_at a b c x n e i j long ends at to =
    let gs = a ++ ((x ∷ b) ++ c) in
    let within : j + 1 ≤ length gs = omega (arith, length-append a ((x ∷ b) ++ c), length-append (x ∷ b) c) in
    let is : with_stretch i (j + 1) first_last gs ≡ a ++ (b ++ x ∷ c) =
    stretch_between first_last i (j + 1) a (x ∷ b) c (sym at) (omega arith)
    ∙ ap (λ xs. a ++ xs) (append_assoc b (x ∷ []) c) in
    subst (λ ms. LawsAt gs ms (matra_step n e i j ∷ [])) is
    (stretch_at first_last first_last picks_first_last permuted-first_last i (j + 1) (matra_step n e i j) gs
    (omega arith) within
    (ap (λ k. with_stretch i (j + 1) first_last (places 0 k)) long) tt (omega arith, tt))

-- all of them
pub all_at : (gs : Glyphs) (n e p m k : ℕ) (b c : Glyphs) → m ≤ length gs → e ≤ n
    → n ≡ m + (length b + length c) → p + 1 ≡ k + (m + length b)
    → LawsAt (take m gs ++ (b ++ c)) (filter is_other (take m gs) ++ (b ++ (filter is_left (take m gs) ++ c)))
    (steps_of n e p k (lefts m gs))
all_at gs n e p zero k b c l ends long at = same_at (b ++ c) (b ++ c) refl
all_at gs n e p (suc m) k b c l ends long at =
    let d = default_glyph in
    let x = get_or gs m d in
    let a = take m gs in
    let there : m < length gs = omega arith in
    let an : length a ≡ m = length-take-le m gs (omega arith) in
    let more : take (suc m) gs ≡ a ++ x ∷ [] = take-suc gs m d there in
    let start : take (suc m) gs ++ (b ++ c) ≡ a ++ ((x ∷ b) ++ c) = ap (λ xs. xs ++ (b ++ c)) more
    ∙ append_assoc a (x ∷ []) (b ++ c) in
    let read : passes is_left gs m ≡ is_left x = passes_there is_left gs m d there in
    let suc_is : suc m ≡ m + 1 = omega arith in
    let others : filter is_other (take (suc m) gs) ≡ filter is_other a ++ cond (is_other x) (x ∷ []) [] =
    ap (filter is_other) more ∙ filter-append is_other a (x ∷ []) in
    let left : filter is_left (take (suc m) gs) ≡ filter is_left a ++ cond (is_left x) (x ∷ []) [] =
    ap (filter is_left) more ∙ filter-append is_left a (x ∷ []) in
    let F : Glyphs → Glyphs → Glyphs = λ os ls. os ++ (b ++ (ls ++ c)) in
    elim (cases_Bool (is_left x)) [
      | inl holds ↦
          let j = p - k in
          let one : LawsAt (a ++ ((x ∷ b) ++ c)) (a ++ (b ++ x ∷ c)) (matra_step n e m j ∷ []) =
          one_at a b c x n e m j (long
          ∙ sym (length-append a ((x ∷ b) ++ c) ∙ ap (λ q. length a + q) (length-append (x ∷ b) c) ∙ omega arith))
          ends (sym an) (omega arith) in
          let rest = all_at gs n e p m (k + 1) b (x ∷ c) (omega arith) ends (omega arith) (omega arith) in
          let end : filter is_other a ++ (b ++ (filter is_left a ++ x ∷ c))
          ≡ F (filter is_other (take (suc m) gs)) (filter is_left (take (suc m) gs)) =
          sym (ap (λ os. F os (filter is_left (take (suc m) gs))) (others
          ∙ ap (λ t. filter is_other a ++ cond (not t) (x ∷ []) []) holds ∙ append-nil (filter is_other a))
          ∙ ap (F (filter is_other a)) (left ∙ ap (λ t. filter is_left a ++ cond t (x ∷ []) []) holds)
          ∙ ap (λ xs. filter is_other a ++ (b ++ xs)) (append_assoc (filter is_left a) (x ∷ []) c)) in
          let both = then_at (a ++ ((x ∷ b) ++ c)) (a ++ (b ++ x ∷ c))
          (filter is_other a ++ (b ++ (filter is_left a ++ x ∷ c))) (matra_step n e m j ∷ [])
          (steps_of n e p (k + 1) (lefts m gs)) one rest in
          let steps : steps_of n e p k (m ∷ lefts m gs) ≡ steps_of n e p k (lefts (suc m) gs) =
          ap (steps_of n e p k) (sym (ap (λ q. lefts q gs) suc_is ∙ lefts_yes m gs (read ∙ holds))) in
          subst (λ sts. LawsAt (take (suc m) gs ++ (b ++ c))
          (F (filter is_other (take (suc m) gs)) (filter is_left (take (suc m) gs))) sts) steps
          (subst (λ ms. LawsAt (take (suc m) gs ++ (b ++ c)) ms (steps_of n e p k (m ∷ lefts m gs))) end
          (subst (λ xs. LawsAt xs (filter is_other a ++ (b ++ (filter is_left a ++ x ∷ c)))
          (steps_of n e p k (m ∷ lefts m gs))) (sym start) both))
      | inr fails ↦
          let rest = all_at gs n e p m k (x ∷ b) c (omega arith) ends (omega arith) (omega arith) in
          let end : filter is_other a ++ ((x ∷ b) ++ (filter is_left a ++ c))
          ≡ F (filter is_other (take (suc m) gs)) (filter is_left (take (suc m) gs)) =
          sym (ap (λ os. F os (filter is_left (take (suc m) gs))) (others
          ∙ ap (λ t. filter is_other a ++ cond (not t) (x ∷ []) []) fails)
          ∙ ap (F (filter is_other a ++ x ∷ [])) (left ∙ ap (λ t. filter is_left a ++ cond t (x ∷ []) []) fails
          ∙ append-nil (filter is_left a))
          ∙ append_assoc (filter is_other a) (x ∷ []) (b ++ (filter is_left a ++ c))) in
          let steps : steps_of n e p k (lefts m gs) ≡ steps_of n e p k (lefts (suc m) gs) =
          ap (steps_of n e p k) (sym (ap (λ q. lefts q gs) suc_is ∙ lefts_no m gs (read ∙ fails))) in
          subst (λ sts. LawsAt (take (suc m) gs ++ (b ++ c))
          (F (filter is_other (take (suc m) gs)) (filter is_left (take (suc m) gs))) sts) steps
          (subst (λ ms. LawsAt (take (suc m) gs ++ (b ++ c)) ms (steps_of n e p k (lefts m gs))) end
          (subst (λ xs. LawsAt xs (filter is_other a ++ ((x ∷ b) ++ (filter is_left a ++ c)))
          (steps_of n e p k (lefts m gs))) (sym start) rest))
    ]
