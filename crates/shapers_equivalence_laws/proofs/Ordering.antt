-- Texts that are one but for the order of marks are the same in canonical order.
use Rattle.std.proofs.Common.{◌≡◌, ◌≢◌, ◌||◌, ℕ, Bool, true, false, cond, eqb, List, [], ◌∷◌, ◌++◌, refl, sym, ap, ap₂, ◌∙◌, subst, arith, append_assoc, eqb-true}
use Rattle.std.specs.List.{AllByRecursion, filter, flat_map, range_with_len}
use Rattle.std.proofs.lemmas.Bool.Decides.{nat_tests}
use Rattle.std.proofs.lemmas.List.{append-nil}
use Rattle.shapers_buffer.proofs.MappedLists.{all-append}
use Rattle.shapers_equivalence_laws.specs.Equivalence.{OrdersAlike, SameButForOrder, by_classes_behind, is_starter_or_in, marks_by_class, with_marks_of}
use Rattle.shapers_equivalence_laws.proofs.Projections.{marks-append}

abbrev Marks : (ℕ → ℕ) → List ℕ → Type 0
Marks class ms = AllByRecursion (λ c. class c ≢ 0) ms

abbrev of_class : (ℕ → ℕ) → ℕ → ℕ → Bool
of_class class k c = eqb (class c) k

-- among marks those of a class are those of class 0 or that class
alone : (class : ℕ → ℕ) (k : ℕ) (ms : List ℕ) → Marks class ms → with_marks_of class k ms ≡ filter (of_class class k) ms
alone class k [] all = refl
alone class k (m ∷ ms) all =
    let some : class m ≢ 0 = all.0 in
    let none : eqb (class m) 0 ≡ false = grind (arith, nat_tests) in
    ap (λ b. cond (b || eqb (class m) k) (m ∷ with_marks_of class k ms) (with_marks_of class k ms)) none
    ∙ ap (λ xs. cond (eqb (class m) k) (m ∷ xs) xs) (alone class k ms all.1)

by_classes : (class : ℕ → ℕ) (ms ns : List ℕ) (ks : List ℕ)
    → ((k : ℕ) → filter (of_class class k) ms ≡ filter (of_class class k) ns)
    → flat_map (λ k. filter (of_class class k) ms) ks ≡ flat_map (λ k. filter (of_class class k) ns) ks
by_classes class ms ns [] same = refl
by_classes class ms ns (k ∷ ks) same =
    ap (λ xs. xs ++ flat_map (λ k. filter (of_class class k) ms) ks) (same k)
    ∙ ap (λ xs. filter (of_class class k) ns ++ xs) (by_classes class ms ns ks same)

marks_alike : (class : ℕ → ℕ) (ms ns : List ℕ) → Marks class ms → Marks class ns → SameButForOrder class ms ns
    → marks_by_class class ms ≡ marks_by_class class ns
marks_alike class ms ns p q same = by_classes class ms ns (range_with_len 1 255)
    (λ k. sym (alone class k ms p) ∙ same k ∙ alone class k ns q)

-- ---- cut at the first character of class 0

starter_kept : (class : ℕ → ℕ) (k c : ℕ) (cs : List ℕ) → class c ≡ 0
    → with_marks_of class k (c ∷ cs) ≡ c ∷ with_marks_of class k cs
starter_kept class k c cs letter =
    let yes_so : (eqb (class c) 0 || eqb (class c) k) ≡ true = grind (arith, nat_tests) in
    ap (λ b. cond b (c ∷ with_marks_of class k cs) (with_marks_of class k cs)) yes_so

kept : (class : ℕ → ℕ) (k : ℕ) (ms : List ℕ) (c : ℕ) (cs : List ℕ) → class c ≡ 0
    → with_marks_of class k (ms ++ c ∷ cs) ≡ with_marks_of class k ms ++ c ∷ with_marks_of class k cs
kept class k ms c cs letter = marks-append class k ms (c ∷ cs) ∙ ap (λ xs. with_marks_of class k ms ++ xs)
    (starter_kept class k c cs letter)

filtered_by : (class : ℕ → ℕ) (p : ℕ → Bool) (m : ℕ) (ms : List ℕ) (b : Bool) → class m ≢ 0
    → Marks class (filter p ms) → Marks class (cond b (m ∷ filter p ms) (filter p ms))
filtered_by class p m ms true some all = (some, all)
filtered_by class p m ms false some all = all

filtered : (class : ℕ → ℕ) (p : ℕ → Bool) (ms : List ℕ) → Marks class ms → Marks class (filter p ms)
filtered class p [] all = tt
filtered class p (m ∷ ms) all = filtered_by class p m ms (p m) all.0 (filtered class p ms all.1)

record SameCut (ms ns : List ℕ) (c d : ℕ) (cs ds : List ℕ) : Type 0 where
  marks : ms ≡ ns
  starter : c ≡ d
  behind : cs ≡ ds

abbrev head_or : ℕ → List ℕ → ℕ
head_or d [] = d
head_or d (x ∷ xs) = x

abbrev tail_of : List ℕ → List ℕ
tail_of [] = []
tail_of (x ∷ xs) = xs

same_cut : (class : ℕ → ℕ) (ms ns : List ℕ) (c d : ℕ) (cs ds : List ℕ) → Marks class ms → Marks class ns → class c ≡ 0
    → class d ≡ 0 → ms ++ c ∷ cs ≡ ns ++ d ∷ ds → SameCut ms ns c d cs ds
same_cut class [] [] c d cs ds p q one other e = record {
  marks = refl;
  starter = ap
      (head_or c) e;
  behind = ap tail_of e;
}
same_cut class [] (n ∷ ns) c d cs ds p q one other e = absurd (q.0 (ap class (sym (ap (head_or c) e)) ∙ one))
same_cut class (m ∷ ms) [] c d cs ds p q one other e = absurd (p.0 (ap class (ap (head_or m) e) ∙ other))
same_cut class (m ∷ ms) (n ∷ ns) c d cs ds p q one other e =
    let rest = same_cut class ms ns c d cs ds p.1 q.1 one other (ap tail_of e) in
    record { marks = ap₂ (λ x xs. x ∷ xs) (ap (head_or m) e) rest.marks; starter = rest.starter; behind = rest.behind }

-- marks are no text with a starter
not_marks : (class : ℕ → ℕ) (ms ns : List ℕ) (d : ℕ) (ds : List ℕ) → Marks class ms → class d ≡ 0 → ms ≡ ns ++ d ∷ ds
    → ⊥
not_marks class ms [] d ds p letter e = let all : Marks class (d ∷ ds) = subst (Marks class) e p in all.0 letter
not_marks class [] (n ∷ ns) d ds p letter e = let all : AllByRecursion (λ c. ⊥) (n ∷ (ns ++ d ∷ ds)) = subst
    (AllByRecursion (λ c. ⊥)) e tt in all.0
not_marks class (m ∷ ms) (n ∷ ns) d ds p letter e = not_marks class ms ns d ds p.1 letter (ap tail_of e)

-- ---- the two texts, starter after starter

abbrev Joined : (ℕ → ℕ) → List ℕ → List ℕ → List ℕ → List ℕ → Type 0
Joined class ms cs ns ds = SameButForOrder class (ms ++ cs) (ns ++ ds)

cuts : (class : ℕ → ℕ) (ms ns : List ℕ) (c d : ℕ) (cs ds : List ℕ) → Marks class ms → Marks class ns → class c ≡ 0
    → class d ≡ 0 → Joined class ms (c ∷ cs) ns (d ∷ ds) → (k : ℕ)
    → SameCut (with_marks_of class k ms) (with_marks_of class k ns) c d (with_marks_of class k cs)
    (with_marks_of class k ds)
cuts class ms ns c d cs ds p q one other same k =
    same_cut class (with_marks_of class k ms) (with_marks_of class k ns) c d (with_marks_of class k cs)
    (with_marks_of class k ds) (filtered class (is_starter_or_in class k) ms p)
    (filtered class (is_starter_or_in class k) ns q) one other
    (sym (kept class k ms c cs one) ∙ same k ∙ kept class k ns d ds other)

last_of : (class : ℕ → ℕ) (ms ns : List ℕ) (d : ℕ) (ds : List ℕ) → Marks class ms → class d ≡ 0
    → SameButForOrder class ms (ns ++ d ∷ ds) → ⊥
last_of class ms ns d ds p letter same =
    not_marks class (with_marks_of class 0 ms) (with_marks_of class 0 ns) d (with_marks_of class 0 ds)
    (filtered class (is_starter_or_in class 0) ms p) letter (same 0 ∙ kept class 0 ns d ds letter)

-- the second text is read on while it has marks
abbrev Behind : (ℕ → ℕ) → List ℕ → List ℕ → Type 0
Behind class ms cs = (ns ds : List ℕ) → Marks class ns → Joined class ms cs ns ds → by_classes_behind class ms cs
    ≡ by_classes_behind class ns ds

one_more : (class : ℕ → ℕ) (ms : List ℕ) (c : ℕ) → Marks class ms → class c ≢ 0 → Marks class (ms ++ c ∷ [])
one_more class ms c all some = all-append (λ c. class c ≢ 0) ms (c ∷ []) all (some, tt)

end_by : (class : ℕ → ℕ) (ms ns : List ℕ) (d : ℕ) (ds : List ℕ) (b : Bool) → eqb (class d) 0 ≡ b → Marks class ms
    → Marks class ns → SameButForOrder class ms (ns ++ d ∷ ds)
    → (class d ≢ 0 → marks_by_class class ms ≡ by_classes_behind class (ns ++ d ∷ []) ds)
    → marks_by_class class ms ≡ cond b (marks_by_class class ns ++ d ∷ by_classes_behind class [] ds)
    (by_classes_behind class (ns ++ d ∷ []) ds)
end_by class ms ns d ds true e p q same next = absurd (last_of class ms ns d ds p (eqb-true (class d) 0 e) same)
end_by class ms ns d ds false e p q same next = let some : class d ≢ 0 = grind (arith, nat_tests) in next some

ends_alike : (class : ℕ → ℕ) (ms ns ds : List ℕ) → Marks class ms → Marks class ns
    → SameButForOrder class ms (ns ++ ds) → marks_by_class class ms ≡ by_classes_behind class ns ds
ends_alike class ms ns [] p q same = marks_alike class ms ns p q
    (λ k. same k ∙ ap (with_marks_of class k) (append-nil ns))
ends_alike class ms ns (d ∷ ds) p q same =
    end_by class ms ns d ds (eqb (class d) 0) refl p q same
    (λ some. ends_alike class ms (ns ++ d ∷ []) ds p (one_more class ns d q some)
    (λ k. same k ∙ ap (with_marks_of class k) (sym (append_assoc ns (d ∷ []) ds))))

starter_by : (class : ℕ → ℕ) (ms : List ℕ) (c : ℕ) (cs ns : List ℕ) (d : ℕ) (ds : List ℕ) (b : Bool)
    → eqb (class d) 0 ≡ b → Marks class ms → class c ≡ 0 → Marks class ns → Joined class ms (c ∷ cs) ns (d ∷ ds)
    → Behind class [] cs
    → (class d ≢ 0 → marks_by_class class ms ++ c ∷ by_classes_behind class [] cs ≡ by_classes_behind class
    (ns ++ d ∷ []) ds)
    → marks_by_class class ms ++ c ∷ by_classes_behind class [] cs ≡ cond b
    (marks_by_class class ns ++ d ∷ by_classes_behind class [] ds) (by_classes_behind class (ns ++ d ∷ []) ds)
starter_by class ms c cs ns d ds true e p letter q same ih next =
    let cut = cuts class ms ns c d cs ds p q letter (eqb-true (class d) 0 e) same in
    ap (λ xs. xs ++ c ∷ by_classes_behind class [] cs) (marks_alike class ms ns p q (λ k. (cut k).marks))
    ∙ ap (λ x. marks_by_class class ns ++ x ∷ by_classes_behind class [] cs) (cut 0).starter
    ∙ ap (λ xs. marks_by_class class ns ++ d ∷ xs) (ih [] ds tt (λ k. (cut k).behind))
starter_by class ms c cs ns d ds false e p letter q same ih next = let some : class d ≢ 0 = grind (arith, nat_tests)
    in next some

starters_alike : (class : ℕ → ℕ) (ms : List ℕ) (c : ℕ) (cs ns ds : List ℕ) → Marks class ms → class c ≡ 0
    → Marks class ns → Joined class ms (c ∷ cs) ns ds → Behind class [] cs
    → marks_by_class class ms ++ c ∷ by_classes_behind class [] cs ≡ by_classes_behind class ns ds
starters_alike class ms c cs ns [] p letter q same ih = absurd
    (last_of class ns ms c cs q letter (λ k. sym (same k ∙ ap (with_marks_of class k) (append-nil ns))))
starters_alike class ms c cs ns (d ∷ ds) p letter q same ih =
    starter_by class ms c cs ns d ds (eqb (class d) 0) refl p letter q same ih
    (λ some. starters_alike class ms c cs (ns ++ d ∷ []) ds p letter (one_more class ns d q some)
    (λ k. same k ∙ ap (with_marks_of class k) (sym (append_assoc ns (d ∷ []) ds))) ih)

behind_by : (class : ℕ → ℕ) (ms : List ℕ) (c : ℕ) (cs ns ds : List ℕ) (b : Bool) → eqb (class c) 0 ≡ b
    → Marks class ms → Marks class ns → Joined class ms (c ∷ cs) ns ds → Behind class [] cs
    → (class c ≢ 0 → by_classes_behind class (ms ++ c ∷ []) cs ≡ by_classes_behind class ns ds)
    → cond b (marks_by_class class ms ++ c ∷ by_classes_behind class [] cs) (by_classes_behind class (ms ++ c ∷ []) cs)
    ≡ by_classes_behind class ns ds
behind_by class ms c cs ns ds true e p q same ih next = starters_alike class ms c cs ns ds p
    (eqb-true (class c) 0 e) q same ih
behind_by class ms c cs ns ds false e p q same ih next = let some : class c ≢ 0 = grind (arith, nat_tests) in next some

behind_alike : (class : ℕ → ℕ) (ms cs : List ℕ) → Marks class ms → Behind class ms cs
behind_alike class ms [] p ns ds q same = ends_alike class ms ns ds p q
    (λ k. ap (with_marks_of class k) (sym (append-nil ms)) ∙ same k)
behind_alike class ms (c ∷ cs) p ns ds q same =
    behind_by class ms c cs ns ds (eqb (class c) 0) refl p q same
    (λ xs ys r more. behind_alike class [] cs tt xs ys r more)
    (λ some. behind_alike class (ms ++ c ∷ []) cs (one_more class ms c p some) ns ds q
    (λ k. ap (with_marks_of class k) (append_assoc ms (c ∷ []) cs) ∙ same k))

pub orders_alike : OrdersAlike
orders_alike class cs ds same = behind_alike class [] cs tt [] ds tt same
