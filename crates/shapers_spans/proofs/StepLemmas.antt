-- `step k r` takes w exactly where r takes k ∷ w.
use Rattle.std.proofs.Common.{◌≡◌, ℕ, Bool, true, false, ◌==◌, List, [], ◌∷◌, ◌++◌, ◌⊎◌, cond, sym, ap, subst, refl, ◌∙◌, inl, inr, ⊎_elim, append_assoc, eqb-true, ap₂}
use Rattle.std.proofs.lemmas.Bool.{cond_both, both_ways, eqb-false}
use Rattle.shapers_spans.specs.Re.{Re, none, empty, one, seq, alt, star, Many, done, more, IsIn}
use Rattle.shapers_spans.proofs.Steps.{nullable, same, chain, member, before, insert, union, step}

-- parts

pub cond_and : (x y : Bool) → cond x y false ≡ true → (x ≡ true) × (y ≡ true)
cond_and true y h = (refl, h)
cond_and false y h = cc

and_cond : (x y : Bool) → x ≡ true → y ≡ true → cond x y false ≡ true
and_cond true y h i = i
and_cond false y h i = h

cond_or : (x y : Bool) → cond x true y ≡ true → (x ≡ true) ⊎ (y ≡ true)
cond_or true y h = inl refl
cond_or false y h = inr h

or_cond : (x y : Bool) → (x ≡ true) ⊎ (y ≡ true) → cond x true y ≡ true
or_cond true y h = refl
or_cond false y h = ⊎_elim (λ e. cc) (λ e. e) h

nothing_joined : (u v : List ℕ) → [] ≡ u ++ v → (u ≡ []) × (v ≡ [])
nothing_joined [] v e = (refl, sym e)
nothing_joined (x ∷ u) v e = cc

no_cons : {A : Type 0} (x : ℕ) (xs : List ℕ) → x ∷ xs ≡ [] → A
no_cons x xs e = cc

cons_parts : (x y : ℕ) (xs ys : List ℕ) → x ∷ xs ≡ y ∷ ys → (x ≡ y) × (xs ≡ ys)
cons_parts x y xs ys e = (cc, cc)

-- the empty list

pub nullable-takes : (r : Re) → nullable r ≡ true → IsIn r []
unfolding nullable
nullable-takes none h = cc
nullable-takes empty h = refl
nullable-takes (one k) h = cc
nullable-takes (seq a b) h =
    let p = cond_and (nullable a) (nullable b) h in
    ([], [], refl, nullable-takes a p.0, nullable-takes b p.1)
nullable-takes (alt a b) h =
    ⊎_elim (λ e. inl (nullable-takes a e)) (λ e. inr (nullable-takes b e)) (cond_or (nullable a) (nullable b) h)
nullable-takes (star a) h = done [] refl

pub takes-nullable : (r : Re) → IsIn r [] → nullable r ≡ true
unfolding nullable
takes-nullable none i = absurd i
takes-nullable empty i = refl
takes-nullable (one k) i = cc
takes-nullable (seq a b) i =
    let p = nothing_joined i.0 i.1 i.2 in
    and_cond (nullable a) (nullable b) (takes-nullable a (subst (IsIn a) p.0 i.3))
    (takes-nullable b (subst (IsIn b) p.1 i.4))
takes-nullable (alt a b) i =
    or_cond (nullable a) (nullable b) (⊎_elim (λ j. inl (takes-nullable a j)) (λ j. inr (takes-nullable b j)) i)
takes-nullable (star a) i = refl

-- one after another

chain-sound : (a b : Re) (w : List ℕ) → IsIn (chain a b) w → IsIn (seq a b) w
unfolding chain
chain-sound none b w i = absurd i
chain-sound empty b w i = ([], w, refl, refl, i)
chain-sound (seq x y) b w i =
    let r = chain-sound y b i.1 i.4 in
    (i.0 ++ r.0, r.1, i.2 ∙ ap (λ t. i.0 ++ t) r.2 ∙ sym (append_assoc i.0 r.0 r.1), (i.0, r.0, refl, i.3, r.3), r.4)
chain-sound (one k) b w i = i
chain-sound (alt x y) b w i = i
chain-sound (star x) b w i = i

chain-complete : (a b : Re) (w : List ℕ) → IsIn (seq a b) w → IsIn (chain a b) w
unfolding chain
chain-complete none b w i = i.3
chain-complete empty b w i = subst (IsIn b) (sym (i.2 ∙ ap (λ t. t ++ i.1) i.3)) i.4
chain-complete (seq x y) b w i =
    let p = i.3 in (
      p.0,
      p.1 ++ i.1,
      i.2 ∙ ap (λ t. t ++ i.1) p.2
          ∙ append_assoc p.0 p.1 i.1,
      p.3,
      chain-complete y b (p.1 ++ i.1) (p.1, i.1, refl, p.4, i.4),
    )
chain-complete (one k) b w i = i
chain-complete (alt x y) b w i = i
chain-complete (star x) b w i = i

-- alternatives

pub same-true : (a b : Re) → same a b ≡ true → a ≡ b
unfolding same
same-true none none h = refl
same-true empty empty h = refl
same-true (one j) (one k) h = ap one (eqb-true j k h)
same-true (seq a b) (seq c d) h =
    let p = cond_and (same a c) (same b d) h in ap₂ seq (same-true a c p.0) (same-true b d p.1)
same-true (alt a b) (alt c d) h =
    let p = cond_and (same a c) (same b d) h in ap₂ alt (same-true a c p.0) (same-true b d p.1)
same-true (star a) (star b) h = ap star (same-true a b h)
same-true _ _ h = cc

same-takes : (a b : Re) (w : List ℕ) → same a b ≡ true → IsIn a w → IsIn b w
same-takes a b w h i = subst (λ r. IsIn r w) (same-true a b h) i

member-takes : (a b : Re) (w : List ℕ) → member a b ≡ true → IsIn a w → IsIn b w
unfolding member
member-takes a (alt x y) w h i =
    ⊎_elim (λ e. inl (same-takes a x w e i)) (λ e. inr (member-takes a y w e i)) (cond_or (same a x) (member a y) h)
member-takes a none w h i = same-takes a none w h i
member-takes a empty w h i = same-takes a empty w h i
member-takes a (one k) w h i = same-takes a (one k) w h i
member-takes a (seq x y) w h i = same-takes a (seq x y) w h i
member-takes a (star x) w h i = same-takes a (star x) w h i

before-sound : (a b : Re) (w : List ℕ) → IsIn (before a b) w → IsIn a w ⊎ IsIn b w
unfolding before
before-sound a none w i = inl i
before-sound a empty w i = i
before-sound a (one k) w i = i
before-sound a (seq x y) w i = i
before-sound a (alt x y) w i = i
before-sound a (star x) w i = i

before-complete : (a b : Re) (w : List ℕ) → IsIn a w ⊎ IsIn b w → IsIn (before a b) w
unfolding before
before-complete a none w i = ⊎_elim (λ j. j) (λ j. absurd j) i
before-complete a empty w i = i
before-complete a (one k) w i = i
before-complete a (seq x y) w i = i
before-complete a (alt x y) w i = i
before-complete a (star x) w i = i

insert-sound : (a b : Re) (w : List ℕ) → IsIn (insert a b) w → IsIn a w ⊎ IsIn b w
unfolding insert
insert-sound a b w =
    cond_both (member a b) b (before a b) (λ r. IsIn r w → IsIn a w ⊎ IsIn b w) (λ _ i. inr i)
    (λ _ i. before-sound a b w i)

insert-complete : (a b : Re) (w : List ℕ) → IsIn a w ⊎ IsIn b w → IsIn (insert a b) w
unfolding insert
insert-complete a b w =
    cond_both (member a b) b (before a b) (λ r. IsIn a w ⊎ IsIn b w → IsIn r w)
    (λ m s. ⊎_elim (member-takes a b w m) (λ i. i) s) (λ _ s. before-complete a b w s)

union-sound : (a b : Re) (w : List ℕ) → IsIn (union a b) w → IsIn a w ⊎ IsIn b w
unfolding union
union-sound none b w i = inr i
union-sound (alt x y) b w i =
    ⊎_elim (λ j. inl (inl j)) (λ j. ⊎_elim (λ l. inl (inr l)) (λ l. inr l) (union-sound y b w j))
    (union-sound x (union y b) w i)
union-sound empty b w i = insert-sound empty b w i
union-sound (one k) b w i = insert-sound (one k) b w i
union-sound (seq x y) b w i = insert-sound (seq x y) b w i
union-sound (star x) b w i = insert-sound (star x) b w i

union-complete : (a b : Re) (w : List ℕ) → IsIn a w ⊎ IsIn b w → IsIn (union a b) w
unfolding union
union-complete none b w s = ⊎_elim (λ i. absurd i) (λ i. i) s
union-complete (alt x y) b w s =
    union-complete x (union y b) w
    (⊎_elim (λ i. ⊎_elim (λ j. inl j) (λ j. inr (union-complete y b w (inl j))) i)
    (λ i. inr (union-complete y b w (inr i))) s)
union-complete empty b w s = insert-complete empty b w s
union-complete (one k) b w s = insert-complete (one k) b w s
union-complete (seq x y) b w s = insert-complete (seq x y) b w s
union-complete (star x) b w s = insert-complete (star x) b w s

-- a step

pub step-sound : (k : ℕ) (r : Re) (w : List ℕ) → IsIn (step k r) w → IsIn r (k ∷ w)
unfolding step
step-sound k none w i = absurd i
step-sound k empty w i = absurd i
step-sound k (one j) w i =
    cond_both (j == k) empty none (λ r. IsIn r w → IsIn (one j) (k ∷ w))
    (λ e h. ap₂ (λ x xs. x ∷ xs) (sym (eqb-true j k e)) h) (λ _ h. absurd h) i
step-sound k (seq a b) w i =
    let front : IsIn (chain (step k a) b) w → IsIn (seq a b) (k ∷ w) =
    λ h. let s = chain-sound (step k a) b w h in (k ∷ s.0, s.1, ap (λ t. k ∷ t) s.2, step-sound k a s.0 s.3, s.4) in
    cond_both (nullable a) (union (chain (step k a) b) (step k b)) (chain (step k a) b)
    (λ r. IsIn r w → IsIn (seq a b) (k ∷ w))
    (λ e h. ⊎_elim front (λ j. ([], k ∷ w, refl, nullable-takes a e, step-sound k b w j))
    (union-sound (chain (step k a) b) (step k b) w h))
    (λ _ h. front h) i
step-sound k (alt a b) w i =
    ⊎_elim (λ j. inl (step-sound k a w j)) (λ j. inr (step-sound k b w j)) (union-sound (step k a) (step k b) w i)
step-sound k (star a) w i =
    let s = chain-sound (step k a) (star a) w i in
    more (k ∷ w) (k ∷ s.0) s.1 (ap (λ t. k ∷ t) s.2) (step-sound k a s.0 s.3) s.4

-- where a list that begins with k is taken by A and then B, A takes nothing or what begins with k
begins : (k : ℕ) (w u v : List ℕ) (A B : List ℕ → Type 0) → k ∷ w ≡ u ++ v → A u → B v → (A [] × B (k ∷ w))
    ⊎ ((u : List ℕ) × (w ≡ u ++ v) × A (k ∷ u))
begins k w [] v A B e a b = inl (a, subst B (sym e) b)
begins k w (x ∷ u) v A B e a b =
    let p = cons_parts k x w (u ++ v) e in inr (u, p.1, subst (λ t. A (t ∷ u)) (sym p.0) a)

many_begins : (A : List ℕ → Type 0) (k : ℕ) (w x : List ℕ) → Many A x → x ≡ k ∷ w → (u : List ℕ) × (v : List ℕ)
    × (w ≡ u ++ v) × A (k ∷ u) × Many A v
many_begins A k w x (done _ z) e = no_cons k w (sym e ∙ z)
many_begins A k w x (more _ [] v s a rest) e = many_begins A k w v rest (sym s ∙ e)
many_begins A k w x (more _ (y ∷ u) v s a rest) e =
    let p = cons_parts k y w (u ++ v) (sym e ∙ s) in
    (u, v, p.1, subst (λ t. A (t ∷ u)) (sym p.0) a, rest)

pub step-complete : (k : ℕ) (r : Re) (w : List ℕ) → IsIn r (k ∷ w) → IsIn (step k r) w
unfolding step
step-complete k none w i = i
step-complete k empty w i = no_cons k w i
step-complete k (one j) w i =
    let p = cons_parts k j w [] i in
    cond_both (j == k) empty none (λ r. IsIn r w) (λ _. p.1) (λ e. eqb-false j k e (sym p.0))
step-complete k (seq a b) w i =
    let front = chain (step k a) b in
    ⊎_elim
    (λ l. cond_both (nullable a) (union (chain (step k a) b) (step k b)) (chain (step k a) b) (λ r. IsIn r w)
    (λ _. union-complete (chain (step k a) b) (step k b) w (inr (step-complete k b w l.1)))
    (λ e. absurd (both_ways (nullable a) e (takes-nullable a l.0))))
    (λ r. let f = chain-complete (step k a) b w (r.0, i.1, r.1, step-complete k a r.0 r.2, i.4) in
    cond_both (nullable a) (union (chain (step k a) b) (step k b)) (chain (step k a) b) (λ q. IsIn q w)
    (λ _. union-complete (chain (step k a) b) (step k b) w (inl f)) (λ _. f))
    (begins k w i.0 i.1 (IsIn a) (IsIn b) i.2 i.3 i.4)
step-complete k (alt a b) w i =
    union-complete (step k a) (step k b) w (⊎_elim (λ j. inl (step-complete k a w j)) (λ j. inr (step-complete k b w j))
    i)
step-complete k (star a) w i =
    let m = many_begins (IsIn a) k w (k ∷ w) i refl in
    chain-complete (step k a) (star a) w (m.0, m.1, m.2, step-complete k a m.0 m.3, m.4)
