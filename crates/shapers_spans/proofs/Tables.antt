-- A table is right where each of its states is what is left of the rules: a test that computes, and
-- what it shows.
use Rattle.std.proofs.Common.{◌≡◌, ℕ, zero, suc, ◌<◌, Bool, true, false, ◌==◌, List, [], ◌∷◌, Some, None, cond, map, get_or, refl, sym, subst, ◌∙◌, arith, eqb-true}
use Rattle.std.proofs.lemmas.Bool.{cond_both, eqb-false, cond-true, cond-false}
use Rattle.shapers_spans.specs.Re.{Re, none, IsIn}
use Rattle.shapers_spans.specs.Grammar.{Grammar, Takes, IsKind}
use Rattle.shapers_spans.specs.Machine.{kind_or_none}
use Rattle.shapers_spans.proofs.Steps.{nullable, step}
use Rattle.shapers_spans.proofs.StepLemmas.{nullable-takes, takes-nullable, step-sound, step-complete}

-- what is left behind some categories

abbrev pub steps : ℕ → List Re → List Re
steps k rs = map (step k) rs

unfoldable pub after : List ℕ → List Re → List Re
after [] rs = rs
after (k ∷ ks) rs = after ks (steps k rs)

get-steps : (k : ℕ) (rs : List Re) (j : ℕ) → get_or (steps k rs) j none ≡ step k (get_or rs j none)
unfolding step
get-steps k [] j = refl
get-steps k (r ∷ rs) zero = refl
get-steps k (r ∷ rs) (suc j) = get-steps k rs j

after-sound : (w : List ℕ) (rs : List Re) (j : ℕ) → Takes (after w rs) j [] → Takes rs j w
unfolding after
after-sound [] rs j i = i
after-sound (k ∷ ks) rs j i =
    step-sound k (get_or rs j none) ks (subst (λ r. IsIn r ks) (get-steps k rs j) (after-sound ks (steps k rs) j i))

after-complete : (w : List ℕ) (rs : List Re) (j : ℕ) → Takes rs j w → Takes (after w rs) j []
unfolding after
after-complete [] rs j i = i
after-complete (k ∷ ks) rs j i =
    after-complete ks (steps k rs) j
    (subst (λ r. IsIn r ks) (sym (get-steps k rs j)) (step-complete k (get_or rs j none) ks i))

-- the kind of the first that takes nothing, 255 if none does

unfoldable pub first_kind : List ℕ → List Re → ℕ
first_kind (k ∷ ks) (r ∷ rs) = let rest = first_kind ks rs in cond (nullable r) k rest
first_kind _ _ = 255

unfoldable pub kinds_fit : List ℕ → List Re → Bool
kinds_fit [] [] = true
kinds_fit (k ∷ ks) (r ∷ rs) = let rest = kinds_fit ks rs in cond (k == 255) false rest
kinds_fit _ _ = false

fit-steps : (k : ℕ) (ks : List ℕ) (rs : List Re) → kinds_fit ks rs ≡ true → kinds_fit ks (steps k rs) ≡ true
unfolding kinds_fit
fit-steps k [] [] h = h
fit-steps k (x ∷ ks) (r ∷ rs) h =
    cond_both (x == 255) false (kinds_fit ks rs)
    (λ b. b ≡ true → cond (x == 255) false (kinds_fit ks (steps k rs)) ≡ true)
    (λ _ e. cc) (λ n e. cond-false (x == 255) false _ n ∙ fit-steps k ks rs e) h
fit-steps k [] (r ∷ rs) h = cc
fit-steps k (x ∷ ks) [] h = cc

fit-after : (w : List ℕ) (ks : List ℕ) (rs : List Re) → kinds_fit ks rs ≡ true → kinds_fit ks (after w rs) ≡ true
unfolding after
fit-after [] ks rs h = h
fit-after (k ∷ w) ks rs h = fit-after w ks (steps k rs) (fit-steps k ks rs h)

fit-parts : (x : ℕ) (b : Bool) → cond (x == 255) false b ≡ true → (x ≡ 255 → ⊥) × (b ≡ true)
fit-parts x b h =
    cond_both (x == 255) false b (λ t. t ≡ true → (x ≡ 255 → ⊥) × (b ≡ true))
    (λ _ e. cc) (λ n e. (eqb-false x 255 n, e)) h

none-first : (ks : List ℕ) (rs : List Re) → kinds_fit ks rs ≡ true → first_kind ks rs ≡ 255 → (j : ℕ)
    → nullable (get_or rs j none) ≡ true → ⊥
unfolding kinds_fit first_kind nullable
none-first [] [] f e j n = cc
none-first (k ∷ ks) (r ∷ rs) f e zero n =
    (fit-parts k (kinds_fit ks rs) f).0 (sym (cond-true (nullable r) k (first_kind ks rs) n) ∙ e)
none-first (k ∷ ks) (r ∷ rs) f e (suc j) n =
    let p = fit-parts k (kinds_fit ks rs) f in
    cond_both (nullable r) k (first_kind ks rs) (λ x. x ≡ 255 → ⊥) (λ _ h. p.0 h) (λ _ h. none-first ks rs p.1 h j n) e
none-first [] (r ∷ rs) f e j n = cc
none-first (k ∷ ks) [] f e j n = cc

-- number j is the first that takes nothing, and kind k is its
record FirstHere (ks : List ℕ) (rs : List Re) (k : ℕ) : Type 0 where
  rule : ℕ
  here : nullable (get_or rs rule none) ≡ true
  before : (i : ℕ) → i < rule → nullable (get_or rs i none) ≡ true → ⊥
  same_kind : k ≡ get_or ks rule 0

before_suc : (r : Re) (rs : List Re) (j : ℕ) → nullable r ≡ false
    → ((i : ℕ) → i < j → nullable (get_or rs i none) ≡ true → ⊥) → (i : ℕ) → i < suc j
    → nullable (get_or (r ∷ rs) i none) ≡ true → ⊥
before_suc r rs j n h zero l t = cc
before_suc r rs j n h (suc i) l t = h i (omega arith) t

some-first : (ks : List ℕ) (rs : List Re) → kinds_fit ks rs ≡ true → (first_kind ks rs ≡ 255 → ⊥)
    → FirstHere ks rs (first_kind ks rs)
unfolding kinds_fit first_kind nullable
some-first (k ∷ ks) (r ∷ rs) f e =
    cond_both (nullable r) k (first_kind ks rs) (λ x. (x ≡ 255 → ⊥) → FirstHere (k ∷ ks) (r ∷ rs) x)
    (λ n _. record { rule = 0; here = n; before = (λ i l _. absurd (omega arith)); same_kind = refl })
    (λ n h. let p = some-first ks rs (fit-parts k (kinds_fit ks rs) f).1 h in
    record {
      rule = suc p.rule;
      here = p.here;
      before = before_suc r rs p.rule n p.before;
      same_kind = p.same_kind;
    }) e
some-first [] [] f e = absurd (e refl)
some-first [] (r ∷ rs) f e = cc
some-first (k ∷ ks) [] f e = cc

-- what the rules say of w is what the first that is left behind w says
pub kind-is : (g : Grammar) (w : List ℕ) → kinds_fit g.kinds g.rules ≡ true
    → IsKind g w (kind_or_none (first_kind g.kinds (after w g.rules)))
kind-is g w f =
    let rs = after w g.rules in
    let k = first_kind g.kinds rs in
    let fit = fit-after w g.kinds g.rules f in
    cond_both (k == 255) None (Some k) (λ o. IsKind g w o)
    (λ e j i. none-first g.kinds rs fit (eqb-true k 255 e) j
    (takes-nullable (get_or rs j none) (after-complete w g.rules j i)))
    (λ e. let p = some-first g.kinds rs fit (eqb-false k 255 e) in (
      p.rule,
      record {
        takes = after-sound w g.rules p.rule (nullable-takes (get_or rs p.rule none) p.here);
        first = (λ i l t. p.before i l (takes-nullable (get_or rs i none) (after-complete w g.rules i t)));
      },
      p.same_kind,
    ))
