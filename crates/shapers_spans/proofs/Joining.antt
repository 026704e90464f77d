-- Sequences of joiners.
use Rattle.std.proofs.Common.{◌≡◌, ℕ, zero, suc, ◌+◌, ◌-◌, ◌<◌, ◌≤◌, Bool, true, false, List, [], ◌∷◌, ◌++◌, drop, get_or, length, refl, sym, ap, subst, ◌∙◌, arith, zero-add, ⊎_elim}
use Rattle.std.proofs.lemmas.Bool.{cases_Bool, cond_both, both_ways}
use Rattle.std.proofs.lemmas.List.{drop_more}
use Rattle.shapers_buffer.specs.Glyphs.{Glyph, Glyphs}
use Rattle.shapers_spans.specs.Grammar.{read_of, reach_of}
use Rattle.shapers_spans.specs.Joined.{Joined}
use Rattle.shapers_spans.proofs.Reached.{skip_read, keep_read, skip_reach, keep_reach}

pub joined-drop : (p : Glyphs → Bool) (j : ℕ → Bool) (gs : Glyphs) (k n : ℕ)
    → Joined p j gs k → p (drop n gs) ≡ false → Joined p j (drop n gs) (k - n)
joined-drop p j gs zero n h f =
    let e : 0 ≡ 0 - n = omega arith in subst (λ i. Joined p j (drop n gs) i) e f
joined-drop p j gs (suc k) zero h f =
    let e : suc k ≡ suc k - 0 = omega arith in subst (λ i. Joined p j gs i) e h
joined-drop p j [] (suc k) (suc n) h f = absurd h
joined-drop p j (g ∷ gs) (suc k) (suc n) h f =
    let e : k - n ≡ suc k - suc n =
    omega arith in subst (λ i. Joined p j (drop n gs) i) e (joined-drop p j gs k n h.1 f)

pub joined-head : (p : Glyphs → Bool) (j : ℕ → Bool) (g : Glyph) (gs : Glyphs)
    (k : ℕ) → 0 < k → Joined p j (g ∷ gs) k → p (g ∷ gs) ≡ false → j g.category ≡ true
joined-head p j g gs zero l h f = absurd (omega arith)
joined-head p j g gs (suc k) l h f = h.0 f

pub joined-join : (p : Glyphs → Bool) (j : ℕ → Bool) (gs : Glyphs) (a b : ℕ)
    → Joined p j gs a → Joined p j (drop a gs) b → Joined p j gs (a + b)
joined-join p j gs zero b h i =
    let e : b ≡ 0 + b = omega arith in subst (λ n. Joined p j gs n) e i
joined-join p j [] (suc a) b h i = absurd h
joined-join p j (g ∷ gs) (suc a) b h i =
    let e : suc (a + b) ≡ suc a + b = omega arith in
    subst (λ n. Joined p j (g ∷ gs) n) e (h.0, joined-join p j gs a b h.1 i)

joined-passed : (p : Glyphs → Bool) (j : ℕ → Bool) → p [] ≡ false → (gs : Glyphs)
    → Joined p j gs (reach_of p gs 0)
joined-passed p j z [] = z
joined-passed p j z (g ∷ gs) =
    cond_both (p (g ∷ gs)) (suc (reach_of p gs 0)) 0 (λ n. Joined p j (g ∷ gs) n)
    (λ h. (λ f. absurd (both_ways (p (g ∷ gs)) f h), joined-passed p j z gs)) (λ h. h)

pub joined-one : (p : Glyphs → Bool) (j : ℕ → Bool) → p [] ≡ false
    → (g : Glyph) (gs : Glyphs) → j g.category ≡ true
    → Joined p j (g ∷ gs) (1 + reach_of p gs 0)
joined-one p j z g gs h =
    let e : suc (reach_of p gs 0) ≡ 1 + reach_of p gs 0 = omega arith in
    subst (λ n. Joined p j (g ∷ gs) n) e ((λ _. h), joined-passed p j z gs)

-- joiners alone
abbrev pub AllJoin : (ℕ → Bool) → List ℕ → Type 0
AllJoin j [] = Unit {0}
AllJoin j (k ∷ ks) = (j k ≡ true) × AllJoin j ks

-- what is read up to the end of a run
pub record RunRead (p : Glyphs → Bool) (j : ℕ → Bool) (gs : Glyphs) (k : ℕ) : Type 0 where
  pub joiners : List ℕ
  pub join : AllJoin j joiners
  pub read : read_of p gs ≡ joiners ++ read_of p (drop k gs)
  pub reaches : (m : ℕ) → reach_of p gs (length joiners + m) ≡ k + reach_of p (drop k gs) m

run-more : (p : Glyphs → Bool) (j : ℕ → Bool) (g : Glyph) (gs : Glyphs) (k : ℕ)
    → (p (g ∷ gs) ≡ false → j g.category ≡ true) → RunRead p j gs k → RunRead p j (g ∷ gs) (suc k)
run-more p j g gs k h r =
    ⊎_elim
    (λ e. record {
      joiners = r.joiners;
      join = r.join;
      read = skip_read p g gs e ∙ r.read;
      reaches = (λ m. let i = r.reaches m in
          skip_reach p g gs (length r.joiners + m) e
          ∙ (let f : suc (reach_of p gs (length r.joiners + m))
          ≡ suc k + reach_of p (drop k gs) m = omega (arith, i) in f));
    })
    (λ e. record {
      joiners = g.category ∷ r.joiners;
      join = (h e, r.join);
      read = keep_read p g gs e ∙ ap (λ (ks : List ℕ). g.category ∷ ks) r.read;
      reaches = (λ m. let i = r.reaches m in
          let s : suc (length r.joiners) + m ≡ suc (length r.joiners + m) = omega arith in
          ap (reach_of p (g ∷ gs)) s ∙ keep_reach p g gs (length r.joiners + m) e
          ∙ (let f : suc (reach_of p gs (length r.joiners + m))
          ≡ suc k + reach_of p (drop k gs) m = omega (arith, i) in f));
    })
    (cases_Bool (p (g ∷ gs)))

pub run-read : (p : Glyphs → Bool) (j : ℕ → Bool) (gs : Glyphs) (k : ℕ) → Joined p j gs k
    → RunRead p j gs k
run-read p j gs zero h = record {
  joiners = [];
  join = tt;
  read = refl;
  reaches = (λ m. ap (reach_of p gs) (zero-add m) ∙ sym (zero-add (reach_of p gs m)));
}
run-read p j [] (suc k) h = absurd h
run-read p j (g ∷ gs) (suc k) h = run-more p j g gs k h.0 (run-read p j gs k h.1)

pub joined-end : (p : Glyphs → Bool) (j : ℕ → Bool) (gs : Glyphs) (k : ℕ) → Joined p j gs k
    → p (drop k gs) ≡ false
joined-end p j gs zero h = h
joined-end p j [] (suc k) h = absurd h
joined-end p j (g ∷ gs) (suc k) h = joined-end p j gs k h.1

pub joined-within : (p : Glyphs → Bool) (j : ℕ → Bool) (gs : Glyphs) (k : ℕ)
    → Joined p j gs k → k ≤ length gs
joined-within p j gs zero h = omega arith
joined-within p j [] (suc k) h = absurd h
joined-within p j (g ∷ gs) (suc k) h = let i = joined-within p j gs k h.1 in omega (arith, i)

-- a glyph that is read among them is a joiner
pub joined-at : (p : Glyphs → Bool) (j : ℕ → Bool) (gs : Glyphs) (k n : ℕ)
    (d : Glyph) → Joined p j gs k → n < k → p (drop n gs) ≡ false → j (get_or gs n d).category ≡ true
joined-at p j gs k n d h l read =
    let within = joined-within p j gs k h in
    let e : drop n gs ≡ get_or gs n d ∷ drop (n + 1) gs = drop_more gs n d (omega (arith, within, l)) in
    joined-head p j (get_or gs n d) (drop (n + 1) gs) (k - n) (omega (arith, l))
    (subst (λ xs. Joined p j xs (k - n)) e (joined-drop p j gs k n h read)) (subst (λ xs. p xs ≡ false) e read)
