-- Which glyphs of a text are read, and how far so many of them reach.
use Rattle.std.proofs.Common.{◌≡◌, ℕ, zero, suc, ◌+◌, ◌-◌, ◌<◌, ◌≤◌, Bool, true, false, List, [], ◌∷◌, get_or, drop, length, refl, sym, ap, subst, ◌∙◌, arith, zero-add}
use Rattle.std.proofs.lemmas.Bool.{cond-true, cond-false, cond_both}
use Rattle.std.proofs.lemmas.List.{drop_more, drop-drop}
use Rattle.shapers_buffer.specs.Glyphs.{Glyph, Glyphs}
use Rattle.shapers_spans.specs.Grammar.{read_of, reach_of}

-- the glyph that begins a text is passed over, or read

pub skip_read : (p : Glyphs → Bool) (g : Glyph) (gs : Glyphs) → p (g ∷ gs) ≡ true
    → read_of p (g ∷ gs) ≡ read_of p gs
skip_read p g gs h = cond-true (p (g ∷ gs)) (read_of p gs) (g.category ∷ read_of p gs) h

pub keep_read : (p : Glyphs → Bool) (g : Glyph) (gs : Glyphs) → p (g ∷ gs) ≡ false
    → read_of p (g ∷ gs) ≡ g.category ∷ read_of p gs
keep_read p g gs h = cond-false (p (g ∷ gs)) (read_of p gs) (g.category ∷ read_of p gs) h

pub skip_reach : (p : Glyphs → Bool) (g : Glyph) (gs : Glyphs) (n : ℕ)
    → p (g ∷ gs) ≡ true → reach_of p (g ∷ gs) n ≡ suc (reach_of p gs n)
skip_reach p g gs zero h = cond-true (p (g ∷ gs)) (suc (reach_of p gs 0)) 0 h
skip_reach p g gs (suc n) h = ap (λ x. suc x) (cond-true (p (g ∷ gs)) (reach_of p gs (suc n)) (reach_of p gs n) h)

pub keep_reach : (p : Glyphs → Bool) (g : Glyph) (gs : Glyphs) (n : ℕ)
    → p (g ∷ gs) ≡ false → reach_of p (g ∷ gs) (suc n) ≡ suc (reach_of p gs n)
keep_reach p g gs n h = ap (λ x. suc x) (cond-false (p (g ∷ gs)) (reach_of p gs (suc n)) (reach_of p gs n) h)

pub reach-zero : (p : Glyphs → Bool) (gs : Glyphs) → p gs ≡ false → reach_of p gs 0 ≡ 0
reach-zero p [] h = refl
reach-zero p (g ∷ gs) h = cond-false (p (g ∷ gs)) (suc (reach_of p gs 0)) 0 h

-- where each glyph is read
pub reach-none : (gs : Glyphs) → reach_of (λ _. false) gs 0 ≡ 0
reach-none [] = refl
reach-none (g ∷ gs) = refl

-- behind those that are passed over in front

pub read-behind : (p : Glyphs → Bool) (gs : Glyphs)
    → read_of p gs ≡ read_of p (drop (reach_of p gs 0) gs)
read-behind p [] = refl
read-behind p (g ∷ gs) =
    cond_both (p (g ∷ gs)) (suc (reach_of p gs 0)) 0 (λ n. read_of p (g ∷ gs) ≡ read_of p (drop n (g ∷ gs)))
    (λ h. skip_read p g gs h ∙ read-behind p gs) (λ h. refl)

pub reach-behind : (p : Glyphs → Bool) (gs : Glyphs) (m : ℕ)
    → reach_of p gs m ≡ reach_of p gs 0 + reach_of p (drop (reach_of p gs 0) gs) m
reach-behind p [] m = refl
reach-behind p (g ∷ gs) m =
    cond_both (p (g ∷ gs)) (suc (reach_of p gs 0)) 0 (λ n. reach_of p (g ∷ gs) m ≡ n + reach_of p (drop n (g ∷ gs)) m)
    (λ h. let i = reach-behind p gs m in
    skip_reach p g gs m h
    ∙ (let e : suc (reach_of p gs m) ≡ suc (reach_of p gs 0) + reach_of p (drop (reach_of p gs 0) gs) m = omega
    (arith, i) in e))
    (λ h. sym (zero-add (reach_of p (g ∷ gs) m)))

pub behind-is-read : (p : Glyphs → Bool) → p [] ≡ false → (gs : Glyphs)
    → p (drop (reach_of p gs 0) gs) ≡ false
behind-is-read p z [] = z
behind-is-read p z (g ∷ gs) =
    cond_both (p (g ∷ gs)) (suc (reach_of p gs 0)) 0 (λ n. p (drop n (g ∷ gs)) ≡ false)
    (λ _. behind-is-read p z gs) (λ h. h)

-- bounds

pub reach-le : (p : Glyphs → Bool) (gs : Glyphs) (n : ℕ) → reach_of p gs n ≤ length gs
reach-le p [] n = omega arith
reach-le p (g ∷ gs) zero =
    cond_both (p (g ∷ gs)) (suc (reach_of p gs 0)) 0 (λ x. x ≤ suc (length gs))
    (λ _. let h = reach-le p gs 0 in omega (arith, h)) (λ _. omega arith)
reach-le p (g ∷ gs) (suc n) =
    cond_both (p (g ∷ gs)) (reach_of p gs (suc n)) (reach_of p gs n) (λ x. suc x ≤ suc (length gs))
    (λ _. let h = reach-le p gs (suc n) in omega (arith, h)) (λ _. let h = reach-le p gs n in omega (arith, h))

pub reach-some : (p : Glyphs → Bool) (gs : Glyphs) (n : ℕ) → 0 < length gs → 0 < n
    → 0 < reach_of p gs n
reach-some p [] n l h = absurd (omega arith)
reach-some p (g ∷ gs) zero l h = absurd (omega arith)
reach-some p (g ∷ gs) (suc n) l h = omega arith

pub first-read : (p : Glyphs → Bool) (gs : Glyphs) → 0 < length gs → p gs ≡ false
    → 0 < length (read_of p gs)
first-read p [] l h = absurd (omega arith)
first-read p (g ∷ gs) l h = subst (λ (xs : List ℕ). 0 < length xs) (sym (keep_read p g gs h)) (omega arith)

-- one glyph more that is passed over
pub reach-step : (p : Glyphs → Bool) (gs : Glyphs) (d : Glyph) (n : ℕ)
    → n < length gs → p (drop n gs) ≡ true → n + reach_of p (drop n gs) 0 ≡ n + 1 + reach_of p (drop (n + 1) gs) 0
reach-step p gs d n l h =
    let e : drop n gs ≡ get_or gs n d ∷ drop (n + 1) gs = drop_more gs n d l in
    let i : reach_of p (drop n gs) 0 ≡ suc (reach_of p (drop (n + 1) gs) 0) = ap (λ xs. reach_of p xs 0) e
    ∙ skip_reach p (get_or gs n d) (drop (n + 1) gs) 0 (subst (λ xs. p xs ≡ true) e h) in
    omega (arith, i)

-- what is read from a place on

read-front : (p : Glyphs → Bool) (gs : Glyphs) (k : ℕ) → length (read_of p (drop k gs))
    ≤ length (read_of p gs)
read-front p gs zero = omega arith
read-front p [] (suc k) = omega arith
read-front p (g ∷ gs) (suc k) =
    let i = read-front p gs k in
    cond_both (p (g ∷ gs)) (read_of p gs) (g.category ∷ read_of p gs) (λ (w : List ℕ). length (read_of p (drop k gs))
    ≤ length w)
    (λ _. i) (λ _. omega (arith, i))

-- fewer are read from a later place on
pub read-later : (p : Glyphs → Bool) (gs : Glyphs) (i j : ℕ) → i ≤ j
    → length (read_of p (drop j gs)) ≤ length (read_of p (drop i gs))
read-later p gs i j l =
    let e : i + (j - i) ≡ j = omega (arith, l) in
    let on : drop (j - i) (drop i gs) ≡ drop j gs = drop-drop (j - i) i gs ∙ ap (λ k. drop k gs) e in
    subst (λ xs. length (read_of p xs) ≤ length (read_of p (drop i gs))) on (read-front p (drop i gs) (j - i))

-- what is read from a place on, where a glyph is read
pub read-at : (p : Glyphs → Bool) (gs : Glyphs) (n : ℕ) (d : Glyph)
    → n < length gs → p (drop n gs) ≡ false → read_of p (drop n gs) ≡ (get_or gs n d).category
    ∷ read_of p (drop (n + 1) gs)
read-at p gs n d l h =
    let e : drop n gs ≡ get_or gs n d ∷ drop (n + 1) gs = drop_more gs n d l in
    ap (read_of p) e ∙ keep_read p (get_or gs n d) (drop (n + 1) gs) (subst (λ xs. p xs ≡ false) e h)

-- the same up to the next one that is read
pub read-next : (p : Glyphs → Bool) (gs : Glyphs) (n next : ℕ) (d : Glyph)
    → n < length gs → p (drop n gs) ≡ false → next ≡ n + 1 + reach_of p (drop (n + 1) gs) 0
    → read_of p (drop n gs) ≡ (get_or gs n d).category ∷ read_of p (drop next gs)
read-next p gs n next d l h is =
    let rest = drop (n + 1) gs in
    let on : drop (reach_of p rest 0) rest ≡ drop next gs = drop-drop (reach_of p rest 0) (n + 1) gs
    ∙ ap (λ i. drop i gs) (sym is) in
    read-at p gs n d l h ∙ ap (λ (w : List ℕ). (get_or gs n d).category ∷ w) (read-behind p rest ∙ ap (read_of p) on)

-- one fewer from a later place on, if a glyph is read at the first
pub read-less : (p : Glyphs → Bool) (gs : Glyphs) (i j : ℕ) (d : Glyph)
    → i < length gs → p (drop i gs) ≡ false → i < j → length (read_of p (drop j gs)) + 1
    ≤ length (read_of p (drop i gs))
read-less p gs i j d l h m =
    let a = ap length (read-at p gs i d l h) in
    let le : i + 1 ≤ j = omega (arith, m) in
    let b = read-later p gs (i + 1) j le in
    omega (arith, a, b)
