-- Searches that fail, and rules tried in turn, as far as they have come.
use Rattle.std.proofs.Common.{◌≡◌, ◌∙◌, ℕ, zero, suc, ◌+◌, ◌-◌, ◌==◌, ◌<◌, ◌≤◌, min, max, nat_lt, Bool, true, false, List, length, Option, None, Some, refl, sym, ap, subst, arith, if◌then◌else◌}
use Rattle.std.specs.Option.{is_some, option_map}
use Rattle.std.proofs.lemmas.Bool.Decides.{nat_tests}
use Rattle.shapers_buffer.specs.Glyphs.{Glyphs}
use Rattle.opentype_face.specs.Bytes.{u16_in, table_at}
use Rattle.opentype_face.specs.Glyphs.{coverage_in}
use Rattle.opentype_layout.specs.Rules.{first_at}
use Rattle.opentype_layout.specs.Sight.{is_passed}
use Rattle.opentype_layout.specs.Looking.{all_looked, context_rules, nothing, spanned, stop_from, swept_from, swept_on, unjoined}
use Rattle.opentype_layout.proofs.NoneFits.{none_if, none_mapped}
use Rattle.opentype_layout.specs.declared.looking.Stretch.{Stretch}
use Rattle.opentype_layout.specs.declared.looking.Sweep.{Sweep}

-- ---- where a search ends

pub record IsStopped (sight : ℕ → Option Bool) (bound from i : ℕ) : Type 0 where
  pub rest : stop_from (bound - from) sight from ≡ stop_from (bound - i) sight i
  pub behind : from ≤ i
  pub within : i ≤ max from bound

stop_here : (sight : ℕ → Option Bool) (n i : ℕ) → is_passed (sight i) ≡ false → stop_from (suc n) sight i ≡ i + 1
unfolding stop_from
stop_here sight n i e = rw e refl

stop_on : (sight : ℕ → Option Bool) (n i : ℕ) → is_passed (sight i) ≡ true → stop_from (suc n) sight i ≡ stop_from n sight (i + 1)
unfolding stop_from
stop_on sight n i e = rw e refl

stop_none : (sight : ℕ → Option Bool) (i : ℕ) → stop_from 0 sight i ≡ i
unfolding stop_from
stop_none sight i = refl

pub stopped_start : (sight : ℕ → Option Bool) (bound from : ℕ) → IsStopped sight bound from from
stopped_start sight bound from = record { rest = refl; behind = omega arith; within = omega arith }

pub stopped_passed : (sight : ℕ → Option Bool) (bound from i : ℕ) → IsStopped sight bound from i → i < bound →
    is_passed (sight i) ≡ true → IsStopped sight bound from (i + 1)
stopped_passed sight bound from i s lt e =
    let n : bound - i ≡ suc (bound - (i + 1)) = omega arith in record {
      rest = rw n at s.rest ∙ stop_on sight (bound - (i + 1)) i e;
      behind = (let b = s.behind in omega arith);
      within = omega arith;
    }

pub stopped_here : (sight : ℕ → Option Bool) (bound from i : ℕ) → IsStopped sight bound from i → i < bound →
    is_passed (sight i) ≡ false → i + 1 ≡ stop_from (bound - from) sight from
stopped_here sight bound from i s lt e =
    let n : bound - i ≡ suc (bound - (i + 1)) = omega arith in
    sym (rw n at s.rest ∙ stop_here sight (bound - (i + 1)) i e)

pub stopped_out : (sight : ℕ → Option Bool) (bound from i to : ℕ) → IsStopped sight bound from i → bound ≤ i →
    to ≡ max from bound → to ≡ stop_from (bound - from) sight from
stopped_out sight bound from i to s out is =
    let n : bound - i ≡ 0 = omega arith in
    let b = s.behind in
    let w = s.within in
    let e : to ≡ i = omega arith in
    e ∙ sym (rw n at s.rest ∙ stop_none sight i)

-- ---- several places

pub record IsSwept (next : ℕ → ℕ → Option ℕ) (stop : ℕ → ℕ → ℕ) (count first k from : ℕ) : Type 0 where
  pub rest : swept_from count next stop 0 first ≡ swept_from (count - k) next stop k from
  pub few : k ≤ count

sweep_on : (next : ℕ → ℕ → Option ℕ) (stop : ℕ → ℕ → ℕ) (n k from : ℕ) → swept_from (suc n) next stop k from
    ≡ swept_on (next k from) (stop k from) k (λ p. swept_from n next stop (k + 1) (p + 1))
unfolding swept_from
sweep_on next stop n k from = refl

sweep_none : (next : ℕ → ℕ → Option ℕ) (stop : ℕ → ℕ → ℕ) (k from : ℕ) →
    swept_from 0 next stop k from ≡ record { to = from; found = k }
unfolding swept_from
sweep_none next stop k from = refl

swept_step : (next : ℕ → ℕ → Option ℕ) (stop : ℕ → ℕ → ℕ) (count first k from : ℕ) (o : Option ℕ) →
    IsSwept next stop count first k from → k < count → next k from ≡ o → swept_from count next stop 0 first
    ≡ swept_on o (stop k from) k (λ p. swept_from (count - (k + 1)) next stop (k + 1) (p + 1))
swept_step next stop count first k from o s lt e =
    let n : count - k ≡ suc (count - (k + 1)) = omega arith in
    rw n at s.rest ∙ sweep_on next stop (count - (k + 1)) k from
    ∙ ap (λ x. swept_on x (stop k from) k (λ p. swept_from (count - (k + 1)) next stop (k + 1) (p + 1))) e

pub swept_start : (next : ℕ → ℕ → Option ℕ) (stop : ℕ → ℕ → ℕ) (count first : ℕ) → IsSwept next stop count first 0 first
swept_start next stop count first =
    let n : count - 0 ≡ count = omega arith in record { rest = rw n refl; few = omega arith }

pub swept_found : (next : ℕ → ℕ → Option ℕ) (stop : ℕ → ℕ → ℕ) (count first k from p : ℕ) →
    IsSwept next stop count first k from → k < count → next k from ≡ Some p →
    IsSwept next stop count first (k + 1) (p + 1)
swept_found next stop count first k from p s lt e =
    record { rest = swept_step next stop count first k from (Some p) s lt e; few = omega arith }

pub swept_missed : (next : ℕ → ℕ → Option ℕ) (stop : ℕ → ℕ → ℕ) (count first k from to : ℕ) →
    IsSwept next stop count first k from → k < count → next k from ≡ None → to ≡ stop k from →
    (let h : ℕ → Sweep = λ x. record { to = x; found = k } in h to) ≡ swept_from count next stop 0 first
swept_missed next stop count first k from to s lt e is =
    let h : ℕ → Sweep = λ x. record { to = x; found = k } in
    ap h is ∙ sym (swept_step next stop count first k from None s lt e)

pub swept_all : (next : ℕ → ℕ → Option ℕ) (stop : ℕ → ℕ → ℕ) (count first k from : ℕ) →
    IsSwept next stop count first k from → count ≤ k →
    swept_from count next stop 0 first ≡ record { to = from; found = count }
swept_all next stop count first k from s out =
    let n : count - k ≡ 0 = omega arith in
    let few = s.few in
    let e : k ≡ count = omega arith in
    rw n at s.rest ∙ sweep_none next stop k from
    ∙ (let h : ℕ → Sweep = λ x. record { to = from; found = x } in ap h e)

-- ---- rules in turn

pub record IsLooking (fits : ℕ → Bool) (look : ℕ → Stretch) (count : ℕ) (start : Stretch) (i : ℕ) (looked : Stretch) : Type 0 where
  pub rest : all_looked count fits look 0 start ≡ all_looked (count - i) fits look i looked

looking_on : (fits : ℕ → Bool) (look : ℕ → Stretch) (n i : ℕ) (looked : Stretch) → fits i ≡ false →
    all_looked (suc n) fits look i looked ≡ all_looked n fits look (i + 1) (spanned looked (look i))
unfolding all_looked
looking_on fits look n i looked e = rw e refl

looking_here : (fits : ℕ → Bool) (look : ℕ → Stretch) (n i : ℕ) (looked : Stretch) → fits i ≡ true →
    all_looked (suc n) fits look i looked ≡ spanned looked (look i)
unfolding all_looked
looking_here fits look n i looked e = rw e refl

looking_none : (fits : ℕ → Bool) (look : ℕ → Stretch) (i : ℕ) (looked : Stretch) → all_looked 0 fits look i looked ≡ looked
unfolding all_looked
looking_none fits look i looked = refl

pub looking_start : (fits : ℕ → Bool) (look : ℕ → Stretch) (count : ℕ) (start looked : Stretch) → looked ≡ start →
    IsLooking fits look count start 0 looked
looking_start fits look count start looked is =
    let n : count - 0 ≡ count = omega arith in record { rest = rw (n, is) refl }

-- whether there is one, as the code finds it
pub some_by : {A X : Type 0} (g : A → X) (o : Option A) (p : Option X) (b : Bool) → option_map g o ≡ p → is_some o ≡ b →
    is_some p ≡ b
some_by g None p b e t = ap is_some (sym e) ∙ t
some_by g (Some a) p b e t = ap is_some (sym e) ∙ t

pub looking_next : (fits : ℕ → Bool) (look : ℕ → Stretch) (count : ℕ) (start : Stretch) (i : ℕ) (looked new : Stretch) →
    IsLooking fits look count start i looked → i < count → fits i ≡ false → new ≡ spanned looked (look i) →
    IsLooking fits look count start (i + 1) new
looking_next fits look count start i looked new s lt e is =
    let n : count - i ≡ suc (count - (i + 1)) = omega arith in
    record {
      rest = rw n at s.rest ∙ looking_on fits look (count - (i + 1)) i looked e
          ∙ ap (all_looked (count - (i + 1)) fits look (i + 1)) (sym is);
    }

pub looking_fit : (fits : ℕ → Bool) (look : ℕ → Stretch) (count : ℕ) (start : Stretch) (i : ℕ) (looked new : Stretch) →
    IsLooking fits look count start i looked → i < count → fits i ≡ true → new ≡ spanned looked (look i) →
    new ≡ all_looked count fits look 0 start
looking_fit fits look count start i looked new s lt e is =
    let n : count - i ≡ suc (count - (i + 1)) = omega arith in
    is ∙ sym (rw n at s.rest ∙ looking_here fits look (count - (i + 1)) i looked e)

pub looking_out : (fits : ℕ → Bool) (look : ℕ → Stretch) (count : ℕ) (start : Stretch) (i : ℕ) (looked : Stretch) →
    IsLooking fits look count start i looked → count ≤ i → looked ≡ all_looked count fits look 0 start
looking_out fits look count start i looked s out =
    let n : count - i ≡ 0 = omega arith in sym (rw n at s.rest ∙ looking_none fits look i looked)

-- ---- nothing is looked at

pub no_context : (chained : Bool) (bytes : List ℕ) (glyph : ℕ) →
    ((u16_in bytes 0 == 3) ≡ true → coverage_in (table_at bytes (u16_in bytes (first_at chained bytes))) glyph ≡ None) →
    ((u16_in bytes 0 == 3) ≡ false → coverage_in (table_at bytes (u16_in bytes 2)) glyph ≡ None) →
    context_rules chained bytes glyph ≡ None
unfolding context_rules
no_context chained bytes glyph third other =
    let format = u16_in bytes 0 in
    none_if (format == 1) _ _
    (λ t. none_mapped _ _ (other (grind (arith, nat_tests))))
    (λ t. none_if (format == 2) _ _ (λ t. (let e = other (grind (arith, nat_tests)) in rw e refl))
    (λ t. none_if (format == 3) _ None (λ t. (let e = third t in rw e refl)) (λ t. refl)))

join_none : (at : ℕ) (looked : Stretch) → looked ≡ nothing at → spanned (nothing at) looked ≡ nothing at
join_none at looked is =
    let low : min at at ≡ at = omega arith in
    let high : max at at ≡ at = omega arith in
    ap (spanned (nothing at)) is ∙ (let h : ℕ → ℕ → Stretch = λ x y. record { start = x; stop = y } in
    ap (λ x. h x (max at at)) low ∙ ap (h at) high)

pub stretch_if : (test : Bool) (x y : Stretch) (z : Stretch) → (test ≡ true → x ≡ z) → (test ≡ false → y ≡ z) →
    (if test then x else y) ≡ z
stretch_if true x y z one two = one refl
stretch_if false x y z one two = two refl

pub all_none : (fits : ℕ → Bool) (look : ℕ → Stretch) (at n i : ℕ) → ((d : ℕ) → d < n → look (i + d) ≡ nothing at) →
    all_looked n fits look i (nothing at) ≡ nothing at
unfolding all_looked
all_none fits look at zero i h = refl
all_none fits look at (suc n) i h =
    let z : i + 0 ≡ i = omega arith in
    let here : spanned (nothing at) (look i) ≡ nothing at =
    join_none at (look i) (subst (λ j. look j ≡ nothing at) z (h 0 (omega arith))) in
    stretch_if (fits i) _ _ (nothing at) (λ t. here) (λ t. ap (all_looked n fits look (i + 1)) here
    ∙ all_none fits look at n (i + 1) (λ d lt. (let k : i + suc d ≡ i + 1 + d = omega arith in
    subst (λ j. look j ≡ nothing at) k (h (suc d) (omega arith)))))

pub unflagged : (at : ℕ) (gs : Glyphs) → unjoined (nothing at) gs ≡ gs
unfolding unjoined
unflagged at gs = let t : nat_lt at (min (length gs) at) ≡ false = grind (arith, nat_tests) in rw t refl

pub kept_if : (test : Bool) (x gs : Glyphs) → x ≡ gs → (if test then x else gs) ≡ gs
kept_if true x gs e = e
kept_if false x gs e = refl
