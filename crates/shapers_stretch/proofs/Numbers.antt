-- What the code computes of the numbers of a sequence.
use Rattle.std.proofs.Common.{◌≡◌, ◌^◌, ℕ, zero, suc, ◌*ℤ◌, ◌-◌, ◌/◌, ◌<◌, ◌≤◌, ◌+◌, ℤ, pos, negsuc, ◌-ℤ◌, ◌≤ℤ◌, ◌<ℤ◌, nat_abs, unsigned_abs, int_lt, int_div, Bool, true, false, cond, ◌&&◌, IsTrue, FitsSigned, [], ◌∷◌, Option, None, Some, refl, sym, ◌∙◌, ap, arith, mul-pos}
use Rattle.std.specs.List.{list_all}
use Rattle.std.proofs.lemmas.Int.{ints, fits_signed_mul}
use borrow.Author.Tests.{ltb-true, clash}
use Rattle.std.proofs.lemmas.Option.{none-some}
use lib.IntN.{*ℤ-zero}
use mir.Syntax.{w32, w64}
use Rattle.shapers_stretch.specs.declared.ot_shaper_arabic_stretch.measuring.TileSequence.{TileSequence}
use Rattle.shapers_base.specs.declared.plan.arabic.StretchStart.{StretchStart}
use Rattle.shapers_base.specs.declared.plan.arabic.StretchStart.TheVariants.{AsCode, Centred}
use Rattle.shapers_stretch.specs.Lays.{SequenceFits, lay_if_fits, lay_of, start_if_fits}
use Rattle.shapers_stretch.specs.Measure.{times_added, copies_added, excess, falls_short, fit, fits_i32, fitting, left, numbers_to_fit, overlap, laid_width, tiles_reach, squeezes, start}

-- a number that passes the test fits, and each of a list that does
pub fits_from : (x : ℤ) → fits_i32 x ≡ true → FitsSigned w32 x
fits_from _ = search arith

-- what a number that fits 32 bits measures, and how many bits hold the reach of at most 2 ^ 31 rounds
abs_within : (x : ℤ) → FitsSigned w32 x → unsigned_abs x ≤ 2 ^ 31
abs_within (pos n) f = omega arith
abs_within (negsuc n) f = omega arith

pub reach_fits : (z : TileSequence) (n : ℕ) → SequenceFits z → n ≤ 2 ^ 31 → FitsSigned w64 (tiles_reach z n)
reach_fits z n fits few =
    fits_signed_mul w64 (pos (suc n)) z.repeating (2 ^ 31 + 1) (2 ^ 31) (omega arith) (search arith) (omega arith)

-- what fits 32 bits fits 64
pub wide : (x : ℤ) → FitsSigned w32 x → FitsSigned w64 x
wide _ = search arith

pub run_fits_from : (z : TileSequence) → IsTrue (list_all fits_i32 (z.word ∷ z.fixed ∷ z.repeating ∷ left z ∷ []))
    → SequenceFits z
run_fits_from = search arith

pub quotient_abs : (a b : ℤ) → pos 0 <ℤ a → pos 0 <ℤ b → nat_abs (int_div a b) ≡ unsigned_abs a / unsigned_abs b
quotient_abs (pos a) (pos b) p q = refl
quotient_abs _ _ p q = search

if_both : {X : Type 0} (a b : Bool) (x y : X) → a ≡ true → b ≡ true → cond (a && b) x y ≡ x
if_both a b x y e f = cc

if_first : {X : Type 0} (a b : Bool) (x y : X) → a ≡ false → cond (a && b) x y ≡ y
if_first a b x y e = cc

if_second : {X : Type 0} (a b : Bool) (x y : X) → b ≡ false → cond (a && b) x y ≡ y
if_second true b x y f = ap (λ v. cond v x y) f
if_second false b x y f = refl

pub lt_yes : (a b : ℤ) → a <ℤ b → int_lt a b ≡ true
lt_yes = grind arith

pub lt_not : (a b : ℤ) → b ≤ℤ a → int_lt a b ≡ false
lt_not = grind arith

pub fit_yes : (r m : ℤ) → r <ℤ m → pos 0 <ℤ r → fit r m ≡ nat_abs (int_div m r) - 1
fit_yes = search arith

pub fit_room : (r m : ℤ) → m ≤ℤ r → fit r m ≡ 0
fit_room r m h = if_first _ _ _ _ (lt_not r m h)

pub fit_width : (r m : ℤ) → r ≤ℤ pos 0 → fit r m ≡ 0
fit_width r m h = if_second (int_lt r m) _ _ _ (lt_not (pos 0) r h)

pub added_yes : (z : TileSequence) → pos 0 <ℤ (left z -ℤ tiles_reach z (fitting z)) → 0 < z.repeaters → times_added z ≡ suc (fitting z)
added_yes = search (arith, if_both, lt_yes, pos)

pub added_full : (z : TileSequence) → (left z -ℤ tiles_reach z (fitting z)) ≤ℤ pos 0 → times_added z ≡ fitting z
added_full = search lt_not

pub added_none : (z : TileSequence) → z.repeaters ≡ 0 → times_added z ≡ fitting z
added_none = search arith

-- the reach of as many times as fit, by a number that equals them
pub rest_at : (z : TileSequence) (n : ℕ) → n ≡ fitting z → tiles_reach z n ≡ tiles_reach z (fitting z)
rest_at z n e = ap (tiles_reach z) e

full_is : (z : TileSequence) → (left z -ℤ tiles_reach z (fitting z)) ≤ℤ pos 0 → falls_short z ≡ false
full_is = search lt_not

pub squeezes_full : (z : TileSequence) → (left z -ℤ tiles_reach z (fitting z)) ≤ℤ pos 0 → squeezes z ≡ false
squeezes_full z h = cc (full_is z h)

pub squeezes_short : (z : TileSequence) → pos 0 <ℤ (left z -ℤ tiles_reach z (fitting z)) → 0 < z.repeaters
    → squeezes z ≡ int_lt (pos 0) (excess z)
squeezes_short = search arith

-- where copies overlap, there are some, and they reach too far
pub squeezed_some : (z : TileSequence) → squeezes z ≡ true → (0 < copies_added z) × (pos 0 <ℤ excess z)
squeezed_some = search (arith, mul-pos, ltb-true)

pub overlap_yes : (z : TileSequence) → squeezes z ≡ true → overlap z ≡ int_div (excess z) (pos (copies_added z))
overlap_yes z e = cc

pub overlap_no : (z : TileSequence) → squeezes z ≡ false → overlap z ≡ pos 0
overlap_no z e = cc

pub quotient_bounds : (a : ℤ) (n : ℕ) → pos 0 ≤ℤ a → 0 < n → (pos 0 ≤ℤ int_div a (pos n)) × (int_div a (pos n) ≤ℤ a)
quotient_bounds _ = search arith

-- what copies that overlap share together: no more than they reach too far
quotient_times : (a : ℤ) (n : ℕ) → pos 0 ≤ℤ a → 0 < n → (pos 0 ≤ℤ (pos n *ℤ int_div a (pos n)))
    × ((pos n *ℤ int_div a (pos n)) ≤ℤ a)
quotient_times a zero h p = absurd (omega arith)
quotient_times (pos a) (suc n) h p = search arith
quotient_times (negsuc a) (suc n) h p = search

pub shared_bounds : (z : TileSequence) → squeezes z ≡ true → (pos 0 ≤ℤ (pos (copies_added z) *ℤ overlap z))
    × ((pos (copies_added z) *ℤ overlap z) ≤ℤ excess z)
shared_bounds z e =
    let some = squeezed_some z e in
    search (arith, quotient_times (excess z) (copies_added z) (omega (arith, ints)) some.0)

share_nothing : (n : ℕ) (o : ℤ) → o ≡ pos 0 → pos n *ℤ o ≡ pos 0
share_nothing n o e = cc (*ℤ-zero (pos n))

shared_if : (z : TileSequence) (b : Bool) → squeezes z ≡ b → FitsSigned w32 (left z) → FitsSigned w32 (tiles_reach z (times_added z))
    → (pos 0 ≤ℤ (pos (copies_added z) *ℤ overlap z)) × ((pos (copies_added z) *ℤ overlap z) ≤ℤ pos (2 ^ 34))
shared_if z true e = let bounds = shared_bounds z e in search (arith, ints)
shared_if z false e = search (arith, share_nothing (copies_added z) (overlap z) (overlap_no z e))

pub shared_within : (z : TileSequence) → FitsSigned w32 (left z) → FitsSigned w32 (tiles_reach z (times_added z))
    → (pos 0 ≤ℤ (pos (copies_added z) *ℤ overlap z)) × ((pos (copies_added z) *ℤ overlap z) ≤ℤ pos (2 ^ 34))
shared_within z l r = shared_if z (squeezes z) refl l r

-- the quotient that overlap is, and its bounds
pub overlap_bounds : (z : TileSequence) → squeezes z ≡ true → (pos 0 ≤ℤ overlap z) × (overlap z ≤ℤ excess z)
overlap_bounds z e =
    let some = squeezed_some z e in
    search (arith, quotient_bounds (excess z) (copies_added z) (omega (arith, ints)) some.0)

pub centred_apart : (right_to_left : Bool) (z : TileSequence) (w : ℤ) → w ≡ laid_width z → fits_i32 (z.word -ℤ w) ≡ false
    → None ≡ start_if_fits Centred right_to_left z
centred_apart = search arith

pub centred_fits : (right_to_left : Bool) (z : TileSequence) (w : ℤ) → w ≡ laid_width z → fits_i32 w ≡ true
    → fits_i32 (z.word -ℤ w) ≡ true → Some (start Centred right_to_left z) ≡ start_if_fits Centred right_to_left z
centred_fits = search arith

-- how a sequence is laid, by the tests in turn
four_true : (a b c d : Bool) (rest : Bool) → (a && (b && (c && (d && true)))) ≡ true → (a && (b && (c && (d && rest))))
    ≡ rest
four_true true true true true rest e = refl
four_true _ _ _ _ rest e = absurd (clash e)

two_true : (a b : Bool) (rest : Bool) → (a && (b && true)) ≡ true → (a && (b && rest)) ≡ rest
two_true true true rest e = refl
two_true _ _ rest e = absurd (clash e)

abbrev number_or : Option ℤ → ℤ
number_or (Some x) = x
number_or None = pos 0

some_same : {x y : ℤ} → Some x ≡ Some y → x ≡ y
some_same e = ap number_or e

pub four_and_two : (z : TileSequence) (rest : Bool) → list_all fits_i32 (z.word ∷ z.fixed ∷ z.repeating ∷ left z ∷ []) ≡ true
    → list_all fits_i32 (tiles_reach z (times_added z) ∷ pos (copies_added z) ∷ []) ≡ true → (fits_i32 z.word
    && (fits_i32 z.fixed && (fits_i32 z.repeating
    && (fits_i32 (left z) && (fits_i32 (tiles_reach z (times_added z)) && (fits_i32 (pos (copies_added z)) && rest))))))
    ≡ rest
four_and_two = search arith

centred_found : (right_to_left : Bool) (z : TileSequence) (b : Bool) (s : ℤ) → cond b (Some (start Centred right_to_left z)) None
    ≡ Some s → cond b (Some (lay_of Centred right_to_left z)) None
    ≡ Some (record (lay_of Centred right_to_left z) { start = s })
centred_found right_to_left z true s e = search arith
centred_found right_to_left z false s e = absurd (none-some s e)

pub lay_found : (choice : StretchStart) (right_to_left : Bool) (z : TileSequence) (s : ℤ)
    → list_all fits_i32 (z.word ∷ z.fixed ∷ z.repeating ∷ left z ∷ []) ≡ true
    → list_all fits_i32 (tiles_reach z (times_added z) ∷ pos (copies_added z) ∷ []) ≡ true
    → start_if_fits choice right_to_left z ≡ Some s → lay_if_fits choice right_to_left z
    ≡ Some (record (lay_of choice right_to_left z) { start = s })
lay_found AsCode right_to_left z s e f h = search arith
lay_found Centred right_to_left z s e f h =
    let rest = list_all fits_i32 (laid_width z ∷ (z.word -ℤ laid_width z) ∷ []) in
    cc (four_and_two z rest e f, centred_found right_to_left z rest s h)

-- where a number doesn't fit, there is no way to lay it
four_false : (a b c d rest : Bool) → (a && (b && (c && (d && true)))) ≡ false → (a && (b && (c && (d && rest)))) ≡ false
four_false true true true true rest e = absurd (clash (sym e))
four_false _ _ _ _ rest e = refl

two_false : (a b rest : Bool) → (a && (b && true)) ≡ false → (a && (b && rest)) ≡ false
two_false true true rest e = absurd (clash (sym e))
two_false _ _ rest e = refl

run_apart : (z : TileSequence) (rest : Bool) → list_all fits_i32 (z.word ∷ z.fixed ∷ z.repeating ∷ left z ∷ []) ≡ false
    → (fits_i32 z.word && (fits_i32 z.fixed && (fits_i32 z.repeating && (fits_i32 (left z) && rest)))) ≡ false
run_apart = search arith

added_apart : (z : TileSequence) (rest : Bool) → list_all fits_i32 (z.word ∷ z.fixed ∷ z.repeating ∷ left z ∷ []) ≡ true
    → list_all fits_i32 (tiles_reach z (times_added z) ∷ pos (copies_added z) ∷ []) ≡ false → (fits_i32 z.word
    && (fits_i32 z.fixed && (fits_i32 z.repeating
    && (fits_i32 (left z) && (fits_i32 (tiles_reach z (times_added z)) && (fits_i32 (pos (copies_added z)) && rest))))))
    ≡ false
added_apart = search arith

pub repeating_apart : (z : TileSequence) → fits_i32 z.repeating ≡ false
    → list_all fits_i32 (z.word ∷ z.fixed ∷ z.repeating ∷ left z ∷ []) ≡ false
repeating_apart = search arith

-- a sequence by its numbers
pub same_run : (w v f h r s : ℤ) (n m : ℕ) → w ≡ v → f ≡ h → r ≡ s → n ≡ m
    → ◌≡◌ {A = TileSequence} (record { word = w; fixed = f; repeating = r; repeaters = n })
    (record { word = v; fixed = h; repeating = s; repeaters = m })
same_run w v f h r s n m a b c d =
    let sequence : ℤ → ℤ → ℤ → ℕ → TileSequence = λ w f r n. record { word = w; fixed = f; repeating = r; repeaters = n } in
    ap (λ w. sequence w f r n) a ∙ ap (λ f. sequence v f r n) b ∙ ap (λ r. sequence v h r n) c ∙ ap (sequence v h s) d

pub numbers_apart : (choice : StretchStart) (z : TileSequence) → list_all fits_i32 (z.word ∷ z.fixed ∷ z.repeating ∷ left z ∷ [])
    ≡ false → list_all fits_i32 (numbers_to_fit choice z) ≡ false
numbers_apart AsCode z e = run_apart z _ e
numbers_apart Centred z e = run_apart z _ e

pub no_lay_run : (choice : StretchStart) (right_to_left : Bool) (z : TileSequence)
    → list_all fits_i32 (z.word ∷ z.fixed ∷ z.repeating ∷ left z ∷ []) ≡ false
    → None ≡ lay_if_fits choice right_to_left z
no_lay_run _ = search arith

pub no_lay_added : (choice : StretchStart) (right_to_left : Bool) (z : TileSequence)
    → list_all fits_i32 (z.word ∷ z.fixed ∷ z.repeating ∷ left z ∷ []) ≡ true
    → list_all fits_i32 (tiles_reach z (times_added z) ∷ pos (copies_added z) ∷ []) ≡ false
    → None ≡ lay_if_fits choice right_to_left z
no_lay_added _ = search arith

no_start : (right_to_left : Bool) (z : TileSequence) (b : Bool) → cond b (Some (start Centred right_to_left z)) None ≡ None
    → cond b (Some (lay_of Centred right_to_left z)) None ≡ None
no_start right_to_left z true e = absurd (none-some _ (sym e))
no_start right_to_left z false e = refl

pub no_lay_start : (choice : StretchStart) (right_to_left : Bool) (z : TileSequence)
    → list_all fits_i32 (z.word ∷ z.fixed ∷ z.repeating ∷ left z ∷ []) ≡ true
    → list_all fits_i32 (tiles_reach z (times_added z) ∷ pos (copies_added z) ∷ []) ≡ true
    → start_if_fits choice right_to_left z ≡ None → None ≡ lay_if_fits choice right_to_left z
no_lay_start AsCode right_to_left z e f h = absurd (none-some _ (sym h))
no_lay_start Centred right_to_left z e f h = search (four_and_two, no_start)
