-- The numbers by which a sequence is laid are small where all that must fit 32 bits does.
use Rattle.std.proofs.Common.{◌≡◌, ◌*◌, ◌^◌, ◌<◌, ◌≤◌, ℕ, zero, suc, ◌*ℤ◌, ℤ, pos, negsuc, neg_ℤ, ◌-ℤ◌, ◌≤ℤ◌, unsigned_abs, int_div, Bool, true, false, cond, FitsSigned, [], ◌∷◌, Option, None, Some, refl, subst, sym, ◌∙◌, ap, arith}
use Rattle.std.specs.List.{list_all}
use Rattle.std.proofs.lemmas.Int.{ints}
use Rattle.std.proofs.lemmas.List.Folds.{list_all-append}
use Rattle.std.proofs.lemmas.Option.{none-some}
use Rattle.std.proofs.lemmas.Bool.{and_parts}
use borrow.Author.Tests.{ltb-true}
use mir.Syntax.{w32}
use Rattle.shapers_base.specs.declared.plan.arabic.StretchStart.{StretchStart}
use Rattle.shapers_base.specs.declared.plan.arabic.StretchStart.TheVariants.{AsCode, Centred}
use Rattle.shapers_stretch.specs.CountingWalk.{IsLay, IsNumber}
use Rattle.shapers_stretch.specs.declared.ot_shaper_arabic_stretch.measuring.Lay.{Lay}
use Rattle.shapers_stretch.specs.declared.ot_shaper_arabic_stretch.measuring.TileSequence.{TileSequence}
use Rattle.shapers_stretch.specs.Lays.{lay_if_fits, lay_of}
use Rattle.shapers_stretch.specs.Measure.{times_added, copies_added, fit, fits_i32, laid_width, left, numbers_to_fit, overlap, tiles_reach, sequence_numbers, squeezes, start}
use Rattle.shapers_stretch.proofs.Numbers.{fits_from, overlap_bounds, overlap_no, shared_bounds}
use Rattle.shapers_stretch.proofs.Steps.{times_up}
use lib.IntN.{*ℤ-zero}

-- what fits, of the numbers of a sequence
pub record SmallRun (z : TileSequence) : Type 0 where
  pub left : FitsSigned w32 (left z)
  pub tiles_reach : FitsSigned w32 (tiles_reach z (times_added z))
  pub copies : copies_added z < 2 ^ 31

small_from : (z : TileSequence) → list_all fits_i32 (sequence_numbers z) ≡ true → SmallRun z
small_from = search (arith, fits_from, ltb-true)

numbers_small : (choice : StretchStart) (z : TileSequence) → list_all fits_i32 (numbers_to_fit choice z) ≡ true → SmallRun z
numbers_small AsCode z e = small_from z e
numbers_small Centred z e =
    small_from z (and_parts _ _
    (sym (list_all-append fits_i32 (sequence_numbers z) (laid_width z ∷ (z.word -ℤ laid_width z) ∷ [])) ∙ e)).0

magnitude : (x : ℤ) → FitsSigned w32 x → unsigned_abs x ≤ 2 ^ 31
magnitude (pos n) = omega arith
magnitude (negsuc n) = omega arith

fit_small : (r m : ℤ) → FitsSigned w32 m → fit r m < 2 ^ 31
fit_small = search arith

added_if : (b : Bool) (n : ℕ) → n < 2 ^ 31 → cond b (suc n) n ≤ 2 ^ 31
added_if true = omega arith
added_if false = omega arith

overlap_small : (z : TileSequence) (b : Bool) → squeezes z ≡ b → SmallRun z → (pos 0 ≤ℤ overlap z) × (overlap z ≤ℤ pos (2 ^ 34))
overlap_small z true e = let bounds = overlap_bounds z e in search (arith, ints)
overlap_small z false e = search arith

times_more : (n k : ℕ) (o : ℤ) → 0 < k → pos 0 ≤ℤ o → (pos n *ℤ o) ≤ℤ (pos (n * k) *ℤ o)
times_more n zero o p h = absurd (omega arith)
times_more n (suc k) o p h = omega (arith, ints, times_up (n * k) o h)

shared_small : (z : TileSequence) (b : Bool) → squeezes z ≡ b → SmallRun z → (pos (times_added z) *ℤ overlap z) ≤ℤ pos (2 ^ 34)
shared_small z true e s = omega (arith, ints, times_more (times_added z) z.repeaters (overlap z) (search arith) (overlap_bounds z e).0, (shared_bounds z e).1)
shared_small z false e s =
    omega (arith, ints, ap (λ o. pos (times_added z) *ℤ o) (overlap_no z e) ∙ *ℤ-zero (pos (times_added z)))

half_small : (x : ℤ) → FitsSigned w32 x → IsNumber (int_div x (pos 2))
half_small _ = search arith

number_if : (b : Bool) (x y : ℤ) → IsNumber x → IsNumber y → IsNumber (cond b x y)
number_if true x y p q = p
number_if false x y p q = q

number_zero : IsNumber (pos 0)
number_zero = search

number_neg : (x : ℤ) → FitsSigned w32 x → IsNumber (neg_ℤ (int_div x (pos 2)))
number_neg _ = search arith

start_small : (choice : StretchStart) (right_to_left : Bool) (z : TileSequence) → list_all fits_i32 (numbers_to_fit choice z)
    ≡ true → IsNumber (start choice right_to_left z)
start_small AsCode right_to_left z e =
    number_if (squeezes z) _ _ number_zero (half_small (left z) (small_from z e).left)
start_small Centred right_to_left z e =
    let both = and_parts _ _
    (sym (list_all-append fits_i32 (sequence_numbers z) (laid_width z ∷ (z.word -ℤ laid_width z) ∷ [])) ∙ e) in
    let gap = fits_from (z.word -ℤ laid_width z) (and_parts _ _ (and_parts (fits_i32 (laid_width z)) _ both.1).1).0 in
    search (number_if, number_neg, half_small)

-- a lay that was found
pub record FoundLay (choice : StretchStart) (right_to_left : Bool) (z : TileSequence) (lay : Lay) : Type 0 where
  pub fits : list_all fits_i32 (numbers_to_fit choice z) ≡ true
  pub is : lay ≡ lay_of choice right_to_left z
  pub small : IsLay lay
  pub copies : lay.added * z.repeaters < 2 ^ 31

found_here : (choice : StretchStart) (right_to_left : Bool) (z : TileSequence) → list_all fits_i32 (numbers_to_fit choice z)
    ≡ true → FoundLay choice right_to_left z (lay_of choice right_to_left z)
found_here choice right_to_left z e =
    let s = numbers_small choice z e in
    let over = overlap_small z (squeezes z) refl s in
    record {
      fits = e;
      is = refl;
      small =
          record {
            added = search (arith, added_if);
            low = over.0;
            high = over.1;
            shared = shared_small z (squeezes z) refl s;
            start =
                search start_small;
          };
      copies = s.copies;
    }

abbrev lay_or : Lay → Option Lay → Lay
lay_or d (Some lay) = lay
lay_or d None = d

pub found_lay : (choice : StretchStart) (right_to_left : Bool) (z : TileSequence) (lay : Lay)
    → lay_if_fits choice right_to_left z ≡ Some lay → FoundLay choice right_to_left z lay
found_lay choice right_to_left z lay e =
    elim (list_all fits_i32 (numbers_to_fit choice z)) as (λ b. list_all fits_i32 (numbers_to_fit choice z) ≡ b
    → cond b (Some (lay_of choice right_to_left z)) None ≡ Some lay → FoundLay choice right_to_left z lay) [
      | true ↦ λ f e. subst (FoundLay choice right_to_left z) (ap (lay_or lay) e) (found_here choice right_to_left z f)
      | false ↦ λ f e. absurd (none-some lay e)
    ] refl e

pub no_lay : (choice : StretchStart) (right_to_left : Bool) (z : TileSequence) → lay_if_fits choice right_to_left z ≡ None
    → list_all fits_i32 (numbers_to_fit choice z) ≡ false
no_lay choice right_to_left z e =
    elim (list_all fits_i32 (numbers_to_fit choice z)) as (λ b. list_all fits_i32 (numbers_to_fit choice z) ≡ b
    → cond b (Some (lay_of choice right_to_left z)) None ≡ None → b ≡ false) [
      | true ↦ λ f e. absurd (none-some (lay_of choice right_to_left z) (sym e))
      | false ↦ λ f e. refl
    ] refl e
