use Rattle.std.proofs.Common.{◌≡◌, ◌*ℤ◌, ◌&&◌, pos, Bool, sym, ap, ◌∙◌, arith, FitsSigned, to_z, of_z, ℤ}
use Rattle.std.proofs.lemmas.Int.{to_z-of_z}
use mir.Syntax.{w64}
use Rattle.shapers_stretch.specs.CountingWalk.{last_at, pen_behind, stands_at}
use Rattle.shapers_stretch.specs.Measure.{fits_i32}
use Rattle.shapers_stretch.proofs.Counts.{copies_walked, copies_stopped}
use Rattle.shapers_stretch.proofs.ot_shaper_arabic_stretch.counting.behind_copies.Goals as goal

three_same : (f : ℤ → ℤ → ℤ → Bool) {a b c x y z : ℤ} → a ≡ x → b ≡ y → c ≡ z → f a b c ≡ f x y z
three_same f {a} {b} {c} {x} {y} {z} p q r = cc

pub returns-then-ends_fit : goal.returns-then-ends_fit
returns-then-ends_fit c =
    let rtl = c.args.right_to_left in
    let fits : FitsSigned w64 c.moved-behind.result = record { sfits = c.moved-behind.type_inv } in
    let pen = to_z-of_z w64 c.args.pen c.ranges.pen in
    let step = to_z-of_z w64 c.args.step c.ranges.step in
    let at : c.moved-behind.result ≡ pen_behind rtl c.args.pen (pos c.args.count *ℤ c.args.step) =
    c.moved-behind.ensures.value ∙ ap (λ x. pen_behind rtl x (to_z w64 (of_z w64 c.product.result))) pen
    ∙ ap (pen_behind rtl c.args.pen)
    (to_z-of_z w64 c.product.result (record { sfits = c.product.type_inv }) ∙ c.product.ensures.value ∙ ap (λ x. pos
    c.args.count *ℤ x) step) in
    let both : c.ends_fit.result ≡ (fits_i32 (stands_at rtl c.args.pen c.args.step) && fits_i32 (last_at rtl
    c.moved-behind.result c.args.step)) = c.ends_fit.ensures
    ∙ three_same (λ p b s. fits_i32 (stands_at rtl p s) && fits_i32 (last_at rtl b s)) pen
    (to_z-of_z w64 c.moved-behind.result fits) step in
    search (
      to_z-of_z w64 c.moved-behind.result fits,
      copies_walked rtl c.args.pen c.args.step c.moved-behind.result c.args.count (omega arith) at
          (sym both ∙ c.if-ends_fit.true) c.requires.low c.requires.high,
    )

pub returns-else-ends_fit : goal.returns-else-ends_fit
returns-else-ends_fit = search (arith, copies_stopped, to_z-of_z)
