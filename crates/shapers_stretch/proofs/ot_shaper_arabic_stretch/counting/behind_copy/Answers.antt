use Rattle.std.proofs.Common.{arith}
use Rattle.std.proofs.Common.{◌≡◌, sym, ap, ◌∙◌, ℤ}
use Rattle.std.proofs.lemmas.Int.{to_z-of_z}
use mir.Syntax.{w64}
use Rattle.shapers_stretch.specs.CountingWalk.{pen_behind, stands_at}
use Rattle.shapers_stretch.specs.Measure.{fits_i32}
use Rattle.shapers_stretch.proofs.Counts.{copy_walked}
use Rattle.shapers_stretch.proofs.ot_shaper_arabic_stretch.counting.behind_copy.Goals as goal

two_same : {X : Type 0} (f : ℤ → ℤ → X) {a b x y : ℤ} → a ≡ x → b ≡ y → f a b ≡ f x y
two_same f {a} {b} {x} {y} p q = cc

pub returns-then-fits_i32 : goal.returns-then-fits_i32
returns-then-fits_i32 c =
    let rtl = c.args.right_to_left in
    let pen = to_z-of_z w64 c.args.pen c.ranges.pen in
    let step = to_z-of_z w64 c.args.step c.ranges.step in
    let test : c.fits_i32.result ≡ fits_i32 (stands_at rtl c.args.pen c.args.step) =
    c.fits_i32.ensures.value ∙ ap fits_i32
    (to_z-of_z w64 c.first_offset.result (record { sfits = c.first_offset.type_inv }) ∙ c.first_offset.ensures ∙
    two_same (stands_at rtl) pen step) in
    search (
      to_z-of_z w64 c.moved.result (record { sfits = c.moved.type_inv }),
      copy_walked rtl c.args.pen c.args.step c.moved.result
          (c.moved.ensures.value ∙ two_same (pen_behind rtl) pen step) (sym test ∙ c.if-fits_i32.true) c.requires.low
          c.requires.high,
    )

pub returns-else-fits_i32 : goal.returns-else-fits_i32
returns-else-fits_i32 = search (arith, to_z-of_z)
