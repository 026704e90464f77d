use Rattle.std.proofs.Common.{arith, refl}
use Rattle.std.proofs.lemmas.Bool.Decides.{nat_tests}
use Rattle.opentype_gsub.proofs.Marking.{number_found, number_none, number_passed}
use Rattle.opentype_gsub.proofs.ligating.nearest_number.Goals as goal

pub loop-i-init : goal.loop-i-init
loop-i-init c = record { few = omega arith; rest = refl }

pub returns-then-number-ne0 : goal.returns-then-number-ne0
returns-then-number-ne0 c = rw c.at.ensures.glyph (number_found _ _ _ c.loop-i.invariant c.loop-i-test.true
    (let some = rw c.at.ensures.glyph at c.if-number-ne0.true in grind (arith, nat_tests, some)))

pub loop-i-preserved : goal.loop-i-preserved
loop-i-preserved c = number_passed _ _ _ c.loop-i.invariant c.loop-i-test.true
    (let none = rw c.at.ensures.glyph at c.if-number-ne0.false in grind (arith, nat_tests, none))

pub returns : goal.returns
returns c = number_none _ _ _ c.loop-i.invariant (omega arith)
