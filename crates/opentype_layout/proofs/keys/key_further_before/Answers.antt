use Rattle.std.proofs.Common.{refl, ◌%◌}
use Rattle.opentype_layout.specs.Pattern.{seen_by}
use Rattle.opentype_layout.proofs.Sights.{sought_miss, sought_out, sought_passed}
use Rattle.opentype_layout.proofs.keys.key_further_before.Goals as goal

pub loop-i-init : goal.loop-i-init
loop-i-init c = λ test k. record { rest = refl }

pub returns-in-Some : goal.returns-in-Some
unfolding seen_by
returns-in-Some c = λ test k b. sought_miss _ _ _ _ (c.loop-i.invariant test k) c.loop-i-test.true
    (rw c.at.ensures.glyph at ((rw c.in-Some.is at c.key_of-key.ensures.barred) (test k) b))

pub loop-i-preserved : goal.loop-i-preserved
unfolding seen_by
loop-i-preserved c = λ test k. sought_passed _ _ _ _ (c.loop-i.invariant test k) c.loop-i-test.true
    (rw c.at.ensures.glyph at ((rw c.in_default.is at c.key_of-key.ensures.passed)
    (test k (c.at.result.now.glyph_id % 65536))))

pub returns : goal.returns
returns c = λ test k b. sought_out _ _ _ _ (c.loop-i.invariant test k) c.loop-i-test.false
