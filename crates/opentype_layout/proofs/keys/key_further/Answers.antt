use Rattle.std.proofs.Common.{refl, ◌%◌}
use Rattle.opentype_layout.specs.Pattern.{seen_by}
use Rattle.opentype_layout.proofs.Sights.{sought_miss, sought_out, sought_passed}
use Rattle.opentype_layout.proofs.keys.key_further.Goals as goal

pub loop-glyph-init : goal.loop-glyph-init
loop-glyph-init c = λ test k. record { rest = refl }

pub returns-in-Some-key : goal.returns-in-Some-key
unfolding seen_by
returns-in-Some-key c = λ test k b. sought_miss _ _ _ _ (c.loop-glyph.invariant test k) c.in-Some.ensures.within
    (rw c.in-Some.ensures.glyph at ((rw c.in-Some-key.is at c.key_of-key.ensures.barred) (test k) b))

pub loop-glyph-preserved : goal.loop-glyph-preserved
unfolding seen_by
loop-glyph-preserved c = λ test k. sought_passed _ _ _ _ (c.loop-glyph.invariant test k) c.in-Some.ensures.within
    (rw c.in-Some.ensures.glyph at ((rw c.in_default-key.is at c.key_of-key.ensures.passed)
    (test k (c.in-Some.glyph.now.glyph_id % 65536))))

pub returns : goal.returns
returns c = λ test k b. sought_out _ _ _ _ (c.loop-glyph.invariant test k) c.in_default.ensures.end
