use Rattle.std.proofs.Common.{refl, ◌%◌, ◌∙◌}
use Rattle.opentype_layout.specs.Pattern.{seen_by}
use Rattle.opentype_layout.proofs.Sights.{sought_miss, sought_out, sought_passed}
use Rattle.opentype_layout.proofs.keys.key_behind.Goals as goal

pub returns-in_default : goal.returns-in_default
returns-in_default c = λ test k b. sought_out _ _ _ _ (record { rest = refl }) c.in_default.ensures.end

pub returns-in-Some-key : goal.returns-in-Some-key
unfolding seen_by
returns-in-Some-key c = λ test k b. sought_miss _ _ _ _ (record { rest = refl }) c.in-Some.ensures.within
    (rw c.in-Some.ensures.glyph at ((rw c.in-Some-key.is at c.key_of-key.ensures.barred) (test k) b))

pub returns : goal.returns
unfolding seen_by
returns c = λ test k b. (sought_passed _ _ _ _ (record { rest = refl }) c.in-Some.ensures.within
    (rw c.in-Some.ensures.glyph at ((rw c.in_default-key.is at c.key_of-key.ensures.passed)
    (test k (c.in-Some.glyph.now.glyph_id % 65536))))).rest ∙ c.key_further.ensures test k b
