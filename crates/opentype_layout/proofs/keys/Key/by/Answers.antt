use Rattle.std.proofs.Common.{refl}
use Rattle.opentype_layout.specs.Keys.{bars}
use Rattle.opentype_layout.specs.Rules.{test_in}
use Rattle.opentype_layout.proofs.keys.Key.by.Goals as goal

pub returns-in-1 : goal.returns-in-1
unfolding bars test_in
returns-in-1 c = λ numbers b. rw (c.in-Number.is, c.in-1.is) b

pub returns-in-2 : goal.returns-in-2
unfolding bars test_in
returns-in-2 c = λ numbers b. rw (c.in-Number.is, c.in-2.is) (rw c.class.ensures at b)

pub returns-in_default : goal.returns-in_default
unfolding bars test_in
returns-in_default c = λ numbers b. absurd (cc)

pub returns-in-Any : goal.returns-in-Any
unfolding bars
returns-in-Any c = λ numbers b. absurd (cc)

pub returns-in-Nothing : goal.returns-in-Nothing
unfolding bars
returns-in-Nothing c = λ numbers b. rw c.in-Nothing.is refl
