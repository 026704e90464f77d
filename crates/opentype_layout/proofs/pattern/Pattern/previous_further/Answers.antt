use Rattle.std.proofs.Common.{refl, rules, sym}
use Rattle.opentype_layout.proofs.Sights.{sought_hit, sought_miss, sought_out, sought_passed}
use Rattle.opentype_layout.proofs.pattern.Pattern.previous_further.Goals as goal

pub loop-i-init : goal.loop-i-init
loop-i-init c = record { rest = refl }

pub returns-then-is_found : goal.returns-then-is_found
returns-then-is_found c = record { value = sym (sought_hit _ _ _ _ c.loop-i.invariant c.loop-i-test.true (cc)); within = search rules }

pub returns-else-is_found : goal.returns-else-is_found
returns-else-is_found c = record { value = sym (sought_miss _ _ _ _ c.loop-i.invariant c.loop-i-test.true (cc)); within = search rules }

pub loop-i-preserved : goal.loop-i-preserved
loop-i-preserved c = sought_passed _ _ _ _ c.loop-i.invariant c.loop-i-test.true (cc)

pub returns : goal.returns
returns c = record { value = sym (sought_out _ _ _ _ c.loop-i.invariant c.loop-i-test.false); within = search rules }
