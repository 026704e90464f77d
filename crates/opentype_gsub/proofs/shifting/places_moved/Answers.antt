use Rattle.opentype_gsub.proofs.Unshifted.{places_still}
use Rattle.opentype_gsub.proofs.shifting.places_moved.Goals as goal

pub returns-then-removed-eq0-clause-none : goal.returns-then-removed-eq0-clause-none
returns-then-removed-eq0-clause-none c = rw (c.if-added-eq0.true, c.if-removed-eq0.true)
    (places_still _ _ (λ j lt. (c.type_inv.places j).fits) c.requires)
