use Rattle.std.proofs.Common.{arith, lit<, sym, ◌∙◌}
use Rattle.opentype_layout.proofs.Placed.{placed_all, placed_next, placed_none, placed_start}
use Rattle.opentype_layout.proofs.places.find_places.Goals as goal

pub loop-k-init : goal.loop-k-init
loop-k-init c = rw c.requires.none (placed_start _ _ _ _)

pub returns-in_default : goal.returns-in_default
returns-in_default c = record {
  within = c.loop-k.invariant.within;
  number = λ t. absurd (cc);
  value = sym (placed_none _ _ _ _ _ _ _ c.loop-k.invariant c.loop-k-test.true
      (sym c.next-found.ensures.value ∙ c.in_default.is));
}

pub push-requires : goal.push-requires
push-requires c = let a = c.loop-k.invariant.number in (lit< tt, omega arith)

pub loop-k-preserved : goal.loop-k-preserved
loop-k-preserved c = rw (c.push.ensures.items, c.after-from.ensures) (placed_next _ _ _ _ _ _ _ _ c.loop-k.invariant
    c.loop-k-test.true (sym c.next-found.ensures.value ∙ c.in-Some.is) (rw c.in-Some.is at c.next-found.ensures.within))

pub returns : goal.returns
returns c = record {
  within = c.loop-k.invariant.within;
  number = λ t. (let n = c.loop-k.invariant.number in let f = c.loop-k.invariant.few in
      let e = c.loop-k-test.false in omega arith);
  value = sym (placed_all _ _ _ _ _ _ _ c.loop-k.invariant c.loop-k-test.false);
}
