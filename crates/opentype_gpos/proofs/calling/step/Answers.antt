use Rattle.std.proofs.Common.{arith, lit<, refl}
use Rattle.std.specs.Option.{option_map}
use Rattle.opentype_layout.specs.Rules.{found}
use Rattle.opentype_gpos.proofs.Calls.{turn_ended, turn_goes_on}
use Rattle.opentype_gpos.proofs.calling.step.Goals as goal

pub returns-then-frame-clause-same : goal.returns-then-frame-clause-same
returns-then-frame-clause-same c = turn_ended _ _ _ c.in-Some.frame _ c.in-Some.ensures.items (omega arith)

pub push-requires : goal.push-requires
push-requires c = let n = c.in-Some.ensures.len in let few = c.requires.few in (lit< tt, omega arith)

pub returns-clause-same : goal.returns-clause-same
returns-clause-same c = turn_goes_on _ _ _ _ c.in-Some.frame _ c.as_slice.result.now _
    (record {
      glyphs = c.call_record-inner.new.glyphs;
      positions = c.call_record-inner.new.positions;
      left = c.call_record-inner.new.left;
    }) (option_map (λ m. found m) c.call_record-inner.result) _ c.as_slice.ensures.value
    c.in-Some.ensures.items c.push.ensures.items (omega arith) refl
    (c.call_record-inner.ensures.same _) (c.push_rule.ensures.same _ _ _)
