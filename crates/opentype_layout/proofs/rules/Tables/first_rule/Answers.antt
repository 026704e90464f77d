use Rattle.std.proofs.Common.{◌∙◌, refl, sym, arith}
use Rattle.opentype_face.specs.Firsts.{first_from}
use Rattle.opentype_layout.specs.declared.rules.Matched.{Matched}
use Rattle.opentype_layout.specs.Rules.{Found, found, first_in, nth_in}
use Rattle.opentype_face.proofs.Foremost.{first_found, first_missed, first_out, first_passed, first_start}
use Rattle.opentype_layout.proofs.rules.Tables.first_rule.Goals as goal

pub returns-then-count-eq0 : goal.returns-then-count-eq0
unfolding first_in first_from
returns-then-count-eq0 c = rw (sym c.rule_count-count.ensures ∙ c.if-count-eq0.true) refl

pub loop-i-init : goal.loop-i-init
loop-i-init c = first_start _ _

pub returns-then-is_some : goal.returns-then-is_some
unfolding first_in nth_in
returns-then-is_some c =
    let g : Matched → Found = λ it. found it in
    first_found g _ _ _ _ c.loop-i.invariant (omega arith) (cc) (cc)

pub loop-i-preserved-then-is_nth_barred : goal.loop-i-preserved-then-is_nth_barred
unfolding nth_in
loop-i-preserved-then-is_nth_barred c =
    let barred = c.is_nth_barred.ensures c.if-is_nth_barred.true in
    let none = barred.none _ _ _ _ _ c.keys-keys.ensures in
    first_passed _ _ _ c.loop-i.invariant (omega arith) (cc)

pub loop-i-preserved : goal.loop-i-preserved
unfolding nth_in
loop-i-preserved c =
    let g : Matched → Found = λ it. found it in
    first_missed g _ _ _ c.fit-found.result c.loop-i.invariant (omega arith) (cc) (cc)

pub returns : goal.returns
unfolding first_in
returns c = sym (first_out _ _ _ c.loop-i.invariant (omega arith))
