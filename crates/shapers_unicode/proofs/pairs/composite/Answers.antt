use Rattle.std.proofs.Common.{◌+◌, Some, sym, ap, ◌∙◌, arith, zero-le}
use Rattle.std.proofs.lemmas.List.{get_or_read}
use Rattle.shapers_unicode.specs.Pairs.{paired_with}
use Rattle.shapers_unicode.proofs.CompositionLemmas.{composite-paired_with, paired_with-here, paired_with-later, paired_with-end}
use Rattle.shapers_unicode.proofs.pairs.composite.Goals as goal

pub loop-i-init : goal.loop-i-init
loop-i-init c =
    (zero-le, ap (paired_with c.args.b) c.compositions_of-pairs.ensures ∙ sym (composite-paired_with c.args.a c.args.b))

pub returns-then-pairs-i : goal.returns-then-pairs-i
returns-then-pairs-i c =
    let second = get_or_read _ c.loop-i.i _ (omega arith) c.index-pairs-i.is 0 in
    let both = get_or_read _ (c.loop-i.i + 1) _ c.loop-i-test.true c.index-pairs-i-then-pairs-i.is 0 in
    ap Some both ∙ sym (paired_with-here c.args.b _ c.loop-i.i c.loop-i-test.true (sym second ∙ c.if-pairs-i.true))
    ∙ c.loop-i.invariant.1

pub loop-i-preserved : goal.loop-i-preserved
loop-i-preserved c =
    let second = get_or_read _ c.loop-i.i _ (omega arith) c.index-pairs-i.is 0 in (
      omega arith,
      sym
          (paired_with-later c.args.b _ c.loop-i.i c.loop-i-test.true (λ e. c.if-pairs-i.false (second ∙ e)))
          ∙ c.loop-i.invariant.1,
    )

pub returns : goal.returns
returns c = sym (paired_with-end c.args.b _ c.loop-i.i (omega arith)) ∙ c.loop-i.invariant.1
