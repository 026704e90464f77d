use Rattle.std.proofs.Common.{◌≡◌, arith}
use Rattle.opentype_face.specs.Lookups.{subtables_in}
use Rattle.opentype_gpos.specs.Coming.{setting_of}
use Rattle.opentype_gpos.proofs.Unbegun.{tried_no_pair, tried_out, tried_pair}
use Rattle.opentype_gpos.proofs.coming.come_first.Goals as goal

pub returns-in-Some-found : goal.returns-in-Some-found
returns-in-Some-found c =
    let same : c.count-count.result ≡ subtables_in c.args.lookup.now = c.count-count.ensures in
    tried_pair (setting_of c.args.pass.now) _ _ _ _ c.loop-i.i _ _ _ c.loop-i.invariant (omega (arith, same, c.loop-i-test.true))
    c.in-Some.ensures.0 c.in-Some.ensures.1 c.pair_by_table-found.ensures c.in-Some-found.is

pub loop-i-preserved : goal.loop-i-preserved
loop-i-preserved c =
    let same : c.count-count.result ≡ subtables_in c.args.lookup.now = c.count-count.ensures in
    tried_no_pair (setting_of c.args.pass.now) _ _ _ _ c.loop-i.i _ _ c.loop-i.invariant
    (omega (arith, same, c.loop-i-test.true)) c.in-Some.ensures.0 c.in-Some.ensures.1 c.pair_by_table-found.ensures
    c.in_default-found.is

pub returns : goal.returns
returns c =
    let same : c.count-count.result ≡ subtables_in c.args.lookup.now = c.count-count.ensures in
    tried_out _ _ _ _ _ _ c.loop-i.invariant (omega (arith, same, c.loop-i-test.false))
