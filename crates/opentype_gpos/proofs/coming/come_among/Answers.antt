use Rattle.std.proofs.Common.{◌≡◌, sym, arith}
use Rattle.opentype_face.proofs.Foremost.{first_out}
use Rattle.opentype_face.specs.Lookups.{subtables_in}
use Rattle.opentype_gpos.proofs.Unbegun.{tried_all, tried_found, tried_missed, tried_start}
use Rattle.opentype_gpos.proofs.coming.come_among.Goals as goal

pub loop-i-init : goal.loop-i-init
loop-i-init c = tried_start _ _ _ _ _

pub returns-then-is_some : goal.returns-then-is_some
returns-then-is_some c = tried_found _ _ _ _ _ _ _ _ c.in-Some.i c.come_by-found.result c.loop-i.invariant
    c.number-glyph.ensures c.next_start.ensures.within c.next_start.ensures.passed c.in-Some.is (cc) (cc)

pub returns-then-i-count : goal.returns-then-i-count
returns-then-i-count c =
    let tried = tried_missed _ _ _ _ _ _ _ _ c.in-Some.i c.come_by-found.result c.loop-i.invariant
    c.number-glyph.ensures c.next_start.ensures.within c.next_start.ensures.passed c.in-Some.is (cc) (cc) in
    let same : c.count-count.result ≡ subtables_in c.args.lookup.now = c.count-count.ensures in
    sym (first_out _ _ _ tried.first (omega (arith, same, c.if-i-count.true)))

pub loop-i-preserved : goal.loop-i-preserved
loop-i-preserved c = tried_missed _ _ _ _ _ _ _ _ c.in-Some.i c.come_by-found.result c.loop-i.invariant
    c.number-glyph.ensures c.next_start.ensures.within c.next_start.ensures.passed c.in-Some.is (cc) (cc)

pub returns : goal.returns
returns c = tried_all _ _ _ _ _ _ _ _ c.loop-i.invariant c.number-glyph.ensures c.next_start.ensures.passed c.in_default.is
