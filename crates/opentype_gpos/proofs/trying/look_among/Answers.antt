use Rattle.std.proofs.Common.{◌≡◌, ◌∙◌, ap, arith, sym}
use Rattle.opentype_face.specs.Lookups.{subtables_in}
use Rattle.opentype_layout.specs.Looking.{spanned}
use Rattle.opentype_layout.proofs.Lookings.{looking_fit, looking_next, looking_out, looking_start, some_by}
use Rattle.opentype_gpos.specs.Coming.{came}
use Rattle.opentype_gpos.specs.Looked.{lookup_looked}
use Rattle.opentype_gpos.proofs.trying.look_among.Goals as goal

pub loop-i-init : goal.loop-i-init
loop-i-init c = looking_start _ _ _ _ _ c.none-looked.ensures

pub returns-then-is_some : goal.returns-then-is_some
unfolding lookup_looked
returns-then-is_some c =
    let same : c.subtable_count-count.result ≡ subtables_in c.args.lookup.now =
    c.subtable_count-count.ensures ∙ ap subtables_in c.bytes.ensures in
    looking_fit _ _ _ _ _ _ _ c.loop-i.invariant (omega (arith, same, c.loop-i-test.true))
    (some_by came c.come_by.result _ _ c.come_by.ensures (sym c.is_some.ensures ∙ c.if-is_some.true))
    (c.join-looked.ensures ∙ ap (spanned c.loop-i.looked) c.look_by.ensures)

pub loop-i-preserved : goal.loop-i-preserved
loop-i-preserved c =
    let same : c.subtable_count-count.result ≡ subtables_in c.args.lookup.now =
    c.subtable_count-count.ensures ∙ ap subtables_in c.bytes.ensures in
    looking_next _ _ _ _ _ _ _ c.loop-i.invariant (omega (arith, same, c.loop-i-test.true))
    (some_by came c.come_by.result _ _ c.come_by.ensures (sym c.is_some.ensures ∙ c.if-is_some.false))
    (c.join-looked.ensures ∙ ap (spanned c.loop-i.looked) c.look_by.ensures)

pub returns : goal.returns
unfolding lookup_looked
returns c =
    let same : c.subtable_count-count.result ≡ subtables_in c.args.lookup.now =
    c.subtable_count-count.ensures ∙ ap subtables_in c.bytes.ensures in
    looking_out _ _ _ _ _ _ c.loop-i.invariant (omega (arith, same, c.loop-i-test.false))
