use Rattle.std.proofs.Common.{arith}
use Rattle.std.proofs.lemmas.Bool.Decides.{nat_tests}
use Rattle.opentype_gpos.proofs.KernLefts.{begun_listed, begun_other}
use Rattle.opentype_gpos.proofs.kern_lefts.with_subtable.Goals as goal

pub returns-in-0 : goal.returns-in-0
returns-in-0 c = begun_listed _ c.u8_at.result c.u16_at.result _ _ (cc) c.u8_at.ensures (cc) c.u16_at.ensures
    c.with_records.ensures

pub returns-in_default : goal.returns-in_default
returns-in_default c = begun_other _ c.u8_at.result _ (cc) c.u8_at.ensures
    (grind (arith, nat_tests, c.in_default)) (grind (arith, nat_tests, c.in_default))
