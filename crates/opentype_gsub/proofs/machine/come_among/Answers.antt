use Rattle.std.proofs.Common.{arith}
use Rattle.opentype_gsub.specs.Setting.{setting_of}
use Rattle.opentype_gsub.proofs.Machines.{coming_done, coming_fits, coming_next, coming_none, coming_start}
use Rattle.opentype_gsub.proofs.Started.{coming_ended, coming_started, glyph_still}
use Rattle.opentype_gsub.proofs.machine.come_among.Goals as goal

pub loop-from-init : goal.loop-from-init
loop-from-init c = coming_start _ _ _ _

pub come_by-requires-clause-glyph : goal.come_by-requires-clause-glyph
come_by-requires-clause-glyph c = glyph_still _ _ _ _ _ _ _ _ _ c.loop-from.invariant (rw c.at.ensures.glyph at c.number-glyph.ensures)

pub returns-in-Ok-Done : goal.returns-in-Ok-Done
returns-in-Ok-Done c =
    let within = c.in-Some.ensures.within in
    let started = coming_started (setting_of c.args.pass.now) c.args.sights.now c.args.lookup.now c.args.at _ _ c.in-Some.i _ _ _ _ _
    c.loop-from.invariant c.in-Some.ensures.passed (rw c.at.ensures.glyph at c.number-glyph.ensures) within.0 (omega (arith, within.1)) in
    coming_done _ _ _ _ _ _ _ _ _ _ started within.1 (rw c.in-Ok-Done.field-0-is at c.in-Ok-Done.ensures)

pub returns-in-Ok-Fits : goal.returns-in-Ok-Fits
returns-in-Ok-Fits c =
    let within = c.in-Some.ensures.within in
    let started = coming_started (setting_of c.args.pass.now) c.args.sights.now c.args.lookup.now c.args.at _ _ c.in-Some.i _ _ _ _ _
    c.loop-from.invariant c.in-Some.ensures.passed (rw c.at.ensures.glyph at c.number-glyph.ensures) within.0 (omega (arith, within.1)) in
    coming_fits _ _ _ _ _ _ _ _ _ c.in-Ok-Fits.rule started within.1 (rw c.in-Ok-Fits.field-0-is at c.in-Ok-Fits.ensures)

pub loop-from-preserved : goal.loop-from-preserved
loop-from-preserved c =
    let within = c.in-Some.ensures.within in
    let started = coming_started (setting_of c.args.pass.now) c.args.sights.now c.args.lookup.now c.args.at _ _ c.in-Some.i _ _ _ _ _
    c.loop-from.invariant c.in-Some.ensures.passed (rw c.at.ensures.glyph at c.number-glyph.ensures) within.0 (omega (arith, within.1)) in
    coming_next _ _ _ _ _ _ _ _ _ started within.1 (rw c.in-Ok-Nothing.field-0-is at c.in-Ok-Nothing.ensures)

pub returns-in_default : goal.returns-in_default
returns-in_default c = coming_ended (setting_of c.args.pass.now) c.args.sights.now c.args.lookup.now c.args.at _ _ _ _ _ _ _
    c.loop-from.invariant c.in_default.ensures.passed (rw c.at.ensures.glyph at c.number-glyph.ensures)

pub returns : goal.returns
returns c = coming_none _ _ _ _ _ _ _ c.loop-from.invariant (omega (arith, c.count-count.ensures))
