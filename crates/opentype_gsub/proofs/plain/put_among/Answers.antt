use Rattle.std.proofs.Common.{ap, arith, length, refl}
use Rattle.opentype_face.specs.Lookups.{subtables_in}
use Rattle.opentype_gsub.specs.Came.{nth_came}
use Rattle.opentype_gsub.specs.Setting.{setting_of}
use Rattle.opentype_gsub.specs.declared.pass.Sights.{Sights}
use Rattle.opentype_gsub.proofs.Machines.{coming_done, coming_next, coming_none, coming_start}
use Rattle.opentype_gsub.proofs.Started.{coming_ended, coming_started, glyph_still}
use Rattle.opentype_gsub.proofs.plain.put_among.Goals as goal

pub loop-from-init : goal.loop-from-init
loop-from-init c = λ sights is. coming_start _ _ _ _

pub returns-in_default : goal.returns-in_default
returns-in_default c = λ sights is.
    coming_ended (setting_of c.args.pass.now) sights c.args.lookup.now c.args.at _ _ _ _ _ _ _
    (c.loop-from.invariant sights is) c.in_default.ensures.passed (rw c.at.ensures.glyph at c.number-glyph.ensures)

pub put_by-requires-clause-here : goal.put_by-requires-clause-here
put_by-requires-clause-here c =
    let sights : Sights = record { input = c.args.sight.now; context = c.args.sight.now } in
    omega (arith, ap length (c.loop-from.invariant sights refl).same)

pub put_by-requires-clause-glyph : goal.put_by-requires-clause-glyph
put_by-requires-clause-glyph c =
    let sights : Sights = record { input = c.args.sight.now; context = c.args.sight.now } in
    glyph_still _ _ _ _ _ _ _ _ _ (c.loop-from.invariant sights refl) (rw c.at.ensures.glyph at c.number-glyph.ensures)

pub returns-in-Some-put_by : goal.returns-in-Some-put_by
returns-in-Some-put_by c = λ sights is. (
    let within = c.in-Some.ensures.within in
    let started = coming_started (setting_of c.args.pass.now) sights c.args.lookup.now c.args.at _ _ c.in-Some.i _ _ _ _ _
    (c.loop-from.invariant sights is) c.in-Some.ensures.passed (rw c.at.ensures.glyph at c.number-glyph.ensures) within.0 (omega (arith, within.1)) in
    coming_done (nth_came (setting_of c.args.pass.now) sights c.args.lookup.now c.args.at) (subtables_in c.args.lookup.now) c.in-Some.i
    c.args.text.now c.loop-from.text c.put_by.new.text c.args.lookups.now c.loop-from.lookups
    c.put_by.new.lookups c.in-Some-put_by.next started within.1 (c.in-Some-put_by.ensures sights is))

pub loop-from-preserved : goal.loop-from-preserved
loop-from-preserved c = λ sights is. (
    let within = c.in-Some.ensures.within in
    let started = coming_started (setting_of c.args.pass.now) sights c.args.lookup.now c.args.at _ _ c.in-Some.i _ _ _ _ _
    (c.loop-from.invariant sights is) c.in-Some.ensures.passed (rw c.at.ensures.glyph at c.number-glyph.ensures) within.0 (omega (arith, within.1)) in
    coming_next (nth_came (setting_of c.args.pass.now) sights c.args.lookup.now c.args.at) (subtables_in c.args.lookup.now) c.in-Some.i
    c.args.text.now c.loop-from.text c.put_by.new.text c.args.lookups.now c.loop-from.lookups
    c.put_by.new.lookups started within.1 (c.in-None.ensures sights is))

pub returns : goal.returns
returns c = λ sights is. coming_none _ _ _ _ _ _ _ (c.loop-from.invariant sights is)
    (omega (arith, c.count-count.ensures))
