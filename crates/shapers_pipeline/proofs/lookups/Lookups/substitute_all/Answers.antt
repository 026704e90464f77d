-- One more lookup, and the room that it has.
use Rattle.std.proofs.Common.{rules, ◌∙◌, ◌<◌, Err, ap, arith, length}
use Rattle.std.specs.Prelude.{Result}
use Rattle.shapers_buffer.specs.declared.buffer.refusal.ShaperError.{ShaperError}
use Rattle.shapers_buffer.specs.declared.buffer.refusal.ShaperError.TheVariants.{TooLong}
use Rattle.shapers_plan.specs.declared.ot_map.lookups.StageLookup.{StageLookup}
use Rattle.shapers_pipeline.proofs.StageLengths.{lookup_fits, lookup_step, looked_next, looked_refused, looked_stopped, passed_on, told_error}
use Rattle.shapers_pipeline.proofs.lookups.Lookups.substitute_all.Goals as goal

pub returns-in_err-substitute-clause-room : goal.returns-in_err-substitute-clause-room
returns-in_err-substitute-clause-room g c fits e =
    let l = c.loop-lookup in
    let it = c.args.self.now in
    let growth = g.Self.Lookups.growth_of it in
    let list = c.args.list.now in
    let some : (lookup : StageLookup) → 0 < growth lookup =
    λ x. omega (arith, (g.met.Self.Lookups.substituting_grows it x l.buffer l.invariant.positions).one) in
    let within : l.lookup-index < length list = omega (arith, c.loop-lookup-test.true) in
    let x = c.in_err-substitute.field-0.0 in
    let room = c.in_err-substitute.ensures.room
    (lookup_fits growth some list l.lookup-index (length l.buffer.glyphs) l.buffer.max_len _ within
    (omega (arith, l.invariant.few, l.invariant.limit, fits))) in
    room (ap (λ (y : ShaperError). let r : Result (Unit {0}) ShaperError = Err y in r)
    (passed_on c.from_residual.result x TooLong c.from_residual.ensures.1 e))

pub returns-in_err-substitute-clause-err : goal.returns-in_err-substitute-clause-err
returns-in_err-substitute-clause-err g c =
    let l = c.loop-lookup in
    let it = c.args.self.now in
    let list = c.args.list.now in
    let x = c.in_err-substitute.field-0.0 in
    let new = c.substitute.new.buffer in
    let within : l.lookup-index < length list = omega (arith, c.loop-lookup-test.true) in
    told_error c.from_residual.result x _ c.from_residual.ensures.1
    (l.invariant.stopped new x (looked_refused (g.Self.Lookups.substituted it) (g.Self.Lookups.substituting_refuses it) list l.lookup-index _
    l.buffer new x within c.in_err-substitute.ensures.refusal c.in_err-substitute.ensures.err))

pub loop-lookup-preserved : goal.loop-lookup-preserved
loop-lookup-preserved g c =
    let l = c.loop-lookup in
    let it = c.args.self.now in
    let f = g.Self.Lookups.substituted it in
    let list = c.args.list.now in
    let i = l.lookup-index in
    let new = c.substitute.new.buffer in
    let within : i < length list = omega (arith, c.loop-lookup-test.true) in
    let step = lookup_step f (g.Self.Lookups.growth_of it) (g.met.Self.Lookups.substituting_keeps it)
    (g.met.Self.Lookups.substituting_grows it) list i _ _ l.buffer new within l.invariant.positions
    c.in_ok-substitute.ensures.ok l.invariant.few in
    record {
      positions = search rules;
      limit = step.0 ∙ l.invariant.limit;
      few = step.1;
      done = looked_next f list i _ l.buffer new within c.in_ok-substitute.ensures.ok ∙ l.invariant.done;
      stopped = λ end e rest. l.invariant.stopped end e
          (looked_stopped f (g.Self.Lookups.substituting_refuses it) list i _ l.buffer new end e within c.in_ok-substitute.ensures.ok rest);
    }
