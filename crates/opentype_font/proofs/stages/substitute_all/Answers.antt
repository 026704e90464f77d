-- One more lookup, and the one that is refused memory.
use Rattle.std.proofs.Common.{◌∙◌, ◌<◌, ap, sym, subst, refl, arith, false, length, true}
use Rattle.shapers_buffer.specs.declared.buffer.refusal.ShaperError.{ShaperError}
use Rattle.shapers_plan.specs.declared.ot_map.lookups.StageLookup.{StageLookup}
use Rattle.shapers_pipeline.specs.Lookups.{MayRefuse}
use Rattle.shapers_pipeline.proofs.StageLengths.{looked_next, looked_refused, looked_stopped, told_error}
use Rattle.opentype_font.specs.Lookups.{may_lack_memory, substituted_by}
use Rattle.opentype_font.specs.Proved.LookupLaws.{substituting_keeps}
use Rattle.opentype_font.proofs.stages.substitute_all.Goals as goal

pub returns-in_err-substitute_seen-clause-err : goal.returns-in_err-substitute_seen-clause-err
returns-in_err-substitute_seen-clause-err c =
    let l = c.loop-lookup in
    let f = substituted_by c.args.tables.now.face.gdef.now c.args.tables.now.face.gsub.now in
    let list = c.args.list.now in
    let x = c.in_err-substitute_seen.field-0.0 in
    let new = c.substitute_seen.new.buffer in
    let within : l.lookup-index < length list = omega (arith, c.loop-lookup-test.true) in
    let may : MayRefuse (record { too_long = false; memory = true }) x =
    subst (λ (e : ShaperError). MayRefuse (record { too_long = false; memory = true }) e)
    (sym c.in_err-substitute_seen.ensures.refusal) refl in
    let any : StageLookup = record {
      index = 0;
      mask = 0;
      auto_zwnj = false;
      auto_zwj = false;
      random = false;
      per_syllable = false;
    } in
    told_error c.from_residual.result x _ c.from_residual.ensures.1
    (l.invariant.stopped new x (looked_refused f may_lack_memory list l.lookup-index any l.buffer new x within may
    c.in_err-substitute_seen.ensures.err))

pub loop-lookup-preserved : goal.loop-lookup-preserved
loop-lookup-preserved c =
    let l = c.loop-lookup in
    let gdef = c.args.tables.now.face.gdef.now in
    let gsub = c.args.tables.now.face.gsub.now in
    let f = substituted_by gdef gsub in
    let list = c.args.list.now in
    let i = l.lookup-index in
    let new = c.substitute_seen.new.buffer in
    let within : i < length list = omega (arith, c.loop-lookup-test.true) in
    let ok = c.in_ok-substitute_seen.ensures.ok in
    record {
      positions = ap (λ b. b.positions) (ok ∙ (substituting_keeps gdef gsub _ l.buffer).others) ∙ l.invariant.positions;
      seen = c.in_ok-substitute_seen.ensures.seen;
      done = looked_next f list i _ l.buffer new within ok ∙ l.invariant.done;
      stopped = λ end e rest. l.invariant.stopped end e
          (looked_stopped f may_lack_memory list i _ l.buffer new end e within ok rest);
    }
