-- One step, and the steps behind it.
use Rattle.std.proofs.Common.{◌≡◌, ◌==◌, ◌||◌, ◌&&◌, ◌∙◌, ◌-◌, Some, suc, true, cond, [], sym, ap, arith}
use Rattle.shapers_normal.specs.Context.{has_glyph}
use Rattle.shapers_normal.specs.Decomposition.{apart_in}
use Rattle.shapers_normal.specs.DecompositionWalk.{or_base_alone, then_come_off}
use Rattle.shapers_normal.proofs.Apart.{apart_further}
use Rattle.shapers_normal.proofs.ot_shape_normalize.decomposing.+come_apart.Goals as goal
use Rattle.shapers_normal.proofs.ot_shape_normalize.decomposing.+come_apart.Goals.{then-is_enough, else-is_enough}

pub returns-clause-parts : goal.returns-clause-parts
returns-clause-parts g t c =
    let context = g.C.NormalizeContext.context c.args.context.now in
    let short = c.args.short in
    let m = c.args.steps - 1 in
    let a = c.in-Some.base in
    let b = c.in-Some.off in
    let has = has_glyph context a in
    let next : c.args.steps ≡ suc m = omega (arith, c.if-steps-eq0.false) in
    let some : Some (a, b) ≡ context.decomposed c.args.c = c.in-Some.ensures in
    let free : (b == 0 || has_glyph context b) ≡ true = sym c.comes_off.ensures ∙ c.if-not-comes_off.false in
    let seen = c.has_glyph-has_base.ensures in
    let enough : c.is_enough.result ≡ short && has = c.is_enough.ensures ∙ ap (λ h. short && h) seen in
    let further : c.if-is_enough.further.items ≡ cond (short && has) [] (apart_in context short m a) =
    elim c.if-is_enough.branch [
      | then-is_enough w ↦ rw w.further-is (w.new-further.ensures
          ∙ sym (ap (λ h. cond h [] (apart_in context short m a)) (sym enough ∙ w.if-is_enough.true)))
      | else-is_enough w ↦ rw w.further-is (w.come_apart-further.ensures.parts
          ∙ sym (ap (λ h. cond h [] (apart_in context short m a)) (sym enough ∙ w.if-is_enough.false)))
    ] in
    c.then_come_off.ensures.off
    ∙ ap (then_come_off b)
    (c.or_base.ensures.base ∙ ap (λ h. or_base_alone h a c.if-is_enough.further.items) seen
    ∙ ap (or_base_alone has a) further)
    ∙ sym (apart_further context short c.args.steps m c.args.c a b next some free)
