use Rattle.std.proofs.Common.{◌≡◌, ◌∙◌, ap, drop, rules, sym, true}
use Rattle.std.proofs.lemmas.List.{take_rest}
use Rattle.shapers_buffer.specs.Glyph.{default_glyph}
use Rattle.shapers_spans.specs.Passing.{begins_passed}
use Rattle.shapers_spans.proofs.Reached.{reach-step}
use Rattle.shapers_spans.proofs.passing.behind_passed.Goals as goal

pub loop-place-preserved : goal.loop-place-preserved
loop-place-preserved c =
    let gs = c.args.glyphs.now in
    let b : c.begins_passed.result ≡ true = search (rules, c.if-not-begins_passed.false) in
    let h : begins_passed (drop c.loop-place.place gs) ≡ true = ap begins_passed (sym (take_rest gs c.loop-place.place))
    ∙ sym c.begins_passed.ensures ∙ b in
    c.loop-place.invariant ∙ reach-step begins_passed gs default_glyph c.loop-place.place c.loop-place-test.true h
