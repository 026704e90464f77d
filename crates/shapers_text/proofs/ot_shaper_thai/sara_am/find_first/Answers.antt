-- The only SARA AM, and the first of several.
use Rattle.std.proofs.Common.{◌∙◌, ◌-◌, ap, take, length-take-le, arith}
use Rattle.std.specs.List.{list_any}
use Rattle.shapers_text.specs.Thai.{glyph_rule, is_sara_am}
use Rattle.shapers_text.proofs.ThaiOthers.{before_only, none_in_front_of}
use Rattle.shapers_text.proofs.ot_shaper_thai.sara_am.find_first.Goals as goal

pub overflow_sub-result : goal.overflow_sub-result
overflow_sub-result c =
    let only = before_only glyph_rule c.args.text.now (omega (arith, c.requires.counted, c.if-count-eq1.true)) in
    omega (arith, only.some, c.requires.end)

pub returns-then-count-eq1-clause-none : goal.returns-then-count-eq1-clause-none
returns-then-count-eq1-clause-none c =
    let only = before_only glyph_rule c.args.text.now (omega (arith, c.requires.counted, c.if-count-eq1.true)) in
    ap (λ end. list_any (λ g. is_sara_am g.glyph_id) (take (end - 1) c.args.text.now)) c.requires.end ∙ only.none

pub returns-else-count-eq1-clause-none : goal.returns-else-count-eq1-clause-none
returns-else-count-eq1-clause-none c =
    none_in_front_of glyph_rule c.args.text.now c.count_before_sara_am.result c.args.end
    (omega (arith, c.count_before_sara_am.ensures.few, length-take-le c.args.end c.args.text.now (omega (arith, c.requires.end))))
    c.count_before_sara_am.ensures.count
