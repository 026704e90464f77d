use Rattle.std.proofs.Common.{◌≡◌, false, rules}
use Rattle.std.specs.List.{list_any}
use Rattle.shapers_normal.specs.Variants.{selects_form}
use Rattle.shapers_bench.proofs.PreparedWords.{prepared-word}
use Rattle.shapers_bench.proofs.prepared.prepared_syllable.Goals as goal

pub returns : goal.returns
returns g c =
    let without : list_any selects_form c.args.syllable.now ≡ false = search rules in
    let law = c.prepared_law.ensures in
    prepared-word law.handed_over law.plain law.short c.order_law.ensures c.plain_plan-plan.result
    (g.F.hb_font_t.font c.args.font.now) (g.F.NormalizeFont.variants c.args.font.now) _ c.args.syllable.now
    c.in_ok-buffer.buffer c.prepare_text.new.buffer c.plain_plan-plan.ensures c.requires.few without
    c.in_ok-buffer.ensures.word c.in_ok-prepare_text.ensures.ok
