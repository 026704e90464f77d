use Rattle.std.proofs.Common.{◌≡◌, rules, subst, true}
use Rattle.shapers_bench.specs.EditedKhmer.{KhmerReordered}
use Rattle.shapers_bench.proofs.EditedKhmer.{same-around}
use Rattle.shapers_bench.proofs.edit.khmer_reordered_around.Goals as goal

pub returns : goal.returns
returns g c =
    let plan = c.with_data-plan.result in
    let font = g.F.hb_font_t.font c.args.face.now in
    let old = c.in_ok-old.old in
    let new = c.in_ok-new.new in
    let a = c.in_ok-old.circled in
    let b = c.in_ok-new.circled_too in
    let alike : c.are_alike.result ≡ true = search rules in
    let same : a ≡ b = c.are_alike.ensures.0 alike in
    same-around c.affected_law.ensures.parts c.span_edits_law.ensures.one c.syllable_edits_law.ensures.khmer plan font
    c.args.text.now c.args.edit.now c.in_ok-left.left old new a b c.requires.in_order c.requires.in_range
    c.in_ok-left.ensures.left
    (subst (λ gs. KhmerReordered plan font gs old a) c.in_ok-glyphs_of.ensures c.in_ok-old.ensures)
    (subst (λ gs. KhmerReordered plan font gs new b) c.in_ok-edited.ensures c.in_ok-new.ensures) same
