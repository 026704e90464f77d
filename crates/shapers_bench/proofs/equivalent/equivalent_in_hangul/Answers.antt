use Rattle.std.proofs.lemmas.Option.{IfSome_then}
use Rattle.std.proofs.lemmas.Result.{IfOk-weaker}
use Rattle.shapers_bench.proofs.EquivalentWords.{equivalent-in-hangul}
use Rattle.shapers_bench.proofs.equivalent.equivalent_in_hangul.Goals as goal

pub returns : goal.returns
returns g c =
    let law = c.equivalence_law.ensures.normalized in
    let order = c.order_law.ensures in
    let font = g.F.hb_font_t.font c.args.font.now in
    let variants = g.F.NormalizeFont.variants c.args.font.now in
    IfOk-weaker c.normalized_by_unicode.result _ _
    (λ made done. IfSome_then made done (λ buffer is.
    equivalent-in-hangul law order font variants c.args.word.now buffer is))
    c.normalized_by_unicode.ensures
