use Rattle.std.proofs.lemmas.Option.{IfSome_then}
use Rattle.std.proofs.lemmas.Result.{IfOk-weaker}
use Rattle.std.proofs.Common.{Some, refl}
use Rattle.rustybuzz_shapers.specs.declared.shaper.hb_ot_shaper_t.TheVariants.{Thai}
use Rattle.shapers_bench.proofs.EquivalentWords.{equivalent-by-shaper}
use Rattle.shapers_bench.proofs.equivalent.equivalent_in_thai.Goals as goal

pub returns : goal.returns
returns g c =
    let law = c.shapers_law.ensures.short in
    let order = c.order_law.ensures in
    let font = g.F.hb_font_t.font c.args.font.now in
    let variants = g.F.NormalizeFont.variants c.args.font.now in
    IfOk-weaker c.normalized_by_unicode.result _ _
    (λ made done. IfSome_then made done (λ buffer is.
    equivalent-by-shaper law order (Some Thai) font variants c.args.syllable.now buffer refl (λ gs. refl) c.requires.few is))
    c.normalized_by_unicode.ensures
