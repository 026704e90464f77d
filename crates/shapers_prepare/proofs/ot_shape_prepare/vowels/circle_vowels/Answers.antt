-- The circles that are counted are what the text grows by.
use Rattle.std.proofs.Common.{◌≡◌, ◌+◌, ◌∙◌, length, ap, subst, sym, arith}
use Rattle.shapers_buffer.specs.Buffer.{Buffer}
use Rattle.shapers_buffer.specs.Refusals.{RefusesLength}
use Rattle.shapers_buffer.specs.Glyphs.{Glyphs}
use Rattle.shapers_prepare.specs.VowelWalk.{vowel_circles}
use Rattle.shapers_prepare.specs.Vowels.{vowels_circled_from}
use Rattle.shapers_prepare.proofs.VowelSteps.{none_parted, parted_len}
use Rattle.shapers_prepare.proofs.ot_shape_prepare.vowels.circle_vowels.Goals as goal

pub returns-then-count-eq0-clause-ok : goal.returns-then-count-eq0-clause-ok
returns-then-count-eq0-clause-ok c =
    let gs = c.args.buffer.now.glyphs in
    let s = c.args.script in
    let circles : vowel_circles s 0 gs ≡ c.count_circles-count.result = ap (vowel_circles s 0) (sym c.glyphs.ensures)
    ∙ sym c.count_circles-count.ensures in
    let with_glyphs : Glyphs → Buffer = λ gs. record c.args.buffer.now { glyphs = gs } in
    ap with_glyphs (sym (none_parted s 0 gs (circles ∙ c.if-count-eq0.true)))

pub returns-then-count-eq0-clause-length : goal.returns-then-count-eq0-clause-length
returns-then-count-eq0-clause-length c =
    let gs = c.args.buffer.now.glyphs in
    let s = c.args.script in
    let circles : vowel_circles s 0 gs ≡ c.count_circles-count.result = ap (vowel_circles s 0) (sym c.glyphs.ensures)
    ∙ sym c.count_circles-count.ensures in
    omega (arith, parted_len s 0 gs, circles, c.if-count-eq0.true, c.len-len.ensures.fits)

pub returns-then-max_len-len-clause-length : goal.returns-then-max_len-len-clause-length
returns-then-max_len-len-clause-length c =
    let gs = c.args.buffer.now.glyphs in
    let s = c.args.script in
    let circles : vowel_circles s 0 gs ≡ c.count_circles-count.result = ap (vowel_circles s 0) (sym c.glyphs.ensures)
    ∙ sym c.count_circles-count.ensures in
    omega (
      arith,
      parted_len s 0 gs,
      circles,
      c.if-max_len-len.true,
      c.max_len.ensures.limit,
      c.len-len.ensures.length,
      c.len-len.ensures.fits,
    )

pub returns-then-max_len-len-clause-without_memory : goal.returns-then-max_len-len-clause-without_memory
returns-then-max_len-len-clause-without_memory c =
    let gs = c.args.buffer.now.glyphs in
    let s = c.args.script in
    let circles : vowel_circles s 0 gs ≡ c.count_circles-count.result = ap (vowel_circles s 0) (sym c.glyphs.ensures)
    ∙ sym c.count_circles-count.ensures in
    λ same. absurd (omega (arith, ap length same, parted_len s 0 gs, circles, c.if-count-eq0.false))

pub rewrite-requires-clause-length : goal.rewrite-requires-clause-length
rewrite-requires-clause-length c =
    let gs = c.args.buffer.now.glyphs in
    let s = c.args.script in
    let circles : vowel_circles s 0 gs ≡ c.count_circles-count.result = ap (vowel_circles s 0) (sym c.glyphs.ensures)
    ∙ sym c.count_circles-count.ensures in
    omega (arith, parted_len s 0 gs, circles, c.len-len.ensures.length)

pub returns-clause-length : goal.returns-clause-length
returns-clause-length c =
    let gs = c.args.buffer.now.glyphs in
    let s = c.args.script in
    let circles : vowel_circles s 0 gs ≡ c.count_circles-count.result = ap (vowel_circles s 0) (sym c.glyphs.ensures)
    ∙ sym c.count_circles-count.ensures in
    let total : c.len-len.result + c.count_circles-count.result ≡ length (vowels_circled_from s 0 gs) =
    omega (arith, parted_len s 0 gs, circles, c.len-len.ensures.length) in
    subst (λ n. RefusesLength c.args.buffer.now.max_len n c.rewrite.result) total c.rewrite.ensures.length

pub returns-clause-without_memory : goal.returns-clause-without_memory
returns-clause-without_memory c =
    let gs = c.args.buffer.now.glyphs in
    let s = c.args.script in
    let circles : vowel_circles s 0 gs ≡ c.count_circles-count.result = ap (vowel_circles s 0) (sym c.glyphs.ensures)
    ∙ sym c.count_circles-count.ensures in
    λ same. absurd (omega (arith, ap length same, parted_len s 0 gs, circles, c.if-count-eq0.false))
