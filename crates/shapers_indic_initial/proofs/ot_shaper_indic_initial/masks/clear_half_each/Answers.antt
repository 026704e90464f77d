-- One glyph back.
use Rattle.std.proofs.Common.{◌≡◌, ◌-◌, ap, sym, ◌∙◌, arith, get_or}
use Rattle.shapers_buffer.specs.Glyph.{default_glyph}
use Rattle.shapers_indic_initial.proofs.MaskWalks.{half_back, half_taken}
use Rattle.shapers_indic_initial.proofs.ot_shaper_indic_initial.masks.clear_half_each.Goals as goal
use Rattle.shapers_indic_initial.proofs.ot_shaper_indic_initial.masks.clear_half_each.Goals.{then-loses, else-loses}

pub loop-i-preserved : goal.loop-i-preserved
loop-i-preserved c =
    let l = c.loop-i in
    let k = l.i - 1 in
    let made : c.if-loses.glyph ≡ half_taken c.args.bits l.loses (get_or l.glyphs k default_glyph) = elim
    c.if-loses.branch [
      | then-loses w ↦ w.glyph-is
          ∙ sym (ap (λ b. half_taken c.args.bits b (get_or l.glyphs k default_glyph)) w.if-loses.true)
      | else-loses w ↦
          w.glyph-is ∙ sym (ap (λ b. half_taken c.args.bits b (get_or l.glyphs k default_glyph)) w.if-loses.false)
    ] in
    let back = half_back c.args.bits c.args.glyphs.now l.glyphs l.i k l.loses c.keeps_losing-loses.result
    c.if-loses.glyph default_glyph (omega arith) (omega arith)
    l.invariant.glyphs l.invariant.loses made c.keeps_losing-loses.ensures in
    search
