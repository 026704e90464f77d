use Rattle.std.proofs.Common.{◌+◌, ◌∙◌, ap, arith}
use Rattle.std.specs.List.{remove}
use Rattle.opentype_layout.specs.Gapped.{gapped}
use Rattle.std.proofs.lemmas.List.{take_at}
use Rattle.opentype_layout.proofs.Gaps.{removed_gapped}
use Rattle.opentype_layout.proofs.glyph_text.GlyphText.remove.Goals as goal

pub returns : goal.returns
returns c =
    ap (gapped c.args.i (c.move_gap.result + 1)) (take_at _ _ _ (c.move_gap.auto.glyphs ∙ c.deref_mut.ensures.len))
    ∙ removed_gapped c.move_gap.new.glyphs c.args.i c.move_gap.result (omega (arith, c.move_gap.ensures.gap.in_order, c.move_gap.ensures.gap.within))
    ∙ ap (λ ys. remove ys c.args.i) (c.move_gap.ensures.text
    ∙ ap (gapped c.self.inside.before c.self.inside.behind) c.deref_mut.ensures.value ∙ c.self.view_is)
