use Rattle.std.proofs.Common.{◌∙◌, ap}
use Rattle.opentype_layout.specs.Gapped.{gapped}
use Rattle.std.proofs.lemmas.List.{take_at}
use Rattle.opentype_layout.proofs.Gaps.{merged_gapped}
use Rattle.opentype_layout.proofs.glyph_text.GlyphText.merge_clusters.Goals as goal

pub returns : goal.returns
returns c =
    ap (gapped c.args.start c.move_gap-behind.result) (take_at _ _ _ (c.merge_behind.auto.glyphs ∙ c.deref_mut-2.ensures.len))
    ∙ merged_gapped c.args.level c.deref_mut-2.result.now c.merge_behind.new.glyphs _ c.args.start c.args.end c.move_gap-behind.result
    c.requires.in_order c.merge_behind.ensures.text
    (ap (gapped c.args.start c.move_gap-behind.result) (c.deref_mut-2.ensures.value
    ∙ take_at _ _ _ (c.move_gap-behind.auto.glyphs ∙ c.deref_mut.ensures.len)) ∙ c.move_gap-behind.ensures.text
    ∙ ap (gapped c.self.inside.before c.self.inside.behind) c.deref_mut.ensures.value ∙ c.self.view_is)
