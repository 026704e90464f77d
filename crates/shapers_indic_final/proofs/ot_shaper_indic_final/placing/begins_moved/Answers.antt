-- Where nothing moves, the syllable is the text's own.
use Rattle.std.proofs.Common.{sym, ap, ◌∙◌}
use Rattle.shapers_buffer.specs.Clusters.{stretch_of}
use Rattle.shapers_buffer.proofs.Arranging.{nothing_moved}
use Rattle.shapers_indic_final.specs.FinalReph.{begins_with_reph}
use Rattle.shapers_indic_final.proofs.ot_shaper_indic_final.placing.begins_moved.Goals as goal

pub returns-then-moves_nothing : goal.returns-then-moves_nothing
returns-then-moves_nothing c =
    let a = c.args in
    let b = a.buffer.now in
    let none = nothing_moved a.moves.now a.start a.end b.places b.glyphs c.requires (sym c.moves_nothing.ensures ∙ c.if-moves_nothing.true) in
    c.begins_with_reph.ensures ∙ ap (λ gs. begins_with_reph (stretch_of a.start a.end gs)) (c.glyphs.ensures ∙ sym none)
