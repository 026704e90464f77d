-- The parts are what the glyph becomes.
use Rattle.std.proofs.Common.{◌≡◌, ◌∙◌, ◌++◌, ℕ, List, false, eqb, ap, length, map, sym, arith}
use Rattle.std.proofs.lemmas.List.{length-map}
use Rattle.shapers_normal.specs.Decomposition.{as_part, becomes, image}
use Rattle.shapers_normal.proofs.Clusters.{written_parts}
use Rattle.shapers_normal.proofs.ot_shape_normalize.decomposing.write.Goals as goal

pub write_parts-requires : goal.write_parts-requires
write_parts-requires g c =
    let context = g.C.NormalizeContext.context c.args.context.now in
    let glyph = c.args.glyph in
    let parts = c.as_slice.result.now in
    let is : parts ≡ image context c.args.way glyph.glyph_id = c.as_slice.ensures.value ∙ c.image-parts.ensures in
    let some : eqb (length (image context c.args.way glyph.glyph_id)) 0 ≡ false =
    ap (λ (cs : List ℕ). eqb (length cs) 0) (sym c.image-parts.ensures) ∙ sym c.is_empty.ensures
    ∙ c.if-is_empty.false in
    let same : becomes context c.args.way glyph ≡ map (as_part context glyph) parts =
    written_parts context glyph (image context c.args.way glyph.glyph_id) some
    ∙ ap (map (as_part context glyph)) (sym is) in
    record { room = omega (arith, c.requires.room, ap length same, length-map parts (as_part context glyph)) }

pub returns-else-is_empty-clause-added : goal.returns-else-is_empty-clause-added
returns-else-is_empty-clause-added g c =
    let context = g.C.NormalizeContext.context c.args.context.now in
    let glyph = c.args.glyph in
    let parts = c.as_slice.result.now in
    let is : parts ≡ image context c.args.way glyph.glyph_id = c.as_slice.ensures.value ∙ c.image-parts.ensures in
    let some : eqb (length (image context c.args.way glyph.glyph_id)) 0 ≡ false =
    ap (λ (cs : List ℕ). eqb (length cs) 0) (sym c.image-parts.ensures) ∙ sym c.is_empty.ensures
    ∙ c.if-is_empty.false in
    let same : becomes context c.args.way glyph ≡ map (as_part context glyph) parts =
    written_parts context glyph (image context c.args.way glyph.glyph_id) some
    ∙ ap (map (as_part context glyph)) (sym is) in
    c.write_parts.ensures.added ∙ ap (λ xs. c.args.to.now.items ++ xs) (sym same)
