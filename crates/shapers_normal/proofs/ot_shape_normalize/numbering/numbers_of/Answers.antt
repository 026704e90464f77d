-- One glyph more.
use Rattle.std.proofs.Common.{◌+◌, ◌++◌, ◌∷◌, [], sym, subst, get_or, take, arith}
use Rattle.std.proofs.lemmas.List.{length-append, take_more}
use Rattle.shapers_buffer.specs.Glyph.{default_glyph}
use Rattle.shapers_buffer.specs.Glyphs.{Glyph}
use Rattle.shapers_normal.specs.NumberedWords.{AreNumbers}
use Rattle.shapers_normal.proofs.NumberedWords.{one_number_more}
use Rattle.shapers_normal.proofs.ot_shape_normalize.numbering.numbers_of.Goals as goal

pub loop-glyph-preserved : goal.loop-glyph-preserved
loop-glyph-preserved g c =
    let context = g.C.NormalizeContext.context c.args.context.now in
    let l = c.loop-glyph in
    let gs = c.args.glyphs.now in
    let ns = l.numbers.items in
    let h : Glyph = get_or gs l.glyph-index default_glyph in
    let n = c.in_ok-get_nominal_glyph.field-0.0 in
    let more = one_number_more context ns (take l.glyph-index gs) n h l.invariant.numbers
    (search (arith)) (search (arith)) (search (arith)) in
    record {
      numbers = subst (λ xs. AreNumbers context xs (take (l.glyph-index + 1) gs)) (sym c.push.ensures.items)
          (subst (AreNumbers context (ns ++ n ∷ [])) (sym (take_more gs l.glyph-index default_glyph (search (arith))))
          more);
      as_many = search (arith, length-append ns (n ∷ []));
    }
