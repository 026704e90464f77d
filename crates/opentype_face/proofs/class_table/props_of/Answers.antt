use Rattle.opentype_face.proofs.ClassesFilled.{classes_next}
use Rattle.opentype_face.proofs.class_table.props_of.Goals as goal

pub loop-glyph-preserved : goal.loop-glyph-preserved
loop-glyph-preserved c = classes_next _ _ _ _ _ c.loop-glyph.invariant c.glyph_props.ensures c.in_ok-push.ensures.items

pub returns : goal.returns
returns c = record { has = λ _. c.requires; same = λ glyph lt. c.loop-glyph.invariant.same glyph lt }
