-- A table of classes, as far as it is filled.
use Rattle.std.proofs.Common.{ℕ, ◌+◌, ◌<◌, ◌≡◌, ◌∙◌, List, [], ◌∷◌, ◌++◌, length, slice_index, sym, ap, inl, inr, arith}
use Rattle.std.proofs.lemmas.Grind.{common_steps}
use Rattle.opentype_face.specs.Classes.{props_of}
use Rattle.opentype_face.proofs.PageTables.{at_end, before, before_or_at}

pub record AreClasses (gdef props : List ℕ) (count : ℕ) : Type 0 where
  pub len : length props ≡ count
  pub same : (glyph : ℕ) → glyph < length props → slice_index props glyph ≡ props_of gdef glyph

pub classes_next : (gdef props : List ℕ) (count props_next : ℕ) (new : List ℕ) → AreClasses gdef props count →
    props_next ≡ props_of gdef count → new ≡ props ++ props_next ∷ [] → AreClasses gdef new (count + 1)
classes_next gdef props count next new a is made = rw made (let len = a.len in record {
  len = grind (arith, common_steps);
  same = λ glyph lt. elim (before_or_at glyph count (grind (arith, common_steps, lt, len))) [
    | inl h ↦ before props next glyph (omega arith) ∙ a.same glyph (omega arith)
    | inr e ↦ at_end props next glyph (omega arith) ∙ (is ∙ ap (props_of gdef) (sym e))
  ];
})
