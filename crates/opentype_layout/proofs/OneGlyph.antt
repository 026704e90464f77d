-- A set of one glyph, which needs no search.
use Rattle.std.proofs.Common.{ℕ, ◌+◌, ◌*◌, ◌==◌, ◌%◌, ◌≡◌, ◌∙◌, List, Option, None, Some, false, ap, arith, inl, inr, is_some, refl, sym}
use Rattle.std.proofs.lemmas.Bool.Decides.{nat_tests}
use Rattle.opentype_face.specs.Bytes.{u16_in}
use Rattle.opentype_face.specs.Glyphs.{coverage_in}
use Rattle.opentype_face.specs.Ranges.{bisect}
use Rattle.shapers_buffer.specs.Glyphs.{Glyphs}
use Rattle.opentype_layout.specs.Starts.{AreOthers, AreOutside}
use Rattle.opentype_layout.specs.Text.{glyph_at}

one_found : (first : ℕ → ℕ) (number : ℕ) → is_some (bisect 1 first first number 0 1) ≡ (first 0 == number)
unfolding bisect
one_found first number = grind (arith, nat_tests)

pub one_glyph : (set : List ℕ) (glyph : ℕ) → u16_in set 0 ≡ 1 → u16_in set 2 ≡ 1 →
    is_some (coverage_in set glyph) ≡ (u16_in set 4 == glyph)
one_glyph set glyph format count = rw (format, count) (one_found (λ i. u16_in set (4 + i * 2)) glyph)

none_if : (A : Type 0) (found : Option A) → is_some found ≡ false → found ≡ None
none_if A None e = refl
none_if A (Some a) e = absurd (cc)

-- what isn't the one glyph of a set is outside of it
pub others_outside : (set : List ℕ) (only mask : ℕ) (gs : Glyphs) (from end : ℕ) →
    (u16_in set 0 ≡ 1) × (u16_in set 2 ≡ 1) → only ≡ u16_in set 4 →
    AreOthers only mask gs from end → AreOutside set mask gs from end
others_outside set only mask gs from end (format, count) e others = record {
  each = λ j le lt.
      elim (others.each j le lt) [
        | inl bare ↦ inl bare
        | inr other ↦ inr (none_if _ _
            (one_glyph set _ format count ∙ (ap (λ it. it == (glyph_at gs j).glyph_id % 65536) (sym e) ∙ other)))
      ];
}
