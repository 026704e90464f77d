-- Where a lookup of a face that isn't prepared may begin: one of its subtables after another is looked
-- for.
use Rattle.std.proofs.Common.{ℕ, ◌+◌, ◌%◌, ◌≤◌, ◌<◌, ◌≡◌, ◌⊎◌, inl, inr, Bool, List, None, bit_and, arith, refl, ap, sym, ◌∙◌}
use Rattle.shapers_buffer.specs.Glyphs.{Glyphs}
use Rattle.opentype_face.specs.Lookups.{subtable_in, type_in}
use Rattle.opentype_face.specs.Glyphs.{coverage_in}
use Rattle.opentype_layout.specs.Starts.{AreOutside, NoneStarts, extension_type, first_set_in, starting}
use Rattle.opentype_layout.specs.Text.{glyph_at}

-- the glyphs from one place on, and before another, have no bit of a mask, or none of a lookup's first
-- so many subtables begins at them
pub record AreLeft (of_gpos : Bool) (lookup : List ℕ) (mask : ℕ) (gs : Glyphs) (from end count : ℕ) :
    Type 0 where
  pub each : (j : ℕ) → from ≤ j → j < end →
      (bit_and (glyph_at gs j).mask mask ≡ 0) ⊎ NoneStarts of_gpos lookup ((glyph_at gs j).glyph_id % 65536) 0 count

none_at_first : (of_gpos : Bool) (lookup : List ℕ) (glyph : ℕ) → NoneStarts of_gpos lookup glyph 0 0
none_at_first of_gpos lookup glyph = record { none = λ i _ below. absurd (omega (arith, below)) }

pub left_first : (of_gpos : Bool) (lookup : List ℕ) (mask : ℕ) (gs : Glyphs) (from end : ℕ) →
    AreLeft of_gpos lookup mask gs from end 0
left_first of_gpos lookup mask gs from end =
    record { each = λ j _ _. inr (none_at_first of_gpos lookup _) }

-- a subtable whose set lacks a glyph doesn't begin there
starts_not : (of_gpos : Bool) (lookup : List ℕ) (glyph i : ℕ) →
    coverage_in (first_set_in of_gpos (type_in (extension_type of_gpos) lookup i)
    (subtable_in (extension_type of_gpos) lookup i)) glyph ≡ None →
    starting of_gpos lookup glyph i ≡ None
unfolding starting
starts_not of_gpos lookup glyph i e = rw e refl

none_further : (of_gpos : Bool) (lookup : List ℕ) (glyph i : ℕ) → NoneStarts of_gpos lookup glyph 0 i →
    starting of_gpos lookup glyph i ≡ None → NoneStarts of_gpos lookup glyph 0 (i + 1)
none_further of_gpos lookup glyph i before here = search (arith)

-- one subtable more, up to the first place of a glyph that is in its set
pub left_further : (of_gpos : Bool) (lookup : List ℕ) (mask : ℕ) (gs : Glyphs) (from end last i : ℕ) (set : List ℕ) →
    set ≡ first_set_in of_gpos (type_in (extension_type of_gpos) lookup i)
    (subtable_in (extension_type of_gpos) lookup i) →
    AreLeft of_gpos lookup mask gs from end i → last ≤ end → AreOutside set mask gs from last →
    AreLeft of_gpos lookup mask gs from last (i + 1)
left_further of_gpos lookup mask gs from end last i set e before within out = record {
  each = λ j le lt.
      elim (before.each j le (omega (arith, lt, within))) [
        | inl bare ↦ inl bare
        | inr none ↦ elim (out.each j le lt) [
          | inl bare ↦ inl bare
          | inr lacks ↦ inr (none_further of_gpos lookup _ i none
              (starts_not of_gpos lookup _ i (ap (λ it. coverage_in it ((glyph_at gs j).glyph_id % 65536)) (sym e) ∙ lacks)))
        ]
      ];
}
