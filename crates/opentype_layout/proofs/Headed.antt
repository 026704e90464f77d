-- The bits of the glyphs that a lookup may begin at, and the places where they are set.
use Rattle.std.proofs.Common.{ℕ, ◌+◌, ◌-◌, ◌*◌, ◌<◌, ◌≤◌, ◌≡◌, ◌∙◌, ◌⊎◌, inl, inr, Bool, true, false, List, length, bit_and, get_or, refl, subst, arith}
use Rattle.std.proofs.lemmas.Bool.Decides.{nat_tests}
use Rattle.std.proofs.lemmas.List.{get_or_default}
use Rattle.shapers_buffer.specs.Glyph.{default_glyph}
use Rattle.shapers_buffer.specs.Glyphs.{Glyph, Glyphs}
use Rattle.opentype_layout.specs.Bits.{Grown, IsClear, bit_in}
use Rattle.opentype_layout.specs.Starts.{AreBare, AreHeads, ArePassed, AreUnmasked, IsBare, IsPassed, IsStarts, has_row}
use Rattle.opentype_layout.specs.Text.{glyph_at}
use Rattle.opentype_layout.specs.declared.grid.Grid.{Grid}
use Rattle.opentype_layout.proofs.BitPlaces.{before_or_at, grown_same, grown_then}
use Rattle.opentype_layout.proofs.Grids.{none_clear_all, none_outside}

-- ---- a bit for each row

pub record IsHeading (old heads words : List ℕ) (width count row : ℕ) : Type 0 where
  pub grown : Grown old heads
  pub out : (r : ℕ) → r < row → bit_in heads r ≡ 0 → IsClear words (r * width) (r * width + count)

pub heading_start : (heads words : List ℕ) (width count : ℕ) → IsHeading heads heads words width count 0
heading_start heads words width count = record {
  grown = grown_same heads;
  out = λ r lt. absurd (omega arith);
}

pub heading_next : (old heads new words : List ℕ) (width count row from end : ℕ) → IsHeading old heads words width count row →
    Grown heads new → (bit_in new row ≡ 0 → IsClear words from end) → from ≡ row * width → end ≡ row * width + count →
    IsHeading old new words width count (row + 1)
heading_next old heads new words width count row from end h g clear is_from is_end = record {
  grown = grown_then old heads new h.grown g;
  out = λ r lt off. elim (before_or_at r row lt) [
    | inl less ↦ h.out r less (g.kept r off)
    | inr e ↦ rw e (rw (is_from, is_end) at (clear (rw e at off)))
  ];
}

rowed_or_not : (b : Bool) → (b ≡ true) ⊎ (b ≡ false)
rowed_or_not true = inl refl
rowed_or_not false = inr refl

in_row : (grid : Grid) (glyph : ℕ) → has_row grid glyph ≡ true → (grid.first ≤ glyph) × (glyph - grid.first < grid.rows)
in_row grid glyph a = (grind (arith, nat_tests), grind (arith, nat_tests))

pub are_heads : (of_gpos : Bool) (lookup : List ℕ) (count : ℕ) (grid : Grid) (words heads : List ℕ) →
    IsStarts of_gpos lookup count grid words →
    ((row : ℕ) → row < grid.rows → bit_in heads row ≡ 0 → IsClear words (row * grid.width) (row * grid.width + count)) →
    AreHeads of_gpos lookup grid.first heads
are_heads of_gpos lookup count grid words heads s clear = record {
  out = λ glyph unset. elim (rowed_or_not (has_row grid glyph)) [
    | inl has ↦ (let within = in_row grid glyph has in
        let row = (glyph - grid.first) * grid.width in
        let c = clear (glyph - grid.first) within.1 (unset within.0) in
        let at : row + 0 ≡ row = omega arith in
        none_clear_all of_gpos lookup count grid words glyph 0 row (row + count) s (omega arith) refl (rw at c))
    | inr out ↦ none_outside of_gpos lookup count grid words glyph 0 s out
  ];
}

-- ---- places that are passed

glyph_read : (gs : Glyphs) (at : ℕ) (g : Glyph) → g ≡ get_or gs at g → at < length gs → g ≡ glyph_at gs at
glyph_read gs at g is lt = is ∙ get_or_default gs at g default_glyph lt

pub bare_start : (first : ℕ) (heads : List ℕ) (mask : ℕ) (gs : Glyphs) (from end : ℕ) → end ≤ from → AreBare first heads mask gs from end
bare_start first heads mask gs from end le = record { each = λ j a b. absurd (omega arith) }

pub bare_next : (first : ℕ) (heads : List ℕ) (mask : ℕ) (gs : Glyphs) (from at : ℕ) (g : Glyph) → AreBare first heads mask gs from at →
    IsBare first heads mask g → g ≡ get_or gs at g → at < length gs → AreBare first heads mask gs from (at + 1)
bare_next first heads mask gs from at g b here is lt = record {
  each = λ j le less. elim (before_or_at j at less) [
    | inl before ↦ b.each j le before
    | inr e ↦ rw e (subst (IsBare first heads mask) (glyph_read gs at g is lt) here)
  ];
}

pub unmasked_start : (mask : ℕ) (gs : Glyphs) (from end : ℕ) → end ≤ from → AreUnmasked mask gs from end
unmasked_start mask gs from end le = record { each = λ j a b. absurd (omega arith) }

pub unmasked_next : (mask : ℕ) (gs : Glyphs) (from at : ℕ) (g : Glyph) → AreUnmasked mask gs from at →
    bit_and g.mask mask ≡ 0 → g ≡ get_or gs at g → at < length gs → AreUnmasked mask gs from (at + 1)
unmasked_next mask gs from at g b here is lt = record {
  each = λ j le less. elim (before_or_at j at less) [
    | inl before ↦ b.each j le before
    | inr e ↦ rw e (subst (λ x. bit_and x.mask mask ≡ 0) (glyph_read gs at g is lt) here)
  ];
}

pub passed_start : (of_gpos : Bool) (lookup : List ℕ) (mask : ℕ) (gs : Glyphs) (from end : ℕ) → end ≤ from →
    ArePassed of_gpos lookup mask gs from end
passed_start of_gpos lookup mask gs from end le = record { each = λ j a b. absurd (omega arith) }

pub passed_next : (of_gpos : Bool) (lookup : List ℕ) (mask : ℕ) (gs : Glyphs) (from at : ℕ) (g : Glyph) →
    ArePassed of_gpos lookup mask gs from at → IsPassed of_gpos lookup mask g → g ≡ get_or gs at g → at < length gs →
    ArePassed of_gpos lookup mask gs from (at + 1)
passed_next of_gpos lookup mask gs from at g b here is lt = record {
  each = λ j le less. elim (before_or_at j at less) [
    | inl before ↦ b.each j le before
    | inr e ↦ rw e (subst (IsPassed of_gpos lookup mask) (glyph_read gs at g is lt) here)
  ];
}

pub passed_bare : (of_gpos : Bool) (lookup : List ℕ) (first : ℕ) (heads : List ℕ) (mask : ℕ) (gs : Glyphs) (from end : ℕ) →
    AreHeads of_gpos lookup first heads → AreBare first heads mask gs from end → ArePassed of_gpos lookup mask gs from end
passed_bare of_gpos lookup first heads mask gs from end h b = record {
  each = λ j le less. elim (b.each j le less) [
    | inl unmasked ↦ inl unmasked
    | inr unset ↦ inr (h.out _ unset)
  ];
}

pub passed_unmasked : (of_gpos : Bool) (lookup : List ℕ) (mask : ℕ) (gs : Glyphs) (from end : ℕ) →
    AreUnmasked mask gs from end → ArePassed of_gpos lookup mask gs from end
passed_unmasked of_gpos lookup mask gs from end b = record { each = λ j le less. inl (b.each j le less) }
