-- Glyphs that begin no pair of a table `kern`, by bytes written out as OpenType lays them out.
use Rattle.std.proofs.Common.{◌≡◌, ℕ, zero, suc, ◌+◌, ◌*◌, ◌/◌, ◌<◌, true, false, List, [], ◌∷◌, ◌++◌, refl, sym, ◌∙◌, arith}
use Rattle.opentype_face.specs.Bytes.{u32_in}
use Rattle.opentype_face.specs.Ranges.{bisect}
use Rattle.opentype_gpos.specs.KernLefts.{BeginsNone, IsQuiet, is_within, with_left}
use Rattle.opentype_gpos.specs.Kerned.{kern_class, kern_value, value_of_pair}
use Rattle.opentype_gpos.specs.declared.kern_lefts.Lefts.{Lefts}
use Rattle.opentype_gpos.proofs.KernLefts.{listed_none, pair_none}

-- ---- from one glyph to another

abbrev none : Lefts
none = record { first = 65535; last = 0 }

abbrev from_5_to_8 : Lefts
from_5_to_8 = record { first = 5; last = 8 }

in_order : with_left (with_left none 5) 8 ≡ from_5_to_8
in_order = refl

out_of_order : with_left (with_left none 8) 5 ≡ from_5_to_8
out_of_order = refl

one_between : with_left from_5_to_8 6 ≡ from_5_to_8
one_between = refl

below : is_within from_5_to_8 4 ≡ false
below = refl

least : is_within from_5_to_8 5 ≡ true
least = refl

between : is_within from_5_to_8 6 ≡ true
between = refl

greatest : is_within from_5_to_8 8 ≡ true
greatest = refl

above : is_within from_5_to_8 9 ≡ false
above = refl

none_first : is_within none 0 ≡ false
none_first = refl

none_last : is_within none 65535 ≡ false
none_last = refl

-- ---- format 0: glyphs 5 and 6 come 31 units nearer, 8 and 7 four farther

abbrev listed : ℕ → List ℕ
listed coverage = 0 ∷ 0 ∷ 0 ∷ 26 ∷ 0 ∷ coverage ∷ 0 ∷ 2 ∷ 0 ∷ 12 ∷ 0 ∷ 1 ∷ 0 ∷ 0
    ∷ 0 ∷ 5 ∷ 0 ∷ 6 ∷ 255 ∷ 225 ∷ 0 ∷ 8 ∷ 0 ∷ 7 ∷ 0 ∷ 4 ∷ []

value_first : kern_value (listed 1) 5 6 ≡ 65505
unfolding kern_value value_of_pair bisect
value_first = refl

value_last : kern_value (listed 1) 8 7 ≡ 4
unfolding kern_value value_of_pair bisect
value_last = refl

first_begins : BeginsNone (listed 1) 5 → ⊥
first_begins h = let e : 65505 ≡ 0 = sym value_first ∙ h.none 6 (omega arith) in omega (arith, e)

last_begins : BeginsNone (listed 1) 8 → ⊥
last_begins h = let e : 4 ≡ 0 = sym value_last ∙ h.none 7 (omega arith) in omega (arith, e)

neither : (glyph i : ℕ) → (5 ≡ glyph → ⊥) → (8 ≡ glyph → ⊥) → i < 2 → u32_in (listed 1) (14 + i * 6) / 65536 ≡ glyph → ⊥
neither glyph zero five eight lt = five
neither glyph (suc zero) five eight lt = eight
neither glyph (suc (suc n)) five eight lt = omega (arith, lt)

others_begin_none : (glyph : ℕ) → (5 ≡ glyph → ⊥) → (8 ≡ glyph → ⊥) → BeginsNone (listed 1) glyph
others_begin_none glyph five eight = record {
  in_line = refl;
  none = λ right lt. listed_none (listed 1) glyph right refl
      (pair_none (listed 1) glyph right lt (λ i within. neither glyph i five eight within));
}

one_below : BeginsNone (listed 1) 4
one_below = others_begin_none 4 (λ e. omega (arith, e)) (λ e. omega (arith, e))

-- (it is right of a pair alone)
one_inside : BeginsNone (listed 1) 6
one_inside = others_begin_none 6 (λ e. omega (arith, e)) (λ e. omega (arith, e))

one_above : BeginsNone (listed 1) 9
one_above = others_begin_none 9 (λ e. omega (arith, e)) (λ e. omega (arith, e))

-- ---- across the line each glyph of the text moves

across_moves : BeginsNone (listed 5) 4 → ⊥
across_moves h = let e : true ≡ false = h.in_line in absurd (cc)

-- ---- format 2: a class for glyph 5 on the left, and one for glyph 6 on the right

abbrev classed : List ℕ
classed = 0 ∷ 0 ∷ 0 ∷ 28 ∷ 2 ∷ 1 ∷ 0 ∷ 2 ∷ 0 ∷ 14 ∷ 0 ∷ 20 ∷ 0 ∷ 26
    ∷ 0 ∷ 5 ∷ 0 ∷ 1 ∷ 0 ∷ 26 ∷ 0 ∷ 6 ∷ 0 ∷ 1 ∷ 0 ∷ 0 ∷ 0 ∷ 9 ∷ []

value_of_classes : kern_value classed 5 6 ≡ 9
unfolding kern_value kern_class
value_of_classes = refl

class_begins : BeginsNone classed 5 → ⊥
class_begins h = let e : 9 ≡ 0 = sym value_of_classes ∙ h.none 6 (omega arith) in omega (arith, e)

-- ---- subtables one after another

abbrev table : ℕ → List ℕ → List ℕ
table count subtables = (0 ∷ 0 ∷ 0 ∷ count ∷ []) ++ subtables

quiet_in_none : IsQuiet (table 0 (listed 1)) 5
quiet_in_none = tt

quiet_in_one : IsQuiet (table 1 (listed 1)) 6
quiet_in_one = λ long. (one_inside, tt)

begins_in_one : IsQuiet (table 1 (listed 1)) 5 → ⊥
begins_in_one h = first_begins (h (omega arith)).0

begins_in_second : IsQuiet (table 2 (classed ++ listed 1)) 8 → ⊥
begins_in_second h = last_begins ((h (omega arith)).1 (omega arith)).0

-- one that is shorter than its header is the last one
quiet_behind_short : IsQuiet (table 2 ((0 ∷ 0 ∷ 0 ∷ 5 ∷ 0 ∷ 1 ∷ []) ++ listed 1)) 5
quiet_behind_short = λ long. absurd (omega (arith, long))
