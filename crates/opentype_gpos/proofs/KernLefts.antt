-- The left glyphs of a table `kern`, as far as they are found.
use Rattle.std.proofs.Common.{ℕ, zero, suc, ◌+◌, ◌-◌, ◌*◌, ◌/◌, ◌<◌, ◌≤◌, ◌≡◌, ◌==◌, nat_lt, IfSome, false, List, Option, None, Some, refl, sym, ap, subst, ◌∙◌, arith}
use Rattle.std.proofs.lemmas.Bool.Decides.{nat_tests}
use Rattle.std.specs.Prelude.{slice_index}
use Rattle.opentype_face.specs.Bytes.{table_at, u16_in, u32_in}
use Rattle.opentype_face.specs.Ranges.{bisect}
use Rattle.opentype_layout.proofs.NoneFits.{none_if}
use Rattle.opentype_gpos.specs.Kerned.{is_across, kern_value, listed_value, value_of_pair}
use Rattle.opentype_gpos.specs.KernLefts.{BeginsNone, HasBegun, HasLefts, HoldLefts, IsQuietIn, is_within}
use Rattle.opentype_gpos.specs.declared.kern_lefts.Lefts.{Lefts}

-- ---- where no record has a glyph on its left, none is found

none_found : (steps : ℕ) (listed : ℕ → ℕ) (number low high count : ℕ) → high ≤ count →
    ((i : ℕ) → i < count → listed i ≡ number → ⊥) → bisect steps listed listed number low high ≡ None
unfolding bisect
none_found zero listed number low high count le none = refl
none_found (suc n) listed number low high count le none =
    let middle : ℕ = low + (high - low - 1) / 2 in
    none_if (nat_lt low high) _ None
    (λ t. (let lt : low < high = grind (arith, nat_tests, t) in
    none_if (nat_lt number (listed middle)) _ _
    (λ b. none_found n listed number low middle count (omega arith) none)
    (λ b. none_if (nat_lt (listed middle) number) _ (Some middle)
    (λ a. none_found n listed number (middle + 1) high count le none)
    (λ a. absurd (none middle (omega arith) (grind (arith, nat_tests, a, b)))))))
    (λ t. refl)

left_of : (pair glyph right : ℕ) → right < 65536 → pair ≡ 65536 * glyph + right → pair / 65536 ≡ glyph
left_of pair glyph right lt e = omega arith

pub pair_none : (bytes : List ℕ) (glyph right : ℕ) → right < 65536 →
    ((i : ℕ) → i < u16_in bytes 6 → u32_in bytes (14 + i * 6) / 65536 ≡ glyph → ⊥) → value_of_pair bytes glyph right ≡ 0
unfolding value_of_pair
pair_none bytes glyph right lt missed = ap (listed_value bytes)
    (none_found (u16_in bytes 6) (λ i. u32_in bytes (14 + i * 6)) (65536 * glyph + right) 0 (u16_in bytes 6) (u16_in bytes 6)
    (omega arith) (λ i within same. missed i within (left_of _ glyph right lt same)))

-- ---- a subtable

pub listed_none : (bytes : List ℕ) (left right : ℕ) → slice_index bytes 4 ≡ 0 → value_of_pair bytes left right ≡ 0 →
    kern_value bytes left right ≡ 0
unfolding kern_value
listed_none bytes left right e none = rw e none

other_none : (bytes : List ℕ) (left right : ℕ) → (slice_index bytes 4 == 0) ≡ false → (slice_index bytes 4 == 2) ≡ false →
    kern_value bytes left right ≡ 0
unfolding kern_value
other_none bytes left right one two = rw (one, two) refl

pub begun_listed : (bytes : List ℕ) (format count : ℕ) (old new : Lefts) → is_across bytes ≡ false → format ≡ slice_index bytes 4 →
    format ≡ 0 → count ≡ u16_in bytes 6 → HasLefts bytes count old new → HasBegun bytes old new
begun_listed bytes format count old new flat is zeroth n h = record {
  kept = h.kept;
  none = λ glyph e. record {
    in_line = flat;
    none = λ right lt. listed_none bytes glyph right (sym is ∙ zeroth)
        (pair_none bytes glyph right lt (λ i within. h.missed glyph e i (omega (arith, n, within))));
  };
}

pub begun_other : (bytes : List ℕ) (format : ℕ) (lefts : Lefts) → is_across bytes ≡ false → format ≡ slice_index bytes 4 →
    (format == 0) ≡ false → (format == 2) ≡ false → HasBegun bytes lefts lefts
begun_other bytes format lefts flat is one two = record {
  kept = λ glyph e. e;
  none = λ glyph e. record {
    in_line = flat;
    none = λ right lt. other_none bytes glyph right (subst (λ n. (n == 0) ≡ false) is one) (subst (λ n. (n == 2) ≡ false) is two);
  };
}

-- ---- one subtable after another

pub if_some : {X : Type 0} (P : X → Type 0) (o : Option X) (x : X) → IfSome o P → o ≡ Some x → P x
if_some P o x h e = rw e at h

-- What is quiet of the rest, of those that aren't among the left ones so far, is quiet of all.
abbrev pub AreLookedThrough : ℕ → List ℕ → ℕ → List ℕ → Lefts → Type 0
AreLookedThrough count start i bytes lefts = (glyph : ℕ) → is_within lefts glyph ≡ false →
    IsQuietIn (count - i) bytes glyph → IsQuietIn count start glyph

quiet_short : (n : ℕ) (bytes : List ℕ) (glyph : ℕ) → u16_in bytes 2 < 6 → IsQuietIn n bytes glyph
quiet_short zero bytes glyph lt = tt
quiet_short (suc n) bytes glyph lt = λ le. absurd (omega arith)

quiet_next : (n m : ℕ) (bytes : List ℕ) (glyph : ℕ) → n ≡ suc m → BeginsNone bytes glyph →
    IsQuietIn m (table_at bytes (u16_in bytes 2)) glyph → IsQuietIn n bytes glyph
quiet_next n m bytes glyph e begins rest = rw e (λ le. (begins, rest))

pub looked_next : (count : ℕ) (start : List ℕ) (i : ℕ) (bytes rest : List ℕ) (lefts new : Lefts) (len : ℕ) →
    AreLookedThrough count start i bytes lefts → i < count → len ≡ u16_in bytes 2 → HasBegun bytes lefts new →
    rest ≡ table_at bytes len → AreLookedThrough count start (i + 1) rest new
looked_next count start i bytes rest lefts new len looked lt long begun at_rest = λ glyph e h.
    (let n : count - i ≡ suc (count - (i + 1)) = omega arith in
    looked glyph (begun.kept glyph e) (quiet_next (count - i) (count - (i + 1)) bytes glyph n (begun.none glyph e)
    (subst (λ b. IsQuietIn (count - (i + 1)) b glyph) (at_rest ∙ ap (table_at bytes) long) h)))

pub looked_short : (count : ℕ) (start : List ℕ) (i : ℕ) (bytes : List ℕ) (lefts : Lefts) (len : ℕ) →
    AreLookedThrough count start i bytes lefts → len ≡ u16_in bytes 2 → len < 6 → HoldLefts count start lefts
looked_short count start i bytes lefts len looked long lt = λ glyph e.
    looked glyph e (quiet_short (count - i) bytes glyph (omega (arith, long, lt)))
