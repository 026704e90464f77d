-- The bits of a lookup's subtables, as far as they are set.
use Rattle.std.proofs.Common.{ℕ, zero, suc, ◌+◌, ◌-◌, ◌*◌, ◌/◌, ◌%◌, ◌^◌, ◌<◌, ◌≤◌, ◌≡◌, ◌∙◌, ◌⊎◌, inl, inr, Bool, true, false, List, Option, None, Some, length, get_or, refl, sym, subst, arith, is_some}
use mathlib.Core.Bool.{beq, not}
use Rattle.std.proofs.lemmas.Bool.Decides.{nat_tests}
use Rattle.std.proofs.lemmas.Nat.{mul-le}
use Rattle.std.proofs.lemmas.Nat.Bits.{bit_at-lt}
use Rattle.opentype_face.specs.Bytes.{u16_in}
use Rattle.opentype_face.specs.Glyphs.{coverage_in, ranges_in}
use Rattle.opentype_face.specs.Lookups.{subtable_in, subtables_in, type_in}
use Rattle.opentype_face.specs.Ranges.{bisect}
use Rattle.opentype_layout.specs.Bits.{Grown, IsClear, bit_in}
use Rattle.opentype_layout.specs.Starts.{IsStarts, LeavesOut, LeavesRange, NoneStarts, extension_type, first_set_in, has_row, place_in, starting}
use Rattle.opentype_layout.specs.declared.grid.Grid.{Grid}
use Rattle.opentype_layout.proofs.BitPlaces.{before_or_at, grown_same, grown_then}

-- ---- rows of one column

pub record IsMarking (old words : List ℕ) (width i from row : ℕ) : Type 0 where
  pub grown : Grown old words
  pub marked : (r : ℕ) → from ≤ r → r < row → bit_in words (r * width + i) ≡ 1

pub marking_start : (words : List ℕ) (width i from : ℕ) → IsMarking words words width i from from
marking_start words width i from = record {
  grown = grown_same words;
  marked = λ r a b. absurd (omega arith);
}

stays : (old new : List ℕ) (k : ℕ) → Grown old new → bit_in old k ≡ 1 → bit_in new k ≡ 1
stays old new k g on =
    let off = g.kept k in
    let low = bit_at-lt (get_or new (k / 64) 0) (k % 64) in
    grind arith

pub marking_next : (old words new : List ℕ) (width i from row : ℕ) → IsMarking old words width i from row →
    Grown words new → bit_in new (row * width + i) ≡ 1 → IsMarking old new width i from (row + 1)
marking_next old words new width i from row m g on = record {
  grown = grown_then old words new m.grown g;
  marked = λ r a b. elim (before_or_at r row b) [
    | inl lt ↦ stays words new (r * width + i) g (m.marked r a lt)
    | inr e ↦ rw e on
  ];
}

pub in_room : (width i row end len : ℕ) → i < width → row < end → end * width ≤ len → row * width + i < len
in_room width i row end len column lt room =
    let more = mul-le (row + 1) width end width (omega arith) (omega arith) in
    let next : (row + 1) * width ≡ row * width + width = omega arith in
    omega (arith, more, next)

pub fewer_rows : (end rows width len : ℕ) → end ≤ rows → rows * width ≤ len → end * width ≤ len
fewer_rows end rows width len le room = let more = mul-le end width rows width le (omega arith) in omega (arith, more)

-- ---- a range

pub leaves_empty : (grid : Grid) (words : List ℕ) (i from to : ℕ) → to < from → LeavesRange grid words i from to
leaves_empty grid words i from to lt = record { out = λ glyph h. grind arith }

one_not_zero : (n : ℕ) → n ≡ 1 → n ≡ 0 → ⊥
one_not_zero n on off = omega arith

outside : (glyph from to : ℕ) → (from ≤ glyph → glyph ≤ to → ⊥) → (glyph < from) ⊎ (to < glyph)
outside glyph from to h = grind arith

rowed : (grid : Grid) (glyph from to : ℕ) → has_row grid from ≡ true → has_row grid to ≡ true → from ≤ glyph → glyph ≤ to →
    has_row grid glyph ≡ true
rowed grid glyph from to a b c d = grind (arith, nat_tests)

in_rows : (grid : Grid) (glyph : ℕ) → has_row grid glyph ≡ true → grid.first ≤ glyph
in_rows grid glyph a = grind (arith, nat_tests)

behind_row : (grid : Grid) (glyph : ℕ) → has_row grid glyph ≡ true → glyph - grid.first + 1 ≤ grid.rows
behind_row grid glyph a = grind (arith, nat_tests)

pub leaves_range : (grid : Grid) (words : List ℕ) (i from to : ℕ) → has_row grid from ≡ true → has_row grid to ≡ true →
    ((row : ℕ) → from - grid.first ≤ row → row < to - grid.first + 1 → bit_in words (row * grid.width + i) ≡ 1) →
    LeavesRange grid words i from to
leaves_range grid words i from to a b marked = record {
  out = λ glyph h. outside glyph from to (λ c d.
      (let row = rowed grid glyph from to a b c d in
      let first = in_rows grid from a in
      one_not_zero _ (marked (glyph - grid.first) (omega arith) (omega arith)) (h row)));
}

-- ---- several ranges

leaves_grown : (grid : Grid) (old new : List ℕ) (i : ℕ) (P : ℕ → Type 0) → Grown old new → LeavesOut grid old i P →
    LeavesOut grid new i P
leaves_grown grid old new i P g l = record { out = λ glyph h. l.out glyph (λ row. g.kept _ (h row)) }

pub record AreMarking (grid : Grid) (old words : List ℕ) (i : ℕ) (first last : ℕ → ℕ) (j : ℕ) : Type 0 where
  pub grown : Grown old words
  pub out : (k : ℕ) → k < j → LeavesRange grid words i (first k) (last k)

pub ranges_start : (grid : Grid) (words : List ℕ) (i : ℕ) (first last : ℕ → ℕ) → AreMarking grid words words i first last 0
ranges_start grid words i first last = record {
  grown = grown_same words;
  out = λ k lt. absurd (omega arith);
}

pub ranges_next : (grid : Grid) (old words new : List ℕ) (i : ℕ) (first last : ℕ → ℕ) (j from to : ℕ) →
    AreMarking grid old words i first last j → Grown words new → LeavesRange grid new i from to →
    from ≡ first j → to ≡ last j → AreMarking grid old new i first last (j + 1)
ranges_next grid old words new i first last j from to m g l is_first is_last = record {
  grown = grown_then old words new m.grown g;
  out = λ k lt. elim (before_or_at k j lt) [
    | inl less ↦ leaves_grown grid words new i _ g (m.out k less)
    | inr e ↦ rw e (rw (is_first, is_last) at l)
  ];
}

-- where no range holds a number, a search by halves finds none
finds_none : (first last : ℕ → ℕ) (number count : ℕ) →
    ((i : ℕ) → i < count → (number < first i) ⊎ (last i < number)) →
    (steps low high : ℕ) → high ≤ count → bisect steps first last number low high ≡ None
unfolding bisect
finds_none first last number count out zero low high le = refl
finds_none first last number count out (suc n) low high le =
    let below = finds_none first last number count out n low (low + (high - low - 1) / 2) in
    let above = finds_none first last number count out n (low + (high - low - 1) / 2 + 1) high le in
    let here = out (low + (high - low - 1) / 2) in
    grind (arith, nat_tests, below, above, here)

pub ranges_all : (grid : Grid) (old words : List ℕ) (i : ℕ) (bytes : List ℕ) (first last size count j : ℕ) →
    AreMarking grid old words i (λ k. u16_in bytes (first + k * size)) (λ k. u16_in bytes (last + k * size)) j → count ≤ j →
    LeavesOut grid words i (λ glyph. ranges_in bytes first last size count glyph ≡ None)
ranges_all grid old words i bytes first last size count j m le = record {
  out = λ glyph h. finds_none (λ k. u16_in bytes (first + k * size)) (λ k. u16_in bytes (last + k * size)) glyph count
      (λ k lt. (m.out k (omega arith)).out glyph h) count 0 count (omega arith);
}

-- ---- all subtables

pub record IsLookupMarking (grid : Grid) (old words : List ℕ) (of_gpos : Bool) (lookup : List ℕ) (i : ℕ) : Type 0 where
  pub len : length words ≡ length old
  pub out : (k : ℕ) → k < i → LeavesOut grid words k (λ glyph. starting of_gpos lookup glyph k ≡ None)

pub lookup_start : (grid : Grid) (words : List ℕ) (of_gpos : Bool) (lookup : List ℕ) →
    IsLookupMarking grid words words of_gpos lookup 0
lookup_start grid words of_gpos lookup = record {
  len = refl;
  out = λ k lt. absurd (omega arith);
}

starts_none : (of_gpos : Bool) (lookup : List ℕ) (glyph i : ℕ) →
    coverage_in (first_set_in of_gpos (type_in (extension_type of_gpos) lookup i) (subtable_in (extension_type of_gpos) lookup i)) glyph ≡ None →
    starting of_gpos lookup glyph i ≡ None
unfolding starting
starts_none of_gpos lookup glyph i e = rw e refl

pub lookup_next : (grid : Grid) (old words new : List ℕ) (of_gpos : Bool) (lookup set : List ℕ) (i : ℕ) (P : ℕ → Type 0) →
    IsLookupMarking grid old words of_gpos lookup i → Grown words new → LeavesOut grid new i P →
    ((glyph : ℕ) → P glyph → coverage_in set glyph ≡ None) →
    set ≡ first_set_in of_gpos (type_in (extension_type of_gpos) lookup i) (subtable_in (extension_type of_gpos) lookup i) →
    IsLookupMarking grid old new of_gpos lookup (i + 1)
lookup_next grid old words new of_gpos lookup set i P m g l covers is = record {
  len = g.len ∙ m.len;
  out = λ k lt. elim (before_or_at k i lt) [
    | inl less ↦ leaves_grown grid words new k _ g (m.out k less)
    | inr e ↦ rw e (record { out = λ glyph h. starts_none of_gpos lookup glyph i (rw is at (covers glyph (l.out glyph h))) })
  ];
}

pub lookup_all : (grid : Grid) (old words : List ℕ) (of_gpos : Bool) (lookup : List ℕ) (i count : ℕ) →
    IsLookupMarking grid old words of_gpos lookup i → count ≤ i →
    (k : ℕ) → k < count → LeavesOut grid words k (λ glyph. starting of_gpos lookup glyph k ≡ None)
lookup_all grid old words of_gpos lookup i count m le k lt = m.out k (omega arith)

-- ---- questions

pub same_kind : (a b : Bool) → not (beq a b) ≡ false → b ≡ a
same_kind true true e = refl
same_kind false false e = refl
same_kind true false e = absurd (cc)
same_kind false true e = absurd (cc)

pub row_in_room : (of_gpos : Bool) (lookup : List ℕ) (count : ℕ) (grid : Grid) (words : List ℕ) (glyph row : ℕ) →
    IsStarts of_gpos lookup count grid words → has_row grid glyph ≡ true → row ≡ place_in grid glyph 0 → glyph < 65536 →
    (row + count ≤ 64 * length words) × (row + count < 2 ^ 56)
row_in_room of_gpos lookup count grid words glyph row s has is small =
    let first = in_rows grid glyph has in
    let behind : glyph - grid.first + 1 ≤ grid.rows = behind_row grid glyph has in
    let wide = s.wide in
    let narrow = s.narrow in
    let room = s.room in
    let more = mul-le (glyph - grid.first + 1) grid.width grid.rows grid.width behind (omega arith) in
    let next : (glyph - grid.first + 1) * grid.width ≡ (glyph - grid.first) * grid.width + grid.width = omega arith in
    let few = mul-le (glyph - grid.first) grid.width 65536 65536 (omega arith) narrow in
    (omega arith, omega arith)

pub none_clear : (of_gpos : Bool) (lookup : List ℕ) (count : ℕ) (grid : Grid) (words : List ℕ) (glyph from row place : ℕ) →
    IsStarts of_gpos lookup count grid words → row ≡ place_in grid glyph 0 → place ≤ row + count →
    IsClear words (row + from) place → NoneStarts of_gpos lookup glyph from (place - row)
none_clear of_gpos lookup count grid words glyph from row place s is le c = record {
  none = λ i a b. (s.out i (omega arith)).out glyph (λ has.
      (let at : row + i ≡ place_in grid glyph i = omega arith in
      subst (λ k. bit_in words k ≡ 0) at (c.off (row + i) (omega arith) (omega arith))));
}

pub none_clear_all : (of_gpos : Bool) (lookup : List ℕ) (count : ℕ) (grid : Grid) (words : List ℕ) (glyph from row place : ℕ) →
    IsStarts of_gpos lookup count grid words → row ≡ place_in grid glyph 0 → place ≡ row + count →
    IsClear words (row + from) place → NoneStarts of_gpos lookup glyph from (subtables_in lookup)
none_clear_all of_gpos lookup count grid words glyph from row place s is all c =
    let e : place - row ≡ subtables_in lookup = omega (arith, s.counted) in
    rw e at (none_clear of_gpos lookup count grid words glyph from row place s is (omega arith) c)

pub none_outside : (of_gpos : Bool) (lookup : List ℕ) (count : ℕ) (grid : Grid) (words : List ℕ) (glyph from : ℕ) →
    IsStarts of_gpos lookup count grid words → has_row grid glyph ≡ false → NoneStarts of_gpos lookup glyph from (subtables_in lookup)
none_outside of_gpos lookup count grid words glyph from s out = record {
  none = λ i a b. (s.out i (omega (arith, s.counted))).out glyph (λ has. absurd (cc));
}

pub none_from : (of_gpos : Bool) (lookup : List ℕ) (glyph from end : ℕ) → end ≤ from → NoneStarts of_gpos lookup glyph from end
none_from of_gpos lookup glyph from end le = record { none = λ i a b. absurd (omega arith) }

pub none_next : (of_gpos : Bool) (lookup : List ℕ) (glyph from i : ℕ) (o : Option ℕ) → NoneStarts of_gpos lookup glyph from i →
    o ≡ starting of_gpos lookup glyph i → is_some o ≡ false → NoneStarts of_gpos lookup glyph from (i + 1)
none_next of_gpos lookup glyph from i (Some x) s is e = absurd (cc)
none_next of_gpos lookup glyph from i None s is e = record {
  none = λ k a b. elim (before_or_at k i b) [
    | inl lt ↦ s.none k a lt
    | inr at ↦ rw at (sym is)
  ];
}
