-- The rows of bits by glyph.
use Rattle.std.proofs.Common.{ℕ, ◌+◌, ◌-◌, ◌*◌, ◌/◌, ◌%◌, ◌<◌, ◌≤◌, ◌≡◌, ◌∙◌, inl, inr, Bool, List, [], ◌∷◌, length, get_or, min, bit_or, refl, sym, subst, arith}
use Rattle.std.specs.Int.{bit_at}
use Rattle.std.proofs.lemmas.Nat.Bits.{bit_at_or, bit_at-zero}
use Rattle.std.proofs.lemmas.Grind.{common_steps}
use Rattle.std.proofs.lemmas.Bool.Decides.{nat_tests}
use Rattle.std.proofs.lemmas.List.{get_or_default}
use Rattle.shapers_buffer.specs.Glyph.{default_glyph}
use Rattle.shapers_buffer.specs.Glyphs.{Glyph, Glyphs}
use Rattle.opentype_face.specs.Bytes.{table_at, u16_in}
use Rattle.opentype_face.specs.Lookups.{lookup_in}
use Rattle.opentype_layout.specs.Bits.{Grown, IsClear, bit_in}
use Rattle.opentype_layout.specs.LookupRows.{AreAbsent, AreMarked, AreRows, AreUnset, BeginsNot, lookup_bit, row_bit}
use Rattle.opentype_layout.specs.Starts.{AreHeads, AreStarts}
use Rattle.opentype_layout.specs.declared.lookup_rows.LookupBits.{LookupBits}
use Rattle.opentype_layout.proofs.BitPlaces.{before_or_at, before_or_not, grown_same, grown_then}
use Rattle.opentype_layout.proofs.Grids.{none_from}

-- ---- a column

-- behind the words there are no bits
behind : (words : List ℕ) (k : ℕ) → 64 * length words ≤ k → bit_in words k ≡ 0
behind words k le =
    let out : length words ≤ k / 64 = omega arith in
    let none : get_or words (k / 64) 0 ≡ 0 = grind (arith, common_steps) in
    rw none (bit_at-zero (k % 64))

-- the lookup's bit is set in the rows of the glyphs whose own bits are set, before one of them
pub record IsColumn (old words heads : List ℕ) (first index k : ℕ) : Type 0 where
  pub grown : Grown old words
  pub out : (j : ℕ) → j < k → row_bit words (first + j) index ≡ 0 → bit_in heads j ≡ 0

pub column_start : (words heads : List ℕ) (first index k : ℕ) → IsClear heads 0 k →
    IsColumn words words heads first index k
column_start words heads first index k c = record {
  grown = grown_same words;
  out = λ j lt unset. c.off j (omega arith) lt;
}

pub column_next : (old words new heads : List ℕ) (first index k next place : ℕ) →
    IsColumn old words heads first index k → Grown words new → bit_in new place ≡ 1 →
    place ≡ (first + k) * 128 + index → IsClear heads (k + 1) next → IsColumn old new heads first index next
column_next old words new heads first index k next place m g on is c = record {
  grown = grown_then old words new m.grown g;
  out = λ j lt unset. elim (before_or_not j k) [
    | inl less ↦ m.out j less (g.kept _ unset)
    | inr le ↦ elim (before_or_not j (k + 1)) [
      | inl at ↦ absurd (let e : j ≡ k = omega arith in
          let off = rw (e, sym is) at unset in cc)
      | inr more ↦ c.off j more lt
    ]
  ];
}

pub column_all : (old words heads : List ℕ) (first index k : ℕ) → IsColumn old words heads first index k →
    length heads * 64 ≤ k → (j : ℕ) → row_bit words (first + j) index ≡ 0 → bit_in heads j ≡ 0
column_all old words heads first index k m le j unset = elim (before_or_not j k) [
  | inl less ↦ m.out j less unset
  | inr more ↦ behind heads j (omega arith)
]

-- and so of a lookup, which begins at no glyph whose own bit isn't set
pub column_of : (of_gpos : Bool) (lookup heads words : List ℕ) (first index : ℕ) → AreHeads of_gpos lookup first heads →
    ((k : ℕ) → row_bit words (first + k) index ≡ 0 → bit_in heads k ≡ 0) →
    (glyph : ℕ) → row_bit words glyph index ≡ 0 → BeginsNot of_gpos lookup glyph
column_of of_gpos lookup heads words first index h out glyph unset =
    h.out glyph (λ le. (let e : glyph ≡ first + (glyph - first) = omega arith in
    out (glyph - first) (subst (λ n. row_bit words n index ≡ 0) e unset)))

-- ---- all lookups

pub record IsMarking (of_gpos : Bool) (old : List ℕ) (lookups : List (List ℕ)) (words : List ℕ) (index : ℕ) : Type 0 where
  pub len : length words ≡ length old
  pub marked : AreMarked of_gpos lookups words index

pub marking_start : (of_gpos : Bool) (lookups : List (List ℕ)) (words : List ℕ) → IsMarking of_gpos words lookups words 0
marking_start of_gpos lookups words = record {
  len = refl;
  marked = record { out = λ index glyph lt unset. absurd (omega arith) };
}

pub marking_next : (of_gpos : Bool) (old : List ℕ) (lookups : List (List ℕ)) (words new lookup : List ℕ) (index : ℕ) →
    IsMarking of_gpos old lookups words index → Grown words new → lookup ≡ get_or lookups index [] →
    ((glyph : ℕ) → row_bit new glyph index ≡ 0 → BeginsNot of_gpos lookup glyph) →
    IsMarking of_gpos old lookups new (index + 1)
marking_next of_gpos old lookups words new lookup index m g is out = record {
  len = g.len ∙ m.len;
  marked = record {
    out = λ i glyph lt unset. elim (before_or_at i index lt) [
      | inl less ↦ m.marked.out i glyph less (g.kept _ unset)
      | inr e ↦ rw e (rw is at (out glyph (rw e at unset)))
    ];
  };
}

-- a lookup that isn't there begins at no glyph
no_lookup : (of_gpos : Bool) (table : List ℕ) (count index glyph : ℕ) → count ≡ u16_in (table_at table (u16_in table 8)) 0 →
    count ≤ index → BeginsNot of_gpos (lookup_in table index) glyph
no_lookup of_gpos table count index glyph is le =
    let e : lookup_in table index ≡ [] = grind (arith, nat_tests) in
    rw e (none_from of_gpos [] glyph 0 0 (omega arith))

pub rows_by : (of_gpos : Bool) (table : List ℕ) (lookups : List (List ℕ)) (words : List ℕ) (count : ℕ) → AreStarts table lookups →
    AreMarked of_gpos lookups words (min (length lookups) 128) → count ≡ u16_in (table_at table (u16_in table 8)) 0 →
    length lookups ≡ count → AreRows of_gpos table words
rows_by of_gpos table lookups words count s m is all = record {
  out = λ index glyph lt unset. elim (before_or_not index count) [
    | inl less ↦ (let o = m.out index glyph (omega arith) unset in rw (s.each index (omega arith)) at o)
    | inr le ↦ no_lookup of_gpos table count index glyph is le
  ];
}

-- ---- the rows of a text

pub unset_start : (words : List ℕ) (bits : LookupBits) (gs : Glyphs) → AreUnset words bits gs 0
unset_start words bits gs = record { each = λ index j a b e. absurd (omega arith) }

-- bits or-ed with those of a row
half : (a b : ℕ) (k : ℕ) → bit_at (bit_or a b) k ≡ 0 → (bit_at a k ≡ 0) × (bit_at b k ≡ 0)
half a b k e = let m = bit_at_or a b k in (grind arith, grind arith)

pub or_row : (low high : ℕ) (words : List ℕ) (glyph at index : ℕ) → at ≡ glyph * 2 → index < 128 →
    bit_in (bit_or low (get_or words at 0) ∷ bit_or high (get_or words (at + 1) 0) ∷ []) index ≡ 0 →
    (bit_in (low ∷ high ∷ []) index ≡ 0) × (row_bit words glyph index ≡ 0)
or_row low high words glyph at index is few off = elim (before_or_not index 64) [
  | inl first ↦ (let word : index / 64 ≡ 0 = omega arith in
      let place : (glyph * 128 + index) / 64 ≡ at = omega arith in
      let same : (glyph * 128 + index) % 64 ≡ index % 64 = omega arith in
      let h = half low (get_or words at 0) (index % 64) (rw word at off) in
      (rw word h.0, rw (place, same) h.1))
  | inr second ↦ (let word : index / 64 ≡ 1 = omega arith in
      let place : (glyph * 128 + index) / 64 ≡ at + 1 = omega arith in
      let same : (glyph * 128 + index) % 64 ≡ index % 64 = omega arith in
      let h = half high (get_or words (at + 1) 0) (index % 64) (rw word at off) in
      (rw word h.0, rw (place, same) h.1))
]

-- and where the rows end with their low half
pub or_end : (low high : ℕ) (words : List ℕ) (glyph at index : ℕ) → at ≡ glyph * 2 → index < 128 →
    length words ≤ at + 1 → bit_in (bit_or low (get_or words at 0) ∷ high ∷ []) index ≡ 0 →
    (bit_in (low ∷ high ∷ []) index ≡ 0) × (row_bit words glyph index ≡ 0)
or_end low high words glyph at index is few end off = elim (before_or_not index 64) [
  | inl first ↦ (let word : index / 64 ≡ 0 = omega arith in
      let place : (glyph * 128 + index) / 64 ≡ at = omega arith in
      let same : (glyph * 128 + index) % 64 ≡ index % 64 = omega arith in
      let h = half low (get_or words at 0) (index % 64) (rw word at off) in
      (rw word h.0, rw (place, same) h.1))
  | inr second ↦ (let word : index / 64 ≡ 1 = omega arith in
      (rw word (rw word at off), behind words (glyph * 128 + index) (omega arith)))
]

pub unset_next : (words : List ℕ) (bits new : LookupBits) (gs : Glyphs) (at number : ℕ) (g : Glyph) → AreUnset words bits gs at →
    ((index : ℕ) → index < 128 → lookup_bit new index ≡ 0 → lookup_bit bits index ≡ 0) →
    ((index : ℕ) → index < 128 → lookup_bit new index ≡ 0 → row_bit words number index ≡ 0) →
    number ≡ g.glyph_id % 65536 → g ≡ get_or gs at g → at < length gs → AreUnset words new gs (at + 1)
unset_next words bits new gs at number g u kept row is own within = record {
  each = λ index j few lt off. elim (before_or_at j at lt) [
    | inl less ↦ u.each index j few less (kept index few off)
    | inr e ↦ rw e (subst (λ (x : Glyph). row_bit words (x.glyph_id % 65536) index ≡ 0)
        (own ∙ get_or_default gs at g default_glyph within) (rw is at (row index few off)))
  ];
}

pub absent_by : (of_gpos : Bool) (table words : List ℕ) (bits : LookupBits) (gs : Glyphs) → AreRows of_gpos table words → AreUnset words bits gs (length gs) →
    AreAbsent of_gpos table bits gs
absent_by of_gpos table words bits gs r u = record {
  each = λ index j few lt off. r.out index _ few (u.each index j few lt off);
}
