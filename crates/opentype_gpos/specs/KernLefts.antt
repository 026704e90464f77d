-- Which glyphs begin no pair of a table `kern`.
use Rattle.std.specs.Prelude.{◌≡◌, ℕ, zero, suc, ◌+◌, ◌*◌, ◌/◌, ◌<◌, ◌≤◌, ◌&&◌, min, max, nat_le, Bool, false, List, length}
use Rattle.shapers_buffer.specs.Glyphs.{Glyphs}
use Rattle.opentype_face.specs.Bytes.{table_at, u16_in, u32_in}
use Rattle.opentype_gpos.specs.Kerned.{is_across, kern_value}
use Rattle.opentype_gpos.specs.Moves.{number_at}
use Rattle.opentype_gpos.specs.declared.kern_lefts.Lefts.{Lefts}

-- A glyph begins no pair of a subtable, which moves no glyph across its line.
pub record BeginsNone (bytes : List ℕ) (glyph : ℕ) : Type 0 where
  pub in_line : is_across bytes ≡ false
  pub none : (right : ℕ) → right < 65536 → kern_value bytes glyph right ≡ 0

-- A glyph begins no pair of so many subtables, one behind another, as far as they are applied.
abbrev pub IsQuietIn : ℕ → List ℕ → ℕ → Type 0
IsQuietIn zero bytes glyph = Unit {0}
IsQuietIn (suc n) bytes glyph = 6 ≤ u16_in bytes 2 →
    BeginsNone bytes glyph × IsQuietIn n (table_at bytes (u16_in bytes 2)) glyph

-- A glyph begins no pair of a table `kern`.
abbrev pub IsQuiet : List ℕ → ℕ → Type 0
IsQuiet table glyph = IsQuietIn (u16_in table 2) (table_at table 4) glyph

-- No glyph of a text begins a pair of a table `kern`.
abbrev pub AreQuiet : List ℕ → Glyphs → Type 0
AreQuiet table gs = (i : ℕ) → i < length gs → IsQuiet table (number_at gs i)

-- ---- a range of glyphs that holds the left one of each pair

abbrev pub is_within : Lefts → ℕ → Bool
is_within lefts glyph = nat_le lefts.first glyph && nat_le glyph lefts.last

-- the smallest range that holds a range and one more glyph
abbrev pub with_left : Lefts → ℕ → Lefts
with_left lefts glyph = record { first = min lefts.first glyph; last = max lefts.last glyph }

-- A range holds what an older one holds, and the left glyphs of so many records of format 0.
pub record HasLefts (bytes : List ℕ) (count : ℕ) (old new : Lefts) : Type 0 where
  pub kept : (glyph : ℕ) → is_within new glyph ≡ false → is_within old glyph ≡ false
  pub missed : (glyph : ℕ) → is_within new glyph ≡ false → (i : ℕ) → i < count →
      u32_in bytes (14 + i * 6) / 65536 ≡ glyph → ⊥

-- A range holds what an older one holds, and each glyph that begins a pair of a subtable.
pub record HasBegun (bytes : List ℕ) (old new : Lefts) : Type 0 where
  pub kept : (glyph : ℕ) → is_within new glyph ≡ false → is_within old glyph ≡ false
  pub none : (glyph : ℕ) → is_within new glyph ≡ false → BeginsNone bytes glyph

-- A range holds each glyph that begins a pair of so many subtables.
abbrev pub HoldLefts : ℕ → List ℕ → Lefts → Type 0
HoldLefts count bytes lefts = (glyph : ℕ) → is_within lefts glyph ≡ false →
    IsQuietIn count bytes glyph

-- A range holds each glyph that begins a pair of a table `kern`.
abbrev pub AreLefts : List ℕ → Lefts → Type 0
AreLefts table lefts = (glyph : ℕ) → glyph < 65536 → is_within lefts glyph ≡ false →
    IsQuiet table glyph
