-- Where texts may be put together: the borders that flag calls forbid, and bare borders.
use Rattle.std.specs.Prelude.{ℕ, ◌≡◌, ◌<◌, ◌==◌, nat_le, nat_lt, Bool, true, false, ◌&&◌, List, length, slice_index}
use Rattle.std.specs.List.{list_any, AllByRecursion}
use Rattle.shapers_buffer.specs.Glyph.{clusters}
use Rattle.shapers_buffer.specs.GlyphFlags.{FlagCall, UnsafeToConcat, flags_called}
use Rattle.shapers_buffer.specs.Glyphs.{Glyph, Glyphs}
use Rattle.shapers_clusters.specs.Breaks.{IsClear, forbids}
use Rattle.shapers_clusters.specs.Flags.{bit_at, InOrder}

-- whether the call forbids a border before place p: a break, or a concatenation
abbrev pub forbids_border : ℕ → FlagCall → Bool
forbids_border p (UnsafeToConcat s e) = nat_le s p && nat_lt p e
forbids_border p call = forbids p call

-- no call of the list does
abbrev pub IsOpen : List FlagCall → ℕ → Type 0
IsOpen calls p = list_any (forbids_border p) calls ≡ false

-- whether the glyph is flagged: unsafe to concatenate, bit 2
abbrev pub is_unsafe_to_concat : Glyph → Bool
is_unsafe_to_concat g = bit_at 1 g.mask == 1

-- the border before place p is bare: p is clear, and the cluster there has no flag of concatenation
pub record IsBare (gs : Glyphs) (p : ℕ) : Type 0 where
  pub clear : IsClear gs p
  pub joinable :
      list_any (λ g. g.cluster == slice_index (clusters gs) p && is_unsafe_to_concat g) gs ≡ false

-- at a bare border no call forbids one, whatever the clusters, where the buffer wants flags of
-- concatenation
abbrev pub BareLaw : Type 0
BareLaw = (tatweel : Bool) (calls : List FlagCall) (gs : Glyphs) (p : ℕ) →
    AllByRecursion InOrder calls → 0 < p → p < length gs →
    IsBare (flags_called true tatweel calls gs) p → IsOpen calls p
