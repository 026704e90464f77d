-- Where glyphs may be broken: the places that flag calls forbid, and clear places.
use Rattle.std.specs.Prelude.{ℕ, ◌≡◌, ◌≢◌, ◌-◌, ◌<◌, ◌==◌, nat_lt, max, Bool, false, ◌&&◌, ◌||◌, ◌⊎◌, List, length, slice_index}
use Rattle.std.specs.List.{list_any, AllByRecursion, AllPairs}
use Rattle.shapers_buffer.specs.Glyph.{clusters}
use Rattle.shapers_buffer.specs.GlyphFlags.{FlagCall, UnsafeToBreak, UnsafeToConcat, SafeToInsertTatweel, flags_called}
use Rattle.shapers_buffer.specs.Glyphs.{Glyph, Glyphs}
use Rattle.shapers_clusters.specs.Flags.{bit_at, InOrder}

-- whether the call forbids a break between place p - 1 and place p: its stretch has both
abbrev pub forbids : ℕ → FlagCall → Bool
forbids p (UnsafeToBreak s e) = nat_lt s p && nat_lt p e
forbids p (UnsafeToConcat s e) = false
forbids p (SafeToInsertTatweel s e) = nat_lt s p && nat_lt p e

-- no call of the list does
abbrev pub IsFree : List FlagCall → ℕ → Type 0
IsFree calls p = list_any (forbids p) calls ≡ false

-- whether the glyph is unsafe to break, bit 1, or has what stands for that with tatweels, bit 4
abbrev pub is_unsafe : Glyph → Bool
is_unsafe g = bit_at 0 g.mask == 1 || bit_at 2 g.mask == 1

-- the greater of the two clusters that meet at place p
abbrev pub greater : Glyphs → ℕ → ℕ
greater gs p = max (slice_index (clusters gs) (p - 1)) (slice_index (clusters gs) p)

-- place p is clear: two clusters meet there, and no glyph of the greater one is flagged
pub record IsClear (gs : Glyphs) (p : ℕ) : Type 0 where
  pub differ : slice_index (clusters gs) (p - 1) ≢ slice_index (clusters gs) p
  pub unflagged : list_any (λ g. g.cluster == greater gs p && is_unsafe g) gs ≡ false

-- at a clear place no call forbids a break, whatever the clusters and whatever the buffer wants
abbrev pub ClearLaw : Type 0
ClearLaw = (concat tatweel : Bool) (calls : List FlagCall) (gs : Glyphs) (p : ℕ) →
    AllByRecursion InOrder calls → 0 < p → p < length gs →
    IsClear (flags_called concat tatweel calls gs) p → IsFree calls p

-- the clusters strictly rise along the text, or strictly fall
abbrev pub IsStrictlyMonotone : List ℕ → Type 0
IsStrictlyMonotone cs = AllPairs (λ a b. a < b) cs ⊎ AllPairs (λ a b. b < a) cs

-- and the other way round, where each glyph is a cluster of its own, clusters rise or fall and no
-- glyph was flagged before: a place that no call forbids is clear
abbrev pub NeedlessLaw : Type 0
NeedlessLaw = (concat tatweel : Bool) (calls : List FlagCall) (gs : Glyphs) (p : ℕ) →
    AllByRecursion InOrder calls → IsStrictlyMonotone (clusters gs) →
    AllByRecursion (λ g. is_unsafe g ≡ false) gs → 0 < p → p < length gs → IsFree calls p →
    IsClear (flags_called concat tatweel calls gs) p
