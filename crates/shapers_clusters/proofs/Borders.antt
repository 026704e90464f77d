-- A call that forbids a concatenation leaves a flag on the glyph at that place.
use Rattle.std.proofs.Common.{◌≡◌, ℕ, ◌<◌, Bool, true, false, leb, ltb, ◌&&◌, List, [], ◌∷◌, length, get_or, refl, arith, inl, inr}
use Rattle.std.specs.Int.Bits.{bit_or}
use Rattle.std.specs.List.{AllByRecursion, list_any}
use Rattle.std.proofs.lemmas.Bool.{or_cases, or_parts, false_from_ne_true, false≢true}
use Rattle.std.proofs.lemmas.List.{get_or-map}
use Rattle.std.proofs.lemmas.List.Elements.{AllZip-get_or}
use Rattle.std.proofs.lemmas.List.Folds.{list_any_at}
use Rattle.std.proofs.lemmas.Nat.Bits.{bit_at_or}
use Rattle.shapers_buffer.specs.Glyph.{default_glyph}
use Rattle.shapers_buffer.specs.GlyphFlags.{FlagCall, UnsafeToConcat, flag_called, flags_called}
use Rattle.shapers_buffer.specs.Glyphs.{Glyph, Glyphs}
use Rattle.shapers_clusters.specs.Borders.{forbids_border, IsOpen, BareLaw}
use Rattle.shapers_clusters.specs.Breaks.{forbids, IsFree}
use Rattle.shapers_clusters.specs.Flags.{bit_at, InOrder, KeepsBits}
use Rattle.shapers_clusters.proofs.ClearPlaces.{held_by_calls, clear-places, in-stretch, length-same}
use Rattle.shapers_clusters.proofs.FlagCalls.{flag_called-alone, flags_called-alone}

-- whether the call forbids a concatenation before place p
abbrev forbids_concat : ℕ → FlagCall → Bool
forbids_concat p (UnsafeToConcat s e) = leb s p && ltb p e
forbids_concat p _ = false

put-two : (mask : ℕ) → 0 < bit_at 1 (bit_or mask 2)
put-two mask = search (arith, bit_at_or mask 2 1)

-- one call, and any calls
concat-puts : (tatweel : Bool) (call : FlagCall) (gs : Glyphs) (p : ℕ) → p < length gs
    → forbids_concat p call ≡ true → 0 < bit_at 1 (get_or (flag_called true tatweel call gs) p default_glyph).mask
concat-puts tatweel (UnsafeToConcat s e) gs p h f = search (arith, in-stretch, put-two)
concat-puts tatweel _ gs p h f = absurd (false≢true f)

concats-put : (tatweel : Bool) (calls : List FlagCall) (gs : Glyphs) (p : ℕ)
    → AllByRecursion InOrder calls → p < length gs → list_any (forbids_concat p) calls ≡ true
    → 0 < bit_at 1 (get_or (flags_called true tatweel calls gs) p default_glyph).mask
concats-put tatweel [] gs p all h f = absurd (false≢true f)
concats-put tatweel (call ∷ calls) gs p all h f =
    let once = flag_called true tatweel call gs in
    let long = length-same gs once (flag_called-alone true tatweel call gs all.0).same_clusters in
    elim (or_cases (forbids_concat p call) (list_any (forbids_concat p) calls) f) [
      | inl here ↦
          let kept = AllZip-get_or KeepsBits once (flags_called true tatweel calls once) p default_glyph default_glyph
          (flags_called-alone true tatweel calls once all.1).none_lost (omega arith) in
          omega (arith, concat-puts tatweel call gs p h here, kept 1)
      | inr later ↦ concats-put tatweel calls once p all.1 (omega arith) later
    ]

-- what forbids neither forbids no border
neither-call : (call : FlagCall) (p : ℕ) → forbids p call ≡ false → forbids_concat p call ≡ false
    → forbids_border p call ≡ false
neither-call (UnsafeToConcat s e) p f c = c
neither-call _ p f c = f

neither-open : (calls : List FlagCall) (p : ℕ) → IsFree calls p → list_any (forbids_concat p) calls ≡ false
    → IsOpen calls p
neither-open [] p f c = refl
neither-open (call ∷ calls) p f c = search (
  arith,
  neither-open calls p (or_parts (forbids p call) (held_by_calls p calls) f).1
      (or_parts (forbids_concat p call) (list_any (forbids_concat p) calls) c).1,
)

-- so no such call stands at a bare border
pub bare-borders : BareLaw
bare-borders tatweel calls gs p all pos within bare =
    let new = flags_called true tatweel calls gs in
    let long = length-same gs new (flags_called-alone true tatweel calls gs all).same_clusters in
    let own = get_or-map (λ (g : Glyph). g.cluster) new p default_glyph 0 (omega arith) in
    let none = false_from_ne_true (list_any (forbids_concat p) calls) (λ f.
    let bit = concats-put tatweel calls gs p all within f in
    search (arith, list_any_at)) in
    search (neither-open, clear-places)
