-- Glyphs that only took forms and flags of joining.
use Rattle.std.proofs.Common.{◌≡◌, Option, None, Some, ℕ, zero, suc, ◌+◌, ◌<◌, List, [], ◌∷◌, ◌++◌, length, map, get_or, refl, arith}
use Rattle.std.specs.Char.{IsScalar}
use Rattle.std.specs.List.{AllByRecursion}
use Rattle.std.proofs.lemmas.List.{get_or-map, length-map}
use Rattle.shapers_buffer.specs.Buffer.{has_flag}
use Rattle.shapers_buffer.specs.GlyphFlags.{FlagCall, UnsafeToConcat, unsafe_to_concat_in}
use Rattle.shapers_buffer.specs.declared.buffer.flags.BufferFlags.{BufferFlags}
use Rattle.shapers_buffer.specs.Glyphs.{Glyph, Glyphs}
use Rattle.shapers_buffer.proofs.MappedLists.{map-hidden}
use Rattle.shapers_clusters.specs.Flags.{InOrder}
use Rattle.shapers_clusters.proofs.FlagCalls.{flags_called-append, map-flags_called}
use Rattle.shapers_clusters.proofs.ViewedFlags.{PassesFlags, flag_called-through}
use Rattle.shapers_arabic.specs.JoinedText.{AreCharacters}
use Rattle.shapers_arabic.specs.JoiningWalk.{FlaggedBy, SameText, IsWithin, unformed, unjoined}

-- flags are those of the glyphs without their forms
pub unformed-passes : PassesFlags unformed
unformed-passes = search arith

-- calls after calls
pub flagged-again : (flags : BufferFlags) (xs ys : List FlagCall) (gs hs ks : Glyphs)
    → FlaggedBy flags xs gs hs → FlaggedBy flags ys hs ks → FlaggedBy flags (xs ++ ys) gs ks
flagged-again = search (arith, flags_called-append)

-- one call, and one form written
pub flagged-concat : (flags : BufferFlags) (s e : ℕ) (gs hs : Glyphs)
    → hs ≡ unsafe_to_concat_in (has_flag 0x40 flags) s e gs → FlaggedBy flags (UnsafeToConcat s e ∷ []) gs hs
flagged-concat flags s e gs hs is =
    cc (flag_called-through unformed unformed-passes (has_flag 0x40 flags) (has_flag 0x80 flags) (UnsafeToConcat s e)
    gs)

-- what neither forms nor flags show in
hides-unformed : {Y : Type 0} (f : Glyph → Y) → ((g : Glyph) → f (unformed g) ≡ f g)
    → (gs : Glyphs) → map f gs ≡ map f (map unformed gs)
hides-unformed = search (arith, map-hidden)

pub same-text : (flags : BufferFlags) (calls : List FlagCall) (gs hs : Glyphs)
    → AllByRecursion InOrder calls → FlaggedBy flags calls gs hs → SameText gs hs
same-text = search (arith, hides-unformed, map-flags_called)

-- so the text is the same
pub map-same_text : {Y : Type 0} (f : Glyph → Y) → ((g : Glyph) → f (unjoined g) ≡ f g)
    → (gs hs : Glyphs) → SameText gs hs → map f hs ≡ map f gs
map-same_text = search (arith, map-hidden)

character-at : (gs : Glyphs) (i : ℕ) (d : Glyph) → AreCharacters gs → i < length gs
    → IsScalar (get_or gs i d).glyph_id
character-at [] i d all h = absurd (omega arith)
character-at (g ∷ gs) zero d all h = all.0
character-at (g ∷ gs) (suc i) d all h = character-at gs i d all.1 (omega arith)

pub still-character : (gs hs : Glyphs) (i : ℕ) (d : Glyph) → SameText gs hs → AreCharacters gs
    → i < length hs → IsScalar (get_or hs i d).glyph_id
still-character gs hs i d same all h =
    let within : i < length gs = search (arith, length-map) in
    search (
      arith,
      get_or-map,
      map-same_text (λ g. g.glyph_id) (λ g. refl) gs hs same,
      get_or-map (λ g. g.glyph_id) hs i d 0 h,
      character-at gs i d all within,
    )

pub within-more : (last : Option ℕ) (i : ℕ) → IsWithin last i → IsWithin last (i + 1)
within-more None i h = tt
within-more (Some k) i h = omega arith
