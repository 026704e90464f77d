-- Glyph flags through a view that shows clusters and takes mask bits as the glyph does.
use Rattle.std.proofs.Common.{arith}
use Rattle.std.proofs.Common.{ℕ, ◌≡◌, Bool, true, false, List, [], ◌∷◌, map, refl}
use Rattle.std.proofs.lemmas.List.{map-append, take-map, drop-map}
use Rattle.shapers_buffer.specs.Glyphs.{Glyph, Glyphs}
use Rattle.shapers_buffer.specs.Glyph.{clusters}
use Rattle.shapers_buffer.specs.Clusters.{least, with_stretch}
use Rattle.shapers_buffer.specs.GlyphFlags.{with_bits, with_bits_off, flagged, unsafe_to_concat_in, FlagCall, UnsafeToConcat, flag_called, flags_called}
use Rattle.shapers_buffer.proofs.MappedLists.{map-hidden, map-seen}

-- a view that shows clusters, and through which a glyph gains mask bits as it does itself
pub record PassesFlags (view : Glyph → Glyph) : Type 0 where
  pub cluster : (g : Glyph) → (view g).cluster ≡ g.cluster
  pub put : (bits : ℕ) (g : Glyph) → view (with_bits bits g) ≡ with_bits bits (view g)

flagged-through : (view : Glyph → Glyph) → PassesFlags view → (bits : ℕ) (gs : Glyphs)
    → map view (flagged bits gs) ≡ flagged bits (map view gs)
flagged-through view passes bits gs = cc (
  map-seen view (with_bits_off bits (least (clusters gs))) (search arith) gs,
  map-hidden (λ g. g.cluster) view passes.cluster gs,
)

-- a change of one stretch that the view passes
pub stretch-through : (view : Glyph → Glyph) (s e : ℕ) (change : Glyphs → Glyphs) (gs : Glyphs)
    → ((xs : Glyphs) → map view (change xs) ≡ change (map view xs))
    → map view (with_stretch s e change gs) ≡ with_stretch s e change (map view gs)
stretch-through = search (arith, map-append, take-map, drop-map)

concat-through : (view : Glyph → Glyph) → PassesFlags view → (asked : Bool) (s e : ℕ) (gs : Glyphs)
    → map view (unsafe_to_concat_in asked s e gs) ≡ unsafe_to_concat_in asked s e (map view gs)
concat-through view passes false s e gs = refl
concat-through view passes true s e gs = stretch-through view s e (map (with_bits 2)) gs (search (arith, map-seen))

-- the flags of a list of calls
pub flag_called-through : (view : Glyph → Glyph) → PassesFlags view
    → (concat tatweel : Bool) (call : FlagCall) (gs : Glyphs)
    → map view (flag_called concat tatweel call gs) ≡ flag_called concat tatweel call (map view gs)
flag_called-through view passes concat tatweel (UnsafeToConcat s e) = search concat-through
flag_called-through view passes concat tatweel _ = search (stretch-through, flagged-through)

pub flags_called-through : (view : Glyph → Glyph) → PassesFlags view
    → (concat tatweel : Bool) (calls : List FlagCall) (gs : Glyphs)
    → map view (flags_called concat tatweel calls gs) ≡ flags_called concat tatweel calls (map view gs)
flags_called-through view passes concat tatweel [] gs = refl
flags_called-through view passes concat tatweel (call ∷ calls) gs = search (flag_called-through, flags_called-through view passes concat tatweel calls (flag_called concat tatweel call gs))
