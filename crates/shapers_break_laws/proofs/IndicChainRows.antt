-- What a reordering makes of a text, and what becomes of one before its final reordering, written out from the rules.
use Rattle.std.proofs.Common.{ℕ, ◌+◌, ◌≡◌, List, [], ◌∷◌, map, refl}
use Rattle.std.specs.Prelude.{None}
use Rattle.shapers_buffer.specs.Glyphs.{Glyph, Glyphs}
use Rattle.shapers_buffer.specs.declared.buffer.level.BufferClusterLevel.TheVariants.{Characters, MonotoneGraphemes}
use Rattle.shapers_buffer.specs.declared.buffer.syllables.Span.{Span}
use Rattle.shapers_buffer.specs.Glyph.{default_glyph}
use Rattle.rustybuzz_shapers.specs.Pauses.{Reordering}
use Rattle.shapers_break_laws.specs.IndicChain.{before_final, carrying, reordered_text}

-- a glyph of a number, in a cluster, with a mask, and of a syllable; and what is read of it
glyph : ℕ → ℕ → ℕ → ℕ → Glyph
glyph number cluster mask byte = record default_glyph {
  glyph_id = number;
  cluster = cluster;
  mask = mask;
  syllable = byte;
}

-- cluster and glyph flags come from the second, all else from the first
row_carrying : carrying (glyph 7 0 16 33) (glyph 8 5 3 34) ≡ glyph 7 5 19 33
unfolding glyph
row_carrying = refl

-- two glyphs of a syllable merge and then change places
exchanged : Glyphs → Glyphs
exchanged (g ∷ (h ∷ [])) = h ∷ (g ∷ [])
exchanged gs = gs

exchange : Reordering
exchange = record {
  circles = None;
  order = exchanged;
  steps = λ gs. record { merged_first = (0, 2) ∷ []; places = 1 ∷ (0 ∷ []); merged_then = [] } ∷ [];
}

text : Glyphs
text = glyph 1 0 8 16 ∷ glyph 2 1 11 16 ∷ glyph 3 2 0 32 ∷ glyph 4 2 3 32 ∷ []

-- the second falls to cluster 0 and loses its flags, the last keeps them, and other bits of masks stay
row_exchanged : reordered_text exchange MonotoneGraphemes text
    ≡ glyph 2 0 8 16 ∷ glyph 1 0 8 16 ∷ glyph 4 2 3 32 ∷ glyph 3 2 0 32 ∷ []
unfolding glyph exchanged exchange text
row_exchanged = refl

-- where nothing merges each takes its own along
row_unmerged : reordered_text exchange Characters text
    ≡ glyph 2 1 11 16 ∷ glyph 1 0 8 16 ∷ glyph 4 2 3 32 ∷ glyph 3 2 0 32 ∷ []
unfolding glyph exchanged exchange text
row_unmerged = refl

row_none : reordered_text exchange MonotoneGraphemes [] ≡ []
unfolding exchanged exchange
row_none = refl

-- set up by spans, numbers 10 higher, exchanged, and one cluster higher
spans : List Span
spans = record { len = 2; kind = 1 } ∷ (record { len = 2; kind = 3 } ∷ [])

bare : Glyphs
bare = glyph 1 0 8 0 ∷ glyph 2 1 8 0 ∷ glyph 3 2 0 0 ∷ glyph 4 3 0 0 ∷ []

row_before_final : before_final (map (λ (g : Glyph). record g { glyph_id = g.glyph_id + 10 }))
    (map (λ (g : Glyph). record g { cluster = g.cluster + 1 })) exchange Characters spans bare
    ≡ glyph 12 2 11 17 ∷ glyph 11 1 8 17 ∷ glyph 14 4 3 35 ∷ glyph 13 3 0 35 ∷ []
unfolding glyph exchanged exchange spans bare
row_before_final = refl
