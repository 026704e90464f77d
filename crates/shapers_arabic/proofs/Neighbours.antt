-- Two neighbours flagged by their clusters alone.
use Rattle.std.proofs.Common.{◌≡◌, ℕ, ◌<◌, [], ◌∷◌, length, get_or, arith}
use Rattle.std.proofs.Math.ListN.{set}
use Rattle.shapers_buffer.specs.GlyphFlags.{flagged, with_bits}
use Rattle.shapers_buffer.specs.Glyphs.{Glyph, Glyphs}

pub flagged-second : (bits : ℕ) (gs : Glyphs) (d : Glyph) → length gs ≡ 2
    → (get_or gs 0 d).cluster < (get_or gs 1 d).cluster → set gs 1 (with_bits bits (get_or gs 1 d)) ≡ flagged bits gs
flagged-second bits (g ∷ h ∷ []) d e l = search arith
flagged-second bits _ d e l = absurd (omega arith)

pub flagged-first : (bits : ℕ) (gs : Glyphs) (d : Glyph) → length gs ≡ 2
    → (get_or gs 1 d).cluster < (get_or gs 0 d).cluster → set gs 0 (with_bits bits (get_or gs 0 d)) ≡ flagged bits gs
flagged-first bits (g ∷ h ∷ []) d e l = search arith
flagged-first bits _ d e l = absurd (omega arith)

pub flagged-neither : (bits : ℕ) (gs : Glyphs) (d : Glyph) → length gs ≡ 2
    → (get_or gs 0 d).cluster ≡ (get_or gs 1 d).cluster → gs ≡ flagged bits gs
flagged-neither bits (g ∷ h ∷ []) d e l = search arith
flagged-neither bits _ d e l = absurd (omega arith)
