-- Lookups that leave the halves' results side by side, and some that don't.
use Rattle.std.proofs.Common.{ℕ, ◌≡◌, [], ◌∷◌, ◌++◌, length, map, slice_index, refl, ap, arith}
use Rattle.shapers_buffer.specs.Glyphs.{Glyph, Glyphs}
use Rattle.shapers_buffer.specs.Glyph.{default_glyph}
use Rattle.shapers_break_laws.specs.ChainBreaks.{LeavesSideBySide, MadeOfHalves}
use Rattle.shapers_break_laws.specs.KeptTextBreaks.{SyllablesApart}
use Rattle.shapers_break_laws.proofs.SideBySide.{nothing_between}

-- nothing in between is a case
row_still : (gs : Glyphs) → LeavesSideBySide (λ gs. gs) gs
row_still gs = nothing_between gs

-- two glyphs that change places do so over the border of two syllables
glyph : ℕ → ℕ → Glyph
glyph c byte = record default_glyph { cluster = c; syllable = byte }

exchanged : Glyphs → Glyphs
exchanged (g ∷ (h ∷ [])) = h ∷ (g ∷ [])
exchanged gs = gs

first_cluster_of : Glyphs → ℕ
first_cluster_of gs = slice_index (map (λ (g : Glyph). g.cluster) gs) 0

not_of_halves : (before behind : Glyphs) → glyph 0 16 ∷ (glyph 1 32 ∷ []) ≡ before ++ behind
    → exchanged before ≡ glyph 1 32 ∷ [] → ⊥
unfolding exchanged first_cluster_of glyph
not_of_halves [] behind text first = absurd (omega (arith, ap length first))
not_of_halves (g ∷ []) behind text first = absurd (omega
    (arith, ap first_cluster_of text, ap first_cluster_of first))
not_of_halves (g ∷ (h ∷ [])) behind text first = absurd (omega (arith, ap length first))
not_of_halves (g ∷ (h ∷ (i ∷ gs))) behind text first = absurd (omega (arith, ap length first))

row_exchanged : LeavesSideBySide exchanged (glyph 0 16 ∷ (glyph 1 32 ∷ [])) → ⊥
unfolding exchanged glyph
row_exchanged leaves =
    let made : MadeOfHalves exchanged (glyph 0 16 ∷ (glyph 1 32 ∷ [])) (glyph 1 32 ∷ []) (glyph 0 16 ∷ []) =
    leaves.halves (glyph 1 32 ∷ []) (glyph 0 16 ∷ []) refl (λ some more same. absurd (omega (arith, same)))
    (λ i j il jl. let a : i ≡ 0 = omega (arith, il) in let b : j ≡ 0 = omega (arith, jl) in λ same. absurd (omega
    (arith, ap (λ k. slice_index (1 ∷ []) k) a, ap (λ k. slice_index (0 ∷ []) k) b, same))) in
    not_of_halves made.before made.behind made.text made.first

-- a cluster that goes on into the next syllable
row_apart : SyllablesApart (glyph 0 16 ∷ (glyph 0 32 ∷ [])) → ⊥
unfolding glyph
row_apart apart = apart (glyph 0 16 ∷ []) (glyph 0 32 ∷ []) refl
    (λ some more same. absurd (omega (arith, same))) 0 0 (omega arith) (omega arith) refl
