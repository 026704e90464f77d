-- A text that is filled glyph by glyph.
use Rattle.std.proofs.Common.{◌<◌, ◌++◌, ◌∷◌, [], All, ℕ, zero, suc, subst, sym, arith}
use Rattle.std.proofs.lemmas.List.{map-append}
use Rattle.std.proofs.lemmas.List.Elements.{All-append}
use Rattle.shapers_buffer.specs.Glyphs.{Glyph, Glyphs}
use Rattle.rustybuzz_shapers.specs.Glyph.{clusters}

alone : (P : ℕ → Type 0) (x : ℕ) → P x → All P (x ∷ [])
alone P x h zero d lt = h
alone P x h (suc k) d lt = absurd (omega arith)

-- One glyph more, whose cluster is a place too.
pub one_more : (n : ℕ) (gs : Glyphs) (g : Glyph) → All (λ cluster. cluster < n) (clusters gs) → g.cluster < n →
    All (λ cluster. cluster < n) (clusters (gs ++ g ∷ []))
one_more n gs g all lt =
    subst (All (λ cluster. cluster < n)) (sym (map-append (λ (h : Glyph). h.cluster) gs (g ∷ [])))
    (All-append (λ cluster. cluster < n) (clusters gs) (g.cluster ∷ []) all (alone (λ cluster. cluster < n) g.cluster lt))
