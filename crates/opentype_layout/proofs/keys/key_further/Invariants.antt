use Rattle.std.specs.Prelude.{ℕ, ◌-◌, Bool, length}
use Rattle.opentype_layout.specs.Pattern.{seen_by}
use Rattle.opentype_layout.specs.Text.{glyph_at}
use Rattle.opentype_layout.proofs.Sights.{IsSought}
use Rattle.opentype_layout.proofs.keys.key_further.Given as goal

abbrev pub invariant-loop-glyph : goal.invariant-loop-glyph
invariant-loop-glyph l = (test : ℕ → ℕ → Bool) (k : ℕ) →
    IsSought (λ i. seen_by l.gdef l.sight test k (glyph_at l.glyphs i)) (length l.glyphs) l.from l.i

abbrev pub decreases-loop-glyph : goal.decreases-loop-glyph
decreases-loop-glyph l = length l.glyphs - l.i
