use Rattle.std.specs.Prelude.{ℕ, ◌-◌, Bool}
use Rattle.opentype_layout.specs.Pattern.{seen_by}
use Rattle.opentype_layout.specs.Text.{glyph_at}
use Rattle.opentype_layout.proofs.Sights.{IsSought}
use Rattle.opentype_layout.proofs.keys.key_further_before.Given as goal

abbrev pub invariant-loop-i : goal.invariant-loop-i
invariant-loop-i l = (test : ℕ → ℕ → Bool) (k : ℕ) →
    IsSought (λ i. seen_by l.gdef l.sight test k (glyph_at l.glyphs (l.at - 1 - i))) l.at l.from l.i
