-- A rule whose input is one glyph.
use Rattle.std.proofs.Common.{ℕ, ◌≡◌, List, [], Some, refl}
use Rattle.shapers_buffer.specs.Glyphs.{Glyphs}
use Rattle.opentype_layout.specs.Ligatures.{input_in}
use Rattle.opentype_layout.specs.Pattern.{places_from}
use Rattle.opentype_layout.specs.Rules.{Sought, around, found_at}
use Rattle.opentype_layout.specs.declared.sight.Sight.{Sight}

pub one_glyph : (gdef : List ℕ) (input context : Sight) (gs : Glyphs) (at : ℕ) (rule : Sought) → rule.input_count ≡ 1 →
    around gdef context rule gs at (Some []) ≡ found_at gdef input context gs at rule
unfolding found_at input_in places_from
one_glyph gdef input context gs at rule e = rw e refl
