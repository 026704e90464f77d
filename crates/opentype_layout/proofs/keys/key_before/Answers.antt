use Rattle.std.proofs.Common.{◌≡◌, refl, ap, arith, ◌-◌, ◌%◌, ◌∙◌}
use Rattle.opentype_layout.specs.Pattern.{seen_by}
use Rattle.opentype_layout.specs.Text.{glyph_at}
use Rattle.opentype_layout.proofs.Sights.{sought_miss, sought_out, sought_passed}
use Rattle.opentype_layout.proofs.keys.key_before.Goals as goal

pub returns-then-at-eq0 : goal.returns-then-at-eq0
returns-then-at-eq0 c = λ test k b. sought_out _ _ _ _ (record { rest = refl }) (omega arith)

pub returns-in-Some : goal.returns-in-Some
unfolding seen_by
returns-in-Some c =
    let here : c.at.result.now ≡ glyph_at c.args.glyphs.now (c.args.at - 1 - 0) =
    c.at.ensures.glyph ∙ ap (glyph_at c.args.glyphs.now) (omega arith) in
    λ test k b. sought_miss _ _ _ _ (record { rest = refl }) (omega arith)
    (rw here at ((rw c.in-Some.is at c.key_of-key.ensures.barred) (test k) b))

pub returns : goal.returns
unfolding seen_by
returns c =
    let here : c.at.result.now ≡ glyph_at c.args.glyphs.now (c.args.at - 1 - 0) =
    c.at.ensures.glyph ∙ ap (glyph_at c.args.glyphs.now) (omega arith) in
    λ test k b. (sought_passed (λ i. seen_by c.args.gdef.now c.args.sight.now test k
    (glyph_at c.args.glyphs.now (c.args.at - 1 - i))) c.args.at 0 0 (record { rest = refl }) (omega arith)
    (rw here at ((rw c.in_default.is at c.key_of-key.ensures.passed)
    (test k (c.at.result.now.glyph_id % 65536))))).rest ∙ c.key_further_before.ensures test k b
