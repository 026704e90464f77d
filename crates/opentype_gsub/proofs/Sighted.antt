-- What a lookup sees from a glyph on, by what it sees wherever it is.
use Rattle.std.proofs.Common.{ℕ, ◌≡◌, List, ap, refl}
use Rattle.shapers_buffer.specs.Glyphs.{Glyph}
use Rattle.opentype_layout.specs.Sight.{sight_of_context, sight_of_input}
use Rattle.opentype_gsub.specs.Setting.{how_of, sights_of, sights_within, syllable_from}
use Rattle.opentype_gsub.specs.declared.pass.LookupUse.{LookupUse}
use Rattle.opentype_gsub.specs.declared.pass.Sights.{Sights}
use Rattle.opentype_layout.specs.declared.sight.Sight.{Sight}

pub sighted_from : (gdef lookup : List ℕ) (use_of : LookupUse) (g : Glyph) (sights : Sights) (syllable : ℕ) →
    sights ≡ sights_within gdef use_of lookup 0 → syllable ≡ syllable_from use_of g →
    record { input = record sights.input { syllable = syllable }; context = record sights.context { syllable = syllable } }
    ≡ sights_of gdef use_of lookup g
unfolding sights_of sights_within sight_of_context sight_of_input
sighted_from gdef lookup use_of g sights syllable is from = rw (is, from) refl

pub sight_within : (gdef lookup : List ℕ) (use_of : LookupUse) (g : Glyph) (sight : Sight) (syllable : ℕ) →
    sight ≡ sight_of_input gdef lookup (how_of use_of) 0 → syllable ≡ syllable_from use_of g →
    (let it : Sight = record sight { syllable = syllable } in it) ≡ sight_of_input gdef lookup (how_of use_of) g.syllable
unfolding sight_of_input
sight_within gdef lookup use_of g sight syllable is from = rw (is, from) refl

pub input_within : (gdef lookup : List ℕ) (use_of : LookupUse) (sights : Sights) → sights ≡ sights_within gdef use_of lookup 0 →
    sights.input ≡ sight_of_input gdef lookup (how_of use_of) 0
unfolding sights_within
input_within gdef lookup use_of sights is = ap (λ (x : Sights). x.input) is
