-- What a set-up by found spans leaves of how often a syllable has a category.
use Rattle.std.proofs.Common.{ℕ, Bool, true, false, ◌==◌, cond, refl, subst}
use Rattle.std.specs.Prelude.{map}
use Rattle.shapers_buffer.specs.GlyphFlags.{flagged, with_bits, with_bits_off}
use Rattle.shapers_buffer.specs.Glyphs.{Glyph, Glyphs}
use Rattle.shapers_buffer.specs.Syllables.{syllables}
use Rattle.shapers_syllabic.specs.Syllabic.{unsafe_syllables}
use Rattle.shapers_syllabic.proofs.CircleLaws.{joined-syllables}
use Rattle.shapers_found_laws.specs.FoundSyllables.{GainsNone, SetUpAtMostOne, in_spans}
use Rattle.shapers_found_laws.proofs.ZippedGlyphs.{each-zip, map-zip}
use Rattle.shapers_found_laws.proofs.KeptCategories.{Gains, kept-at-most-one}

-- bits of a mask are no category
bits-gain : (k bits m : ℕ) (g : Glyph) → GainsNone k g (with_bits_off bits m g)
bits-gain k bits m g = by (g.cluster == m)
  where
    by : (b : Bool) → GainsNone k g (cond b g (with_bits bits g))
    by true = record { byte = refl; gained = λ e. e }
    by false = record { byte = refl; gained = λ e. e }

pub flags-gain : (k : ℕ) (gs : Glyphs) → Gains k gs (unsafe_syllables gs)
flags-gain k gs =
    subst (λ hs. Gains k hs (unsafe_syllables gs)) (joined-syllables gs)
    (each-zip (GainsNone k) (flagged 3) (λ p. map-zip (GainsNone k) _ (λ g. bits-gain k 3 _ g) p) (syllables gs))

pub set-up-at-most-one : SetUpAtMostOne
set-up-at-most-one g k found gs spans are =
    kept-at-most-one k (in_spans gs spans) (unsafe_syllables (in_spans gs spans)) (flags-gain k (in_spans gs spans))
    (found gs spans are)
