-- Texts that aren't normalized in halves.
use Rattle.std.specs.Prelude.{◌≡◌, ℕ, [], ◌∷◌, ◌++◌, map, refl}
use Rattle.shapers_base.specs.declared.plan.record.NormalizationMode.TheVariants.{AUTO}
use Rattle.shapers_buffer.specs.Glyphs.{Glyph, Glyphs}
use Rattle.shapers_buffer.specs.declared.buffer.level.BufferClusterLevel.TheVariants.{MonotoneCharacters}
use Rattle.shapers_buffer.specs.Glyph.{clusters, default_glyph}
use Rattle.shapers_buffer.specs.Properties.{general_category}
use Rattle.shapers_normal.specs.Sorting.{class_of_mark}
use Rattle.shapers_normal.specs.Context.{Context}
use Rattle.shapers_normal.specs.Normalization.{normalized}
use Rattle.shapers_normal.specs.Properties.{as_character}
use Rattle.shapers_normal.specs.declared.ot_shape_normalize.normalizing.Rounds.TheVariants.{Always}
use Rattle.shapers_normal.proofs.RowContext.{text, with_font}

abbrev latin : Context
latin = with_font AUTO (0x65 ∷ 0xE9 ∷ 0x301 ∷ 0x323 ∷ 0x34F ∷ [])

abbrev done : Glyphs → Glyphs
done gs = normalized latin Always MonotoneCharacters gs

abbrev letter_in : ℕ → Glyph
letter_in cluster = record (as_character latin 0x65 0 default_glyph) { cluster = cluster }

-- a letter behind the cut in the cluster of the last mark before it, and in its own
abbrev accents : Glyphs
accents = text latin (0x65 ∷ 0x301 ∷ 0x323 ∷ [])

shared_whole : clusters (done (accents ++ letter_in 2 ∷ [])) ≡ 0 ∷ 0 ∷ 0 ∷ []
unfolding general_category class_of_mark
shared_whole = refl

shared_halves : clusters (done accents ++ done (letter_in 2 ∷ [])) ≡ 0 ∷ 0 ∷ 2 ∷ []
unfolding general_category class_of_mark
shared_halves = refl

own_whole : clusters (done (accents ++ letter_in 3 ∷ [])) ≡ 0 ∷ 0 ∷ 3 ∷ []
unfolding general_category class_of_mark
own_whole = refl

-- a joiner at the cut
abbrev joined : Glyphs
joined = text latin (0x65 ∷ 0x323 ∷ 0x34F ∷ [])

joiner_whole : map (λ g. g.unicode_props.0) (done (joined ++ letter_in 3 ∷ [])) ≡ 0x0005 ∷ 0xDC8C ∷ 0x00AC ∷ 0x0005 ∷ []
unfolding general_category class_of_mark
joiner_whole = refl

joiner_halves : map (λ g. g.unicode_props.0) (done joined ++ done (letter_in 3 ∷ [])) ≡ 0x0005 ∷ 0xDC8C ∷ 0x00EC
    ∷ 0x0005 ∷ []
unfolding general_category class_of_mark
joiner_halves = refl
