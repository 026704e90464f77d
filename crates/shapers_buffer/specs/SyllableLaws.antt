-- What the cutting into syllables is.
use Rattle.std.specs.Prelude.{◌≡◌, ◌∷◌, take, drop}
use Rattle.shapers_buffer.specs.Glyphs.{Glyph, Glyphs}
use Rattle.shapers_buffer.specs.Syllables.{syllables, first_syllable_len}

-- the first syllable is the longest sequence of its byte, and the others are the syllables of what
-- follows
abbrev pub BeginsWithSyllable : Glyphs → Type 0
BeginsWithSyllable gs =
    syllables gs ≡ take (first_syllable_len gs) gs ∷ syllables (drop (first_syllable_len gs) gs)

-- so for every text
abbrev pub SyllablesAreLongest : Type 0
SyllablesAreLongest = (g : Glyph) (gs : Glyphs) → BeginsWithSyllable (g ∷ gs)
